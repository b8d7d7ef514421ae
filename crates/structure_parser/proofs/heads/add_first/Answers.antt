use Rattle.structure_parser.proofs.HeadLaws.{first-named}
use Rattle.structure_parser.proofs.heads.add_first.Goals as goal

pub add-requires-clause-name : goal.add-requires-clause-name
add-requires-clause-name c = first-named c.args.line.now c.in-Some.word.now c.in-Some.ensures
