use Rattle.structure_parser.proofs.FileLaws.{one-reading}
use Rattle.structure_parser.proofs.laws.files_have_one_reading.Goals as goal

pub returns : goal.returns
returns c =
    one-reading c.one_reading.ensures.one c.equality_is_an_equivalence.ensures
    c.normal_values_are_unique.ensures
