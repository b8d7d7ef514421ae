use Rattle.functor_terms.proofs.NamesLemmas.{word_is_name, copied_more}
use Rattle.functor_terms.proofs.labels.Labels.try_copy.Goals as goal

pub add-requires-clause-name : goal.add-requires-clause-name
add-requires-clause-name c = word_is_name c.args.self.now c.are_names.ensures c.loop-i.i
    c.word.result.now c.word.ensures

pub loop-i-preserved : goal.loop-i-preserved
loop-i-preserved c =
    copied_more c.args.self.now c.loop-i.copy c.add.new.self c.loop-i.i c.word.result.now
    c.in_ok-add.field-0 c.are_names.ensures c.word.ensures c.loop-i.invariant
    c.in_ok-add.ensures.new c.in_ok-add.ensures.words
