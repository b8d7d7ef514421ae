use Rattle.weights.specs.NumeralLaws.{reading_value, reading_is_ok, reading_is_none, reading_is_over, one_spelling, one_value}
use Rattle.weights.proofs.numeral.read_numeral.Goals as goal

pub returns-clause-value : goal.returns-clause-value
returns-clause-value c = rw c.read_word.ensures.value (reading_value c.args.word.now)

pub returns-clause-within : goal.returns-clause-within
returns-clause-within c = rw c.read_word.ensures.value (reading_is_ok c.args.word.now)

pub returns-clause-not_a_number : goal.returns-clause-not_a_number
returns-clause-not_a_number c = rw c.read_word.ensures.value (reading_is_none c.args.word.now)

pub returns-clause-over_bound : goal.returns-clause-over_bound
returns-clause-over_bound c below_zero =
    rw c.read_word.ensures.value (reading_is_over c.args.word.now below_zero)

pub returns-clause-one_spelling : goal.returns-clause-one_spelling
returns-clause-one_spelling c = one_spelling c.args.word.now

pub returns-clause-one_value : goal.returns-clause-one_value
returns-clause-one_value c = one_value c.args.word.now
