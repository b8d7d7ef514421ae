use Rattle.std.proofs.Common.{◌≡◌, ◌-◌, length}
use Rattle.functor_terms.specs.Terms.{label_limit}
use Rattle.functor_terms.specs.Signs.{is_comma}
use Rattle.functor_terms.specs.Reading.{word_at, is_new_name, items_from, words_at}
use Rattle.functor_terms.proofs.label_reading.words.Given as goal

-- the words so far and those that are left are all
abbrev pub invariant-words : goal.invariant-words
invariant-words l =
    items_from word_at is_comma is_new_name (label_limit - length l.words) l.words l.left
    ≡ words_at l.fn.ahead

abbrev pub decreases-words : goal.decreases-words
decreases-words l = label_limit - length l.words
