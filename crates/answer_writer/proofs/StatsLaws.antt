-- The line of statistics is a comment.
use Rattle.std.proofs.Common.{◌≡◌, ◌<◌, ◌^◌, ℕ, true, List, [], ◌++◌, inr, refl, arith}
use Rattle.std.specs.Prelude.{codes}
use Rattle.std.specs.Char.{is_ascii_digit}
use Rattle.std.specs.Fmt.{decimal}
use Rattle.std.specs.List.{list_all}
use Rattle.std.proofs.lemmas.Bool.Decides.{nat_tests}
use Rattle.file_cut.specs.Lines.{is_no_feed}
use Rattle.formula_text.proofs.NumberLaws.{decimal_digits, list_all-weaker}
use Rattle.formula_text.proofs.ValueLaws.{all_joined}
use Rattle.answer_writer.specs.Laws.{StatsAreComments}

digit_no_feed : (b : ℕ) → is_ascii_digit b ≡ true → is_no_feed b ≡ true
digit_no_feed b e = grind (arith, nat_tests)

-- a number has no line feed
number_inside : (n : ℕ) → n < 10 ^ 64 → list_all is_no_feed (decimal n) ≡ true
number_inside n small =
    list_all-weaker is_ascii_digit is_no_feed digit_no_feed (decimal n) (decimal_digits n small)

-- a number behind a text and a word
number_behind :
    (text word : List ℕ) (n : ℕ) → list_all is_no_feed text ≡ true →
    list_all is_no_feed word ≡ true → n < 10 ^ 64 →
    list_all is_no_feed (text ++ word ++ decimal n) ≡ true
number_behind text word n before inside small =
    all_joined is_no_feed (text ++ word) (decimal n)
    (all_joined is_no_feed text word before inside) (number_inside n small)

-- what is noted
abbrev noted : ℕ → ℕ → ℕ → List ℕ
noted sorted edges labels =
    codes " sorted " ++ decimal sorted
    ++ codes " places " ++ decimal edges
    ++ codes " labels " ++ decimal labels

noted_inside :
    (sorted edges labels : ℕ) → sorted < 2 ^ 32 → edges < 2 ^ 32 → labels < 2 ^ 64 →
    list_all is_no_feed (noted sorted edges labels) ≡ true
noted_inside sorted edges labels s e l =
    number_behind (codes " sorted " ++ decimal sorted ++ codes " places " ++ decimal edges)
    (codes " labels ") labels
    (number_behind (codes " sorted " ++ decimal sorted) (codes " places ") edges
    (number_behind [] (codes " sorted ") sorted refl refl (omega arith)) refl (omega arith))
    refl (omega arith)

-- the line of statistics is a comment
pub stats_comment : StatsAreComments
stats_comment sorted edges labels s e l =
    inr (noted sorted edges labels, noted_inside sorted edges labels s e l, refl)
