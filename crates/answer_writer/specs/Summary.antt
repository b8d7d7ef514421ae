-- The summary of a trial.
--
-- kind_word kind      == the word of the command line that names the kind
-- class_count firsts  == how many states are the first of their block
-- summary_text kind firsts sorted edges labels
--                     == the six lines of the summary
use Rattle.std.specs.Prelude.{ℕ, ◌+◌, ◌==◌, cond, List, [], ◌∷◌, ◌++◌, codes, length}
use Rattle.std.specs.Fmt.{decimal}
use Rattle.file_cut.specs.Bytes.{space, line_feed}
use Rattle.trial_texts.specs.declared.kind.TrialKind.{TrialKind}
use Rattle.trial_texts.specs.declared.kind.TrialKind.TheVariants as kinds

-- the word of the command line that names the kind
abbrev pub kind_word : TrialKind → List ℕ
kind_word kinds.Lts = codes "lts"
kind_word kinds.Chain = codes "chain"
kind_word kinds.Sums = codes "sums"
kind_word kinds.Dfa = codes "dfa"

-- how many states, counted from a number on, are the first of their block
abbrev pub class_count_from : ℕ → List ℕ → ℕ
class_count_from i [] = 0
class_count_from i (first ∷ firsts) = cond (first == i) 1 0 + class_count_from (i + 1) firsts

-- how many states are the first of their block, and so how many blocks there are
abbrev pub class_count : List ℕ → ℕ
class_count firsts = class_count_from 0 firsts

-- a word, a space and a value
abbrev pub summary_line : List ℕ → List ℕ → List ℕ
summary_line word value = word ++ space ∷ value ++ line_feed ∷ []

-- the kind of the trial, how many states it has and how many blocks, how many sorted states and
-- edges there are, and how many labels were looked at
abbrev pub summary_text : TrialKind → List ℕ → ℕ → ℕ → ℕ → List ℕ
summary_text kind firsts sorted edges labels =
    summary_line (codes "kind") (kind_word kind)
    ++ summary_line (codes "states") (decimal (length firsts))
    ++ summary_line (codes "blocks") (decimal (class_count firsts))
    ++ summary_line (codes "sorted") (decimal sorted)
    ++ summary_line (codes "places") (decimal edges)
    ++ summary_line (codes "labels") (decimal labels)
