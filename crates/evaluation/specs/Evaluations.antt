-- What an evaluator of formulas, and a table of truths, are to their callers.
--
-- Evaluation                 == a coalgebra, formulas, and the number of the one to evaluate next
-- IsTableOf content dag rows == the rows have the truth of each formula at each state
use Rattle.std.specs.Prelude.{◌≡◌, ℕ, ◌<◌, Bool, List, length}
use Rattle.typing.specs.Contents.{Content}
use Rattle.formulas.specs.declared.formula.Formula.{Formula}
use Rattle.satisfaction.specs.Satisfaction.{holds_at}
use Rattle.evaluation.specs.Truths.{truth_in}

-- a coalgebra, a list of formulas, and the number of the formula that is evaluated next
pub record Evaluation : Type 0 where
  pub content : Content
  pub dag : List Formula
  pub next : ℕ

-- there is a row for each formula, and it has the formula's truth at each state
pub record IsTableOf (content : Content) (dag : List Formula) (rows : List (List Bool)) : Type 0
  where
    pub one_each : length rows ≡ length dag
    pub truths :
        (f x : ℕ) → f < length dag → x < length content.values →
        truth_in rows f x ≡ holds_at content dag f x
