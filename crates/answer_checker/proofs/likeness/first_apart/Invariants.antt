use Rattle.std.proofs.Common.{ℕ, List}
use Rattle.std.specs.List.{AllZip}
use Rattle.typing.specs.declared.value.Value.{Value}
use Rattle.typing.specs.NormalForms.{IsRelabelledAt}
use Rattle.answer_checker.specs.Rules.{AreLikeBefore}
use Rattle.answer_checker.specs.Steps.{AreFirstsOf}
use Rattle.answer_checker.proofs.likeness.first_apart.Given as goal

-- the states so far are like the firsts of their blocks
abbrev pub invariant-loop-y : goal.invariant-loop-y
invariant-loop-y l =
    (values : List Value) (numbers : List ℕ) →
    AllZip (IsRelabelledAt l.term numbers 0) values l.forms → AreFirstsOf numbers l.firsts →
    AreLikeBefore l.term values numbers l.y
