use Rattle.std.proofs.Common.{take}
use Rattle.std.specs.List.{AllZip}
use Rattle.typing.specs.NormalForms.{IsRelabelledAt}
use Rattle.answer_checker.proofs.likeness.normal_forms.Given as goal

-- the forms of the structures so far
abbrev pub invariant-loop-value : goal.invariant-loop-value
invariant-loop-value l =
    AllZip (IsRelabelledAt l.c.term l.numbers 0) (take l.value-index l.value-items) l.forms.items
