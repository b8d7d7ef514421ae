use Rattle.std.proofs.Common.{◌≡◌, true, sym, subst, slice_index}
use Rattle.std.specs.Prelude.{EachIndex, IfOk}
use Rattle.std.specs.List.{list_all}
use Rattle.typing.specs.Bounds.{is_bounded}
use Rattle.typing.specs.Stable.{IsFirst}
use Rattle.plain.proofs.InBounds.{all-bounded}
use Rattle.plain.proofs.rounds.classes_of.Goals as goal

pub first_equivalents-requires-clause-bounded : goal.first_equivalents-requires-clause-bounded
first_equivalents-requires-clause-bounded c =
    subst (λ vs. list_all is_bounded vs ≡ true) (sym c.as_slice.ensures.value)
    (all-bounded c.args.c.now.values.items c.args.c.now.in_bounds)

pub returns-clause-first : goal.returns-clause-first
returns-clause-first c =
    subst
    (λ vs. IfOk c.first_equivalents.result (λ firsts. EachIndex vs (λ i.
    IsFirst c.args.c.now.term vs i (slice_index firsts.items i))))
    c.as_slice.ensures.value c.first_equivalents.ensures.first
