-- The first equivalent states are blocks.
use Rattle.std.proofs.Common.{ℕ, ◌<◌, subst, List, sym}
use Rattle.std.specs.Prelude.{slice_index, EachIndex}
use Rattle.typing.specs.Contents.{Content}
use Rattle.typing.specs.Stable.{IsStable, IsFirst, Refines}
use Rattle.copar_run.specs.Blocks.{AreBlocks}

-- a stable list that every stable list refines, and whose numbers are first equivalent states
pub are_blocks : (c : Content) (firsts : List ℕ) → IsStable c.term c.values firsts
    → ((s : List ℕ) → IsStable c.term c.values s → Refines s firsts)
    → EachIndex c.values (λ i. IsFirst c.term c.values i (slice_index firsts i))
    → AreBlocks c firsts
are_blocks c firsts stable coarsest first = record {
  covers = stable.covers;
  first = first;
  alike = λ i j hi hj. (
    λ same. (hi, hj, firsts, stable, same),
    λ e. coarsest e.2 e.3 i j (subst (λ n. i < n) (sym stable.covers) hi)
        (subst (λ n. j < n) (sym stable.covers) hj) e.4,
  );
}
