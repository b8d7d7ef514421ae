-- The first places of the refiner's last blocks are the classes of equivalent states.
use Rattle.std.proofs.Common.{◌≡◌, ℕ, ◌<◌, true, List, length, subst}
use Rattle.std.specs.Prelude.{slice_index}
use Rattle.std.specs.List.{list_all}
use Rattle.functor_terms.specs.Terms.{Nodes, IsTerm}
use Rattle.typing.specs.declared.value.Value.{Value}
use Rattle.typing.specs.Contents.{Content}
use Rattle.typing.specs.Stable.{IsStable, IsFirst, Refines}
use Rattle.typing.specs.Values.{states_below}
use Rattle.refiner.specs.Recorded.{Answer}
use Rattle.desorting.specs.declared.system.System.{System}
use Rattle.desorting.specs.Desorted.{IsDesorted}
use Rattle.desorting.specs.Laws.{SystemToCoalgebra, GreatestIsEquivalence}
use Rattle.classes.specs.Firsts.{AreFirstPlaces}
use Rattle.classes.specs.Refined.{IsRefined}
use Rattle.classes.proofs.Composed.{firsts_stable, firsts_coarsest, firsts_first}
use Rattle.classes.proofs.Counting.{great}

-- each state has the first state that is equivalent to it
pub record AreClasses (t : Nodes) (values : List Value) (firsts : List ℕ) : Type 0 where
  pub stable : IsStable t values firsts
  pub coarsest : (b : List ℕ) → IsStable t values b → Refines b firsts
  pub first : (i : ℕ) → i < length values → IsFirst t values i (slice_index firsts i)

pub classes :
    GreatestIsEquivalence → SystemToCoalgebra → (c : Content) (s : System) →
    IsDesorted c.term c.values c.denominator s → IsTerm c.term →
    list_all (states_below (length c.values)) c.values ≡ true →
    (r : Answer) → IsRefined s r → (labels : List ℕ) (n : ℕ) (firsts : List ℕ) →
    labels ≡ r.block_of → n ≡ length c.values → AreFirstPlaces labels n firsts →
    AreClasses c.term c.values firsts
classes equivalence to_coalgebra c s desorted is_term within r refined labels n firsts same many are
    =
    let blocks = great c s desorted r refined in
    let places : AreFirstPlaces r.block_of (length c.values) firsts =
    subst (λ k. AreFirstPlaces r.block_of k firsts) many
    (subst (λ ls. AreFirstPlaces ls n firsts) same are) in
    record {
      stable =
          firsts_stable equivalence to_coalgebra c.term c.values desorted.occurrences is_term
          desorted.sorting r.block_of blocks within firsts places;
      coarsest =
          firsts_coarsest equivalence to_coalgebra c.term c.values desorted.occurrences is_term
          desorted.sorting r.block_of blocks within firsts places;
      first =
          firsts_first equivalence to_coalgebra c.term c.values desorted.occurrences is_term
          desorted.sorting r.block_of blocks within firsts places;
    }
