-- No structure is merged into another, so there are as many as sorted states.
use Rattle.std.proofs.Common.{◌≡◌, ℕ, zero, suc, ◌+◌, List, length, map, refl, sym}
use Rattle.functor_terms.specs.Terms.{Nodes}
use Rattle.typing.specs.declared.value.Value.{Value}
use Rattle.typing.specs.Layers.{Place, children_of, leaves_of, layers_in, roots_of, added, over_within, structure_count, sorted_count}
use Rattle.structures.proofs.Leaves.{leaves-children}

-- what is folded by leaves is folded by children
same_over :
    {A : Type 0} (other : A) (step : Place → List A → A) (t : Nodes) (n : ℕ) (x : Place) →
    over_within other step (leaves_of t) t n x ≡ over_within other step (children_of t) t n x
same_over other step t zero x = refl
same_over other step t (suc n) x =
    λ i. step x (map (λ y. same_over other step t n y i) (layers_in t (leaves-children t x i)))

-- structures are as many as the sorted states
pub same_count :
    (t : Nodes) (values : List Value) → structure_count t values ≡ sorted_count t values
same_count t values =
    sym (λ i. added (map (λ y. same_over 0 (λ z counts. 1 + added counts) t (length t) y i)
    (roots_of values)))
