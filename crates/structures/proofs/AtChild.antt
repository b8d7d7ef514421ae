-- Values at the k-th of some nodes: all of them where there is such a node, and else none.
use Rattle.std.proofs.Common.{◌≡◌, ℕ, zero, suc, ◌-◌, ◌<◌, ◌≤◌, List, [], ◌∷◌, length, map, Contains, refl, sym, ap, ◌∙◌, arith}
use Rattle.std.specs.Prelude.{slice_index, if◌then◌else◌}
use Rattle.std.proofs.lemmas.List.{length-map}
use Rattle.typing.specs.declared.value.Value.{Value}
use Rattle.typing.specs.Layers.{Place, at_child}
use Rattle.typing.proofs.TermFacts.{not_zero}
use Rattle.functor_terms.proofs.Folds.{first_in, rest_in}

-- the values at one node
abbrev pub at_node : ℕ → List Value → List Place
at_node q us = map (λ u. (q, u)) us

pub at_child-next :
    (q : ℕ) (qs : List ℕ) (k : ℕ) (us : List Value) →
    at_child (q ∷ qs) (suc k) us ≡ at_child qs k us
at_child-next q qs k us =
    let one : suc k - 1 ≡ k = omega arith in
    ap (λ o. if o then map (λ u. (q, u)) us else at_child qs (suc k - 1) us) (not_zero k)
    ∙ ap (λ n. at_child qs n us) one

-- what stands at a child stands at the child's node
pub at_child-within :
    (qs : List ℕ) (k : ℕ) (us : List Value) → k < length qs →
    at_child qs k us ≡ at_node (slice_index qs k) us
at_child-within [] k us h = absurd (omega arith)
at_child-within (q ∷ qs) zero us h = refl
at_child-within (q ∷ qs) (suc k) us h =
    at_child-next q qs k us ∙ at_child-within qs k us (omega arith)

-- past the last child nothing stands
pub at_child-past :
    (qs : List ℕ) (k : ℕ) (us : List Value) → length qs ≤ k → at_child qs k us ≡ []
at_child-past [] k us h = refl
at_child-past (q ∷ qs) zero us h = absurd (omega arith)
at_child-past (q ∷ qs) (suc k) us h =
    at_child-next q qs k us ∙ at_child-past qs k us (omega arith)

-- a child by its number is a child
pub picked_in : (qs : List ℕ) (k : ℕ) → k < length qs → Contains qs (slice_index qs k)
picked_in [] k h = absurd (omega arith)
picked_in (q ∷ qs) zero h = first_in q qs
picked_in (q ∷ qs) (suc k) h = rest_in q qs (slice_index qs k) (picked_in qs k (omega arith))

-- as many values stand at a child as there are
pub count_within :
    (qs : List ℕ) (k : ℕ) (us : List Value) → k < length qs →
    length us ≡ length (at_child qs k us)
count_within qs k us h =
    let one : length (at_node (slice_index qs k) us) ≡ length us =
    length-map us (λ u. (slice_index qs k, u)) in
    sym one ∙ sym (ap length (at_child-within qs k us h))
