-- Equality at a node, from equality at its children.
use Rattle.std.proofs.Common.{◌≡◌, ℕ, zero, suc, ◌<◌, Bool, ◌&&◌, List, [], ◌∷◌, length, map, None, slice_get, refl, sym, ap, ◌∙◌}
use Rattle.std.specs.Prelude.{ℤ, if◌then◌else◌}
use Rattle.std.specs.Ordering.{int_eq}
use Rattle.std.proofs.lemmas.List.Folds.{list_all-append}
use Rattle.std.proofs.lemmas.Option.{none-some}
use Rattle.functor_terms.specs.declared.node.Node.{Node}
use Rattle.functor_terms.specs.Terms.{Nodes, IsTerm, node_at, children_at}
use Rattle.functor_terms.proofs.Folds.{fold-at}
use Rattle.typing.specs.declared.value.Value.{Value}
use Rattle.typing.specs.Equality.{Test, no_test, test_at, eq_step, are_equal, same_totals, the_sum}
use Rattle.plain.specs.Pairs.{child_test, total_at, agree_at}
use Rattle.typing.proofs.TermFacts.{test_at-suc}

-- equality at a node is a step from its children
pub equal-at : (t : Nodes) → IsTerm t → (p : ℕ) → p < length t → (m : Node) → m ≡ node_at t p
    → (u v : Value) (r : Bool) → r ≡ eq_step m (map (are_equal t) (children_at t p)) u v
    → r ≡ are_equal t p u v
equal-at t is p h m e u v r k = k ∙ ap (λ n. eq_step n (map (are_equal t) (children_at t p)) u v) e
    ∙ sym (ap (λ (f : Test). f u v) (fold-at no_test eq_step t is p h))

-- any two values are equal at a child that is not there
pub test_none : (t : Nodes) (qs : List ℕ) (k : ℕ) → slice_get qs k ≡ None
    → test_at (map (are_equal t) qs) k ≡ no_test
test_none t [] k e = refl
test_none t (r ∷ qs) zero e = absurd (none-some r (sym e))
test_none t (r ∷ qs) (suc k) e = test_at-suc (are_equal t r) (map (are_equal t) qs) k
    ∙ test_none t qs k e

-- the elements of both lists are those of one and those of the other
pub both_agree : (t : Nodes) (p : ℕ) (us vs : List (Value × ℤ))
    → (agree_at t p us vs us && agree_at t p us vs vs) ≡ same_totals the_sum (child_test t p 0) us
    vs
both_agree t p us vs =
    sym (list_all-append (λ e. int_eq (total_at t p us e.0) (total_at t p vs e.0)) us vs)
