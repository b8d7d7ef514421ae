-- What a node asks of sums, by what its children ask.
use Rattle.std.proofs.Common.{◌≡◌, ℕ, zero, suc, ◌<◌, Bool, true, ◌&&◌, List, [], ◌∷◌, length, map, Some, None, slice_get, refl, sym, ap, ◌∙◌}
use Rattle.std.specs.Prelude.{ℤ, pos, if◌then◌else◌}
use Rattle.std.specs.Ordering.{int_eq}
use Rattle.std.proofs.lemmas.Option.{none-some, same_Some}
use Rattle.functor_terms.specs.declared.node.Node.{Node}
use Rattle.functor_terms.specs.declared.node.Node.TheVariants.{Distribution}
use Rattle.functor_terms.specs.Terms.{Nodes, IsTerm, node_at, children_at}
use Rattle.functor_terms.proofs.Folds.{fold-at}
use Rattle.typing.specs.declared.value.Value.{Value}
use Rattle.typing.specs.Values.{entries}
use Rattle.typing.specs.Bounds.{are_any, joint_weight, entries_hold, sums_step, any_weights, sums_hold}
use Rattle.typing.specs.Fits.{Check, no_check, check_at}
use Rattle.typing.proofs.TermFacts.{check_at-suc}

module _ (g : ℕ → Check) where
  -- what the k-th of some nodes asks
  pub check_found :
      (qs : List ℕ) (k q : ℕ) → slice_get qs k ≡ Some q → check_at (map g qs) k ≡ g q
  check_found [] k q e = absurd (none-some q e)
  check_found (r ∷ qs) zero q e = ap g (same_Some r q e)
  check_found (r ∷ qs) (suc k) q e = check_at-suc (g r) (map g qs) k ∙ check_found qs k q e

  -- no child, no check
  pub check_none : (qs : List ℕ) (k : ℕ) → slice_get qs k ≡ None → check_at (map g qs) k ≡ no_check
  check_none [] k e = refl
  check_none (r ∷ qs) zero e = absurd (none-some r (sym e))
  check_none (r ∷ qs) (suc k) e = check_at-suc (g r) (map g qs) k ∙ check_none qs k e

-- a node asks what its step asks
pub sums-at :
    (l : ℕ) (t : Nodes) → IsTerm t → (p : ℕ) → p < length t → (m : Node) → m ≡ node_at t p
    → (v : Value) (r : Bool)
    → r ≡ sums_step are_any l m (map (sums_hold are_any l t) (children_at t p)) v
    → r ≡ sums_hold are_any l t p v
sums-at l t is p h m e v r k =
    k ∙ ap (λ n. sums_step are_any l n (map (sums_hold are_any l t) (children_at t p)) v) e
    ∙ sym (ap (λ (f : Check). f v) (fold-at any_weights (sums_step are_any l) t is p h))

-- a distribution asks for its sum, and for those in its values
pub distribution-asks :
    (l : ℕ) (fs : List Check) (m : Node) → m ≡ Distribution → (v : Value)
    → (es ws : List (Value × ℤ)) → es ≡ entries v → ws ≡ entries v
    → (b r : Bool) → b ≡ int_eq (joint_weight Distribution es) (pos l) → b ≡ true
    → r ≡ entries_hold (check_at fs 0) ws → r ≡ sums_step are_any l m fs v
distribution-asks l fs m is v es ws here there b r sums holds rest =
    let sum : int_eq (joint_weight Distribution (entries v)) (pos l) ≡ true =
    ap (λ us. int_eq (joint_weight Distribution us) (pos l)) (sym here) ∙ sym sums ∙ holds in
    rest ∙ ap (entries_hold (check_at fs 0)) there
    ∙ sym (ap (λ o. o && entries_hold (check_at fs 0) (entries v)) sum)
    ∙ ap (λ n. sums_step are_any l n fs v) (sym is)
