-- What a term says of the children of a node.
use Rattle.std.proofs.Common.{◌≡◌, ℕ, zero, suc, ◌<◌, ◌-◌, Bool, true, false, ◌&&◌, List, [], ◌∷◌, length, map, Some, None, Contains, slice_get, refl, sym, ap, ◌∙◌, subst, arith, true≢false}
use Rattle.std.specs.Prelude.{nat_lt, ◌==◌, if◌then◌else◌}
use Rattle.std.specs.List.{list_all}
use Rattle.std.proofs.lemmas.Bool.{and_parts, and_from, ltb-true, lt-ltb}
use Rattle.std.proofs.lemmas.Bool.Decides.{nat_tests}
use Rattle.std.specs.declared.cmp.Ordering.{Ordering}
use Rattle.std.proofs.lemmas.Option.{none-some, same_Some}
use Rattle.functor_terms.specs.declared.node.Node.{Node}
use Rattle.functor_terms.specs.Terms.{Nodes, IsTerm, node_at, children_at}
use Rattle.functor_terms.proofs.Folds.{fold-at}
use Rattle.functor_terms.proofs.TermLaws.{term-later}
use Rattle.typing.specs.declared.value.Value.{Value}
use Rattle.typing.specs.Equality.{Test, test_at, are_equal}
use Rattle.typing.specs.Fits.{Check, check_at, fits}
use Rattle.typing.specs.Order.{Form, no_form, form_at, form_step, form, cmp_step, compare}

-- nodes after p and below n
abbrev pub are_later : ℕ → ℕ → List ℕ → Bool
are_later n p qs = list_all (λ q. nat_lt p q && nat_lt q n) qs

all_contained : {X : Type 0} (test : X → Bool) (xs : List X)
    → ((x : X) → Contains xs x → test x ≡ true) → list_all test xs ≡ true
all_contained test [] h = refl
all_contained test (x ∷ xs) h =
    and_from (test x) (list_all test xs) (h x (0, omega arith, refl))
    (all_contained test xs (λ y c. let (k, below, same) = c in
    h y (suc k, omega (arith, below), same)))

-- the children of a node stand behind it
pub children_later : (t : Nodes) → IsTerm t → (p : ℕ)
    → are_later (length t) p (children_at t p) ≡ true
children_later t is p =
    all_contained (λ q. nat_lt p q && nat_lt q (length t)) (children_at t p)
    (λ q c. let w = term-later t is p q c in and_from (nat_lt p q) (nat_lt q (length t))
    (lt-ltb p q w.0) (lt-ltb q (length t) w.1))

-- the first of what stands later stands later
pub later_first : (n p q : ℕ) (qs : List ℕ) → are_later n p (q ∷ qs) ≡ true → (p < q) × (q < n)
later_first n p q qs h = let w = and_parts (nat_lt p q) (nat_lt q n)
    (and_parts (nat_lt p q && nat_lt q n) (are_later n p qs) h).0 in
    (ltb-true p q w.0, ltb-true q n w.1)

-- the others of what stands later stand later
pub later_rest : (n p q : ℕ) (qs : List ℕ) → are_later n p (q ∷ qs) ≡ true → are_later n p qs ≡ true
later_rest n p q qs h = (and_parts (nat_lt p q && nat_lt q n) (are_later n p qs) h).1

pub later_at : (n p : ℕ) (qs : List ℕ) (k q : ℕ) → are_later n p qs ≡ true → slice_get qs k ≡ Some q
    → (p < q) × (q < n)
later_at n p [] k q h e = absurd (none-some q e)
later_at n p (r ∷ qs) zero q h e = subst (λ x. (p < x) × (x < n)) (same_Some r q e)
    (later_first n p r qs h)
later_at n p (r ∷ qs) (suc k) q h e = later_at n p qs k q (later_rest n p r qs h) e

-- the k-th child stands after its node
pub child_later : (t : Nodes) → IsTerm t → (p k q : ℕ) → slice_get (children_at t p) k ≡ Some q
    → (p < q) × (q < length t)
child_later t is p k q e = later_at (length t) p (children_at t p) k q (children_later t is p) e

-- no successor is zero
pub not_zero : (k : ℕ) → (suc k == 0) ≡ false
not_zero k = grind (arith, nat_tests)

form_at-suc : (f : Form) (fs : List Form) (k : ℕ) → form_at (f ∷ fs) (suc k) ≡ form_at fs k
form_at-suc f fs k = ap (λ b. if b then f else form_at fs (suc k - 1)) (not_zero k)
    ∙ ap (form_at fs) (let e : suc k - 1 ≡ k = omega arith in e)

-- what is known at the k-th of some nodes
pub form_found : (t : Nodes) (qs : List ℕ) (k q : ℕ) → slice_get qs k ≡ Some q
    → form_at (map (form t) qs) k ≡ form t q
form_found t [] k q e = absurd (none-some q e)
form_found t (r ∷ qs) zero q e = ap (form t) (same_Some r q e)
form_found t (r ∷ qs) (suc k) q e = form_at-suc (form t r) (map (form t) qs) k
    ∙ form_found t qs k q e

-- no child, no form
pub form_none : (t : Nodes) (qs : List ℕ) (k : ℕ) → slice_get qs k ≡ None
    → form_at (map (form t) qs) k ≡ no_form
form_none t [] k e = refl
form_none t (r ∷ qs) zero e = absurd (none-some r (sym e))
form_none t (r ∷ qs) (suc k) e = form_at-suc (form t r) (map (form t) qs) k ∙ form_none t qs k e

-- behind the first child the others follow
pub check_at-suc : (f : Check) (fs : List Check) (k : ℕ) → check_at (f ∷ fs) (suc k) ≡ check_at fs k
check_at-suc f fs k = ap (λ b. if b then f else check_at fs (suc k - 1)) (not_zero k)
    ∙ ap (check_at fs) (let e : suc k - 1 ≡ k = omega arith in e)

-- the check of the k-th child is that of its node
pub check_found : (t : Nodes) (qs : List ℕ) (k q : ℕ) → slice_get qs k ≡ Some q
    → check_at (map (fits t) qs) k ≡ fits t q
check_found t [] k q e = absurd (none-some q e)
check_found t (r ∷ qs) zero q e = ap (fits t) (same_Some r q e)
check_found t (r ∷ qs) (suc k) q e = check_at-suc (fits t r) (map (fits t) qs) k
    ∙ check_found t qs k q e

-- behind the first child the others follow
pub test_at-suc : (f : Test) (fs : List Test) (k : ℕ) → test_at (f ∷ fs) (suc k) ≡ test_at fs k
test_at-suc f fs k = ap (λ b. if b then f else test_at fs (suc k - 1)) (not_zero k)
    ∙ ap (test_at fs) (let e : suc k - 1 ≡ k = omega arith in e)

-- the test of the k-th child is that of its node
pub test_found : (t : Nodes) (qs : List ℕ) (k q : ℕ) → slice_get qs k ≡ Some q
    → test_at (map (are_equal t) qs) k ≡ are_equal t q
test_found t [] k q e = absurd (none-some q e)
test_found t (r ∷ qs) zero q e = ap (are_equal t) (same_Some r q e)
test_found t (r ∷ qs) (suc k) q e = test_at-suc (are_equal t r) (map (are_equal t) qs) k
    ∙ test_found t qs k q e

-- there is a k-th child where a value passes its check
pub child_exists : (t : Nodes) (qs : List ℕ) (k : ℕ) (v : Value)
    → check_at (map (fits t) qs) k v ≡ true → k < length qs
child_exists t [] k v h = absurd (true≢false (sym h))
child_exists t (q ∷ qs) zero v h = omega arith
child_exists t (q ∷ qs) (suc k) v h = omega (
  arith,
  child_exists t qs k v
      (sym (ap (λ (c : Check). c v) (check_at-suc (fits t q) (map (fits t) qs) k)) ∙ h),
)

-- the comparison at a node is a step from its children
pub compare-at : (t : Nodes) → IsTerm t → (p : ℕ) → p < length t → (m : Node) → m ≡ node_at t p
    → (u v : Value) (r : Ordering) → r ≡ cmp_step m (map (form t) (children_at t p)) u v
    → r ≡ compare t p u v
compare-at t is p h m e u v r k = k ∙ ap (λ n. cmp_step n (map (form t) (children_at t p)) u v) e
    ∙ sym (ap (λ (f : Form). f.compare u v) (fold-at no_form form_step t is p h))
