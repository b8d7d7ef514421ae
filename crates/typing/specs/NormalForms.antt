-- Normal forms of values whose states are relabelled, and what sorting and joining make of lists.
--
-- is_ready n x v               == v passes the check, its states are below n, and it is in bounds
-- IsRelabelledAt t b p v r     == r is the normal form at node p of v, its states relabelled by b
-- IsSetOf c us rs              == rs has the elements of us in order, each once
-- IsTotalOf c plus us rs       == rs has the elements of us in order, each once with its total, and
--                                 none with 0
use Rattle.std.specs.Prelude.{◌≡◌, ℕ, ℤ, pos, Bool, true, false, not, cond, ◌&&◌, nat_lt, List, [], ◌∷◌, map, IsTrue}
use Rattle.std.specs.declared.cmp.Ordering.TheVariants.{Equal}
use Rattle.std.specs.Ordering.{eq_by_cmp, int_eq}
use Rattle.std.specs.List.{list_all, list_any}
use Rattle.functor_terms.specs.Terms.{Nodes, children_at}
use Rattle.typing.specs.declared.value.Value.{Value}
use Rattle.typing.specs.Values.{relabelled, states_below}
use Rattle.typing.specs.Equality.{Test, test_at, are_equal, total}
use Rattle.typing.specs.Bounds.{is_bounded}
use Rattle.typing.specs.Fits.{Check, check_at, fits}
use Rattle.typing.specs.Order.{Compare, Form, form_at, form, ascends}

-- a value that may be relabelled: it passes the check, its states are below n, and it is in bounds
abbrev pub is_ready : ℕ → Check → Check
is_ready n x v = x v && (states_below n v && is_bounded v)

-- one part for each place, which may be relabelled there
abbrev pub each_ready : ℕ → List Check → List Value → Bool
each_ready n [] [] = true
each_ready n [] (v ∷ vs) = false
each_ready n (x ∷ xs) [] = false
each_ready n (x ∷ xs) (v ∷ vs) = is_ready n x v && each_ready n xs vs

-- r is the normal form of v with its states relabelled by b
pub record IsRelabelled (x : Check) (f : Form) (e : Test) (b : List ℕ) (v r : Value) : Type 0 where
  pub fitting : IsTrue (x r)
  pub normal : IsTrue (f.is_normal r)
  pub equal : IsTrue (e r (relabelled b v))
  pub in_range : (m : ℕ) → IsTrue (list_all (λ i. nat_lt i m) b) → IsTrue (states_below m r)

-- the same at node p of a term
abbrev pub IsRelabelledAt : Nodes → List ℕ → ℕ → Value → Value → Type 0
IsRelabelledAt t b p = IsRelabelled (fits t p) (form t p) (are_equal t p) b

-- the check at the k-th child of node p
abbrev pub child_check : Nodes → ℕ → ℕ → Check
child_check t p = check_at (map (fits t) (children_at t p))

-- the order and the normal values at the k-th child of node p
abbrev pub child_form : Nodes → ℕ → ℕ → Form
child_form t p = form_at (map (form t) (children_at t p))

-- equality at the k-th child of node p
abbrev pub child_test : Nodes → ℕ → ℕ → Test
child_test t p = test_at (map (are_equal t) (children_at t p))

-- the same at the k-th child of node p
abbrev pub IsRelabelledChild : Nodes → List ℕ → ℕ → ℕ → Value → Value → Type 0
IsRelabelledChild t b p k =
    IsRelabelled (child_check t p k) (child_form t p k) (child_test t p k) b

-- the same of an entry at the first child, which keeps its weight
abbrev pub IsRelabelledEntry : Nodes → List ℕ → ℕ → Value × ℤ → Value × ℤ → Type 0
IsRelabelledEntry t b p v r = IsRelabelledChild t b p 0 v.0 r.0 × (r.1 ≡ v.1)

-- good values that tie are one value
pub record TiesAreOne (c : Compare) (good : Value → Bool) : Type 0 where
  pub one : (x y : Value) → IsTrue (good x) → IsTrue (good y) → c x y ≡ Equal → x ≡ y

-- rs has the elements of us in order, each once
pub record IsSetOf (c : Compare) (us rs : List Value) : Type 0 where
  pub ascending : IsTrue (ascends c rs)
  pub taken : (p : Value → Bool) → IsTrue (list_all p us) → IsTrue (list_all p rs)
  pub members :
      (good : Value → Bool) → TiesAreOne c good → IsTrue (list_all good us) →
      (p : Value → Bool) → list_any p rs ≡ list_any p us

-- rs has the elements of us in order, each once with its total, and none with 0
pub record IsTotalOf (c : Compare) (plus : ℤ → ℤ → ℤ) (us rs : List (Value × ℤ)) : Type 0 where
  pub ascending : IsTrue (ascends c (map (λ w. w.0) rs))
  pub nonzero : IsTrue (list_all (λ w. not (int_eq w.1 (pos 0))) rs)
  pub taken :
      (p : Value → Bool) →
      IsTrue (list_all p (map (λ w. w.0) us)) → IsTrue (list_all p (map (λ w. w.0) rs))
  pub totals :
      (good : Value → Bool) → TiesAreOne c good → IsTrue (list_all good (map (λ w. w.0) us)) →
      (e : Test) (a : Value) → total plus e rs a ≡ total plus e us a

-- entries joined with those that tie and stand directly after them
abbrev pub joined_from : Compare → (ℤ → ℤ → ℤ) → Value × ℤ → List (Value × ℤ) → List (Value × ℤ)
joined_from c plus k [] = k ∷ []
joined_from c plus k (w ∷ ws) =
    cond (eq_by_cmp c w.0 k.0)
    (joined_from c plus (k.0, plus k.1 w.1) ws) (k ∷ joined_from c plus w ws)

-- the same of a whole list
abbrev pub joined : Compare → (ℤ → ℤ → ℤ) → List (Value × ℤ) → List (Value × ℤ)
joined c plus [] = []
joined c plus (w ∷ ws) = joined_from c plus w ws
