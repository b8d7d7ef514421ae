-- Facts on lists of numbers by place, and on the marks that a layout gives.
use Rattle.std.proofs.Common.{◌≡◌, ◌+◌, ◌<◌, ◌==◌, ltb, ℕ, zero, suc, false, cond, List, [], ◌∷◌, length, get_or, set, replicate, refl, sym, ap, subst, inl, inr, arith, get_or-set_other, get_or-set_same}
use Rattle.std.proofs.lemmas.Bool.{eq-eqb, ne_eqb, cases_eq, le-ltb}
use Rattle.refinable_partition.specs.Layout.{marks_in}

-- a list with one element written, read at any place
pub at_set : {X : Type 0} (xs : List X) (i k : ℕ) (v d : X) → i < length xs →
    get_or (set xs i v) k d ≡ cond (k == i) v (get_or xs k d)
at_set xs i k v d h = elim (cases_eq k i) [
  | inl same ↦
      subst (λ n. get_or (set xs i v) n d ≡ cond (n == i) v (get_or xs n d)) (sym same)
      (rw (eq-eqb i i refl) (get_or-set_same xs i v d h))
  | inr other ↦ rw (ne_eqb k i other) (get_or-set_other xs i k v d other)
]

-- a mark for each state
pub length-marks_in : (block place first marks : List ℕ) → length place ≡ length block →
    length (marks_in block place first marks) ≡ length block
length-marks_in [] place first marks e = refl
length-marks_in (b ∷ bs) [] first marks e = absurd (omega arith)
length-marks_in (b ∷ bs) (i ∷ is) first marks e =
    ap suc (length-marks_in bs is first marks (omega arith))

-- the mark of a state, from its place
pub at_marks_in : (block place first marks : List ℕ) (x : ℕ) → x < length block →
    length place ≡ length block →
    get_or (marks_in block place first marks) x false
    ≡ ltb (get_or place x 0) (get_or first (get_or block x 0) 0 + get_or marks (get_or block x 0) 0)
at_marks_in [] place first marks x h e = absurd (omega arith)
at_marks_in (b ∷ bs) [] first marks x h e = absurd (omega arith)
at_marks_in (b ∷ bs) (i ∷ is) first marks zero h e = refl
at_marks_in (b ∷ bs) (i ∷ is) first marks (suc x) h e =
    at_marks_in bs is first marks x (omega arith) (omega arith)

zeros : (n k : ℕ) → ◌≡◌ {A = ℕ} (get_or (replicate n 0) k 0) 0
zeros zero k = refl
zeros (suc n) zero = refl
zeros (suc n) (suc k) = zeros n k

-- where no block has a marked place, no state is marked
pub none_marked_at : (n m : ℕ) (block place : List ℕ) (x : ℕ) →
    get_or (marks_in block place (replicate n 0) (replicate m 0)) x false ≡ false
none_marked_at n m [] place x = refl
none_marked_at n m (b ∷ bs) [] x = refl
none_marked_at n m (b ∷ bs) (i ∷ is) zero = rw (zeros n b, zeros m b) (le-ltb i 0 (omega arith))
none_marked_at n m (b ∷ bs) (i ∷ is) (suc x) = none_marked_at n m bs is x
