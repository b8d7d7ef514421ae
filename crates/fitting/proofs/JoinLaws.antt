-- The common denominator that is computed is the least common multiple, where it is within the
-- limit.
use Rattle.std.proofs.Common.{◌≡◌, ◌↔◌, ℕ, zero, suc, ◌+◌, ◌*◌, ◌/◌, ◌<◌, ◌≤◌, Bool, true, false, ◌&&◌, List, [], ◌∷◌, ◌++◌, length, map, drop, get_or, drop_of_length-le, Option, Some, None, refl, sym, ap, ◌∙◌, subst, true≢false, arith}
use Rattle.std.specs.Prelude.{nat_le, if◌then◌else◌, option_and_then, IfSome, IsSome, unsigned_abs}
use Rattle.std.specs.Int.{◌∣◌}
use Rattle.std.specs.List.{AllByRecursion, list_all, flat_map}
use Rattle.std.proofs.lemmas.Bool.{and_parts, and_from, leb-true, le-leb, leb-false}
use Rattle.std.proofs.lemmas.List.{drop_more}
use Rattle.std.proofs.lemmas.Nat.{le-div}
use Rattle.std.proofs.lemmas.Nat.Gcd.{le_of_dvd, dvd_trans, dvd_refl}
use Rattle.weights.specs.Fractions.{gcd_of, IsLcm, lcm_of}
use Rattle.weights.specs.FractionLaws.{gcd_of-IsGcd, gcd_of-positive, lcm_of-IsLcm}
use Rattle.fitting.specs.declared.fitted.Fitted.{Fitted, Fitted-F, out-Fitted, roll-Fitted, map-Fitted, ind-Fitted, out-roll-Fitted, fold_out-Fitted}
use Rattle.fitting.specs.declared.fitted.Weight.{Weight}
use Rattle.fitting.specs.declared.fitted.Weight.TheVariants as weight
use Rattle.fitting.proofs.JoinLoops.{entry_denominators, list_denominators}
use Rattle.fitting.specs.Scaling.{is_numeral, numeral_limit, numerals_step, are_numerals, denominator_of, denominators_step, denominators, common_multiple, IsMultiple, IsLeastMultiple, denominator_limit}
use Rattle.fitting.specs.Joining.{joined_with, joined, joined_after}

-- the multiple of two numbers from 1 on is from 1 on
lcm-positive : (a b : ℕ) → 1 ≤ a → 1 ≤ b → 1 ≤ lcm_of a b
unfolding lcm_of
lcm-positive a b ha hb =
    let g : ℕ = gcd_of a b in
    let some : 0 < g = gcd_of-positive a b hb in
    let small : g ≤ b = le_of_dvd hb (gcd_of-IsGcd a b).1 in
    let quotient : 1 ≤ b / g = le-div 1 b g some (omega (arith, small)) in
    times-positive a (b / g) ha quotient
  where
    times-positive : (x y : ℕ) → 1 ≤ x → 1 ≤ y → 1 ≤ x * y
    times-positive (suc x) (suc y) hx hy = omega arith
    times-positive zero y hx hy = absurd (omega arith)
    times-positive (suc x) zero hx hy = absurd (omega arith)

-- numbers from 1 on
abbrev pub ArePositive : List ℕ → Type 0
ArePositive qs = AllByRecursion (λ q. 1 ≤ q) qs

-- joined with more, a multiple does not get smaller
multiple-grows : (l : ℕ) (qs : List ℕ) → 1 ≤ l → ArePositive qs → l ≤ common_multiple l qs
multiple-grows l [] h all = omega arith
multiple-grows l (q ∷ qs) h all =
    let some : 1 ≤ lcm_of l q = lcm-positive l q h all.0 in
    let here : l ≤ lcm_of l q = le_of_dvd some (lcm_of-IsLcm l q h all.0).0 in
    omega (arith, here, multiple-grows (lcm_of l q) qs some all.1)

-- what is joined is the common multiple, or the common multiple is greater than the limit
abbrev pub IsJoined : ℕ → List ℕ → Option ℕ → Type 0
IsJoined l qs None = denominator_limit < common_multiple l qs
IsJoined l qs (Some m) = (m ≡ common_multiple l qs) × (m ≤ denominator_limit)

-- which is what the clauses say
pub joined-value : (l : ℕ) (qs : List ℕ) (o : Option ℕ) → IsJoined l qs o
    → IfSome o (λ m. m ≡ common_multiple l qs)
joined-value l qs None h = tt
joined-value l qs (Some m) h = h.0

-- the join is there exactly where the multiple is within the limit
pub joined-within :
    (l : ℕ) (qs : List ℕ) (o : Option ℕ) → IsJoined l qs o
    → IsSome o ↔ (common_multiple l qs ≤ denominator_limit)
joined-within l qs None h = (
  (λ w. absurd (true≢false (sym w))),
  (λ w. absurd (omega (arith, h, w))),
)
joined-within l qs (Some m) h = ((λ w. omega (arith, h.0, h.1)), (λ w. refl))

-- the join is no less than before and within the limit
pub joined-range :
    (l : ℕ) (qs : List ℕ) (o : Option ℕ) → 1 ≤ l → ArePositive qs → IsJoined l qs o
    → IfSome o (λ m. (l ≤ m) × (m ≤ denominator_limit))
joined-range l qs None h all is = tt
joined-range l qs (Some m) h all is = (omega (arith, is.0, multiple-grows l qs h all), is.1)

-- the join is the least common multiple, or past the limit
pub joined-is :
    (l : ℕ) (qs : List ℕ) → 1 ≤ l → l ≤ denominator_limit → ArePositive qs
    → IsJoined l qs (joined l qs)
joined-is l [] h k all = (refl, k)
joined-is l (q ∷ qs) h k all =
    by (nat_le (lcm_of l q) denominator_limit) refl
    (λ small. joined-is (lcm_of l q) qs (lcm-positive l q h all.0) small all.1)
  where
    m : ℕ
    m = lcm_of l q

    first : nat_le 1 l ≡ true
    first = le-leb 1 l h

    second : nat_le 1 q ≡ true
    second = le-leb 1 q all.0

    by :
        (b : Bool) → nat_le m denominator_limit ≡ b
        → (m ≤ denominator_limit → IsJoined m qs (joined m qs))
        → IsJoined l (q ∷ qs) (joined l (q ∷ qs))
    by true small rest =
        let is : joined_with l q ≡ Some m =
        ap (λ c. if c then Some m else None)
        (and_from (nat_le 1 l) (nat_le 1 q && nat_le m denominator_limit) first
        (and_from (nat_le 1 q) (nat_le m denominator_limit) second small)) in
        subst (λ o. IsJoined l (q ∷ qs) (option_and_then (λ n. joined n qs) o)) (sym is)
        (rest (leb-true m denominator_limit small))
    by false large rest =
        let is : joined_with l q ≡ None =
        (λ i. if first i && (second i && large i) then Some m else None) in
        let over : denominator_limit < m = leb-false m denominator_limit large in
        subst (λ o. IsJoined l (q ∷ qs) (option_and_then (λ n. joined n qs) o)) (sym is)
        (omega (arith, over, multiple-grows m qs (lcm-positive l q h all.0) all.1))

-- the common multiple is the least
pub common_multiple-least :
    (l : ℕ) (qs : List ℕ) → 1 ≤ l → ArePositive qs
    → IsLeastMultiple l qs (common_multiple l qs)
common_multiple-least l [] h all = record {
  multiple = record { of_first = dvd_refl l; of_others = tt };
  least = λ k w. w.of_first;
}
common_multiple-least l (q ∷ qs) h all =
    let both : IsLcm l q (lcm_of l q) = lcm_of-IsLcm l q h all.0 in
    let rest = common_multiple-least (lcm_of l q) qs (lcm-positive l q h all.0) all.1 in
    let of_both = rest.multiple.of_first in
    record {
      multiple = record {
        of_first = dvd_trans l both.0 of_both;
        of_others = (dvd_trans q both.1 of_both, rest.multiple.of_others);
      };
      least = λ k w. rest.least k (others k w (both.2 k w.of_first w.of_others.0));
    }
  where
    others :
        (k : ℕ) → IsMultiple l (q ∷ qs) k → lcm_of l q ∣ k → IsMultiple (lcm_of l q) qs k
    others k w divides = record { of_first = divides; of_others = w.of_others.1 }

-- joined one list after another
pub joined-append :
    (l : ℕ) (xs ys : List ℕ)
    → joined l (xs ++ ys) ≡ option_and_then (λ m. joined m ys) (joined l xs)
joined-append l [] ys = refl
joined-append l (x ∷ xs) ys = by (joined_with l x) (λ m. joined-append m xs ys)
  where
    by :
        (o : Option ℕ)
        → ((m : ℕ) → joined m (xs ++ ys) ≡ option_and_then (λ n. joined n ys) (joined m xs))
        → option_and_then (λ m. joined m (xs ++ ys)) o
        ≡ option_and_then (λ m. joined m ys) (option_and_then (λ m. joined m xs) o)
    by None again = refl
    by (Some m) again = again m

-- one turn of a loop over lists
pub joined-more :
    (l m : ℕ) (xs ys : List ℕ) (answer : Option ℕ) → joined l (xs ++ ys) ≡ answer
    → joined l xs ≡ Some m → joined m ys ≡ answer
joined-more l m xs ys answer h e =
    sym (joined-append l xs ys ∙ ap (option_and_then (λ m. joined m ys)) e) ∙ h

pub joined-stops :
    (l : ℕ) (xs ys : List ℕ) (answer : Option ℕ) → joined l (xs ++ ys) ≡ answer
    → joined l xs ≡ None → answer ≡ None
joined-stops l xs ys answer h e =
    sym h ∙ joined-append l xs ys ∙ ap (option_and_then (λ m. joined m ys)) e

-- the denominators of numerals are from 1 on
module _ where
  is_positive : (w : Weight) → is_numeral w ≡ true → ArePositive (denominator_of w)
  is_positive weight.OverBound h = tt
  is_positive (weight.Fraction n) h = (
    leb-true 1 n.q (and_parts (nat_le 1 n.q) (nat_le n.q numeral_limit && nat_le
        (unsigned_abs n.p) numeral_limit) h).0,
    tt,
  )

  both_positive : (xs ys : List ℕ) → ArePositive xs → ArePositive ys → ArePositive (xs ++ ys)
  both_positive [] ys a b = b
  both_positive (x ∷ xs) ys a b = (a.0, both_positive xs ys a.1 b)

  abbrev IsGood : Fitted → Type 0
  IsGood f = are_numerals f ≡ true → ArePositive (denominators f)

  abbrev values : List ((f : Fitted) × IsGood f) → List Fitted
  values ys = map (λ y. y.0) ys

  abbrev pairs : List (((f : Fitted) × IsGood f) × Weight) → List (Fitted × Weight)
  pairs ys = map (λ y. (y.0.0, y.1)) ys

  list_positive :
      (ys : List ((f : Fitted) × IsGood f))
      → list_all (λ b. b) (map are_numerals (values ys)) ≡ true
      → ArePositive (flat_map (λ qs. qs) (map denominators (values ys)))
  list_positive [] h = tt
  list_positive (y ∷ ys) h =
      let p = and_parts (are_numerals y.0) (list_all (λ b. b) (map are_numerals (values ys))) h in
      both_positive (denominators y.0) (flat_map (λ qs. qs) (map denominators (values ys)))
      (y.1 p.0) (list_positive ys p.1)

  abbrev numbered : List (Fitted × Weight) → List (Bool × Weight)
  numbered es = map (λ e. (are_numerals e.0, e.1)) es

  entries_positive :
      (ys : List (((f : Fitted) × IsGood f) × Weight))
      → list_all (λ e. e.0 && is_numeral e.1) (numbered (pairs ys)) ≡ true
      → ArePositive (entry_denominators (pairs ys))
  entries_positive [] h = tt
  entries_positive (y ∷ ys) h =
      let p =
      and_parts (are_numerals y.0.0 && is_numeral y.1)
      (list_all (λ e. e.0 && is_numeral e.1) (numbered (pairs ys))) h in
      let q = and_parts (are_numerals y.0.0) (is_numeral y.1) p.0 in
      both_positive (denominators y.0.0 ++ denominator_of y.1) (entry_denominators (pairs ys))
      (both_positive (denominators y.0.0) (denominator_of y.1) (y.0.1 q.0) (is_positive y.1 q.1))
      (entries_positive ys p.1)

  abbrev Level : Type 0
  Level = Fitted-F ((f : Fitted) × IsGood f)

  abbrev inside : Level → Fitted-F Fitted
  inside y = map-Fitted ((f : Fitted) × IsGood f) Fitted (λ e. e.0) y

  abbrev LevelGood : Fitted-F Fitted → Type 0
  LevelGood x =
      numerals_step (map-Fitted Fitted Bool are_numerals x) ≡ true
      → ArePositive (denominators_step (map-Fitted Fitted (List ℕ) denominators x))

  level_good : (y : Level) → LevelGood (inside y)
  level_good (Fitted-F.State i) h = tt
  level_good (Fitted-F.Label k) h = tt
  level_good Fitted-F.OverBound h = tt
  level_good (Fitted-F.Tuple ys) h = list_positive ys h
  level_good (Fitted-F.Inj k e) h = e.1 h
  level_good (Fitted-F.Set ys) h = list_positive ys h
  level_good (Fitted-F.Weights ys) h = entries_positive ys h

  numerals_roll :
      (x : Fitted-F Fitted)
      → are_numerals (roll-Fitted x) ≡ numerals_step (map-Fitted Fitted Bool are_numerals x)
  numerals_roll x =
      fold_out-Fitted Bool numerals_step (roll-Fitted x)
      ∙ ap (λ (y : Fitted-F Fitted). numerals_step (map-Fitted Fitted Bool are_numerals y))
      (out-roll-Fitted x)

  denominators_roll :
      (x : Fitted-F Fitted)
      → denominators (roll-Fitted x)
      ≡ denominators_step (map-Fitted Fitted (List ℕ) denominators x)
  denominators_roll x =
      fold_out-Fitted (List ℕ) denominators_step (roll-Fitted x)
      ∙ ap (λ (y : Fitted-F Fitted). denominators_step (map-Fitted Fitted (List ℕ) denominators y))
      (out-roll-Fitted x)

  -- denominators are positive
  pub denominators-positive : (f : Fitted) → are_numerals f ≡ true → ArePositive (denominators f)
  denominators-positive = ind-Fitted IsGood (λ x y is h.
      subst (λ (qs : List ℕ). ArePositive qs) (sym (denominators_roll x))
      (subst LevelGood is (level_good y) (sym (numerals_roll x) ∙ h)))

-- ---- turns of the loops that join

-- the denominators of a fitted tree, layer by layer
pub denominators_out :
    (f : Fitted) (x : Fitted-F Fitted) → out-Fitted f ≡ x
    → denominators f ≡ denominators_step (map-Fitted Fitted (List ℕ) denominators x)
denominators_out f x e =
    fold_out-Fitted (List ℕ) denominators_step f
    ∙ ap (λ (y : Fitted-F Fitted). denominators_step (map-Fitted Fitted (List ℕ) denominators y)) e

-- those of a weight list are those of its entries
pub weights-denominators :
    (f : Fitted) (es : List (Fitted × Weight)) → out-Fitted f ≡ Fitted-F.Weights es
    → denominators f ≡ entry_denominators es
weights-denominators f es e = denominators_out f (Fitted-F.Weights es) e

module _ (xs : List Fitted) (i : ℕ) (x : Fitted) (s : ℕ) (answer : Option ℕ)
    (inside : i < length xs) (is : x ≡ get_or xs i x)
    (kept : joined s (list_denominators (drop i xs)) ≡ answer) where
  turn : joined s (denominators x ++ list_denominators (drop (i + 1) xs)) ≡ answer
  turn =
      ap (λ ys. joined s (list_denominators ys))
      (sym (drop_more xs i x inside ∙ (λ j. sym is j ∷ drop (i + 1) xs)))
      ∙ kept

  -- one more tree of a list is joined
  pub each-more :
      (m : ℕ) → Some m ≡ joined s (denominators x)
      → joined m (list_denominators (drop (i + 1) xs)) ≡ answer
  each-more m e =
      joined-more s m (denominators x) (list_denominators (drop (i + 1) xs)) answer turn (sym e)

  -- a tree that is past the limit ends the list
  pub each-stops : None ≡ joined s (denominators x) → answer ≡ None
  each-stops e =
      joined-stops s (denominators x) (list_denominators (drop (i + 1) xs)) answer turn (sym e)

module _ (es : List (Fitted × Weight)) (i : ℕ) (e : Fitted × Weight) (s : ℕ) (answer : Option ℕ)
    (inside : i < length es) (is : e ≡ get_or es i e)
    (kept : joined s (entry_denominators (drop i es)) ≡ answer) where
  abbrev here : List ℕ
  here = denominators e.0 ++ denominator_of e.1

  entry-turn : joined s (here ++ entry_denominators (drop (i + 1) es)) ≡ answer
  entry-turn =
      ap (λ ys. joined s (entry_denominators ys))
      (sym (drop_more es i e inside ∙ (λ j. sym is j ∷ drop (i + 1) es)))
      ∙ kept

  both : (o : Option ℕ) → o ≡ joined s (denominators e.0)
      → joined s here ≡ option_and_then (λ m. joined_after m e.1) o
  both o k =
      joined-append s (denominators e.0) (denominator_of e.1)
      ∙ ap (option_and_then (λ m. joined_after m e.1)) (sym k)

  -- one more entry of weights is joined
  pub entry-more :
      (m k : ℕ) → Some m ≡ joined s (denominators e.0) → Some k ≡ joined_after m e.1
      → joined k (entry_denominators (drop (i + 1) es)) ≡ answer
  entry-more m k first second =
      joined-more s k here (entry_denominators (drop (i + 1) es)) answer entry-turn
      (both (Some m) first ∙ sym second)

  -- a value that is past the limit ends the entries
  pub entry-stops : None ≡ joined s (denominators e.0) → answer ≡ None
  entry-stops first =
      joined-stops s here (entry_denominators (drop (i + 1) es)) answer entry-turn (both None first)

  -- a weight that is past the limit ends the entries
  pub entry-stops-late :
      (m : ℕ) → Some m ≡ joined s (denominators e.0) → None ≡ joined_after m e.1 → answer ≡ None
  entry-stops-late m first second =
      joined-stops s here (entry_denominators (drop (i + 1) es)) answer entry-turn
      (both (Some m) first ∙ sym second)

-- after the last entry
pub entries-end :
    (es : List (Fitted × Weight)) (i s : ℕ) (answer : Option ℕ) → length es ≤ i
    → joined s (entry_denominators (drop i es)) ≡ answer → answer ≡ Some s
entries-end es i s answer past kept =
    sym kept ∙ ap (λ ys. joined s (entry_denominators ys)) (drop_of_length-le es past)
