-- The edges of one structure among those of all: the sources are each structure's number, as often
-- as
-- edges leave it.
use Rattle.std.proofs.Common.{◌≡◌, ℕ, zero, suc, ◌+◌, ◌<◌, ◌≤◌, Bool, true, false, List, [], ◌∷◌, ◌++◌, length, take, Some, slice_get, refl, sym, ap, ◌∙◌, arith, append_assoc, All}
use Rattle.std.specs.Prelude.{slice_index_or, ◌==◌, if◌then◌else◌}
use Rattle.std.specs.List.{flat_map, AllByRecursion, AllPairs}
use Rattle.std.proofs.lemmas.Bool.Decides.{nat_tests}
use Rattle.std.proofs.lemmas.Option.{same_Some, none-some}
use Rattle.std.proofs.lemmas.List.{append-nil}
use Rattle.functor_terms.specs.Terms.{Nodes}
use Rattle.typing.specs.Layers.{Place, leaves_of}
use Rattle.edge_store.specs.Edges.{chosen}
use Rattle.structures.specs.Structures.{repeated, sources_from}

other_test : (a b : ℕ) → a < b → (a == b) ≡ false
other_test a b h = grind (arith, nat_tests)

-- a smaller number is another
pub later_test : (a b : ℕ) → b < a → (a == b) ≡ false
later_test a b h = grind (arith, nat_tests)

same_test : (a : ℕ) → (a == a) ≡ true
same_test a = grind (arith, nat_tests)

-- as many as are repeated
pub length-repeated : (k n : ℕ) → length (repeated k n) ≡ n
length-repeated k zero = refl
length-repeated k (suc n) = ap suc (length-repeated k n)

module _ {X : Type 0} where
  -- what is chosen from two lists is chosen from both together
  pub chosen-append :
      (k : ℕ) (keys more : List ℕ) (xs ys : List X) → length xs ≡ length keys →
      chosen k (keys ++ more) (xs ++ ys) ≡ chosen k keys xs ++ chosen k more ys
  chosen-append k [] more [] ys h = refl
  chosen-append k [] more (x ∷ xs) ys h = absurd (omega arith)
  chosen-append k (key ∷ keys) more [] ys h = absurd (omega arith)
  chosen-append k (key ∷ keys) more (x ∷ xs) ys h =
      by (key == k) (chosen-append k keys more xs ys (omega arith))
    where
      by :
          (b : Bool) →
          chosen k (keys ++ more) (xs ++ ys) ≡ chosen k keys xs ++ chosen k more ys →
          (if b then x ∷ chosen k (keys ++ more) (xs ++ ys)
          else chosen k (keys ++ more) (xs ++ ys))
          ≡ (if b then x ∷ chosen k keys xs else chosen k keys xs) ++ chosen k more ys
      by true e = ap (λ l. x ∷ l) e
      by false e = e

  -- of the same keys all is chosen
  pub chosen-repeated :
      (k n : ℕ) (xs : List X) → length xs ≡ n → chosen k (repeated k n) xs ≡ xs
  chosen-repeated k zero [] h = refl
  chosen-repeated k zero (x ∷ xs) h = absurd (omega arith)
  chosen-repeated k (suc n) [] h = absurd (omega arith)
  chosen-repeated k (suc n) (x ∷ xs) h =
      let rest : List X = chosen k (repeated k n) xs in
      ap (λ b. if b then x ∷ rest else rest) (same_test k)
      ∙ ap (λ l. x ∷ l) (chosen-repeated k n xs (omega arith))

  -- of other keys nothing is chosen
  pub chosen-other :
      (k j n : ℕ) (xs : List X) → (j == k) ≡ false → chosen k (repeated j n) xs ≡ []
  chosen-other k j zero xs h = refl
  chosen-other k j (suc n) [] h = refl
  chosen-other k j (suc n) (x ∷ xs) h =
      let rest : List X = chosen k (repeated j n) xs in
      ap (λ b. if b then x ∷ rest else rest) h ∙ chosen-other k j n xs h

  -- no structure from a first one on has a number before it
  skipped :
      (k j n : ℕ) (keys : List ℕ) → (j == k) ≡ false →
      ((xs : List X) → chosen k keys xs ≡ []) → (xs : List X) →
      chosen k (repeated j n ++ keys) xs ≡ []
  skipped k j zero keys h g xs = g xs
  skipped k j (suc n) keys h g [] = refl
  skipped k j (suc n) keys h g (x ∷ xs) =
      let rest : List X = chosen k (repeated j n ++ keys) xs in
      ap (λ b. if b then x ∷ rest else rest) h ∙ skipped k j n keys h g xs

  module _ (t : Nodes) where
    pub chosen-before :
        (k first : ℕ) (places : List Place) → k < first → (xs : List X) →
        chosen k (sources_from t first places) xs ≡ []
    chosen-before k first [] h xs = refl
    chosen-before k first (z ∷ zs) h xs =
        skipped k first (length (leaves_of t z)) (sources_from t (first + 1) zs)
        (later_test first k h) (chosen-before k (first + 1) zs (omega (arith, h))) xs

    -- of keys past the places nothing is chosen
    pub chosen-past :
        (k first : ℕ) (places : List Place) → first + length places ≤ k → (xs : List X) →
        chosen k (sources_from t first places) xs ≡ []
    chosen-past k first [] h xs = refl
    chosen-past k first (z ∷ zs) h xs =
        skipped k first (length (leaves_of t z)) (sources_from t (first + 1) zs)
        (other_test first k (omega (arith, h))) (chosen-past k (first + 1) zs (omega (arith, h)))
        xs

    -- where each structure adds as many as edges leave it, those of one are what it adds
    pub chosen-block :
        (f : Place → List X) (first : ℕ) (places : List Place) →
        ((i : ℕ) (x : Place) → slice_get places i ≡ Some x →
        length (f x) ≡ length (leaves_of t x)) →
        (y : ℕ) (x : Place) → slice_get places y ≡ Some x →
        chosen (first + y) (sources_from t first places) (flat_map f places) ≡ f x
    chosen-block f first [] h y x e = absurd (none-some x e)
    chosen-block f first (z ∷ zs) h zero x e =
        let zeroth : first + 0 ≡ first = omega arith in
        let one : length (f z) ≡ length (leaves_of t z) = h 0 z refl in
        let count : ℕ = length (leaves_of t z) in
        ap (λ k. chosen k (sources_from t first (z ∷ zs)) (flat_map f (z ∷ zs))) zeroth
        ∙ chosen-append first (repeated first count) (sources_from t (first + 1) zs) (f z)
        (flat_map f zs) (one ∙ sym (length-repeated first count))
        ∙ ap (λ l. l ++ chosen first (sources_from t (first + 1) zs) (flat_map f zs))
        (chosen-repeated first count (f z) one)
        ∙ ap (λ l. f z ++ l)
        (chosen-before first (first + 1) zs (omega arith) (flat_map f zs))
        ∙ append-nil (f z) ∙ ap f (same_Some z x e)
    chosen-block f first (z ∷ zs) h (suc y) x e =
        let next : first + 1 + y ≡ first + suc y = omega arith in
        let one : length (f z) ≡ length (leaves_of t z) = h 0 z refl in
        let count : ℕ = length (leaves_of t z) in
        chosen-append (first + suc y) (repeated first count) (sources_from t (first + 1) zs) (f z)
        (flat_map f zs) (one ∙ sym (length-repeated first count))
        ∙ ap (λ l. l ++ chosen (first + suc y) (sources_from t (first + 1) zs) (flat_map f zs))
        (chosen-other (first + suc y) first count (f z)
        (other_test first (first + suc y) (omega arith)))
        ∙ ap (λ k. chosen k (sources_from t (first + 1) zs) (flat_map f zs)) (sym next)
        ∙ chosen-block f (first + 1) zs (λ i w. h (suc i) w) y x e

-- one more structure
module _ (t : Nodes) where
  -- the sources of one place more
  pub sources-snoc :
      (first : ℕ) (xs : List Place) (x : Place) →
      sources_from t first (xs ++ x ∷ [])
      ≡ sources_from t first xs ++ repeated (first + length xs) (length (leaves_of t x))
  sources-snoc first [] x =
      let zeroth : first ≡ first + 0 = omega arith in
      append-nil (repeated first (length (leaves_of t x)))
      ∙ ap (λ k. repeated k (length (leaves_of t x))) zeroth
  sources-snoc first (z ∷ zs) x =
      let next : first + 1 + length zs ≡ first + suc (length zs) = omega arith in
      let here : List ℕ = repeated first (length (leaves_of t z)) in
      ap (λ l. here ++ l) (sources-snoc (first + 1) zs x)
      ∙ ap (λ k. here ++ (sources_from t (first + 1) zs
      ++ repeated k (length (leaves_of t x)))) next
      ∙ sym (append_assoc here (sources_from t (first + 1) zs) _)

-- the next element of a front
pub take_next :
    {X : Type 0} (xs : List X) (i : ℕ) (x : X) → slice_get xs i ≡ Some x →
    take (i + 1) xs ≡ take i xs ++ x ∷ []
take_next [] i x e = absurd (none-some x e)
take_next (y ∷ ys) zero x e = ap (λ z. z ∷ []) (same_Some y x e)
take_next {X = X} (y ∷ ys) (suc i) x e =
    let next : suc i + 1 ≡ suc (i + 1) = omega arith in
    ap (λ n. take n (y ∷ ys)) next ∙ ap (λ l. y ∷ l) (take_next ys i x e)

-- the numbers ascend, from at least a first one
abbrev Ascends : ℕ → List ℕ → Type 0
Ascends low [] = Unit {0}
Ascends low (k ∷ ks) = (low ≤ k) × Ascends k ks

ascends_on :
    (first n low : ℕ) (rest : List ℕ) → low ≤ first →
    ((l : ℕ) → l ≤ first → Ascends l rest) → Ascends low (repeated first n ++ rest)
ascends_on first zero low rest h g = g low h
ascends_on first (suc n) low rest h g = (h, ascends_on first n first rest (omega arith) g)

sources_on :
    (t : Nodes) (low first : ℕ) (places : List Place) → low ≤ first →
    Ascends low (sources_from t first places)
sources_on t low first [] h = tt
sources_on t low first (z ∷ zs) h =
    ascends_on first (length (leaves_of t z)) low (sources_from t (first + 1) zs) h
    (λ l w. sources_on t l (first + 1) zs (omega (arith, w)))

-- numbers that ascend are at least the first one
at_least_low :
    (n : ℕ) (ks : List ℕ) → Ascends n ks → (j d : ℕ) → j < length ks → n ≤ slice_index_or ks j d
at_least_low n [] h j d l = absurd (omega arith)
at_least_low n (k ∷ ks) h zero d l = h.0
at_least_low n (k ∷ ks) h (suc j) d l =
    omega (arith, h.0, at_least_low k ks h.1 j d (omega arith))

ascending_pairs : (n : ℕ) (ks : List ℕ) → Ascends n ks → AllPairs (λ a b. a ≤ b) ks
ascending_pairs n [] h i j d l w = absurd (omega arith)
ascending_pairs n (k ∷ ks) h zero zero d l w = absurd (omega arith)
ascending_pairs n (k ∷ ks) h zero (suc j) d l w = at_least_low k ks h.1 j d (omega arith)
ascending_pairs n (k ∷ ks) h (suc i) zero d l w = absurd (omega arith)
ascending_pairs n (k ∷ ks) h (suc i) (suc j) d l w =
    ascending_pairs k ks h.1 i j d (omega arith) (omega arith)

-- the sources ascend
pub sources_ascend :
    (t : Nodes) (places : List Place) → AllPairs (λ a b. a ≤ b) (sources_from t 0 places)
sources_ascend t places =
    ascending_pairs 0 (sources_from t 0 places) (sources_on t 0 0 places (omega arith))

-- what holds of each, one after the other, holds of all
pub all_of :
    {X : Type 0} (P : X → Type 0) (xs : List X) → AllByRecursion P xs → All P xs
all_of P [] h k d l = absurd (omega arith)
all_of P (x ∷ xs) h zero d l = h.0
all_of P (x ∷ xs) h (suc k) d l = all_of P xs h.1 k d (omega arith)

below_on :
    (first n end : ℕ) (rest : List ℕ) → first < end → AllByRecursion (λ s. s < end) rest →
    AllByRecursion (λ s. s < end) (repeated first n ++ rest)
below_on first zero end rest h g = g
below_on first (suc n) end rest h g = (h, below_on first n end rest h g)

sources_below :
    (t : Nodes) (first end : ℕ) (places : List Place) → first + length places ≤ end →
    AllByRecursion (λ s. s < end) (sources_from t first places)
sources_below t first end [] h = tt
sources_below t first end (z ∷ zs) h =
    below_on first (length (leaves_of t z)) end (sources_from t (first + 1) zs) (omega (arith, h))
    (sources_below t (first + 1) end zs (omega (arith, h)))

-- the sources are places
pub sources_inside :
    (t : Nodes) (places : List Place) →
    All (λ s. s < length places) (sources_from t 0 places)
sources_inside t places =
    all_of (λ s. s < length places) (sources_from t 0 places)
    (sources_below t 0 (length places) places (omega arith))
