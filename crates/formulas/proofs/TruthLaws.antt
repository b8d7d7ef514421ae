-- Laws of truth, over the points of any layered structure.
--
-- is_value-tells     == the test of values finds them one exactly where they are
-- holds_by-same      == a formula's truth is settled by those of the numbers that it cites
-- holds-by_cases     == formula k holds by cases on it
-- holds-only         == no other truths go by cases
-- holds-append       == formulas put behind a list change no truth in it
-- holds-like         == points that are alike have the same truths
use Rattle.std.specs.Prelude.{◌≡◌, ◌↔◌, ◌<◌, ◌≤◌, ℕ, zero, suc, Bool, false, true, not, ◌&&◌, ◌==◌, List, [], ◌∷◌, ◌++◌, length, map, slice_get, Option, Some, None, refl}
use Rattle.std.specs.Option.{option_map_or}
use Rattle.std.specs.Ordering.{is_eq}
use Rattle.std.specs.declared.cmp.Ordering.{Ordering}
use Rattle.std.specs.declared.cmp.Ordering.TheVariants.{Less, Equal, Greater}
use Rattle.std.proofs.Common.{sym, ◌∙◌, ap, inl, inr, arith}
use Rattle.std.proofs.lemmas.Option.{slice_get_within, slice_get_cases}
use Rattle.modalities.specs.declared.three.Three.{Three}
use Rattle.modalities.specs.Order.{three_cmp}
use Rattle.modalities.specs.OrderLaws.{three_equal_exactly}
use Rattle.formulas.specs.declared.formula.Formula.{Formula}
use Rattle.formulas.specs.declared.formula.Formula.TheVariants.{True, Not, And, At}
use Rattle.formulas.specs.Formulas.{CitesBelow, IsDag}
use Rattle.formulas.specs.Truth.{Layers, is_value, trit, holds_by, holds_within, holds, IsLikeness}

-- the test of values finds them one exactly where they are
pub is_value-tells : (a b : Three) → is_value a b ≡ true ↔ (a ≡ b)
is_value-tells a b = (there (three_cmp a b) refl, λ e. ap is_eq ((three_equal_exactly a b).1 e))
  where
    there : (o : Ordering) → three_cmp a b ≡ o → is_eq (three_cmp a b) ≡ true → a ≡ b
    there Less e h = absurd (cc (ap is_eq e))
    there Equal e h = (three_equal_exactly a b).0 e
    there Greater e h = absurd (cc (ap is_eq e))

-- an element before the end of a list stands there in a longer one
pub slice_get-longer :
    {A : Type 0} (xs ys : List A) (k : ℕ) → k < length xs → slice_get (xs ++ ys) k ≡ slice_get xs k
slice_get-longer [] ys k h = absurd (omega arith)
slice_get-longer (x ∷ xs) ys zero h = refl
slice_get-longer (x ∷ xs) ys (suc k) h = slice_get-longer xs ys k (omega arith)

-- the element put last
pub slice_get-last :
    {A : Type 0} (xs : List A) (y : A) → slice_get (xs ++ y ∷ []) (length xs) ≡ Some y
slice_get-last [] y = refl
slice_get-last (x ∷ xs) y = slice_get-last xs y

module _ {Point : Type 0} (w : Layers Point) where
  -- a formula's truth is settled by those of the numbers that it cites
  pub holds_by-same :
      (f : Formula) (n : ℕ) (told tell : ℕ → Point → Bool) → CitesBelow n f →
      ((j : ℕ) → j < n → told j ≡ tell j) → holds_by w told f ≡ holds_by w tell f
  holds_by-same True n told tell cites same = refl
  holds_by-same (Not i) n told tell cites same = λ k x. not (same i cites k x)
  holds_by-same (And i j) n told tell cites same =
      λ k x. same i cites.0 k x && same j cites.1 k x
  holds_by-same (At node value splitter coarse) n told tell cites same =
      λ k x. (w.node x == node) && is_value (w.value x
      (map (λ y. trit (same splitter cites.0 k y) (same coarse cites.1 k y)) (w.below x))) value

  module _ (dag : List Formula) (ordered : IsDag dag) where
    -- the same at the formula with a number
    at_same :
        (k : ℕ) (told tell : ℕ → Point → Bool) → ((j : ℕ) → j < k → told j ≡ tell j) →
        (o : Option Formula) → slice_get dag k ≡ o → (x : Point) →
        option_map_or (λ f. holds_by w told f x) o false
        ≡ option_map_or (λ f. holds_by w tell f x) o false
    at_same k told tell same None e x = refl
    at_same k told tell same (Some f) e x =
        λ i. holds_by-same f k told tell (ordered k f e) same i x

    -- k steps down are enough
    within_enough :
        (n m k : ℕ) → k < n → k < m → holds_within w dag n k ≡ holds_within w dag m k
    within_enough zero m k a b = absurd (omega arith)
    within_enough (suc n) zero k a b = absurd (omega arith)
    within_enough (suc n) (suc m) k a b =
        λ i x. at_same k (holds_within w dag n) (holds_within w dag m)
        (λ j h. within_enough n m j (omega arith) (omega arith)) (slice_get dag k) refl x i

    -- formula k holds by cases on it
    pub holds-by_cases :
        (k : ℕ) (f : Formula) → slice_get dag k ≡ Some f → (x : Point) →
        holds w dag k x ≡ holds_by w (holds w dag) f x
    unfolding holds
    holds-by_cases k f e x =
        at_same k (holds_within w dag k) (holds w dag)
        (λ j h. within_enough k (suc j) j h (omega arith)) (slice_get dag k) refl x
        ∙ ap (λ o. option_map_or (λ g. holds_by w (holds w dag) g x) o false) e

    -- truths that go by cases are those of `holds`
    only_within :
        (told : ℕ → Point → Bool) →
        ((k : ℕ) (f : Formula) → slice_get dag k ≡ Some f → (x : Point) →
        told k x ≡ holds_by w told f x) →
        (n k : ℕ) → k < n → k < length dag → told k ≡ holds w dag k
    only_within told cases zero k h within = absurd (omega arith)
    only_within told cases (suc n) k h within =
        elim (slice_get_cases dag k).1 [
          | inl found ↦ (λ i x. (cases k found.0 found.2 x
              ∙ (λ j. holds_by-same found.0 k told (holds w dag) (ordered k found.0 found.2)
              (λ m less. only_within told cases n m (omega arith) (omega arith)) j x)
              ∙ sym (holds-by_cases k found.0 found.2 x)) i)
          | inr past ↦ absurd (omega (arith, past.0))
        ]

    -- so there is one way only to give truths by cases
    pub holds-only :
        (told : ℕ → Point → Bool) →
        ((k : ℕ) (f : Formula) → slice_get dag k ≡ Some f → (x : Point) →
        told k x ≡ holds_by w told f x) →
        (k : ℕ) → k < length dag → told k ≡ holds w dag k
    holds-only told cases k h = only_within told cases (suc k) k (omega arith) h

  -- what is put behind a list changes no truth in it
  pub holds-append :
      (dag more : List Formula) → IsDag dag → IsDag (dag ++ more) →
      (k : ℕ) → k < length dag → holds w (dag ++ more) k ≡ holds w dag k
  holds-append dag more ordered longer k h =
      holds-only dag ordered (holds w (dag ++ more))
      (λ j f e x. holds-by_cases (dag ++ more) longer j f
      (slice_get-longer dag more j (slice_get_within dag j f e) ∙ e) x) k h

module _
    {Point Other : Type 0} (w : Layers Point) (v : Layers Other) (like : Point → Other → Type 0)
    (is : IsLikeness w v like) (dag : List Formula) (ordered : IsDag dag) where
  trit_small : (a b : Bool) → trit a b ≤ 2
  trit_small true true = omega arith
  trit_small true false = omega arith
  trit_small false true = omega arith
  trit_small false false = omega arith

  by_like :
      (f : Formula) (n : ℕ) → CitesBelow n f →
      ((j : ℕ) → j < n → (x : Point) (y : Other) → like x y → holds w dag j x ≡ holds v dag j y) →
      (x : Point) (y : Other) → like x y →
      holds_by w (holds w dag) f x ≡ holds_by v (holds v dag) f y
  by_like True n cites same x y h = refl
  by_like (Not i) n cites same x y h = ap not (same i cites x y h)
  by_like (And i j) n cites same x y h =
      λ k. same i cites.0 x y h k && same j cites.1 x y h k
  by_like (At node value splitter coarse) n cites same x y h =
      let values =
      is.one_value x y h
      (λ a. trit (holds w dag splitter a) (holds w dag coarse a))
      (λ b. trit (holds v dag splitter b) (holds v dag coarse b))
      (λ a. trit_small (holds w dag splitter a) (holds w dag coarse a))
      (λ b. trit_small (holds v dag splitter b) (holds v dag coarse b))
      (λ a b l k. trit (same splitter cites.0 a b l k) (same coarse cites.1 a b l k)) in
      λ k. (is.one_node x y h k == node) && is_value (values k) value

  like_within :
      (n k : ℕ) → k < n → (f : Formula) → slice_get dag k ≡ Some f →
      (x : Point) (y : Other) → like x y → holds w dag k x ≡ holds v dag k y
  like_within zero k less f e x y h = absurd (omega arith)
  like_within (suc n) k less f e x y h =
      holds-by_cases w dag ordered k f e x
      ∙ by_like f k (ordered k f e)
      (λ j below a b l. (let found = there j (omega (arith, slice_get_within dag k f e)) in
      like_within n j (omega arith) found.0 found.1 a b l)) x y h
      ∙ sym (holds-by_cases v dag ordered k f e y)
    where
      there : (j : ℕ) → j < length dag → (g : Formula) × (slice_get dag j ≡ Some g)
      there j below = elim (slice_get_cases dag j).1 [
        | inl found ↦ (found.0, found.2)
        | inr past ↦ absurd (omega (arith, past.0))
      ]

  -- alike points have the same truths
  pub holds-like :
      (k : ℕ) → k < length dag → (x : Point) (y : Other) → like x y →
      holds w dag k x ≡ holds v dag k y
  holds-like k h x y l = elim (slice_get_cases dag k).1 [
    | inl found ↦ like_within (suc k) k (omega arith) found.0 found.2 x y l
    | inr past ↦ absurd (omega (arith, past.0))
  ]
