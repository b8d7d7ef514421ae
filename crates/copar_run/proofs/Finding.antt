-- Words that name states, one after the other.
use Rattle.std.proofs.Common.{◌≡◌, ℕ, zero, suc, ◌+◌, ◌<◌, arith, List, [], ◌∷◌, ◌++◌, length, map, take, get_or, refl, sym, ap, subst, Some, is_some, true≢false}
use Rattle.std.specs.Prelude.{slice_get, IsSome, unwrap_or}
use Rattle.functor_terms.specs.Words.{place_of}
use Rattle.copar_run.specs.Named.{AreNumbers, AreNamed}

-- nothing stands in an empty list
nowhere : (k : ℕ) (word : List ℕ) → slice_get [] k ≡ Some word → ⊥
nowhere k word e = true≢false (sym (ap is_some e))

-- the first of a list is what stands there
the-first : (w word : List ℕ) (ws : List (List ℕ)) → slice_get (w ∷ ws) 0 ≡ Some word → w ≡ word
the-first w word ws e = ap (λ o. unwrap_or o w) e

-- what is mapped stands at its place
pub mapped-there : {A : Type 0} (f : A → List ℕ) (xs : List A) (k : ℕ) (d : A)
    → k < length xs → slice_get (map f xs) k ≡ Some (f (get_or xs k d))
mapped-there f [] k d below = absurd (omega (arith, below))
mapped-there f (x ∷ xs) zero d below = refl
mapped-there f (x ∷ xs) (suc k) d below = mapped-there f xs k d (omega (arith, below))

module _ (names : List (List ℕ)) where
  -- one word more, with its number
  pub next-number : (words : List (List ℕ)) (numbers : List ℕ) (k : ℕ) (word : List ℕ) (i : ℕ)
      → AreNumbers names (take k words) numbers → slice_get words k ≡ Some word
      → place_of word names ≡ Some i
      → AreNumbers names (take (k + 1) words) (numbers ++ i ∷ [])
  next-number [] numbers k word i all there is = absurd (nowhere k word there)
  next-number (w ∷ words) [] zero word i all there is =
      (subst (λ z. place_of z names ≡ Some i) (sym (the-first w word words there)) is, tt)
  next-number (w ∷ words) (n ∷ numbers) zero word i all there is = absurd all
  next-number (w ∷ words) [] (suc k) word i all there is = absurd all
  next-number (w ∷ words) (n ∷ numbers) (suc k) word i all there is =
      let further : suc (k + 1) ≡ suc k + 1 = omega arith in
      subst (λ m. AreNumbers names (take m (w ∷ words)) ((n ∷ numbers) ++ i ∷ [])) further
      (all.0, next-number words numbers k word i all.1 there is)

  -- a number that is there
  some-place : (word : List ℕ) (i : ℕ) → place_of word names ≡ Some i
      → IsSome (place_of word names)
  some-place word i e = ap is_some e

  -- the words before a place name states, if they have numbers
  pub named-before : (words : List (List ℕ)) (numbers : List ℕ) (k j : ℕ) (word : List ℕ)
      → AreNumbers names (take k words) numbers → j < k → slice_get words j ≡ Some word
      → IsSome (place_of word names)
  named-before [] numbers k j word all below there = absurd (nowhere j word there)
  named-before (w ∷ words) numbers zero j word all below there = absurd (omega (arith, below))
  named-before (w ∷ words) [] (suc k) j word all below there = absurd all
  named-before (w ∷ words) (n ∷ numbers) (suc k) zero word all below there =
      subst (λ z. IsSome (place_of z names)) (the-first w word words there)
      (some-place w n all.0)
  named-before (w ∷ words) (n ∷ numbers) (suc k) (suc j) word all below there =
      named-before words numbers k j word all.1 (omega (arith, below)) there

  -- words that have numbers name states
  pub are-named : (words : List (List ℕ)) (numbers : List ℕ) → AreNumbers names words numbers
      → AreNamed names words
  are-named [] numbers all j word there = absurd (nowhere j word there)
  are-named (w ∷ words) [] all j word there = absurd all
  are-named (w ∷ words) (n ∷ numbers) all zero word there =
      subst (λ z. IsSome (place_of z names)) (the-first w word words there) (some-place w n all.0)
  are-named (w ∷ words) (n ∷ numbers) all (suc j) word there =
      are-named words numbers all.1 j word there
