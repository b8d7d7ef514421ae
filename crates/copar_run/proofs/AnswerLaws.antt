-- What is known of explanations and certificates, as their texts ask for it.
use Rattle.std.proofs.Common.{◌≡◌, ◌≤◌, ◌<◌, ℕ, zero, suc, arith, List, [], ◌∷◌, length, map, get_or, refl, subst, Option, Some, None, IfSome}
use Rattle.std.specs.List.{All, AllByRecursion, AllZip, Contains}
use Rattle.std.proofs.lemmas.List.{get_or_default}
use Rattle.std.proofs.lemmas.List.Elements.{All-from_recursion, recursion_from_All, Contains-get_or}
use Rattle.std.proofs.lemmas.List.Quantifiers.{position-Some}
use Rattle.functor_terms.specs.Words.{is_same_word}
use Rattle.typing.specs.Contents.{Content}
use Rattle.formulas.specs.declared.formula.Formula.{Formula}
use Rattle.state_certificates.specs.Explained.{IsVerdict}
use Rattle.state_certificates.specs.Classed.{IsCertificate}
use Rattle.answer_writer.specs.Lines.{AreStatesOf}
use Rattle.answer_writer.specs.Laws.{IsBlockOf}
use Rattle.copar_run.specs.Explained.{pairs_of}
use Rattle.copar_run.specs.Named.{AreNumbers}

-- what holds of all that are mapped holds of all
pub all-before-map : {A B : Type 0} (P : B → Type 0) (f : A → B) (xs : List A)
    → All P (map f xs) → All (λ x. P (f x)) xs
all-before-map {A = A} {B = B} P f xs all =
    All-from_recursion (λ x. P (f x)) xs (each xs (recursion_from_All P (map f xs) all))
  where
    each : (ys : List A) → AllByRecursion P (map f ys) → AllByRecursion (λ x. P (f x)) ys
    each [] e = tt
    each (y ∷ ys) e = (e.0, each ys e.1)

-- fewer than two numbers are no pair
pub no-pair : (numbers : List ℕ) → length numbers ≤ 1 → pairs_of numbers ≡ []
no-pair [] few = refl
no-pair (x ∷ []) few = refl
no-pair (x ∷ y ∷ numbers) few = absurd (omega (arith, few))

-- the numbers of words that name states are numbers of states
pub numbers-named : (names words : List (List ℕ)) (numbers : List ℕ)
    → AreNumbers names words numbers → All (λ i. i < length names) numbers
numbers-named names words numbers all =
    All-from_recursion (λ i. i < length names) numbers (each words numbers all)
  where
    each : (ws : List (List ℕ)) (is : List ℕ) → AreNumbers names ws is
        → AllByRecursion (λ i. i < length names) is
    each [] [] all = tt
    each [] (i ∷ is) all = absurd all
    each (w ∷ ws) [] all = absurd all
    each (w ∷ ws) (i ∷ is) all =
        ((position-Some (is_same_word w) names i [] all.0).0, each ws is all.1)

-- pairs of numbers of states are pairs of states
pub pairs-named : (n : ℕ) (numbers : List ℕ) → All (λ i. i < n) numbers
    → All (λ (pair : ℕ × ℕ). (pair.0 < n) × (pair.1 < n)) (pairs_of numbers)
pairs-named n [] all k d h = absurd (omega (arith, h))
pairs-named n (x ∷ []) all k d h = absurd (omega (arith, h))
pairs-named n (x ∷ y ∷ numbers) all zero d h = (all 0 0 (omega arith), all 1 0 (omega arith))
pairs-named n (x ∷ y ∷ numbers) all (suc k) d h =
    pairs-named n numbers (λ i e below. all (suc (suc i)) e (omega (arith, below))) k d
    (omega (arith, h))

-- the formulas that verdicts name are there
pub verdicts-there : (c : Content) (dag : List Formula) (pairs : List (ℕ × ℕ))
    (verdicts : List (Option ℕ))
    → AllZip (λ pair verdict. IsVerdict c dag pair.0 pair.1 verdict) pairs verdicts
    → All (λ verdict. IfSome verdict (λ f. f < length dag)) verdicts
verdicts-there c dag pairs verdicts all =
    All-from_recursion (λ verdict. IfSome verdict (λ f. f < length dag)) verdicts
    (each pairs verdicts all)
  where
    one : (x y : ℕ) (verdict : Option ℕ) → IsVerdict c dag x y verdict
        → IfSome verdict (λ f. f < length dag)
    one x y None is = tt
    one x y (Some k) is = is.1

    each : (ps : List (ℕ × ℕ)) (vs : List (Option ℕ))
        → AllZip (λ pair verdict. IsVerdict c dag pair.0 pair.1 verdict) ps vs
        → AllByRecursion (λ verdict. IfSome verdict (λ f. f < length dag)) vs
    each [] [] all = tt
    each [] (v ∷ vs) all = absurd all
    each (p ∷ ps) [] all = absurd all
    each (p ∷ ps) (v ∷ vs) all = (one p.0 p.1 v all.0, each ps vs all.1)

module _ (c : Content) (dag : List Formula) (formulas : List ℕ) (blocks : List (List ℕ))
    (is : IsCertificate c dag formulas blocks) (one : length c.values ≡ length c.names) where
  -- each state that stands in a block is one of the coalgebra
  pub states-named : All (AreStatesOf c.names) blocks
  states-named m d there k e below =
      let i = get_or (get_or blocks m d) k e in
      let stands : Contains (get_or blocks m []) i =
      subst (λ (b : List ℕ). Contains b i) (get_or_default blocks m d [] there)
      (Contains-get_or (get_or blocks m d) k e below) in
      subst (λ n. i < n) one ((is.shared m i i there stands).0 stands).0

  -- and no block is empty
  pub blocks-said : All (IsBlockOf c.names) blocks
  blocks-said m d there = (
    subst (λ (b : List ℕ). 0 < length b) (get_or_default blocks m [] d there)
        (is.in_order.some m there),
    states-named m d there,
  )

  -- the formulas of the blocks are there
  pub formulas-there : All (λ f. f < length dag) formulas
  formulas-there m d there =
      subst (λ f. f < length dag) (get_or_default formulas m 0 d there)
      (is.there m (subst (λ n. m < n) is.one_each there))
