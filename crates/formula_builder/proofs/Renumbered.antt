-- Formulas under new numbers.
--
-- cites-below            == what a formula cites is below each bound of its citations
-- cites-more             == and below each larger one
-- renumbered-same        == numbers that agree on all that is cited renumber alike
-- renumbered-back        == numbers that lead back undo a renumbering
-- kept_truth             == a renumbered formula holds where the old one does
use Rattle.std.proofs.Common.{◌≡◌, ◌<◌, ◌≤◌, ◌⊎◌, ℕ, zero, suc, List, [], ◌∷◌, ◌++◌, length, refl, sym, ◌∙◌, ap, subst, inl, inr, arith}
use Rattle.std.specs.Prelude.{slice_get, Some}
use Rattle.formulas.specs.declared.formula.Formula.{Formula}
use Rattle.formulas.specs.declared.formula.Formula.TheVariants.{True, Not, And, At}
use Rattle.formulas.specs.Formulas.{CitesBelow, IsDag}
use Rattle.formulas.specs.Truth.{Layers, holds_by, holds}
use Rattle.formulas.proofs.TruthLaws.{holds-by_cases, holds-only}
use Rattle.formula_builder.specs.Cited.{Cites, renumbered}

-- what a formula cites is below a bound of its citations
pub cites-below : (f : Formula) (n : ℕ) → CitesBelow n f → (i : ℕ) → Cites f i → i < n
cites-below True n below i c = absurd c
cites-below (Not j) n below i c = subst (λ m. m < n) (sym c) below
cites-below (And j l) n below i c = elim c [
  | inl e ↦ subst (λ m. m < n) (sym e) below.0
  | inr e ↦ subst (λ m. m < n) (sym e) below.1
]
cites-below (At q v s l) n below i c = elim c [
  | inl e ↦ subst (λ m. m < n) (sym e) below.0
  | inr e ↦ subst (λ m. m < n) (sym e) below.1
]

-- what cites below a bound cites below a larger one
pub cites-more : (f : Formula) (n m : ℕ) → n ≤ m → CitesBelow n f → CitesBelow m f
cites-more True n m le below = tt
cites-more (Not i) n m le below = omega (arith, below)
cites-more (And i j) n m le below = (omega (arith, below.0), omega (arith, below.1))
cites-more (At q v s c) n m le below = (omega (arith, below.0), omega (arith, below.1))

-- new numbers below a bound are cited below it
pub renumbered-below :
    (f : Formula) (g : ℕ → ℕ) (n : ℕ) → ((i : ℕ) → Cites f i → g i < n) →
    CitesBelow n (renumbered g f)
renumbered-below True g n below = tt
renumbered-below (Not i) g n below = below i refl
renumbered-below (And i j) g n below = (below i (inl refl), below j (inr refl))
renumbered-below (At q v s c) g n below = (below s (inl refl), below c (inr refl))

-- numbers that agree on all that is cited renumber alike
pub renumbered-same :
    (f : Formula) (n : ℕ) (g h : ℕ → ℕ) → CitesBelow n f →
    ((i : ℕ) → i < n → g i ≡ h i) → renumbered g f ≡ renumbered h f
renumbered-same True n g h below same = refl
renumbered-same (Not i) n g h below same = ap Not (same i below)
renumbered-same (And i j) n g h below same =
    λ k. And (same i below.0 k) (same j below.1 k)
renumbered-same (At q v s c) n g h below same =
    λ k. At q v (same s below.0 k) (same c below.1 k)

-- numbers that lead back undo a renumbering
pub renumbered-back :
    (f : Formula) (g h : ℕ → ℕ) → ((i : ℕ) → Cites f i → h (g i) ≡ i) →
    renumbered h (renumbered g f) ≡ f
renumbered-back True g h back = refl
renumbered-back (Not i) g h back = ap Not (back i refl)
renumbered-back (And i j) g h back =
    λ k. And (back i (inl refl) k) (back j (inr refl) k)
renumbered-back (At q v s c) g h back =
    λ k. At q v (back s (inl refl) k) (back c (inr refl) k)

-- what a renumbered formula cites is the new number of something cited
pub cites-renumbered :
    (f : Formula) (g : ℕ → ℕ) (i : ℕ) → Cites (renumbered g f) i →
    (j : ℕ) × Cites f j × (g j ≡ i)
cites-renumbered True g i c = absurd c
cites-renumbered (Not j) g i c = (j, refl, sym c)
cites-renumbered (And j l) g i c = elim c [
  | inl e ↦ (j, inl refl, sym e)
  | inr e ↦ (l, inr refl, sym e)
]
cites-renumbered (At q v s l) g i c = elim c [
  | inl e ↦ (s, inl refl, sym e)
  | inr e ↦ (l, inr refl, sym e)
]

-- what stands in a list with one element put behind
pub at_push :
    {X : Type 0} (xs : List X) (y z : X) (k : ℕ) → slice_get (xs ++ y ∷ []) k ≡ Some z →
    (slice_get xs k ≡ Some z) ⊎ ((k ≡ length xs) × (y ≡ z))
at_push [] y z zero e = inr (refl, cc e)
at_push [] y z (suc k) e = absurd (cc e)
at_push (x ∷ xs) y z zero e = inl e
at_push (x ∷ xs) y z (suc k) e = elim (at_push xs y z k e) [
  | inl old ↦ inl old
  | inr new ↦ inr (ap suc new.0, new.1)
]

-- a formula that cites what is there may be put behind
pub push_ordered :
    (dag : List Formula) (f : Formula) → IsDag dag → CitesBelow (length dag) f →
    IsDag (dag ++ f ∷ [])
push_ordered dag f ordered below k g e = elim (at_push dag f g k e) [
  | inl old ↦ ordered k g old
  | inr new ↦ subst (λ h. CitesBelow k h) new.1 (subst (λ n. CitesBelow n f) (sym new.0) below)
]

-- a renumbered formula holds where the old one does
pub kept_truth :
    {Point : Type 0} (w : Layers Point) (dag small : List Formula) (old : ℕ → ℕ) →
    IsDag dag → IsDag small →
    ((j : ℕ) (f : Formula) → slice_get small j ≡ Some f →
    slice_get dag (old j) ≡ Some (renumbered old f)) →
    (k : ℕ) → k < length small → (x : Point) → holds w small k x ≡ holds w dag (old k) x
kept_truth {Point} w dag small old ordered small_ordered same k h x =
    λ t. sym (holds-only w small small_ordered (λ j y. holds w dag (old j) y)
    (λ j f e y. holds-by_cases w dag ordered (old j) (renumbered old f) (same j f e) y ∙ by f y)
    k h) t x
  where
    by : (f : Formula) (y : Point) →
        holds_by w (holds w dag) (renumbered old f) y
        ≡ holds_by w (λ i z. holds w dag (old i) z) f y
    by True y = refl
    by (Not i) y = refl
    by (And i j) y = refl
    by (At q v s c) y = refl
