-- Marks of formulas that are wanted or cited.
--
-- through_closed, untouched_closed      == one formula further, what is cited has marks
-- through_reasoned       == the new marks have reasons
-- marked_from, unmarked_from            == marks that are read
-- wished_all, wished_only               == the wanted numbers before a place, and one more
use Rattle.std.proofs.Common.{◌≡◌, ◌+◌, ◌<◌, ◌⊎◌, ℕ, Bool, true, false, List, [], ◌∷◌, ◌++◌, length, get_or, take, refl, sym, ◌∙◌, ap, subst, inl, inr, arith}
use Rattle.std.specs.Prelude.{All, Contains, slice_get, Some, ◌↔◌}
use Rattle.std.proofs.lemmas.List.{take_more, get_or_default}
use Rattle.std.proofs.lemmas.List.Elements.{All-push}
use Rattle.std.proofs.lemmas.Option.{slice_get_within, slice_get_cases, get_or_from_slice_get}
use Rattle.std.proofs.lemmas.Bool.Decides.{eqb_tells}
use Rattle.formulas.specs.declared.formula.Formula.{Formula}
use Rattle.formulas.specs.Formulas.{IsDag}
use Rattle.formula_builder.specs.Cited.{Cites}
use Rattle.formula_builder.specs.Keeping.{IsMarked, AreReasoned, AreClosed}
use Rattle.formula_builder.proofs.Renumbered.{cites-below}

-- one formula further, what is cited has marks
pub through_closed :
    (dag : List Formula) (k : ℕ) (f : Formula) (before after : List Bool) → IsDag dag →
    slice_get dag k ≡ Some f →
    ((j : ℕ) → IsMarked after j ↔ (IsMarked before j ⊎ Cites f j)) →
    AreClosed dag before (k + 1) → AreClosed dag after k
through_closed dag k f before after ordered is tells closed j g i from e marked cites =
    elim (eqb_tells j k) [
      | inl here ↦ (tells i).1 (inr (same here.1))
      | inr other ↦ elim ((tells j).0 marked) [
        | inl old ↦ (tells i).1 (inl (closed j g i (omega (arith, other.1)) e old cites))
        | inr cited ↦ absurd (omega (arith, cites-below f k (ordered k f is) j cited))
      ]
    ]
  where
    same : j ≡ k → Cites f i
    same here =
        let one : Some g ≡ Some f = sym e ∙ ap (slice_get dag) here ∙ is in
        let formulas : g ≡ f = cc one in
        subst (λ h. Cites h i) formulas cites

-- and where it has no mark itself
pub untouched_closed :
    (dag : List Formula) (k : ℕ) (marks : List Bool) → (IsMarked marks k → ⊥) →
    AreClosed dag marks (k + 1) → AreClosed dag marks k
untouched_closed dag k marks none closed j g i from e marked cites =
    elim (eqb_tells j k) [
      | inl here ↦ absurd (none (subst (λ n. IsMarked marks n) here.1 marked))
      | inr other ↦ closed j g i (omega (arith, other.1)) e marked cites
    ]

-- the new marks have reasons
pub through_reasoned :
    (dag : List Formula) (k : ℕ) (f : Formula) (before after : List Bool) (wanted : List ℕ) →
    slice_get dag k ≡ Some f →
    ((j : ℕ) → IsMarked after j ↔ (IsMarked before j ⊎ Cites f j)) →
    IsMarked before k → AreReasoned dag wanted before → AreReasoned dag wanted after
through_reasoned dag k f before after wanted is tells here reasons j marked =
    elim ((tells j).0 marked) [
      | inl old ↦ elim (reasons j old) [
        | inl wished ↦ inl wished
        | inr by ↦ inr (by.0, by.1, by.2, by.3, (tells by.0).1 (inl by.4))
      ]
      | inr cited ↦ inr (k, f, is, cited, (tells k).1 (inl here))
    ]

-- the wanted numbers before a place and the one there have marks
pub wished_all :
    (wanted : List ℕ) (i k : ℕ) (before after : List Bool) → i < length wanted →
    k ≡ get_or wanted i 0 →
    ((j : ℕ) → IsMarked after j ↔ (IsMarked before j ⊎ (j ≡ k))) →
    All (λ j. IsMarked before j) (take i wanted) → All (λ j. IsMarked after j) (take (i + 1) wanted)
wished_all wanted i k before after below is tells all =
    subst (λ js. All (λ j. IsMarked after j) js)
    (sym (take_more wanted i 0 below ∙ ap (λ n. take i wanted ++ n ∷ []) (sym is)))
    (All-push (λ j. IsMarked after j) (take i wanted) k
    (λ n d h. (tells (get_or (take i wanted) n d)).1 (inl (all n d h)))
    ((tells k).1 (inr refl)))

-- and nothing else has one
pub wished_only :
    (wanted : List ℕ) (i k : ℕ) (before after : List Bool) → i < length wanted →
    k ≡ get_or wanted i 0 →
    ((j : ℕ) → IsMarked after j ↔ (IsMarked before j ⊎ (j ≡ k))) →
    ((j : ℕ) → IsMarked before j → Contains wanted j) →
    (j : ℕ) → IsMarked after j → Contains wanted j
wished_only wanted i k before after below is tells only j marked = elim ((tells j).0 marked) [
  | inl old ↦ only j old
  | inr here ↦ subst (λ n. Contains wanted n) (sym here)
      (i, below, get_or_default wanted i k 0 below ∙ sym is)
]

-- past the end nothing is cited
pub closed_past :
    (dag : List Formula) (marks : List Bool) → AreClosed dag marks (length dag)
closed_past dag marks j f i past e marked cites =
    absurd (omega (arith, slice_get_within dag j f e))

-- a mark that is read is there
pub marked_from :
    (marks : List Bool) (k : ℕ) (d : Bool) → k < length marks → get_or marks k d ≡ true →
    IsMarked marks k
marked_from marks k d below e = elim (slice_get_cases marks k).1 [
  | inl found ↦ found.2
      ∙ ap (λ (b : Bool). Some b) (sym (get_or_from_slice_get marks k found.0 d found.2) ∙ e)
  | inr past ↦ absurd (omega (arith, past.0))
]

-- and one that is not read is not there
pub unmarked_from :
    (marks : List Bool) (k : ℕ) (d : Bool) → get_or marks k d ≡ false → IsMarked marks k → ⊥
unmarked_from marks k d e mark =
    let no : true ≡ false = sym (get_or_from_slice_get marks k true d mark) ∙ e in
    absurd (cc no)
