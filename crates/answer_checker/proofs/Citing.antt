-- Citations of formulas by lines.
use Rattle.std.proofs.Common.{◌≡◌, ℕ, ◌+◌, List, [], ◌∷◌, ◌++◌, Some, sym, ap, ◌∙◌, subst, arith, inl, inr}
use Rattle.std.specs.Prelude.{slice_get}
use Rattle.std.specs.List.{Contains}
use Rattle.std.specs.List.Sorted.{IsPermutation}
use Rattle.std.proofs.lemmas.Bool.{cases_eq}
use Rattle.std.proofs.lemmas.Option.{same_Some}
use Rattle.std.proofs.lemmas.List.Elements.{All-nil, All-push, Contains-push, Contains-append_left}
use Rattle.std.proofs.lemmas.List.Sorted.{All-permutation, Contains-permutation}
use Rattle.answer_checker.specs.Truths.{citation_of, AreCitationsBefore}
use Rattle.answer_checker.specs.declared.truths.Citation.{Citation}

-- none at first
pub citing_none :
    (formulas : List ℕ) (found : List Citation) → found ≡ [] → AreCitationsBefore formulas 0 found
citing_none formulas found none =
    subst (AreCitationsBefore formulas 0) (sym none)
    (record {
      each = All-nil (λ (c : Citation). slice_get formulas c.line ≡ Some c.formula);
      all = λ k f h at. absurd (omega (arith, h));
    })

-- one line more
pub citing_more :
    (formulas : List ℕ) (i f : ℕ) (found : List Citation) → slice_get formulas i ≡ Some f →
    AreCitationsBefore formulas i found →
    AreCitationsBefore formulas (i + 1) (found ++ citation_of f i ∷ [])
citing_more formulas i f found at are =
    record {
      each =
          All-push (λ (c : Citation). slice_get formulas c.line ≡ Some c.formula) found
          (citation_of f i) are.each at;
      all = λ k g h at'. (elim (cases_eq k i) [
        | inl same ↦
            let one : g ≡ f =
            same_Some g f (sym at' ∙ ap (slice_get formulas) same ∙ at) in
            subst (λ (c : Citation). Contains (found ++ citation_of f i ∷ []) c)
            (ap (λ j. citation_of f j) (sym same) ∙ ap (λ j. citation_of j k) (sym one))
            (Contains-push found (citation_of f i))
        | inr other ↦
            Contains-append_left found (citation_of f i ∷ []) (citation_of g k)
            (are.all k g (omega (arith, h, other)) at')
      ]);
    }

-- in another order
pub citing_sorted :
    (formulas : List ℕ) (n : ℕ) (found sorted : List Citation) → IsPermutation found sorted →
    AreCitationsBefore formulas n found → AreCitationsBefore formulas n sorted
citing_sorted formulas n found sorted moved are =
    record {
      each =
          All-permutation (λ (c : Citation). slice_get formulas c.line ≡ Some c.formula) found
          sorted
          moved are.each;
      all = λ k f h at.
          Contains-permutation found sorted (citation_of f k) moved (are.all k f h at);
    }
