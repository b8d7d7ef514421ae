-- Texts that grow by one item, before what is still to come.
use Rattle.std.proofs.Common.{◌≡◌, ℕ, zero, suc, ◌+◌, List, [], ◌∷◌, ◌++◌, drop, slice_get, Some, append_assoc, add-one, ap, sym, ◌∙◌}
use Rattle.formulas.specs.declared.formula.Formula.{Formula}
use Rattle.std.specs.Fmt.{decimal}
use Rattle.std.proofs.lemmas.Option.{none-some, same_Some}
use Rattle.formula_text.specs.Values.{later_trits}
use Rattle.formula_text.specs.Texts.{formula_line, text_from}

-- an item that is there stands in front of those behind it
pub drop_at :
    {X : Type 0} (xs : List X) (k : ℕ) (x : X) → slice_get xs k ≡ Some x →
    drop k xs ≡ x ∷ drop (suc k) xs
drop_at [] k x e = absurd (none-some x e)
drop_at (y ∷ xs) zero x e = ap (λ z. z ∷ xs) (same_Some y x e)
drop_at (y ∷ xs) (suc k) x e = drop_at xs k x e

-- one trit more
pub trit_more :
    (trits : List ℕ) (k t : ℕ) (first before after all : List ℕ) →
    slice_get trits k ≡ Some t → before ++ later_trits (drop k trits) ≡ all →
    after ≡ (before ++ 44 ∷ []) ++ decimal t →
    after ++ later_trits (drop (k + 1) trits) ≡ all
trit_more trits k t first before after all there h more =
    let rest : List ℕ = later_trits (drop (suc k) trits) in
    ap (λ n. after ++ later_trits (drop n trits)) (add-one k)
    ∙ ap (λ text. text ++ rest) more
    ∙ append_assoc (before ++ 44 ∷ []) (decimal t) rest
    ∙ append_assoc before (44 ∷ []) (decimal t ++ rest)
    ∙ ap (λ ts. before ++ later_trits ts) (sym (drop_at trits k t there))
    ∙ h

-- one formula more
pub formula_more :
    (dag : List Formula) (k : ℕ) (f : Formula) (before after : List ℕ) →
    slice_get dag k ≡ Some f → before ++ text_from k (drop k dag) ≡ text_from 0 dag →
    after ≡ before ++ formula_line k f →
    after ++ text_from (k + 1) (drop (k + 1) dag) ≡ text_from 0 dag
formula_more dag k f before after there h more =
    ap (λ n. after ++ text_from (k + 1) (drop n dag)) (add-one k)
    ∙ ap (λ text. text ++ text_from (k + 1) (drop (suc k) dag)) more
    ∙ append_assoc before (formula_line k f) (text_from (k + 1) (drop (suc k) dag))
    ∙ ap (λ fs. before ++ text_from k fs) (sym (drop_at dag k f there))
    ∙ h
