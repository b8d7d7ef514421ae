-- Normal forms tell whether states are like the first states of their blocks.
use Rattle.std.proofs.Common.{◌≡◌, ℕ, zero, suc, ◌<◌, List, [], ◌∷◌, length, Some, refl, sym, ap, ◌∙◌, subst, arith}
use Rattle.std.specs.Prelude.{slice_get, slice_index}
use Rattle.std.specs.List.{AllZip}
use Rattle.std.specs.Cmp.{tied_itself}
use Rattle.std.specs.declared.cmp.Ordering.TheVariants.{Equal}
use Rattle.std.proofs.lemmas.Option.{same_Some, none-some, slice_get_within}
use Rattle.std.proofs.lemmas.Slice.Zip.{AllZip-long}
use Rattle.functor_terms.specs.Terms.{Nodes}
use Rattle.typing.specs.declared.value.Value.{Value}
use Rattle.typing.specs.NormalForms.{IsRelabelledAt}
use Rattle.typing.specs.Order.{compare}
use Rattle.typing.specs.Stable.{AreEqualUnder}
use Rattle.typing.proofs.OrderLaws.{compare-total}
use Rattle.typing.proofs.NormalLaws.{node_canonical}
use Rattle.typing.proofs.RelabelSteps.{forms_tell}
use Rattle.typing.proofs.StableLaws.{element}
use Rattle.answer_checker.specs.Rules.{IsLikeFirst, AreLikeBefore, IsFirstUnlike, first_beside}
use Rattle.answer_checker.specs.Steps.{AreFirstsOf}

-- what is said of the elements at one place
pub zip_at :
    {A B : Type 0} (R : A → B → Type 0) (xs : List A) (ys : List B) (i : ℕ) (x : A) (y : B) →
    AllZip R xs ys → slice_get xs i ≡ Some x → slice_get ys i ≡ Some y → R x y
zip_at R [] ys i x y h at at' = absurd (none-some x at)
zip_at R (x' ∷ xs) [] i x y h at at' = absurd h
zip_at R (x' ∷ xs) (y' ∷ ys) zero x y h at at' =
    subst (λ a. R a y) (same_Some x' x at) (subst (R x') (same_Some y' y at') h.0)
zip_at R (x' ∷ xs) (y' ∷ ys) (suc i) x y h at at' = zip_at R xs ys i x y h.1 at at'

module _ (t : Nodes) (b : List ℕ) (u v r s : Value)
    (left : IsRelabelledAt t b 0 u r) (right : IsRelabelledAt t b 0 v s) where
  -- normal forms that tie are those of values that are equal under the numbers
  ties_are_equal : compare t 0 r s ≡ Equal → AreEqualUnder t b u v
  ties_are_equal tie =
      (forms_tell t 0 b b u v r s left right).0
      ((node_canonical t 0).tie r s left.fitting right.fitting tie)

  -- normal forms of such values tie
  equals_tie : AreEqualUnder t b u v → compare t 0 r s ≡ Equal
  equals_tie same =
      ap (compare t 0 r) (sym ((forms_tell t 0 b b u v r s left right).1 same))
      ∙ tied_itself (compare-total t 0) r

module _ (t : Nodes) (values : List Value) (numbers : List ℕ) (forms : List Value)
    (firsts : List ℕ) (y : ℕ) (r s : Value)
    (are : AllZip (IsRelabelledAt t numbers 0) values forms) (first : AreFirstsOf numbers firsts)
    (below : y < length firsts)
    (at_first : slice_get forms (slice_index firsts y) ≡ Some r)
    (at_own : slice_get forms y ≡ Some s) where
  -- a state whose form ties with that of the first of its block is like it
  pub tie_is_like : compare t 0 r s ≡ Equal → IsLikeFirst t values numbers y
  tie_is_like tie u v at at' =
      let R : Value → Value → Type 0 = IsRelabelledAt t numbers 0 in
      let beside : first_beside numbers y ≡ slice_index firsts y =
      sym (first.first y (omega (arith, first.count))) in
      ties_are_equal t numbers u v r s
      (zip_at R values forms (slice_index firsts y) u r are
      (ap (slice_get values) (sym beside) ∙ at) at_first)
      (zip_at R values forms y v s are at' at_own) tie

  -- a state whose form does not is not
  pub apart_is_unlike :
      (compare t 0 r s ≡ Equal → ⊥) → AreLikeBefore t values numbers y →
      IsFirstUnlike t values numbers (slice_index firsts y) y
  apart_is_unlike apart like =
      let R : Value → Value → Type 0 = IsRelabelledAt t numbers 0 in
      let beside : first_beside numbers y ≡ slice_index firsts y =
      sym (first.first y (omega (arith, first.count))) in
      let count : length values ≡ length forms = sym (AllZip-long R values forms are) in
      let in_own : y < length values = omega (arith, count, slice_get_within forms y s at_own) in
      let in_first : slice_index firsts y < length values =
      omega (arith, count, slice_get_within forms (slice_index firsts y) r at_first) in
      let (u, at) = element values (slice_index firsts y) in_first in
      let (v, at') = element values y in_own in
      record {
        state = in_own;
        first = sym beside;
        unlike = λ likes. apart
            (equals_tie t numbers u v r s
            (zip_at R values forms (slice_index firsts y) u r are at at_first)
            (zip_at R values forms y v s are at' at_own)
            (likes u v (ap (slice_get values) beside ∙ at) at'));
        like_before = like;
      }
