-- Distinct names tell their states apart, so the names of blocks tell them apart.
use Rattle.std.proofs.Common.{◌≡◌, ℕ, zero, suc, ◌<◌, List, [], ◌∷◌, length, slice_index, false, true≢false, refl, ap, sym, subst, ◌∙◌, arith}
use Rattle.std.specs.List.{AllByRecursion, IsDistinct}
use Rattle.std.specs.Cmp.Lexicographic.{nat_list_eq_equiv}
use Rattle.functor_terms.specs.Words.{AreNames, is_same_word}
use Rattle.typing.specs.Contents.{Content, words_of}
use Rattle.quotient_writer.specs.Blocks.{name_of}
use Rattle.copar_run.specs.Blocks.{AreBlocks, PrintsEquivalence}

-- what holds of all names holds of the name of a state
each_name : (P : List ℕ → Type 0) (names : List (List ℕ)) → AllByRecursion P names → (i : ℕ)
    → i < length names → P (name_of names i)
each_name P [] all i h = absurd (omega (arith, h))
each_name P (name ∷ names) all zero h = all.0
each_name P (name ∷ names) all (suc i) h = each_name P names all.1 i (omega (arith, h))

-- a name is not the name of a later state
not_later : (name : List ℕ) (names : List (List ℕ)) (i : ℕ)
    → AllByRecursion (λ other. is_same_word name other ≡ false) names
    → i < length names → name ≡ name_of names i → ⊥
not_later name names i all h e =
    true≢false (sym (nat_list_eq_equiv.refl name) ∙ ap (is_same_word name) e
    ∙ each_name (λ other. is_same_word name other ≡ false) names all i h)

-- states with one name are one
one_name : (names : List (List ℕ)) → IsDistinct is_same_word names → (i j : ℕ) → i < length names
    → j < length names → name_of names i ≡ name_of names j → i ≡ j
unfolding IsDistinct
one_name [] distinct i j hi hj e = absurd (omega (arith, hi))
one_name (name ∷ names) distinct zero zero hi hj e = refl
one_name (name ∷ names) distinct zero (suc j) hi hj e = absurd (not_later name names j distinct.0
    (omega (arith, hj)) e)
one_name (name ∷ names) distinct (suc i) zero hi hj e = absurd (not_later name names i distinct.0
    (omega (arith, hi)) (sym e))
one_name (name ∷ names) distinct (suc i) (suc j) hi hj e =
    ap (λ k. suc k) (one_name names distinct.1 i j (omega (arith, hi)) (omega (arith, hj)) e)

-- two states share a printed block exactly if they are equivalent
pub prints : (c : Content) (firsts : List ℕ) → AreNames (words_of c)
    → length c.values ≡ length (words_of c) → AreBlocks c firsts → PrintsEquivalence c firsts
prints c firsts are covered blocks i j hi hj =
    let names = words_of c in
    let within : (k : ℕ) → k < length c.values → slice_index firsts k < length names =
    λ k h. subst (λ n. slice_index firsts k < n) covered ((blocks.first k h).equivalent.1) in (
      λ same. (blocks.alike i j hi hj).0 (one_name names are.distinct (slice_index firsts i)
          (slice_index firsts j) (within i hi) (within j hj) same),
      λ e. ap (name_of names) ((blocks.alike i j hi hj).1 e),
    )
