-- Block lines that pass the rules are a right answer.
use Rattle.std.proofs.Common.{◌≡◌, ℕ, ◌<◌, ◌≤◌, true, List, [], length, get_or, Some, refl, sym, ap, ◌∙◌, arith, inl, inr}
use Rattle.std.specs.Prelude.{slice_index, slice_get}
use Rattle.std.proofs.lemmas.List.{get_or_default}
use Rattle.std.proofs.lemmas.List.FromFn.{length-map-range_with_len, get_or-map-range_with_len}
use Rattle.std.proofs.lemmas.Option.{slice_get_cases, slice_get_within, slice_get-get_or}
use Rattle.functor_terms.specs.Terms.{Nodes, IsTerm}
use Rattle.typing.specs.declared.value.Value.{Value}
use Rattle.typing.specs.Contents.{Content}
use Rattle.typing.specs.Values.{relabelled}
use Rattle.typing.specs.Equality.{are_equal}
use Rattle.typing.specs.Stable.{IsStable, AreEquivalent}
use Rattle.typing.specs.Laws.{AreInRange}
use Rattle.typing.proofs.EqualityLaws.{eq-equivalence}
use Rattle.formulas.specs.declared.formula.Formula.{Formula}
use Rattle.formulas.specs.Formulas.{IsDag}
use Rattle.satisfaction.specs.Satisfaction.{holds_at}
use Rattle.satisfaction.proofs.Likeness.{one_truth}
use Rattle.answer_checker.specs.Blocks.{BlockLine, line_with, has_state, ShareLine, IsRightAnswer, line_of, line_numbers}
use Rattle.answer_checker.specs.Rules.{first_with, first_beside, AreLikeFirsts, PassesRules}
use Rattle.answer_checker.specs.Laws.{CiteBelow}
use Rattle.answer_checker.proofs.Counts.{one_line, line_of-has}
use Rattle.answer_checker.proofs.Firsts.{first_with-least}

-- numbers under which each state is like the first of its number are stable
pub firsts_stable :
    (t : Nodes) (values : List Value) (numbers : List ℕ) → length numbers ≡ length values →
    AreLikeFirsts t values numbers → IsStable t values numbers
firsts_stable t values numbers covers like = record {
  covers = covers;
  equal = λ i j u v at at' same. (
      let r : Value → Value = relabelled numbers in
      let in_i : i < length values = slice_get_within values i u at in
      let in_j : j < length values = slice_get_within values j v at' in
      let k : ℕ = first_beside numbers i in
      let least : k ≤ i =
      first_with-least numbers i (slice_index numbers i) (omega (arith, covers)) refl in
      elim (slice_get_cases values k).1 [
        | inl found ↦ (
            let w : Value = found.0 in
            let one : are_equal t 0 (r w) (r u) ≡ true = like i in_i w u found.2 at in
            let two : are_equal t 0 (r w) (r v) ≡ true =
            like j in_j w v (ap (λ c. slice_get values (first_with numbers c)) (sym same) ∙ found.2)
            at' in
            sym ((eq-equivalence t 0).congr (r w) (r u) (r v) one) ∙ two)
        | inr past ↦ absurd (omega (arith, past.0))
      ]);
}

-- the number of a state is that of its line
pub number_is :
    (lines : List BlockLine) (n i : ℕ) → i < n →
    slice_index (line_numbers lines n) i ≡ line_of lines i
number_is lines n i h = get_or-map-range_with_len (line_of lines) 0 n i i 0 h (omega arith)

-- there is one for each
pub numbers_count : (lines : List BlockLine) (n : ℕ) → length (line_numbers lines n) ≡ n
numbers_count lines n = length-map-range_with_len (line_of lines) 0 n

-- a line with no state
abbrev pub no_line : BlockLine
no_line = line_with 0 []

module _ (c : Content) (term : IsTerm c.term) (within : AreInRange c.values) (dag : List Formula)
    (ordered : IsDag dag) (lines : List BlockLine) (cited : CiteBelow (length dag) lines)
    (passes : PassesRules c.term c.values (holds_at c dag) lines) where
  -- the line of a state
  its_line :
      (i : ℕ) → i < length c.values →
      (line_of lines i < length lines) × (has_state (get_or lines (line_of lines i) no_line) i
      ≡ true)
  its_line i h = line_of-has lines no_line i (omega (arith, passes.once i h))

  only_line :
      (k i : ℕ) → k < length lines → i < length c.values →
      has_state (get_or lines k no_line) i ≡ true → line_of lines i ≡ k
  only_line k i hk hi has =
      let is = its_line i hi in
      one_line lines (line_of lines i) k no_line i (omega (arith, passes.once i hi)) is.0 hk is.1
      has

  together :
      (i j : ℕ) → i < length c.values → j < length c.values → ShareLine lines i j →
      AreEquivalent c.term c.values i j
  together i j hi hj share =
      let (k, line, hk, ek, both) = share in
      let here : get_or lines k no_line ≡ line = get_or_default lines k no_line line hk ∙ ek in
      let same : line_of lines i ≡ line_of lines j =
      only_line k i hk hi (ap (λ (l : BlockLine). has_state l i) here ∙ both.0)
      ∙ sym (only_line k j hk hj (ap (λ (l : BlockLine). has_state l j) here ∙ both.1)) in (
        hi,
        hj,
        line_numbers lines (length c.values),
        firsts_stable c.term c.values (line_numbers lines (length c.values))
            (numbers_count lines (length c.values)) passes.like_firsts,
        number_is lines (length c.values) i hi ∙ same
            ∙ sym (number_is lines (length c.values) j hj),
      )

  apart :
      (i j : ℕ) → i < length c.values → j < length c.values →
      AreEquivalent c.term c.values i j → ShareLine lines i j
  apart i j hi hj alike =
      let k : ℕ = line_of lines i in
      let line : BlockLine = get_or lines k no_line in
      let is = its_line i hi in
      let at : slice_get lines k ≡ Some line = slice_get-get_or lines k no_line is.0 in
      let holds : has_state line j ≡ true =
      sym (passes.formulas k line is.0 at j hj)
      ∙ sym (one_truth c.term c.denominator c.values term within dag ordered line.formula
      (cited k line at) i j alike)
      ∙ passes.formulas k line is.0 at i hi ∙ is.1 in
      (k, line, is.0, get_or_default lines k line no_line is.0, (is.1, holds))

  -- block lines that pass the rules are a right answer
  pub passing_right : IsRightAnswer c.term c.values lines
  passing_right = record {
    once = passes.once;
    shared = λ i j hi hj. (together i j hi hj, apart i j hi hj);
  }
