-- Verdicts look at truths alone, and no text has two.
use Rattle.std.proofs.Common.{◌≡◌, ℕ, ◌≤◌, Bool, List, length, Some, None, refl, sym, ap, ◌∙◌, subst, arith, inl, inr}
use Rattle.std.specs.Prelude.{Option, slice_get}
use Rattle.std.proofs.lemmas.Option.{same_Some, slice_get_within}
use Rattle.std.proofs.lemmas.Bool.{cases_order}
use Rattle.functor_terms.specs.Terms.{Nodes}
use Rattle.typing.specs.declared.value.Value.{Value}
use Rattle.typing.specs.Contents.{Content}
use Rattle.formula_text.specs.Answers.{Answer}
use Rattle.answer_checker.specs.Blocks.{BlockLine, has_state, times_in, line_numbers}
use Rattle.answer_checker.specs.Rules.{first_beside, StandOnce, IsFirstNotOnce, IsFirstUnlike, HoldsExactly, HoldExactlyBefore, IsFirstWrong, PassesRules}
use Rattle.answer_checker.specs.Verdicts.{IsReason, IsJudged, IsVerdictOf}
use Rattle.answer_checker.specs.Laws.{HaveSameTruths}
use Rattle.answer_checker.specs.declared.verdict.Reason.{Reason}
use Rattle.answer_checker.specs.declared.verdict.Reason.TheVariants.{Missing, Twice, Unstable, Wrong}
use Rattle.answer_checker.specs.declared.verdict.Verdict.{Verdict}
use Rattle.answer_checker.specs.declared.verdict.Verdict.TheVariants.{Yes, No, BadLine}

module _ (c : Content) (lines : List BlockLine) (told other : ℕ → ℕ → Bool)
    (same : HaveSameTruths (length c.values) lines told other) where
  -- a line that holds exactly by one table does by the other
  exact :
      (m k : ℕ) (line : BlockLine) → m ≤ length c.values → slice_get lines k ≡ Some line →
      HoldsExactly told m line → HoldsExactly other m line
  exact m k line low at holds i h = sym (same k line at i (omega (arith, low, h))) ∙ holds i h

  exact_before :
      (k : ℕ) → HoldExactlyBefore told (length c.values) lines k →
      HoldExactlyBefore other (length c.values) lines k
  exact_before k all j line l at =
      exact (length c.values) j line (omega arith) at (all j line l at)

  same_reason : (r : Reason) → IsReason c told lines r → IsReason c other lines r
  same_reason (Missing i) h = h
  same_reason (Twice i) h = h
  same_reason (Unstable x y) h = h
  same_reason (Wrong f x) h =
      let (k, line, is, first) = h.2 in (
        h.0,
        h.1,
        (
          k,
          line,
          is,
          record {
            there = first.there;
            state = first.state;
            wrong = λ right. first.wrong (same k line first.there x first.state ∙ right);
            right_before =
                exact x k line (omega (arith, first.state)) first.there first.right_before;
            lines_before = exact_before k first.lines_before;
          },
        ),
      )

  -- the verdict of the rules is that by the other table
  pub same_verdict : (v : Verdict) → IsJudged c told lines v → IsJudged c other lines v
  same_verdict Yes h = record {
    once = h.once;
    like_firsts = h.like_firsts;
    formulas = exact_before (length lines) h.formulas;
  }
  same_verdict (No r) h = same_reason r h
  same_verdict (BadLine n) h = h

-- a first state that does not stand once is told from states that do
not_all_once :
    (n : ℕ) (lines : List BlockLine) (i : ℕ) → IsFirstNotOnce n lines i → StandOnce n lines → ⊥
not_all_once n lines i first once = first.not_once (once i first.state)

-- there is one first state that does not
one_not_once :
    (n : ℕ) (lines : List BlockLine) (i j : ℕ) → IsFirstNotOnce n lines i →
    IsFirstNotOnce n lines j → i ≡ j
one_not_once n lines i j a b = elim (cases_order i j) [
  | inl same ↦ same
  | inr apart ↦
      elim apart [
        | inl less ↦ absurd (a.not_once (b.once_before i less))
        | inr more ↦ absurd (b.not_once (a.once_before j more))
      ]
]

-- there is one first state that is not like the first of its block
one_unlike :
    (t : Nodes) (values : List Value) (numbers : List ℕ) (x y u v : ℕ) →
    IsFirstUnlike t values numbers x y → IsFirstUnlike t values numbers u v → (y ≡ v) × (x ≡ u)
one_unlike t values numbers x y u v a b =
    let one : y ≡ v = elim (cases_order y v) [
      | inl same ↦ same
      | inr apart ↦
          elim apart [
            | inl less ↦ absurd (a.unlike (b.like_before y less))
            | inr more ↦ absurd (b.unlike (a.like_before v more))
          ]
    ] in
    (one, a.first ∙ ap (first_beside numbers) one ∙ sym b.first)

-- there is one first wrong line, and one first state at which it is wrong
one_wrong :
    (told : ℕ → ℕ → Bool) (n : ℕ) (lines : List BlockLine) (f x g y : ℕ) →
    IsFirstWrong told n lines f x → IsFirstWrong told n lines g y → (f ≡ g) × (x ≡ y)
one_wrong told n lines f x g y a b =
    let (k, line, is, first) = a in
    let (l, other, is', second) = b in
    let one : k ≡ l = elim (cases_order k l) [
      | inl same ↦ same
      | inr apart ↦
          elim apart [
            | inl less ↦
                absurd (first.wrong (second.lines_before k line less first.there x first.state))
            | inr more ↦
                absurd (second.wrong (first.lines_before l other more second.there y second.state))
          ]
    ] in
    let line_is : line ≡ other =
    same_Some line other (sym first.there ∙ ap (slice_get lines) one ∙ second.there) in
    let state_is : x ≡ y = elim (cases_order x y) [
      | inl same ↦ same
      | inr apart ↦
          elim apart [
            | inl less ↦
                absurd (first.wrong
                (subst (λ (m : BlockLine). told m.formula x ≡ has_state m x) (sym line_is)
                (second.right_before x less)))
            | inr more ↦
                absurd (second.wrong
                (subst (λ (m : BlockLine). told m.formula y ≡ has_state m y) line_is
                (first.right_before y more)))
          ]
    ] in
    (sym is ∙ ap (λ (m : BlockLine). m.formula) line_is ∙ is', state_is)

module _ (c : Content) (told : ℕ → ℕ → Bool) (lines : List BlockLine) where
  -- no reason is told where all rules hold
  not_both : (r : Reason) → PassesRules c.term c.values told lines → IsReason c told lines r → ⊥
  not_both (Missing i) passes h = not_all_once (length c.values) lines i h.0 passes.once
  not_both (Twice i) passes h = not_all_once (length c.values) lines i h.0 passes.once
  not_both (Unstable x y) passes h = h.1.unlike (passes.like_firsts y h.1.state)
  not_both (Wrong f x) passes h =
      let (k, line, is, first) = h.2 in
      first.wrong
      (passes.formulas k line (slice_get_within lines k line first.there) first.there x first.state)

  -- there is one reason
  one_reason : (r s : Reason) → IsReason c told lines r → IsReason c told lines s → r ≡ s
  one_reason (Missing i) (Missing j) a b =
      ap Missing (one_not_once (length c.values) lines i j a.0 b.0)
  one_reason (Missing i) (Twice j) a b =
      let one = one_not_once (length c.values) lines i j a.0 b.0 in
      absurd (omega (arith, ap (times_in lines) one, a.1, b.1))
  one_reason (Missing i) (Unstable x y) a b =
      absurd (not_all_once (length c.values) lines i a.0 b.0)
  one_reason (Missing i) (Wrong f x) a b = absurd (not_all_once (length c.values) lines i a.0 b.0)
  one_reason (Twice i) (Missing j) a b =
      let one = one_not_once (length c.values) lines i j a.0 b.0 in
      absurd (omega (arith, ap (times_in lines) one, a.1, b.1))
  one_reason (Twice i) (Twice j) a b =
      ap Twice (one_not_once (length c.values) lines i j a.0 b.0)
  one_reason (Twice i) (Unstable x y) a b =
      absurd (not_all_once (length c.values) lines i a.0 b.0)
  one_reason (Twice i) (Wrong f x) a b = absurd (not_all_once (length c.values) lines i a.0 b.0)
  one_reason (Unstable x y) (Missing j) a b =
      absurd (not_all_once (length c.values) lines j b.0 a.0)
  one_reason (Unstable x y) (Twice j) a b = absurd (not_all_once (length c.values) lines j b.0 a.0)
  one_reason (Unstable x y) (Unstable u v) a b =
      let one =
      one_unlike c.term c.values (line_numbers lines (length c.values)) x y u v a.1 b.1 in
      ap (λ i. Unstable i y) one.1 ∙ ap (Unstable u) one.0
  one_reason (Unstable x y) (Wrong f z) a b = absurd (a.1.unlike (b.1 y a.1.state))
  one_reason (Wrong f x) (Missing j) a b = absurd (not_all_once (length c.values) lines j b.0 a.0)
  one_reason (Wrong f x) (Twice j) a b = absurd (not_all_once (length c.values) lines j b.0 a.0)
  one_reason (Wrong f x) (Unstable u v) a b = absurd (b.1.unlike (a.1 v b.1.state))
  one_reason (Wrong f x) (Wrong g y) a b =
      let one = one_wrong told (length c.values) lines f x g y a.2 b.2 in
      ap (λ h. Wrong h x) one.0 ∙ ap (Wrong g) one.1

  -- there is one verdict of the rules
  one_judged : (v w : Verdict) → IsJudged c told lines v → IsJudged c told lines w → v ≡ w
  one_judged Yes Yes a b = refl
  one_judged Yes (No s) a b = absurd (not_both s a b)
  one_judged Yes (BadLine n) a b = absurd b
  one_judged (No r) Yes a b = absurd (not_both r b a)
  one_judged (No r) (No s) a b = ap No (one_reason r s a b)
  one_judged (No r) (BadLine n) a b = absurd b
  one_judged (BadLine n) w a b = absurd a

-- there is one verdict on answers
pub one_verdict :
    (c : Content) (answers : List (ℕ × Answer)) (bad : Option ℕ) (v w : Verdict) →
    IsVerdictOf c answers bad v → IsVerdictOf c answers bad w → v ≡ w
one_verdict c answers (Some line) v w a b = a ∙ sym b
one_verdict c answers None v w a b = one_judged c _ _ v w a b
