-- What is known of verdicts, as runs ask for it.
use Rattle.std.proofs.Common.{◌≡◌, ◌∙◌, ℕ, zero, suc, ◌<◌, ◌≤◌, ◌==◌, arith, List, [], ◌∷◌, length, refl, sym, ap, subst, Option, Some, None, Bool, true, false, true≢false}
use Rattle.std.specs.Prelude.{slice_index, is_some}
use Rattle.std.specs.List.{range_with_len}
use Rattle.std.proofs.lemmas.List.{length-map}
use Rattle.std.proofs.lemmas.List.FromFn.{length-range_with_len}
use Rattle.std.proofs.lemmas.Bool.Decides.{nat_tests}
use Rattle.typing.specs.Contents.{Content}
use Rattle.formula_text.specs.Answers.{certificate_of}
use Rattle.answer_checker.specs.Blocks.{BlockLine, line_numbers}
use Rattle.answer_checker.specs.Rules.{first_with, first_beside}
use Rattle.answer_checker.specs.BadLines.{bad_answer_line, IsBadAnswerLine}
use Rattle.answer_checker.specs.declared.verdict.Reason.{Reason}
use Rattle.answer_checker.specs.declared.verdict.Reason.TheVariants.{Missing, Twice, Unstable, Wrong}
use Rattle.answer_checker.specs.declared.verdict.Verdict.{Verdict}
use Rattle.answer_checker.specs.declared.verdict.Verdict.TheVariants.{Yes, No, BadLine}
use Rattle.answer_checker.specs.Verdicts.{IsVerdict, IsVerdictOf, answers_read}
use Rattle.copar_run.specs.Verified.{AreReasonStates}

-- the verdict tells a bad line
abbrev pub tells_bad : Verdict → Bool
tells_bad Yes = false
tells_bad (No reason) = false
tells_bad (BadLine line) = true

-- and its number
abbrev line_in : Verdict → ℕ
line_in Yes = 0
line_in (No reason) = 0
line_in (BadLine line) = line

-- a number that is there is no number
pub unclear : (o : Option ℕ) (line : ℕ) → o ≡ None → o ≡ Some line → ⊥
unclear o line none some = true≢false (sym (ap is_some some) ∙ ap is_some none)

module _ (c : Content) (bytes : List ℕ) where
  -- a bad line that is told is the bad line
  pub bad-line : (line : ℕ) → IsVerdict c bytes (BadLine line) → IsBadAnswerLine c bytes line
  bad-line line given = by (bad_answer_line c bytes) refl given
    where
      by : (o : Option ℕ) → bad_answer_line c bytes ≡ o
          → IsVerdictOf c (answers_read (certificate_of bytes)) o (BadLine line)
          → bad_answer_line c bytes ≡ Some line
      by None e v = absurd v
      by (Some other) e v = e ∙ ap Some (sym (ap line_in v))

  -- where another verdict is told there is none
  pub good-lines : (v : Verdict) → tells_bad v ≡ false → IsVerdict c bytes v
      → (line : ℕ) → IsBadAnswerLine c bytes line → ⊥
  good-lines v good given line bad =
      let same : v ≡ BadLine line =
      subst (λ o. IsVerdictOf c (answers_read (certificate_of bytes)) o v) bad given in
      true≢false (sym (ap tells_bad same) ∙ good)

-- the first state with the number of a state is not behind it
first-before : (numbers : List ℕ) (y : ℕ) → y < length numbers → first_beside numbers y ≤ y
first-before [] y below = absurd (omega (arith, below))
first-before (x ∷ numbers) zero below = by (x == x) refl
  where
    by : (b : Bool) → (x == x) ≡ b → first_with (x ∷ numbers) x ≤ 0
    by true e = rw e (omega arith)
    by false e = absurd (grind (arith, nat_tests, e))
first-before (x ∷ numbers) (suc y) below =
    by (x == slice_index numbers y) refl (first-before numbers y (omega (arith, below)))
  where
    by : (b : Bool) → (x == slice_index numbers y) ≡ b → first_beside numbers y ≤ y
        → first_with (x ∷ numbers) (slice_index numbers y) ≤ suc y
    by true e rest = rw e (omega arith)
    by false e rest = rw e (omega (arith, rest))

-- so it is among as many states as there are numbers
first-among : (lines : List BlockLine) (n y : ℕ) → y < n
    → first_beside (line_numbers lines n) y < n
first-among lines n y below =
    let count : length (line_numbers lines n) ≡ n =
    length-map (range_with_len 0 n) _ ∙ length-range_with_len 0 n in
    omega (
      arith,
      below,
      first-before (line_numbers lines n) y (subst (λ m. y < m) (sym count)
          below),
    )

-- the states of a reason are states of the coalgebra
pub reason-states : (c : Content) (bytes : List ℕ) (reason : Reason)
    → IsVerdict c bytes (No reason) → AreReasonStates (length c.values) reason
reason-states c bytes reason given = by (bad_answer_line c bytes) reason given
  where
    by : (o : Option ℕ) (r : Reason)
        → IsVerdictOf c (answers_read (certificate_of bytes)) o (No r)
        → AreReasonStates (length c.values) r
    by (Some line) r v = absurd (true≢false (sym (ap tells_bad v)))
    by None (Missing i) v = v.0.state
    by None (Twice i) v = v.0.state
    by None (Unstable x y) v = (
      subst (λ z. z < length c.values) (sym v.1.first)
          (first-among _ (length c.values) y v.1.state),
      v.1.state,
    )
    by None (Wrong f x) v = v.2.3.state
