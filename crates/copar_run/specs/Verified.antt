-- What is printed of an answer that is judged.
--
-- verdict_text names verdict   == the line that tells the verdict
-- status_of_verdict verdict    == the status that comes with it
-- AreReasonStates n reason     == the states of the reason are among the first n
-- IsVerified c bytes s output  == the output tells the verdict on the bytes, and s comes with it
use Rattle.std.specs.Prelude.{◌≡◌, ◌<◌, ℕ, List, [], ◌++◌, codes, decimal}
use Rattle.typing.specs.Contents.{Content, words_of}
use Rattle.answer_checker.specs.declared.verdict.Reason.{Reason}
use Rattle.answer_checker.specs.declared.verdict.Reason.TheVariants.{Missing, Twice, Unstable, Wrong}
use Rattle.answer_checker.specs.declared.verdict.Verdict.{Verdict}
use Rattle.answer_checker.specs.declared.verdict.Verdict.TheVariants as verdict
use Rattle.formula_text.specs.Answers.{certificate_of}
use Rattle.answer_checker.specs.Blocks.{IsRightAnswer}
use Rattle.answer_checker.specs.Verdicts.{IsVerdict, block_lines, answers_read}
use Rattle.answer_writer.specs.Lines.{name_of}
use Rattle.copar_run.specs.declared.status.Status.{Status}
use Rattle.copar_run.specs.declared.status.Status.TheVariants.{Done, No, AnswerText}

-- why an answer is wrong: a state stands nowhere, or more than once; two states stand in one block
-- and are not alike; a formula is wrong at a state
abbrev pub reason_text : List (List ℕ) → Reason → List ℕ
reason_text names (Missing i) = codes "missing " ++ name_of names i
reason_text names (Twice i) = codes "twice " ++ name_of names i
reason_text names (Unstable x y) =
    codes "unstable " ++ name_of names x ++ codes " " ++ name_of names y
reason_text names (Wrong f x) = codes "formula f" ++ decimal f ++ codes " " ++ name_of names x

-- the line that tells the verdict; a bad line has none
abbrev pub verdict_text : List (List ℕ) → Verdict → List ℕ
verdict_text names verdict.Yes = codes "right\n"
verdict_text names (verdict.No reason) = codes "wrong " ++ reason_text names reason ++ codes "\n"
verdict_text names (verdict.BadLine line) = []

-- the status that comes with the verdict
abbrev pub status_of_verdict : Verdict → Status
status_of_verdict verdict.Yes = Done
status_of_verdict (verdict.No reason) = No
status_of_verdict (verdict.BadLine line) = AnswerText line

-- the states of the reason are among the first n
abbrev pub AreReasonStates : ℕ → Reason → Type 0
AreReasonStates n (Missing i) = i < n
AreReasonStates n (Twice i) = i < n
AreReasonStates n (Unstable x y) = (x < n) × (y < n)
AreReasonStates n (Wrong f x) = x < n

-- The output tells the verdict on the bytes, and this status comes with it: Done where the answer
-- is right by the rules, and No where it is not. If the status is Done, the block lines of the
-- bytes have each state exactly once, and two states together exactly if they are equivalent.
pub record IsVerified (c : Content) (bytes : List ℕ) (s : Status) (output : List ℕ) : Type 0 where
  pub verdict : Verdict
  pub given : IsVerdict c bytes verdict
  pub status : s ≡ status_of_verdict verdict
  pub text : output ≡ verdict_text (words_of c) verdict
  pub right :
      s ≡ Done →
      IsRightAnswer c.term c.values (block_lines c (answers_read (certificate_of bytes)))
