-- Each status that is told has its line.
use Rattle.std.proofs.Common.{◌≡◌, ℕ, List, Option, sym, subst, take}
use Rattle.std.specs.Io.KnownBytes.{append_known}
use Rattle.copar_run.specs.declared.status.Status.{Status}
use Rattle.copar_run.specs.Outcome.{IsQuiet}
use Rattle.copar_run.specs.Lines.{told_line}

-- what is written for a status, once the status is known: the whole line
pub whole-told : (old new : Option (List ℕ)) (before now : ℕ) (status other : Status)
    (word : List ℕ) → status ≡ other
    → (IsQuiet before now → new ≡ append_known old (told_line other word))
    → IsQuiet before now → new ≡ append_known old (told_line status word)
whole-told old new before now status other word e =
    subst (λ s. IsQuiet before now → new ≡ append_known old (told_line s word)) (sym e)

-- a front of the line
pub front-told : (old new : Option (List ℕ)) (status other : Status) (word : List ℕ)
    → status ≡ other
    → ((n : ℕ) × (new ≡ append_known old (take n (told_line other word))))
    → (n : ℕ) × (new ≡ append_known old (take n (told_line status word)))
front-told old new status other word e =
    subst (λ s. (n : ℕ) × (new ≡ append_known old (take n (told_line s word)))) (sym e)
