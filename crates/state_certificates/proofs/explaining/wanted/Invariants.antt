use Rattle.std.proofs.Common.{◌≡◌, ◌++◌, drop}
use Rattle.state_certificates.specs.Explained.{numbers_in}
use Rattle.state_certificates.proofs.explaining.wanted.Given as goal

abbrev pub invariant-loop-verdict : goal.invariant-loop-verdict
invariant-loop-verdict l =
    l.found.items ++ numbers_in (drop l.verdict-index l.verdicts) ≡ numbers_in l.verdicts
