use Rattle.state_certificates.proofs.Pairs.{IsRenewed}
use Rattle.state_certificates.proofs.explaining.renew.Given as goal

abbrev pub invariant-loop-verdict : goal.invariant-loop-verdict
invariant-loop-verdict l = IsRenewed l.verdicts l.numbers l.new.items l.verdict-index l.next
