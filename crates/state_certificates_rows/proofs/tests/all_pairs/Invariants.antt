use Rattle.std.proofs.Common.{◌<◌, All}
use Rattle.state_certificates_rows.proofs.tests.all_pairs.Given as goal

abbrev pub invariant-loop-j : goal.invariant-loop-j
invariant-loop-j l = All (λ p. (p.0 < l.n) × (p.1 < l.n)) l.pairs.items

abbrev pub invariant-loop-i : goal.invariant-loop-i
invariant-loop-i l = All (λ p. (p.0 < l.n) × (p.1 < l.n)) l.pairs.items
