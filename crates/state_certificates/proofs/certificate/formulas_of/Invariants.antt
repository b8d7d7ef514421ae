use Rattle.std.proofs.Common.{◌≡◌, ◌<◌, ℕ, length}
use Rattle.std.specs.Prelude.{slice_index}
use Rattle.state_certificates.specs.Certificates.{formula_of}
use Rattle.state_certificates.proofs.certificate.formulas_of.Given as goal

abbrev pub invariant-loop-i : goal.invariant-loop-i
invariant-loop-i l = record {
  one_each : length l.found.items ≡ l.i;
  of_blocks : (i : ℕ) → i < l.i → slice_index l.found.items i ≡ formula_of l.told i;
}
