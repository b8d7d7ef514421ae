use Rattle.std.proofs.Common.{◌≡◌, ◌++◌, map, drop}
use Rattle.state_certificates.specs.Explained.{answer_of}
use Rattle.state_certificates.proofs.explaining.answers.Given as goal

abbrev pub invariant-loop-i : goal.invariant-loop-i
invariant-loop-i l =
    l.found.items ++ map (answer_of l.told) (drop l.i-index l.pairs)
    ≡ map (answer_of l.told) l.pairs
