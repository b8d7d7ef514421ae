use Rattle.std.proofs.Common.{map, take}
use Rattle.copar_run.specs.Named.{AreNumbers}
use Rattle.copar_run.proofs.reading.find_states.Given as goal

-- the words so far name states
abbrev pub invariant-loop-k : goal.invariant-loop-k
invariant-loop-k l =
    AreNumbers l.names (take l.k (map (λ word. word.now) l.words)) l.numbers.items
