use Rattle.std.proofs.Common.{◌≡◌, ◌+◌, drop}
use Rattle.std.specs.List.{position_or_len}
use Rattle.typing.specs.Equality.{are_equal}
use Rattle.plain.proofs.rounds.place_of.Given as goal

-- as many as were passed, and the place in the rest
abbrev pub invariant-loop-v : goal.invariant-loop-v
invariant-loop-v l = record {
  counted : l.place ≡ l.v-index;
  rest : l.v-index + position_or_len (λ v. are_equal l.term 0 v l.u) (drop l.v-index l.values)
      ≡ position_or_len (λ v. are_equal l.term 0 v l.u) l.values;
}
