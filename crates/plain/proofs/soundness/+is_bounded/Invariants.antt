use Rattle.std.proofs.Common.{◌≡◌, map, drop}
use Rattle.std.specs.List.{list_all}
use Rattle.typing.specs.declared.value.Value.{out-Value}
use Rattle.typing.specs.declared.value.Value.TheOpen.{Value-F}
use Rattle.typing.specs.Bounds.{is_bounded}
use Rattle.plain.proofs.Bounded.{all_pass, tested}
use Rattle.plain.proofs.soundness.+is_bounded.Given as goal

-- the answer for the rest is the answer for all
abbrev pub invariant-each_bounded-loop-value : goal.invariant-each_bounded-loop-value
invariant-each_bounded-loop-value l = record {
  all : l.value-items ≡ l.values;
  rest : list_all (λ b. b) (map is_bounded (drop l.value-index l.value-items)) ≡ list_all (λ b. b)
      (map is_bounded l.values);
}

abbrev pub invariant-is_bounded-loop-value : goal.invariant-is_bounded-loop-value
invariant-is_bounded-loop-value l = record {
  all : out-Value l.value ≡ Value-F.Weights l.value-items;
  rest : all_pass (tested (drop l.value-index l.value-items)) ≡ all_pass (tested l.value-items);
}
