use Rattle.std.proofs.Common.{◌≡◌, map, drop}
use Rattle.std.specs.List.{list_all}
use Rattle.typing.specs.declared.value.Value.{out-Value}
use Rattle.typing.specs.declared.value.Value.TheOpen.{Value-F}
use Rattle.typing.specs.Values.{states_below}
use Rattle.typing.proofs.MapLaws.{layer_below}
use Rattle.plain.proofs.soundness.+states_below.Given as goal

-- the answer for the rest is the answer for all
abbrev pub invariant-each_below-loop-value : goal.invariant-each_below-loop-value
invariant-each_below-loop-value l = record {
  all : l.value-items ≡ l.values;
  rest : list_all (λ b. b) (map (states_below l.n) (drop l.value-index l.value-items))
      ≡ list_all (λ b. b) (map (states_below l.n) l.values);
}

abbrev pub invariant-states_below-loop-value : goal.invariant-states_below-loop-value
invariant-states_below-loop-value l = record {
  all : out-Value l.value ≡ Value-F.Weights l.value-items;
  rest : layer_below l.n (Value-F.Weights (drop l.value-index l.value-items)) ≡ states_below l.n
      l.value;
}
