use Rattle.std.proofs.Common.{◌≡◌, map, take}
use Rattle.typing.specs.declared.value.Value.{out-Value}
use Rattle.typing.specs.declared.value.Value.TheOpen.{Value-F}
use Rattle.typing.specs.Values.{relabelled}
use Rattle.typing.proofs.moved.+relabelled.Given as goal

abbrev pub invariant-map_each-loop-value : goal.invariant-map_each-loop-value
invariant-map_each-loop-value l = record {
  all : l.value-items ≡ l.values;
  made : l.new ≡ map (relabelled l.labels) (take l.value-index l.value-items);
}

abbrev pub invariant-relabelled-loop-value : goal.invariant-relabelled-loop-value
invariant-relabelled-loop-value l = record {
  all : out-Value l.value ≡ Value-F.Weights l.value-items;
  made : l.new ≡ map (λ e. (relabelled l.labels e.0, e.1)) (take l.value-index l.value-items);
}
