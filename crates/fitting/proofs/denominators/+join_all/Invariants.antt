use Rattle.std.proofs.Common.{◌≡◌, drop}
use Rattle.fitting.specs.declared.fitted.Fitted.{out-Fitted}
use Rattle.fitting.specs.declared.fitted.Fitted.TheOpen.{Fitted-F}
use Rattle.fitting.specs.Joining.{joined}
use Rattle.fitting.proofs.JoinLoops.{entry_denominators, list_denominators}
use Rattle.fitting.proofs.denominators.+join_all.Given as goal

-- what is joined with the rest is what is joined with all
abbrev pub invariant-join_all-loop-value : goal.invariant-join_all-loop-value
invariant-join_all-loop-value l = record {
  all : out-Fitted l.fitted ≡ Fitted-F.Weights l.value-items;
  rest :
      joined l.so_far (entry_denominators (drop l.value-index l.value-items))
      ≡ joined l.l (entry_denominators l.value-items);
}

abbrev pub invariant-join_each-loop-value : goal.invariant-join_each-loop-value
invariant-join_each-loop-value l = record {
  all : l.value-items ≡ l.fitted;
  rest :
      joined l.so_far (list_denominators (drop l.value-index l.value-items))
      ≡ joined l.l (list_denominators l.fitted);
}
