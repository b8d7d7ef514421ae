use Rattle.std.proofs.Common.{◌≡◌, map, drop}
use Rattle.std.specs.List.{list_all}
use Rattle.fitting.specs.declared.fitted.Fitted.{out-Fitted}
use Rattle.fitting.specs.declared.fitted.Fitted.TheOpen.{Fitted-F}
use Rattle.fitting.specs.Scaling.{lists_within}
use Rattle.fitting.proofs.ScaleLoops.{short_lists}
use Rattle.fitting.proofs.bounds.+lists_within.Given as goal

-- the answer for the rest is the answer for all
abbrev pub invariant-all_short-loop-value : goal.invariant-all_short-loop-value
invariant-all_short-loop-value l = record {
  all : l.value-items ≡ l.fitted;
  rest :
      list_all (λ b. b) (map (lists_within l.limit) (drop l.value-index l.value-items))
      ≡ list_all (λ b. b) (map (lists_within l.limit) l.fitted);
}

abbrev pub invariant-has_short_lists-loop-value : goal.invariant-has_short_lists-loop-value
invariant-has_short_lists-loop-value l = record {
  all : out-Fitted l.fitted ≡ Fitted-F.Weights l.value-items;
  rest :
      list_all (λ e. e.0) (short_lists l.limit (drop l.value-index l.value-items))
      ≡ list_all (λ e. e.0) (short_lists l.limit l.value-items);
}
