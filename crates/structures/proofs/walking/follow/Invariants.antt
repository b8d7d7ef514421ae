use Rattle.std.proofs.Common.{◌-◌, ◌≤◌, ◌<◌, ◌^◌, length}
use Rattle.typing.specs.Layers.{sorted_count}
use Rattle.structures.specs.Walk.{IsWalked}
use Rattle.structures.proofs.walking.follow.Given as goal

abbrev pub invariant-loop-next : goal.invariant-loop-next
invariant-loop-next l = record {
  walked : IsWalked l.term l.values l.places l.sources.items l.targets.items l.next;
  within : l.next ≤ length l.places;
  few : length l.places < 2 ^ 26;
  few_edges : length l.targets.items < 2 ^ 26;
}

abbrev pub decreases-loop-next : goal.decreases-loop-next
decreases-loop-next l = sorted_count l.term l.values - l.next
