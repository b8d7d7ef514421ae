use Rattle.std.proofs.Common.{◌≡◌, ◌+◌, ◌-◌, ◌≤◌, ◌^◌, List, [], length}
use Rattle.refinable_partition.specs.Blocks.{block_at}
use Rattle.sorted_systems.specs.Systems.{system_from}
use Rattle.refiner.specs.Cells.{AreCells, AreCounted, scanned}
use Rattle.refiner.specs.History.{Moment}
use Rattle.refiner.specs.Making.{LeadsTo}
use Rattle.refiner.specs.Ready.{IsReady, moment_at}
use Rattle.refiner.proofs.round.all_rounds.Given as goal

abbrev pub invariant-loop-x : goal.invariant-loop-x
invariant-loop-x g l = record {
  history :
      (later : List Moment) ×
      LeadsTo (g.I.Iface.node l.iface) (g.I.Iface.value l.iface) (system_from 0 l.shapes l.store.edges)
      (moment_at l.initial.progress) later l.history.rounds (moment_at l.progress)
      l.progress.scans.items;
  begins : l.history.splits ≡ [];
  ready : IsReady l.store.states l.number l.progress;
  number_is : l.number ≡ length l.history.rounds;
  few : l.number ≤ l.progress.coarse.count;
  rise : l.steps ≡ l.initial.steps + l.labels;
  counted : l.labels ≡ scanned l.progress.scans.items l.store.edges;
  cells : AreCells (g.I.Iface.toward l.iface) l.shapes l.store.edges (λ _. block_at l.progress.coarse)
      l.cells.of.items l.cells.weights.items;
  sizes : AreCounted l.cells.of.items l.cells.sizes.items l.cells.weights.items;
  few_cells : length l.cells.weights.items ≤ 2 ^ 26 + l.labels;
}

abbrev pub decreases-loop-x : goal.decreases-loop-x
decreases-loop-x g l = l.store.states - l.progress.coarse.count
