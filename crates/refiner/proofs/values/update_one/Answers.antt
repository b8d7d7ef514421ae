use Rattle.std.proofs.Common.{◌≡◌, ◌<◌, ◌∙◌, length, map, get_or, set, ℕ, ap, sym, subst, arith}
use Rattle.std.specs.Prelude.{slice_get, Some, All}
use Rattle.std.proofs.lemmas.List.{get_or_read, length-map}
use Rattle.iface.specs.Structures.{IsCell}
use Rattle.edge_store.specs.declared.edge.Edge.{Edge}
use Rattle.edge_store.specs.Edges.{labels_of, labels_from, targets_from}
use Rattle.refinable_partition.specs.Blocks.{states_of}
use Rattle.refiner.specs.Cells.{IsParted, target_at}
use Rattle.refiner.specs.Making.{trit_in}
use Rattle.refiner.proofs.CellsStep.{cells_step, same_cell}
use Rattle.refiner.proofs.OneSource.{length-labels_at, cell_of, source_low, target_low}
use Rattle.refiner.proofs.RoundMade.{state_at}
use Rattle.refiner.proofs.values.update_one.Goals as goal
use Rattle.refiner.proofs.values.update_one.Goals.{After-index_mut}

-- what is known where the cell of the source is lent
module _ (g : _) (c : After-index_mut g) where
  low : (e : ℕ) → e < length c.args.store.now.edges →
      target_at c.args.store.now.edges e < states_of c.args.blocks.now
  low e he =
      (let t = target_low c.args.store.now.edges c.args.store.now.states e
      c.is_stored.ensures.targets_in he in
      omega (arith, t, c.requires.in_blocks))

  -- all edges of the group have that cell
  k : c.index-cell.result.now
      ≡ get_or c.args.cells.now.of.items (get_or c.args.edges.now 0 0) 0
  k =
      let first_is = c.requires.group.each 0 0 c.requires.group.some in
      get_or_read c.args.cells.now.of.items (get_or c.args.edges.now 0 0) c.index-cell.result.now
      (omega (arith, first_is.0, c.requires.cells.one_each)) c.index-cell.ensures 0

  -- the source is a state
  hx : c.args.x < length c.args.shapes.now
  hx =
      let first_is = c.requires.group.each 0 0 c.requires.group.some in
      let t = source_low c.args.store.now.edges c.args.store.now.states
      (get_or c.args.edges.now 0 0) c.is_stored.ensures.sources_in first_is.0 in
      omega (arith, t, first_is.1, c.requires.one_shape)

  cell : (shape : _) → slice_get c.args.shapes.now c.args.x ≡ Some shape →
      IsCell (g.I.Iface.fits c.args.iface.now) (g.I.Iface.toward c.args.iface.now)
      c.index_mut.result.now c.as_slice.result.now shape
      (labels_from c.args.store.now.edges c.args.x)
      (map (trit_in c.args.blocks.now c.args.coarse.now c.args.s c.args.c)
      (targets_from c.args.store.now.edges c.args.x))
  cell shape at =
      let E = c.args.store.now.edges in
      cell_of (g.I.Iface.node c.args.iface.now) (g.I.Iface.kin c.args.iface.now)
      (g.I.Iface.fits c.args.iface.now) (g.I.Iface.toward c.args.iface.now) c.args.shapes.now E
      c.requires.system c.args.blocks.now c.args.coarse.now c.args.s c.args.c c.args.x
      c.args.edges.now c.requires.group
      (λ e he. c.requires.in_range (target_at E e) (low e he))
      (λ e he b. c.requires.within (target_at E e) (low e he) b) c.args.cells.now.of.items
      c.args.cells.now.weights.items c.requires.cells c.index-cell.result.now
      c.index_mut.result.now c.as_slice.result.now shape at k c.index_mut.ensures.value
      (c.as_slice.ensures.value ∙ c.in_ok-read_labels.ensures)

pub update-requires-clause-cell : goal.update-requires-clause-cell
update-requires-clause-cell g c =
    let r = (goal.at.update-requires-clause-cell g c).After-index_mut in
    let here = state_at c.args.shapes.now c.args.x (hx g r) in (
      here.0,
      labels_from c.args.store.now.edges c.args.x,
      map (trit_in c.args.blocks.now c.args.coarse.now c.args.s c.args.c)
          (targets_from c.args.store.now.edges c.args.x),
      cell g r here.0 here.1,
    )

pub update-requires-clause-few : goal.update-requires-clause-few
update-requires-clause-few g c =
    let labels = labels_of c.args.store.now.edges in
    let all : All (λ e. e < length labels) c.args.edges.now = λ k d h.
    (let e = c.requires.group.each k d h in
    omega (arith, e.0, length-map c.args.store.now.edges (λ (e : Edge _). e.label))) in
    omega (
      arith,
      ap length (c.as_slice.ensures.value ∙ c.in_ok-read_labels.ensures),
      length-labels_at labels c.args.edges.now all,
      c.requires.few,
    )

-- the edges of the group have the cell of the first
pub part-requires-clause-each : goal.part-requires-clause-each
part-requires-clause-each g c = λ i d h.
    let r = (goal.at.part-requires-clause-each g c).After-index_mut in
    let E = c.args.store.now.edges in
    let group = c.args.edges.now in
    let e = c.requires.group.each i d h in (
      omega (arith, e.0, c.requires.cells.one_each),
      same_cell (g.I.Iface.toward c.args.iface.now) c.args.shapes.now E c.args.blocks.now
          c.args.coarse.now c.args.s c.args.c c.args.x group c.requires.group
          (λ e he. c.requires.in_range (target_at E e) (low g r e he))
          (λ e he b. c.requires.within (target_at E e) (low g r e he) b) c.args.cells.now.of.items
          c.args.cells.now.weights.items c.requires.cells (get_or group i d) e.0 e.1 e.2
          ∙ sym (k g r),
    )

pub returns-clause-cells : goal.returns-clause-cells
returns-clause-cells g c =
    let r = (goal.at.returns-clause-cells g c).After-index_mut in
    let E = c.args.store.now.edges in
    let p = c.args.blocks.now in
    let q = c.args.coarse.now in
    let x = c.args.x in
    let group = c.args.edges.now in
    let cells = c.args.cells.now.of.items in
    let weights = c.args.cells.now.weights.items in
    let here = state_at c.args.shapes.now x (hx g r) in
    let updated = c.in_ok-part.ensures.updated here.0 (labels_from E x)
    (map (trit_in p q c.args.s c.args.c) (targets_from E x)) (cell g r here.0 here.1) in
    let parted = subst
    (λ j. IsParted cells (set weights j c.update.new.weight) group c.in_ok-part.field-0.part
    c.in_ok-part-2.ensures.parted.0 c.part.new.self.of.items c.part.new.self.weights.items)
    (k g r) c.in_ok-part-2.ensures.parted.1 in
    cells_step (g.I.Iface.toward c.args.iface.now) c.args.shapes.now E p q c.args.s c.args.c x group
    c.requires.group
    (λ e he. c.requires.in_range (target_at E e) (low g r e he))
    (λ e he b. c.requires.within (target_at E e) (low g r e he) b) cells weights c.requires.cells
    c.part.new.self.of.items c.part.new.self.weights.items c.update.new.weight
    c.in_ok-part.field-0.part here.0 here.1 c.in_ok-part-2.ensures.parted.0 parted updated.rest_is
    updated.part_is

pub returns-clause-three : goal.returns-clause-three
returns-clause-three g c = λ shape at.
    (c.in_ok-part.ensures.updated shape (labels_from c.args.store.now.edges c.args.x)
    (map (trit_in c.args.blocks.now c.args.coarse.now c.args.s c.args.c)
    (targets_from c.args.store.now.edges c.args.x))
    (cell g (goal.at.returns-clause-three g c).After-index_mut shape at)).three_is

pub returns-clause-void : goal.returns-clause-void
returns-clause-void g c = λ shape at.
    (c.in_ok-part.ensures.updated shape (labels_from c.args.store.now.edges c.args.x)
    (map (trit_in c.args.blocks.now c.args.coarse.now c.args.s c.args.c)
    (targets_from c.args.store.now.edges c.args.x))
    (cell g (goal.at.returns-clause-void g c).After-index_mut shape at)).void_is

pub returns-clause-counted : goal.returns-clause-counted
returns-clause-counted g c =
    let labels = labels_of c.args.store.now.edges in
    let all : All (λ e. e < length labels) c.args.edges.now = λ k d h.
    (let e = c.requires.group.each k d h in
    omega (arith, e.0, length-map c.args.store.now.edges (λ (e : Edge _). e.label))) in
    omega (
      arith,
      ap length (c.as_slice.ensures.value ∙ c.in_ok-read_labels.ensures),
      length-labels_at labels c.args.edges.now all,
      c.in_ok-part.ensures.counted,
    )
