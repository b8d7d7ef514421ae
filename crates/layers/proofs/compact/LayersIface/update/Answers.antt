use Rattle.std.proofs.Common.{ap, ◌∙◌, sym}
use Rattle.layers.proofs.Packs.{cell_opened, updated_packed}
use Rattle.layers.proofs.compact.LayersIface.update.Goals as goal

pub moved_out-requires-clause-cell : goal.moved_out-requires-clause-cell
moved_out-requires-clause-cell g c =
    let cell = c.requires.cell in (
      cell.0,
      cell.1,
      cell.2,
      rw c.in_ok-unpacked.ensures (cell_opened c.args.self.now.denominator
          c.args.self.now.shapes.items c.args.self.now.weights.items c.args.moved.now cell.0 cell.1
          cell.2 c.args.weight.now cell.3),
    )

pub returns-clause-updated : goal.returns-clause-updated
returns-clause-updated g c shape labels trits cell =
    let d = c.args.self.now.denominator in
    let shapes = c.args.self.now.shapes.items in
    let ws = c.args.self.now.weights.items in
    let here = cell_opened d shapes ws c.args.moved.now shape labels trits c.args.weight.now cell in
    updated_packed d shapes ws c.args.moved.now shape labels trits _ _ _ _ _ _ c.in_ok-kept.ensures
    c.in_ok-part.ensures
    (c.in_ok-rest.ensures.updated shape labels trits (rw c.in_ok-unpacked.ensures here))
