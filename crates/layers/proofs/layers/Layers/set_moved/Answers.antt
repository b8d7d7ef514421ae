use Rattle.std.proofs.Common.{ap, ◌∙◌}
use Rattle.iface.specs.Trits.{in_coarse, in_rest, in_splitter, without_splitter}
use Rattle.powerset_iface.proofs.Moves as moves
use Rattle.layers.specs.declared.weight.Opened.TheVariants as opened
use Rattle.layers.specs.Meanings.{class_at}
use Rattle.layers.proofs.Cells.{set_weight, set_value, set_toward}
use Rattle.layers.proofs.layers.Layers.set_moved.Goals as goal

pub overflow_sub-rest : goal.overflow_sub-rest
overflow_sub-rest c =
    let k = c.requires.cell.3 in
    let kind = class_at c.args.self.now.shapes.items c.requires.cell.0 in
    let is =
    set_weight c.args.self.now.weights.items kind c.requires.cell.0 c.requires.cell.1
    (in_coarse c.requires.cell.2) c.args.set k.weight_is in
    moves.fewer _ _ _ _ k.one_each k.are_trits is.1 k.moved_is

pub returns : goal.returns
returns c = record {
  updated = λ shape labels trits k.
      let ws = c.args.self.now.weights.items in
      let d = c.args.self.now.denominator in
      let kind = class_at c.args.self.now.shapes.items shape in
      let is = set_weight ws kind shape labels (in_coarse trits) c.args.set k.weight_is in
      record {
        rest_is =
            ap opened.Set (moves.rest_is _ _ _ _ k.one_each k.are_trits is.1 k.moved_is)
            ∙ set_toward ws kind is.0 shape labels (in_rest trits);
        part_is =
            ap opened.Set (moves.part_is _ _ _ _ k.one_each k.are_trits is.1 k.moved_is)
            ∙ set_toward ws kind is.0 shape labels (in_splitter trits);
        three_is =
            moves.three_is _ _ _ _ k.one_each k.are_trits is.1 k.moved_is _ c.bits.ensures
            ∙ set_value kind is.0 d ws labels trits;
        void_is =
            moves.void_is _ _ _ _ k.one_each k.are_trits is.1 k.moved_is _ c.bits-2.ensures
            ∙ set_value kind is.0 d ws labels (without_splitter trits);
      };
}
