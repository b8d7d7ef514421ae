use Rattle.std.proofs.Common.{◌-◌, ap, ◌∙◌, refl}
use Rattle.layers.specs.Meanings.{class_at, form_of}
use Rattle.layers.proofs.Cells.{few_moved, fewer, shape_is, rest_is, part_weight, three_is, void_is}
use Rattle.layers.proofs.layers.Layers.places_moved.Goals as goal

pub bits_at-part-requires : goal.bits_at-part-requires
bits_at-part-requires c =
    let k = c.requires.cell.3 in
    let ws = c.args.self.now.weights.items in
    let kind = class_at c.args.self.now.shapes.items c.requires.cell.0 in
    let few =
    few_moved ws kind c.requires.cell.0 c.requires.cell.1 c.requires.cell.2 k.fit k.one_each
    k.are_trits c.args.places c.args.moved.now k.weight_is k.moved_is in
    record { few = few }

pub overflow_sub-rest : goal.overflow_sub-rest
overflow_sub-rest c =
    let k = c.requires.cell.3 in
    let ws = c.args.self.now.weights.items in
    let kind = class_at c.args.self.now.shapes.items c.requires.cell.0 in
    rw c.bits_at-part.ensures
    (fewer ws kind c.requires.cell.0 c.requires.cell.1 c.requires.cell.2 k.fit k.one_each
    k.are_trits c.args.places c.args.moved.now k.weight_is k.moved_is)

pub returns : goal.returns
returns c = record {
  updated = λ shape labels trits k.
      let shapes = c.args.self.now.shapes.items in
      let ws = c.args.self.now.weights.items in
      let kind = class_at shapes shape in
      let w = c.args.places in
      let moved = c.args.moved.now in
      let d = c.args.self.now.denominator in
      let form =
      c.form-form.ensures
      ∙ ap (λ n. form_of (class_at shapes n))
      (shape_is ws kind shape labels trits k.fit k.one_each k.are_trits w moved k.weight_is
      k.moved_is) in
      record {
        rest_is =
            rest_is ws kind shape labels trits k.fit k.one_each k.are_trits w moved k.weight_is
            k.moved_is _ _ refl (ap (λ n. w.marks - n) c.bits_at-part.ensures);
        part_is =
            part_weight ws kind shape labels trits k.fit k.one_each k.are_trits w moved k.weight_is
            k.moved_is _ _ refl c.bits_at-part.ensures;
        three_is =
            three_is ws kind shape labels trits k.fit k.one_each k.are_trits w moved k.weight_is
            k.moved_is d _ c.bits_at-part.result c.form-form.result _ form refl
            c.bits_at-part.ensures c.in_ok-three.ensures;
        void_is =
            void_is ws kind shape labels trits k.fit k.one_each k.are_trits w moved k.weight_is
            k.moved_is d _ c.form-form.result _ form refl c.in_ok-void.ensures;
      };
}
