use Rattle.std.proofs.Common.{◌∙◌, ◌==◌, ap, length, map, min, refl, sym}
use Rattle.polynomial_iface.specs.Polys.{arity, value_of_form}
use Rattle.polynomial_iface.specs.Places.{trits_from}
use Rattle.layers.specs.Meanings.{class_at, form_of}
use Rattle.layers.proofs.Cells.{number_is, marks_count, many_weight, many_value}
use Rattle.layers.proofs.layers.Layers.marks_moved.Goals as goal

pub moved_marks-requires : goal.moved_marks-requires
moved_marks-requires c =
    let k = c.requires.cell.3 in
    let ws = c.args.self.now.weights.items in
    let kind = class_at c.args.self.now.shapes.items c.requires.cell.0 in
    let count =
    marks_count ws kind c.requires.cell.0 c.requires.cell.1 c.requires.cell.2 k.fit k.one_each
    k.are_trits c.args.places c.args.moved.now k.weight_is k.moved_is in
    let number =
    number_is ws kind c.requires.cell.0 c.requires.cell.1 c.requires.cell.2 k.fit k.one_each
    k.are_trits c.args.places c.args.moved.now k.weight_is k.moved_is in
    record {
      one_each =
          ap length c.as_slice.ensures.all_of_them ∙ count
          ∙ ap (λ n. arity (form_of (class_at c.args.self.now.shapes.items n))) (sym number)
          ∙ ap arity (sym c.form-form.ensures);
    }

pub returns : goal.returns
returns c = record {
  updated = λ shape labels trits k.
      let shapes = c.args.self.now.shapes.items in
      let ws = c.args.self.now.weights.items in
      let kind = class_at shapes shape in
      let w = c.args.places in
      let moved = c.args.moved.now in
      let d = c.args.self.now.denominator in
      let same = ap (λ m. trits_from m 0 moved) c.as_slice.ensures.all_of_them in
      let form =
      c.form-form.ensures
      ∙ ap (λ n. form_of (class_at shapes n))
      (number_is ws kind shape labels trits k.fit k.one_each k.are_trits w moved k.weight_is
      k.moved_is) in
      record {
        rest_is =
            many_weight ws kind shape labels trits k.fit k.one_each k.are_trits w moved k.weight_is
            k.moved_is w.shape (λ t. t == 1) _ refl
            (c.in_ok-marks.ensures.rest ∙ ap (map (λ t. t == 1)) same);
        part_is =
            many_weight ws kind shape labels trits k.fit k.one_each k.are_trits w moved k.weight_is
            k.moved_is w.shape (λ t. t == 2) _ refl
            (c.in_ok-marks.ensures.part ∙ ap (map (λ t. t == 2)) same);
        three_is =
            many_value ws kind shape labels trits k.fit k.one_each k.are_trits w moved k.weight_is
            k.moved_is d c.form-form.result _ (λ ts. ts) form
            (c.in_ok-marks.ensures.three ∙ ap (value_of_form c.form-form.result) same);
        void_is =
            many_value ws kind shape labels trits k.fit k.one_each k.are_trits w moved k.weight_is
            k.moved_is d c.form-form.result _ (map (λ t. min 1 t)) form
            (c.in_ok-marks.ensures.void
            ∙ ap (λ ts. value_of_form c.form-form.result (map (λ t. min 1 t) ts)) same);
      };
}
