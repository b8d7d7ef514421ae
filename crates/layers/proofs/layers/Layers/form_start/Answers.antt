use Rattle.std.proofs.Common.{◌∙◌, ap, length, sym}
use Rattle.std.specs.Prelude.{nat_le}
use Rattle.polynomial_iface.specs.PolyLaws.{length-each}
use Rattle.polynomial_iface.specs.Polys.{arity}
use Rattle.polynomial_iface.proofs.Told.{replicate-each, replicate-true}
use Rattle.layers.specs.Meanings.{class_at, form_of}
use Rattle.layers.proofs.Cells.{of_form, as_many, few_marks, all_weight, all_twos, all_many, many_twos}
use Rattle.layers.proofs.layers.Layers.form_start.Goals as goal

pub bits_at-marks-requires : goal.bits_at-marks-requires
bits_at-marks-requires c =
    let k = class_at c.args.self.now.shapes.items c.args.shape in
    let is = of_form k c.args.form c.requires.class in
    let places = ap (λ f. nat_le (arity f) 64) (sym is.1) ∙ sym c.has_few_places.ensures in
    record {
      few =
          few_marks c.args.self.now.weights.items k is.0 c.args.labels.now c.requires.fit
          (places ∙ c.if-has_few_places.true);
    }

pub returns-in_ok-three-clause-weight : goal.returns-in_ok-three-clause-weight
returns-in_ok-three-clause-weight c =
    let k = class_at c.args.self.now.shapes.items c.args.shape in
    let is = of_form k c.args.form c.requires.class in
    let places = ap (λ f. nat_le (arity f) 64) (sym is.1) ∙ sym c.has_few_places.ensures in
    all_weight c.args.self.now.weights.items k is.0 c.args.labels.now c.requires.fit
    (places ∙ c.if-has_few_places.true)
    c.args.shape _ c.bits_at-marks.ensures

pub returns-in_ok-three-clause-three : goal.returns-in_ok-three-clause-three
returns-in_ok-three-clause-three c =
    let k = class_at c.args.self.now.shapes.items c.args.shape in
    let is = of_form k c.args.form c.requires.class in
    all_twos c.args.self.now.weights.items k is.0 c.args.labels.now c.requires.fit
    c.args.self.now.denominator _ c.args.form _ is.1 c.bits_at-marks.ensures c.in_ok-three.ensures

pub value_at-requires : goal.value_at-requires
value_at-requires c =
    let k = class_at c.args.self.now.shapes.items c.args.shape in
    let is = of_form k c.args.form c.requires.class in
    let labels = c.args.labels.now in
    let twos = c.in_ok-trits.ensures.items_if_clones_equal (λ y e. e) ∙ replicate-each labels in
    ap length twos ∙ length-each 2 labels
    ∙ as_many c.args.self.now.weights.items k is.0 labels c.requires.fit ∙ ap arity (sym is.1)

pub returns-in_ok-marks-clause-weight : goal.returns-in_ok-marks-clause-weight
returns-in_ok-marks-clause-weight c =
    let k = class_at c.args.self.now.shapes.items c.args.shape in
    let is = of_form k c.args.form c.requires.class in
    let places = ap (λ f. nat_le (arity f) 64) (sym is.1) ∙ sym c.has_few_places.ensures in
    all_many c.args.self.now.weights.items k is.0 c.args.labels.now c.requires.fit
    (places ∙ c.if-has_few_places.false)
    c.args.shape _
    (c.from_vec.ensures.all_of_them ∙ c.in_ok-marks.ensures.items_if_clones_equal (λ y e. e)
    ∙ replicate-true c.args.labels.now)

pub returns-in_ok-marks-clause-three : goal.returns-in_ok-marks-clause-three
returns-in_ok-marks-clause-three c =
    let k = class_at c.args.self.now.shapes.items c.args.shape in
    let is = of_form k c.args.form c.requires.class in
    let labels = c.args.labels.now in
    many_twos c.args.self.now.weights.items k is.0 labels c.requires.fit
    c.args.self.now.denominator c.args.form _ c.in_ok-trits.trits.items is.1
    (c.in_ok-trits.ensures.items_if_clones_equal (λ y e. e) ∙ replicate-each labels)
    c.value_at.ensures
