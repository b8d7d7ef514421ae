use Rattle.std.proofs.Common.{◌∙◌, ap, length}
use Rattle.polynomial_iface.specs.Polys.{arity, toward_of_form, value_of_form}
use Rattle.polynomial_iface.specs.PolyLaws.{length-each, length-numbers_from}
use Rattle.polynomial_iface.proofs.Told.{replicate-each, replicate-true}
use Rattle.polynomial_iface.proofs.polys.PolysIface.init.Goals as goal

pub value_at-requires : goal.value_at-requires
value_at-requires g c =
    let labels = c.args.labels.now in
    let twos = c.in_ok-trits.ensures.items_if_clones_equal (λ y e. e) ∙ replicate-each labels in
    ap length twos ∙ length-each 2 labels ∙ ap length c.requires.fit
    ∙ length-numbers_from 0 (arity c.args.shape.now.form)

pub returns-clause-weight : goal.returns-clause-weight
returns-clause-weight g c =
    ap (toward_of_form c.args.shape.now.form)
    (c.from_vec.ensures.all_of_them ∙ c.in_ok-marks.ensures.items_if_clones_equal (λ y e. e)
    ∙ replicate-true c.args.labels.now)

pub returns-clause-three : goal.returns-clause-three
returns-clause-three g c =
    c.value_at.ensures ∙ ap (value_of_form c.args.shape.now.form)
    (c.in_ok-trits.ensures.items_if_clones_equal (λ y e. e) ∙ replicate-each c.args.labels.now)
