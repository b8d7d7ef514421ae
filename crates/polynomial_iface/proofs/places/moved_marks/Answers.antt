use Rattle.std.proofs.Common.{◌∙◌, ap, length, map, min}
use Rattle.std.proofs.lemmas.List.{length-map}
use Rattle.polynomial_iface.specs.Places.{trits_from}
use Rattle.polynomial_iface.proofs.Told.{length-trits_from}
use Rattle.polynomial_iface.proofs.places.moved_marks.Goals as goal

pub value_at-requires : goal.value_at-requires
value_at-requires c =
    ap length c.in_ok-trits.ensures ∙ length-trits_from c.args.marks.now 0 c.args.moved.now
    ∙ c.requires.one_each

pub value_at-requires-2 : goal.value_at-requires-2
value_at-requires-2 c =
    ap length (c.in_ok-without.ensures ∙ ap (map (λ t. min 1 t)) (c.as_slice.ensures.value
    ∙ c.in_ok-trits.ensures))
    ∙ length-map (trits_from c.args.marks.now 0 c.args.moved.now) (λ t. min 1 t)
    ∙ length-trits_from c.args.marks.now 0 c.args.moved.now ∙ c.requires.one_each
