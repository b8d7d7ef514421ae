use Rattle.std.proofs.Common.{◌<◌, ◌∙◌, sym, ap, subst, refl, length, slice_get, arith}
use Rattle.std.proofs.lemmas.Option.{slice_get_read}
use Rattle.typing.specs.Values.{parts}
use Rattle.structures.proofs.ChildAt.{value_there, child_there}
use Rattle.structures.proofs.children.part_at.Goals as goal

pub offset_bounds-parts-i : goal.offset_bounds-parts-i
offset_bounds-parts-i c =
    let inside : c.args.i < length (parts c.args.value.now) =
    value_there c.args.nodes.now 0 (parts c.args.value.now) c.args.i c.requires.there in
    grind (arith, inside, ap length c.parts.ensures, c.parts.type_inv.1)

pub bounds-parts-i : goal.bounds-parts-i
bounds-parts-i c =
    subst (λ l. c.args.i < length l) (sym c.parts.ensures)
    (value_there c.args.nodes.now 0 (parts c.args.value.now) c.args.i c.requires.there)

pub returns : goal.returns
returns c =
    let inside : c.args.i < length c.parts.result.now =
    subst (λ l. c.args.i < length l) (sym c.parts.ensures)
    (value_there c.args.nodes.now 0 (parts c.args.value.now) c.args.i c.requires.there) in
    child_there c.args.nodes.now 0 (parts c.args.value.now) c.args.i c.requires.there _
    (ap (λ l. slice_get l c.args.i) (sym c.parts.ensures)
    ∙ slice_get_read c.parts.result.now _ c.args.i _ refl inside c.index-parts-i.is)
