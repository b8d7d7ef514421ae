use Rattle.std.proofs.Common.{◌<◌, ◌∙◌, sym, ap, subst, refl, length, slice_get, arith}
use Rattle.std.proofs.lemmas.Option.{slice_get_read}
use Rattle.typing.specs.Values.{parts}
use Rattle.structures.proofs.ChildAt.{zip_inside, zip_at}
use Rattle.structures.proofs.children.part_beside.Goals as goal

pub offset_bounds-nodes-i : goal.offset_bounds-nodes-i
offset_bounds-nodes-i c =
    let inside =
    zip_inside c.args.nodes.now (parts c.args.value.now) c.args.i c.requires.there in
    grind (arith, inside.0)

pub bounds-nodes-i : goal.bounds-nodes-i
bounds-nodes-i c =
    (zip_inside c.args.nodes.now (parts c.args.value.now) c.args.i c.requires.there).0

pub offset_bounds-parts-i : goal.offset_bounds-parts-i
offset_bounds-parts-i c =
    let inside =
    zip_inside c.args.nodes.now (parts c.args.value.now) c.args.i c.requires.there in
    grind (arith, inside.1, ap length c.parts.ensures, c.parts.type_inv.1)

pub bounds-parts-i : goal.bounds-parts-i
bounds-parts-i c =
    subst (λ l. c.args.i < length l) (sym c.parts.ensures)
    (zip_inside c.args.nodes.now (parts c.args.value.now) c.args.i c.requires.there).1

pub returns : goal.returns
returns c =
    let inside : c.args.i < length c.parts.result.now =
    subst (λ l. c.args.i < length l) (sym c.parts.ensures)
    (zip_inside c.args.nodes.now (parts c.args.value.now) c.args.i c.requires.there).1 in
    zip_at c.args.nodes.now (parts c.args.value.now) c.args.i _ c.requires.there
    (ap (λ l. slice_get l c.args.i) (sym c.parts.ensures)
    ∙ slice_get_read c.parts.result.now _ c.args.i _ refl inside c.index-parts-i.is)
