use Rattle.std.proofs.Common.{◌≡◌, ◌<◌, ◌∙◌, sym, ap, subst, refl, length, slice_get, Some, arith}
use Rattle.std.specs.Option.{option_map}
use Rattle.std.proofs.lemmas.List.{length-map}
use Rattle.std.proofs.lemmas.Option.{slice_get_read, slice_get-map}
use Rattle.std.specs.Prelude.{ℤ, slice_index}
use Rattle.typing.specs.declared.value.Value.{Value}
use Rattle.typing.specs.Values.{entries}
use Rattle.typing.specs.Layers.{weighed}
use Rattle.structures.proofs.ChildAt.{value_there, child_there}
use Rattle.structures.proofs.children.weighed_at.Goals as goal

pub offset_bounds-entries-i : goal.offset_bounds-entries-i
offset_bounds-entries-i c =
    let inside : c.args.i < length (weighed c.args.value.now) =
    value_there c.args.nodes.now 0 (weighed c.args.value.now) c.args.i c.requires.there in
    let same : length (weighed c.args.value.now) ≡ length (entries c.args.value.now) =
    length-map (entries c.args.value.now) (λ (e : Value × ℤ). e.0) in
    grind (arith, inside, same, ap length c.entries.ensures, c.entries.type_inv.1)

pub bounds-entries-i : goal.bounds-entries-i
bounds-entries-i c =
    let same : length (weighed c.args.value.now) ≡ length (entries c.args.value.now) =
    length-map (entries c.args.value.now) (λ (e : Value × ℤ). e.0) in
    subst (λ l. c.args.i < length l) (sym c.entries.ensures)
    (subst (λ n. c.args.i < n) same
    (value_there c.args.nodes.now 0 (weighed c.args.value.now) c.args.i c.requires.there))

pub returns : goal.returns
returns c =
    let same : length (weighed c.args.value.now) ≡ length (entries c.args.value.now) =
    length-map (entries c.args.value.now) (λ (e : Value × ℤ). e.0) in
    let inside : c.args.i < length c.entries.result.now =
    subst (λ l. c.args.i < length l) (sym c.entries.ensures)
    (subst (λ n. c.args.i < n) same
    (value_there c.args.nodes.now 0 (weighed c.args.value.now) c.args.i
    c.requires.there)) in
    child_there c.args.nodes.now 0 (weighed c.args.value.now) c.args.i c.requires.there _
    (slice_get-map (λ (e : Value × ℤ). e.0) (entries c.args.value.now) c.args.i
    ∙ ap (option_map (λ (e : Value × ℤ). e.0))
    (ap (λ l. slice_get l c.args.i) (sym c.entries.ensures)
    ∙ slice_get_read c.entries.result.now _ c.args.i _ refl inside c.index-entries-i.is))
    ∙ ap (λ (e : Value × ℤ). Some (slice_index c.args.nodes.now 0, e.0)) c.index-entries-i.is
