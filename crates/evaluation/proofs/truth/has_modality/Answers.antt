use Rattle.std.proofs.Common.{◌≡◌, ◌+◌, Bool, ◌&&◌, length, sym, ap, ◌∙◌, subst}
use Rattle.std.specs.Prelude.{slice_index, slice_range}
use Rattle.std.proofs.lemmas.Bool.{eq-eqb}
use Rattle.std.proofs.lemmas.Option.{same_Some}
use Rattle.functor_terms.specs.Terms.{node_at}
use Rattle.typing.specs.Layers.{Place}
use Rattle.edge_store.specs.Edges.{chosen}
use Rattle.structures.specs.Structures.{sources_from}
use Rattle.formulas.specs.Truth.{is_value}
use Rattle.formula_checker.specs.LayerValues.{layer_value}
use Rattle.evaluation.proofs.EdgeLaws.{IsEdgeRange, edge_range, edges_chosen, place_inside, place_within}
use Rattle.evaluation.proofs.truth.has_modality.Goals as goal

pub trits_from-requires : goal.trits_from-requires
trits_from-requires c =
    let s = c.args.structures.now in
    let range = subst (λ fs. IsEdgeRange fs (length c.args.trits.now) c.args.x)
    (sym c.as_slice.ensures.value)
    (edge_range c.args.c.now.term c.args.c.now.values.items s.places s.firsts.items
    s.targets.items c.requires.laid_out c.args.x (length c.args.trits.now) c.requires.inside
    c.requires.one_each) in
    record { inside = range.inside; rises = range.rises; ends = range.ends }

pub has_value-requires-clause-inside : goal.has_value-requires-clause-inside
has_value-requires-clause-inside c =
    let s = c.args.structures.now in
    place_inside c.args.c.now.term c.args.c.now.values.items s.places s.firsts.items
    s.targets.items c.requires.laid_out c.args.x _ c.get-p.ensures.place

pub has_value-requires-clause-within : goal.has_value-requires-clause-within
has_value-requires-clause-within c =
    let s = c.args.structures.now in
    place_within c.args.c.now.term c.args.c.now.values.items s.places s.firsts.items
    s.targets.items c.requires.laid_out c.args.x _ c.get-p.ensures.place

pub returns-then-p-node : goal.returns-then-p-node
returns-then-p-node c p e =
    let t = c.args.c.now.term in
    let d = c.args.c.now.denominator in
    let s = c.args.structures.now in
    let x = c.args.x in
    let trits = c.args.trits.now in
    let value = c.args.value.now in
    let first : Place = (c.get-p.result.0, c.get-p.result.1.now) in
    let same : first ≡ p = same_Some first p (sym c.get-p.ensures.place ∙ e) in
    let here : p.0 ≡ c.args.node = sym (ap (λ (q : Place). q.0) same) ∙ c.if-p-node.true in
    let edges : c.trits_from.result.now ≡ chosen x (sources_from t 0 s.places) trits =
    c.trits_from.ensures
    ∙ ap (λ fs. slice_range trits (slice_index fs x) (slice_index fs (x + 1)))
    c.as_slice.ensures.value
    ∙ edges_chosen t c.args.c.now.values.items s.places s.firsts.items s.targets.items
    c.requires.laid_out trits x c.requires.inside c.requires.one_each in
    let rest : Bool = is_value (layer_value d (node_at t p.0) p.1
    (chosen x (sources_from t 0 s.places) trits)) value in
    c.has_value.ensures
    ∙ (λ i. is_value (layer_value d (node_at t (same i).0) (same i).1 (edges i)) value)
    ∙ sym (ap (λ b. b && rest) (eq-eqb p.0 c.args.node here))
