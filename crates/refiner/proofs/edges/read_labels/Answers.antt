use Rattle.std.proofs.Common.{◌≡◌, ◌<◌, ◌∙◌, [], ◌∷◌, ◌++◌, Some, length, get_or, ap, sym, refl, arith}
use Rattle.std.specs.Prelude.{slice_get}
use Rattle.std.proofs.lemmas.Option.{slice_get_read}
use Rattle.std.proofs.lemmas.List.{length-map}
use Rattle.edge_store.specs.declared.edge.Edge.{Edge}
use Rattle.edge_store.specs.Edges.{labels_of}
use Rattle.refiner.proofs.Gathered.{labels_more}
use Rattle.refiner.proofs.edges.read_labels.Goals as goal

pub loop-e-preserved : goal.loop-e-preserved
loop-e-preserved g c =
    let labels = labels_of c.args.store.now.edges in
    let e = get_or c.args.edges.now c.loop-e.e-index 0 in
    let a = c.label.result.now in
    let h : e < length labels =
    omega (
      arith,
      c.requires.in_range c.loop-e.e-index 0 c.loop-e-test.true,
      length-map c.args.store.now.edges (λ (e : Edge _). e.label),
    ) in
    let at : slice_get labels e ≡ Some a =
    slice_get_read labels (length labels) e a refl h (c.label.ensures.label a) in
    c.in_ok-push.ensures.items ∙ ap (λ l. l ++ a ∷ []) c.loop-e.invariant
    ∙ sym (labels_more labels c.args.edges.now c.loop-e.e-index a c.loop-e-test.true at)
