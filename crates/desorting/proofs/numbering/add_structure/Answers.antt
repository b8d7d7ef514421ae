use Rattle.std.proofs.Common.{◌≡◌, ◌<◌, ◌^◌, ◌∙◌, length, slice_get, Some, sym, ap, subst, arith}
use Rattle.functor_terms.specs.Terms.{node_at}
use Rattle.typing.specs.Layers.{Place, leaves_of}
use Rattle.structures.proofs.Leaves.{leaves-children}
use Rattle.desorting.specs.Numbered.{kind_of, AreLabelled}
use Rattle.layers.specs.declared.shape.Kind.{Kind}
use Rattle.layers.specs.declared.shape.LayerShape.{LayerShape}
use Rattle.desorting.proofs.numbering.add_structure.Goals as goal

-- a kind at the node of a place
abbrev shape_at : Place → Kind → LayerShape
shape_at x k = record { node = x.0; kind = k }

pub overflow_cast-count : goal.overflow_cast-count
overflow_cast-count c =
    let x : Place = (c.args.node, c.args.value.now) in
    let count : c.child_count-count.result < 2 ^ 32 =
    omega (
      arith,
      c.requires.few,
      c.child_count-count.ensures.count,
      ap length (leaves-children c.args.term.now x),
    ) in
    grind (arith, count)

pub returns-clause-shape : goal.returns-clause-shape
returns-clause-shape c =
    let t = c.args.term.now in
    let x : Place = (c.args.node, c.args.value.now) in
    let count : c.child_count-count.result ≡ length (leaves_of t x) =
    c.child_count-count.ensures.count ∙ sym (ap length (leaves-children t x)) in (
      c.in_ok-shape.shape,
      c.in_ok-push.ensures.items,
      ap (λ l. slice_get l c.in_ok-shape.shape) c.in_ok-add_labels.ensures.shapes
          ∙ c.in_ok-shape.ensures.numbered
          ∙ ap (λ k. Some (shape_at x k))
          (c.kind.ensures ∙ ap (kind_of (node_at t x.0) x.1) count),
    )

pub returns-clause-labels : goal.returns-clause-labels
returns-clause-labels c =
    let t = c.args.term.now in
    let x : Place = (c.args.node, c.args.value.now) in
    let count : c.child_count-count.result ≡ length (leaves_of t x) =
    c.child_count-count.ensures.count ∙ sym (ap length (leaves-children t x)) in
    let (ys, are, labelled) = c.in_ok-add_labels.ensures.labels in (
      ys,
      are,
      subst (λ k. AreLabelled c.add_labels.new.table.weights (node_at t x.0) x.1 k ys) count
          labelled,
    )
