use Rattle.std.proofs.Common.{◌<◌, ◌∙◌, sym, ap, subst, length, [], ◌∷◌, Some}
use Rattle.std.specs.Prelude.{slice_index}
use Rattle.typing.specs.Values.{index, inner}
use Rattle.structures.proofs.ChildAt.{node_there, value_there, child_there, alone_at}
use Rattle.structures.proofs.children.inner_at.Goals as goal

pub bounds-nodes-index : goal.bounds-nodes-index
bounds-nodes-index c =
    subst (λ k. k < length c.args.nodes.now) (sym c.index.ensures)
    (node_there c.args.nodes.now (index c.args.value.now) (inner c.args.value.now ∷ []) c.args.i
    c.requires.there)

pub returns : goal.returns
returns c =
    child_there c.args.nodes.now (index c.args.value.now) (inner c.args.value.now ∷ []) c.args.i
    c.requires.there _
    (alone_at (inner c.args.value.now) c.inner.result.now c.args.i (sym c.inner.ensures)
    (value_there c.args.nodes.now (index c.args.value.now) (inner c.args.value.now ∷ [])
    c.args.i c.requires.there))
    ∙ ap (λ k. Some (slice_index c.args.nodes.now k, c.inner.result.now)) (sym c.index.ensures)
