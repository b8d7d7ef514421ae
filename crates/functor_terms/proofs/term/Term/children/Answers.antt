use Rattle.std.proofs.Common.{◌≡◌, ◌<◌, ◌≤◌, ℕ, List, [], Some, slice_get, length, refl, sym, ap, ◌∙◌, subst}
use Rattle.std.specs.Option.{option_map_or}
use Rattle.std.proofs.lemmas.Option.{slice_get_read}
use Rattle.functor_terms.specs.declared.node.Branch.{Branch}
use Rattle.functor_terms.specs.Terms.{Nodes, children_at}
use Rattle.functor_terms.proofs.FewChildren.{children-few}
use Rattle.functor_terms.proofs.term.Term.children.Goals as goal

pub returns-clause-few : goal.returns-clause-few
returns-clause-few c =
    let nodes : Nodes = c.self.inside.nodes.items in
    let b : Branch = c.index.result.now in
    let inside : c.args.p < length nodes =
    subst (λ (t : Nodes). c.args.p < length t) (sym c.self.view_is) c.requires in
    let at : slice_get nodes c.args.p ≡ Some b =
    slice_get_read nodes (length nodes) c.args.p b refl inside c.index.ensures in
    let same : children_at nodes c.args.p ≡ c.as_slice.result.now =
    ap (λ o. option_map_or (λ b. b.children) o []) at ∙ sym c.as_slice.ensures in
    subst (λ (qs : List ℕ). length qs ≤ 256) same (children-few nodes c.self.invariant c.args.p)
