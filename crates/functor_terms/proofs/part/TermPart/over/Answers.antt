use Rattle.std.proofs.Common.{rules, ◌≡◌, ◌+◌, ◌<◌, ◌∷◌, List, length, sym, subst}
use Rattle.std.specs.List.{AllByRecursion}
use Rattle.functor_terms.specs.Terms.{Part, over, nodes_of, deepest, branch, node_limit, IsWithin, Stands}
use Rattle.functor_terms.proofs.OverLaws.{over-outline}
use Rattle.functor_terms.proofs.TermLaws.{over-within}
use Rattle.functor_terms.proofs.part.TermPart.over.Goals as goal

pub invariant_of-result : goal.invariant_of-result
invariant_of-result c =
    let same : c.as_slice.result.now ≡ c.args.parts.items = c.as_slice.ensures.value in
    let nodes : c.append.new.self.items ≡ branch c.args.node c.in_ok-children.field-0.children
    ∷ nodes_of c.args.parts.items = search rules in
    let made : (c.append.new.self.items, c.in_ok-children.field-0.depth + 1) ≡ over c.args.node
    c.args.parts.items =
    over-outline c.args.node c.args.parts.items c.as_slice.result.now
    c.in_ok-children.field-0.children c.in_ok-children.field-0.depth c.append.new.self.items
    same c.in_ok-children.ensures.children c.in_ok-children.ensures.depth.0 nodes in
    let stands : Stands c.args.node c.args.parts.items = record {
      arity = search rules;
      labels = search rules;
      small = record {
        few = subst (λ (l : List Part). length (nodes_of l) < node_limit) same
            c.in_ok-children.ensures.few;
        shallow = subst (λ (l : List Part). deepest l < 32) same
            (subst (λ n. n < 32) c.in_ok-children.ensures.depth.0 c.in_ok-children.ensures.depth.1);
      };
    } in
    subst (λ (part : Part). IsWithin part) (sym made)
    (over-within c.args.node c.args.parts.items stands
    (subst (λ (l : List Part). AllByRecursion IsWithin l) same c.in_ok-children.ensures.within))
