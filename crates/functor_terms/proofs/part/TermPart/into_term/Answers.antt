use Rattle.std.proofs.Common.{rules, ◌≡◌, ◌+◌, ◌≤◌, ◌∷◌, ◌++◌, length, map, sym, ap, subst, ◌∙◌, arith}
use Rattle.std.specs.Vec.Iter.{into_iter_items}
use Rattle.functor_terms.specs.Terms.{Nodes, Part, branch, placed, depth_limit}
use Rattle.functor_terms.proofs.TermLaws.{ChildrenFit, part-block, placed-step, fit-rest}
use Rattle.functor_terms.proofs.part.TermPart.into_term.Goals as goal

pub loop-node-init : goal.loop-node-init
loop-node-init c =
    let rest : into_iter_items c.into_iter-left.result ≡ c.self.inside.nodes.items =
    c.into_iter-left.ensures.rest in
    let same : into_iter_items c.into_iter-left.result ≡ c.args.self.0 = rest
    ∙ ap (λ (part : Part). part.0) c.self.view_is in
    record {
      placed_are = λ i. c.new-nodes.ensures.items i ++ placed 0 (same i);
      fit = subst (λ (l : Nodes). ChildrenFit l) (sym rest)
          (part-block depth_limit _ c.self.invariant.built).1;
      few = let few : length c.self.inside.nodes.items ≤ 256 = c.self.invariant.few in
          omega (arith, few, ap length rest);
    }

pub loop-node-preserved : goal.loop-node-preserved
loop-node-preserved c =
    let is : into_iter_items c.loop-node.left ≡ c.in-Some.field-0 ∷ into_iter_items c.next.new.self
    = c.in-Some.ensures.items in
    let made : branch c.in-Some.field-0.node c.in_ok-children.children
    ≡ branch c.in-Some.field-0.node (map (λ child. c.loop-node.p + child)
    c.in-Some.field-0.children) =
    ap (λ l. branch c.in-Some.field-0.node l) (c.in_ok-children.ensures
    ∙ ap (map (λ child. c.loop-node.p + child)) (search rules)) in
    record {
      placed_are = placed-step c.loop-node.nodes.items c.push.new.self.items
          (into_iter_items c.loop-node.left) (into_iter_items c.next.new.self)
          (placed 0 c.args.self.0) c.loop-node.p c.in-Some.field-0 _
          c.loop-node.invariant.placed_are is made c.in_ok-push.ensures.items;
      fit = fit-rest (into_iter_items c.loop-node.left) (into_iter_items c.next.new.self)
          c.in-Some.field-0 is c.loop-node.invariant.fit;
      few = omega (arith, c.loop-node.invariant.few, ap length is);
    }
