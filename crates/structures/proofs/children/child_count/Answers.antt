use Rattle.std.proofs.Common.{◌∙◌, min, sym, ap, length}
use Rattle.functor_terms.specs.declared.node.Node.TheVariants.{Product}
use Rattle.functor_terms.specs.Terms.{children_at}
use Rattle.typing.specs.Values.{parts}
use Rattle.structures.proofs.ChildAt.{of_kind, zip_length}
use Rattle.structures.proofs.children.child_count.Goals as goal

pub returns-in-Product : goal.returns-in-Product
returns-in-Product c = record {
  count =
      c.min.ensures
      ∙ (λ k. min (length (c.children-nodes.ensures.children k)) (length (c.parts.ensures k)))
      ∙ sym (zip_length (children_at c.args.term.now c.args.node) (parts c.args.value.now))
      ∙ sym (ap length (of_kind c.args.term.now c.args.node c.args.value.now Product
      (sym c.node.ensures ∙ c.in-Product.is)));
}
