use Rattle.std.proofs.Common.{rules, is_lt}
use Rattle.std.specs.Ordering.{eq_by_cmp}
use Rattle.std.proofs.lemmas.List.Sorted.{ranks_by}
use Rattle.std.proofs.lemmas.Fn.{always_returns_same, dedup_same}
use Rattle.functor_terms.specs.Terms.{children_at}
use Rattle.typing.specs.NormalForms.{child_form}
use Rattle.typing.proofs.OrderLaws.{child-total}
use Rattle.typing.proofs.InOrder.{IsSetOf-sorted}
use Rattle.typing.proofs.joined.in_order.Goals as goal

pub returns : goal.returns
returns c =
    let order = (child_form c.args.term.now c.args.p 0).compare in
    let total = child-total c.args.term.now (children_at c.args.term.now c.args.p) 0 in
    IsSetOf-sorted order total c.args.values.items c.sort_unstable_by.new.self.items
    c.dedup_by.new.self.items c.sort_unstable_by.ensures.permutation
    (c.sort_unstable_by.ensures.sorted (λ u v. is_lt (order u v)) (ranks_by total (λ x. x))
    (always_returns_same _ _ _ (λ a r f k. search rules)))
    (dedup_same _ (eq_by_cmp order) _ (λ x y b f x' y' k. search rules) _ _
    c.dedup_by.ensures.filtered)
