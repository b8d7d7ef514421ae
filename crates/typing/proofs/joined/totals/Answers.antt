use Rattle.std.proofs.Common.{rules, is_lt, not, filter, ap, refl, ◌∙◌}
use Rattle.std.specs.Prelude.{pos}
use Rattle.std.specs.Ordering.{int_eq}
use Rattle.std.proofs.lemmas.List.Sorted.{ranks_by}
use Rattle.std.proofs.lemmas.Fn.{always_returns_same, filter_same}
use Rattle.functor_terms.specs.Terms.{children_at}
use Rattle.typing.specs.NormalForms.{child_form, joined}
use Rattle.typing.specs.Equality.{the_sum}
use Rattle.typing.proofs.OrderLaws.{child-total}
use Rattle.typing.proofs.Tests.{all_from_each}
use Rattle.typing.proofs.Totals.{any_number, sum-IsMonoid}
use Rattle.typing.proofs.InOrder.{IsTotalOf-sorted}
use Rattle.typing.proofs.joined.totals.Goals as goal

pub returns : goal.returns
returns c =
    let order = (child_form c.args.term.now c.args.p 0).compare in
    let total = child-total c.args.term.now (children_at c.args.term.now c.args.p) 0 in
    IsTotalOf-sorted order the_sum total any_number sum-IsMonoid c.args.entries.items
    c.sort_unstable_by.new.self.items c.retain.new.self.items
    (all_from_each (λ w. any_number w.1) c.args.entries.items (λ w. refl))
    c.sort_unstable_by.ensures.permutation
    (c.sort_unstable_by.ensures.sorted (λ u v. is_lt (order u.0 v.0)) (ranks_by total (λ x. x.0))
    (always_returns_same _ _ _ (λ a r f k. search rules)))
    (filter_same _ (λ w. not (int_eq w.1 (pos 0))) _ (λ x b f k. search rules) _ _
    c.retain.ensures.filtered
    ∙ ap (λ ws. filter (λ w. not (int_eq w.1 (pos 0))) ws) c.in_ok-new.ensures)
    (all_from_each (λ w. any_number w.1) (joined order the_sum c.sort_unstable_by.new.self.items)
    (λ w. refl))
