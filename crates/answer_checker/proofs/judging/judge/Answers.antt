use Rattle.std.proofs.Common.{ℕ, ◌<◌, List, length, map, refl, sym, ap, ◌∙◌, subst, arith}
use Rattle.std.specs.Prelude.{slice_index, is_some, IsNone}
use Rattle.typing.specs.Contents.{Content, content_of}
use Rattle.typing.proofs.Within.{each_below}
use Rattle.satisfaction.specs.Satisfaction.{holds_at}
use Rattle.formula_text.specs.declared.answer.BlockLine.{BlockLine as TheBlockLine}
use Rattle.answer_checker.specs.Blocks.{BlockLine, line_numbers}
use Rattle.answer_checker.specs.Rules.{AreLikeFirsts}
use Rattle.answer_checker.specs.Truths.{IsFoundWrong, AreAllRight, IsReasonFound}
use Rattle.answer_checker.specs.Verdicts.{lines_seen}
use Rattle.answer_checker.proofs.Judged.{numbers_are, number_below, seen_count, seen_below, rules_pass, reason_found}
use Rattle.answer_checker.proofs.RightAnswers.{numbers_count, passing_right}
use Rattle.answer_checker.proofs.judging.judge.Goals as goal

pub first_different-requires-clause-one_each : goal.first_different-requires-clause-one_each
first_different-requires-clause-one_each c =
    let n : ℕ = length c.args.c.now.names in
    let lines : List BlockLine = lines_seen c.args.c.now.names c.args.blocks.now in
    let h = numbers_are n lines c.in_ok-places.places.items c.as_slice.result.now
    c.as_slice-2.result.now c.in_ok-numbers.numbers.items c.as_slice.ensures.value
    c.as_slice-2.ensures.value c.in_ok-places.ensures.one_each c.in_ok-places.ensures.places
    (c.in_default.ensures.once refl) c.in_ok-numbers.ensures in
    ap length (c.as_slice-3.ensures.value ∙ h.1) ∙ numbers_count lines n

pub first_different-requires-clause-below : goal.first_different-requires-clause-below
first_different-requires-clause-below c i l =
    let n : ℕ = length c.args.c.now.names in
    let lines : List BlockLine = lines_seen c.args.c.now.names c.args.blocks.now in
    let h = numbers_are n lines c.in_ok-places.places.items c.as_slice.result.now
    c.as_slice-2.result.now c.in_ok-numbers.numbers.items c.as_slice.ensures.value
    c.as_slice-2.ensures.value c.in_ok-places.ensures.one_each c.in_ok-places.ensures.places
    (c.in_default.ensures.once refl) c.in_ok-numbers.ensures in
    let is = c.as_slice-3.ensures.value ∙ h.1 in
    subst (λ (ns : List ℕ). slice_index ns i < length c.args.blocks.now) (sym is)
    (subst (λ m. slice_index (line_numbers lines n) i < m) (seen_count c.args.c.now.names
    c.args.blocks.now)
    (number_below n lines h.0 i (omega (arith, l, ap length is, numbers_count lines n))))

pub first_wrong-requires-clause-one_each : goal.first_wrong-requires-clause-one_each
first_wrong-requires-clause-one_each c =
    let n : ℕ = length c.args.c.now.names in
    let lines : List BlockLine = lines_seen c.args.c.now.names c.args.blocks.now in
    let h = numbers_are n lines c.in_ok-places.places.items c.as_slice.result.now
    c.as_slice-2.result.now c.in_ok-numbers.numbers.items c.as_slice.ensures.value
    c.as_slice-2.ensures.value c.in_ok-places.ensures.one_each c.in_ok-places.ensures.places
    (c.in_default.ensures.once refl) c.in_ok-numbers.ensures in
    ap length (c.as_slice-4.ensures.value ∙ h.1) ∙ numbers_count lines n

pub returns-in-Some-3-clause-verdict : goal.returns-in-Some-3-clause-verdict
returns-in-Some-3-clause-verdict c =
    let content : Content = content_of c.args.c.now in
    let n : ℕ = length content.values in
    let names = c.args.c.now.names in
    let blocks : List TheBlockLine = c.args.blocks.now in
    let lines : List BlockLine = lines_seen names blocks in
    let h = numbers_are n lines c.in_ok-places.places.items c.as_slice.result.now
    c.as_slice-2.result.now c.in_ok-numbers.numbers.items c.as_slice.ensures.value
    c.as_slice-2.ensures.value (c.in_ok-places.ensures.one_each ∙ sym c.args.c.now.one_each)
    c.in_ok-places.ensures.places (c.in_default.ensures.once refl) c.in_ok-numbers.ensures in
    let none : IsNone c.in_ok-reason.field-0 = ap is_some c.in_default-2.is in
    reason_found content (holds_at content c.args.dag.now) names blocks h.0
    c.in_ok-numbers.numbers.items h.1
    (subst (AreLikeFirsts content.term content.values) c.as_slice-3.ensures.value
    (c.in_ok-reason.ensures.like none))
    c.in-Some-3.reason
    (subst (λ ns. IsReasonFound (holds_at content c.args.dag.now) ns
    (map (λ (b : TheBlockLine). b.formula) blocks) c.in-Some-3.reason) c.as_slice-4.ensures.value
    (subst (IsFoundWrong (holds_at content c.args.dag.now) c.as_slice-4.result.now
    (map (λ (b : TheBlockLine). b.formula) blocks)) c.in-Some-3.is c.in_ok-reason-2.ensures.found))

pub returns-clause-verdict : goal.returns-clause-verdict
returns-clause-verdict c =
    let content : Content = content_of c.args.c.now in
    let n : ℕ = length content.values in
    let names = c.args.c.now.names in
    let blocks : List TheBlockLine = c.args.blocks.now in
    let lines : List BlockLine = lines_seen names blocks in
    let h = numbers_are n lines c.in_ok-places.places.items c.as_slice.result.now
    c.as_slice-2.result.now c.in_ok-numbers.numbers.items c.as_slice.ensures.value
    c.as_slice-2.ensures.value (c.in_ok-places.ensures.one_each ∙ sym c.args.c.now.one_each)
    c.in_ok-places.ensures.places (c.in_default.ensures.once refl) c.in_ok-numbers.ensures in
    let none : IsNone c.in_ok-reason.field-0 = ap is_some c.in_default-2.is in
    rules_pass content (holds_at content c.args.dag.now) names blocks h.0
    c.in_ok-numbers.numbers.items h.1
    (subst (AreLikeFirsts content.term content.values) c.as_slice-3.ensures.value
    (c.in_ok-reason.ensures.like none))
    (subst (λ ns. AreAllRight (holds_at content c.args.dag.now) ns
    (map (λ (b : TheBlockLine). b.formula) blocks)) c.as_slice-4.ensures.value
    (subst (IsFoundWrong (holds_at content c.args.dag.now) c.as_slice-4.result.now
    (map (λ (b : TheBlockLine). b.formula) blocks)) c.in-None.is c.in_ok-reason-2.ensures.found))

pub returns-clause-right : goal.returns-clause-right
returns-clause-right c =
    let content : Content = content_of c.args.c.now in
    let names = c.args.c.now.names in
    let blocks : List TheBlockLine = c.args.blocks.now in
    passing_right content c.is_term.ensures
    (each_below content.values (length names) c.args.c.now.one_each c.args.c.now.in_range)
    c.args.dag.now c.is_dag.ensures.ordered (lines_seen names blocks)
    (seen_below names (length c.args.dag.now) blocks c.requires.cited) (returns-clause-verdict c)
