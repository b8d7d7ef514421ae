use Rattle.std.proofs.Common.{◌≡◌, true, List, map, sym, ap, subst, ◌∙◌, arith}
use Rattle.std.specs.List.{list_all}
use Rattle.std.proofs.lemmas.Bool.{both_ways}
use Rattle.std.proofs.lemmas.Slice.Eq.{bytes_eq-Decides}
use Rattle.typing.specs.declared.value.Value.{Value}
use Rattle.typing.specs.Values.{relabelled}
use Rattle.typing.specs.Bounds.{is_bounded}
use Rattle.typing.specs.Stable.{regrouped}
use Rattle.typing.proofs.FirstPlaces.{total}
use Rattle.typing.proofs.StableLaws.{IsRound, next-IsRound, next_grows, total_bounded, round-stable, round-first}
use Rattle.plain.proofs.Bounded.{all_kept}
use Rattle.plain.proofs.PairLaws.{next_labels}
use Rattle.plain.proofs.rounds.first_equivalents.Goals as goal

pub first_places-requires-clause-bounded : goal.first_places-requires-clause-bounded
first_places-requires-clause-bounded c =
    subst (λ (vs : List Value). list_all is_bounded vs ≡ true)
    (sym (c.as_slice-in-loop-labels.ensures.value ∙ c.in_ok-new.ensures
    ∙ ap (λ b. map (relabelled b) c.args.values.now) c.as_slice.ensures.value))
    (all_kept c.loop-labels.labels.items c.args.values.now c.requires.bounded)

pub returns-then-eq-clause-stable : goal.returns-then-eq-clause-stable
returns-then-eq-clause-stable c =
    let next_is : c.in_ok-next.next.items ≡ regrouped c.args.term.now c.args.values.now
    c.loop-labels.labels.items = next_labels c.args.term.now c.args.values.now
    c.loop-labels.labels.items c.as_slice-in-loop-labels.result.now c.in_ok-next.next.items
    (c.as_slice-in-loop-labels.ensures.value ∙ c.in_ok-new.ensures
    ∙ ap (λ b. map (relabelled b) c.args.values.now) c.as_slice.ensures.value)
    c.in_ok-next.ensures in
    round-stable c.args.term.now c.args.values.now c.requires.within c.loop-labels.labels.items
    c.loop-labels.invariant
    (sym next_is
    ∙ sym c.as_slice-in-loop-labels-2.ensures.value
    ∙ (bytes_eq-Decides c.as_slice-in-loop-labels-2.result.now
    c.as_slice-in-loop-labels-3.result.now).0 (sym c.eq.ensures ∙ c.if-eq.true)
    ∙ c.as_slice-in-loop-labels-3.ensures.value)

pub returns-then-eq-clause-first : goal.returns-then-eq-clause-first
returns-then-eq-clause-first c = round-first c.args.term.now c.args.values.now c.requires.within
    c.loop-labels.labels.items c.loop-labels.invariant (returns-then-eq-clause-stable c)

pub loop-labels-smaller : goal.loop-labels-smaller
loop-labels-smaller c =
    let next_is : c.in_ok-next.next.items ≡ regrouped c.args.term.now c.args.values.now
    c.loop-labels.labels.items = next_labels c.args.term.now c.args.values.now
    c.loop-labels.labels.items c.as_slice-in-loop-labels.result.now c.in_ok-next.next.items
    (c.as_slice-in-loop-labels.ensures.value ∙ c.in_ok-new.ensures
    ∙ ap (λ b. map (relabelled b) c.args.values.now) c.as_slice.ensures.value)
    c.in_ok-next.ensures in
    let differ : regrouped c.args.term.now c.args.values.now c.loop-labels.labels.items
    ≡ c.loop-labels.labels.items → ⊥ = λ e. both_ways c.eq.result c.if-eq.false
    (c.eq.ensures ∙ (bytes_eq-Decides c.as_slice-in-loop-labels-2.result.now
    c.as_slice-in-loop-labels-3.result.now).1 (c.as_slice-in-loop-labels-2.ensures.value
    ∙ next_is ∙ e ∙ sym c.as_slice-in-loop-labels-3.ensures.value)) in
    let grows = next_grows c.args.term.now c.args.values.now c.requires.within
    c.loop-labels.labels.items c.loop-labels.invariant differ in
    let top = total_bounded c.args.term.now c.args.values.now c.requires.within
    (regrouped c.args.term.now c.args.values.now c.loop-labels.labels.items)
    (next-IsRound c.args.term.now c.args.values.now c.requires.within c.loop-labels.labels.items
    c.loop-labels.invariant) in
    let sum : total c.in_ok-next.next.items ≡ total (regrouped c.args.term.now c.args.values.now
    c.loop-labels.labels.items) = ap total next_is in
    omega (arith, grows, top, sum)

pub loop-labels-preserved : goal.loop-labels-preserved
loop-labels-preserved c =
    let next_is : c.in_ok-next.next.items ≡ regrouped c.args.term.now c.args.values.now
    c.loop-labels.labels.items = next_labels c.args.term.now c.args.values.now
    c.loop-labels.labels.items c.as_slice-in-loop-labels.result.now c.in_ok-next.next.items
    (c.as_slice-in-loop-labels.ensures.value ∙ c.in_ok-new.ensures
    ∙ ap (λ b. map (relabelled b) c.args.values.now) c.as_slice.ensures.value)
    c.in_ok-next.ensures in
    subst (IsRound c.args.term.now c.args.values.now) (sym next_is) (next-IsRound c.args.term.now
    c.args.values.now c.requires.within c.loop-labels.labels.items c.loop-labels.invariant)
