use Rattle.std.proofs.Common.{ℕ, ◌<◌, List, get_or, length, refl, sym, ap, ◌∙◌, arith}
use Rattle.std.proofs.lemmas.Option.{slice_get-get_or}
use Rattle.quotient_writer.proofs.Classes.{passing_none, passing_old, passing_new}
use Rattle.quotient_writer.proofs.block_list.first_of_each.Goals as goal
use Rattle.quotient_writer.proofs.block_list.first_of_each.Goals.{then-labels-i+in_ok-push, else-labels-i}

pub loop-i-init : goal.loop-i-init
loop-i-init c = rw c.new-firsts.ensures.items (passing_none c.args.labels.now c.requires.numbered)

pub loop-i-preserved : goal.loop-i-preserved
loop-i-preserved c =
    let labels : List ℕ = c.args.labels.now in
    let i : ℕ = c.loop-i.i in
    let k : ℕ = get_or labels i 0 in
    let inside : i < length labels = omega (arith, c.requires.one_each, c.loop-i-test.true) in
    elim c.if-labels-i.branch [
      | then-labels-i+in_ok-push w ↦
          rw (ap (λ l. l.items) w.firsts-is ∙ w.in_ok-push.ensures.items)
          (passing_new labels i k c.loop-i.firsts.items (slice_get-get_or labels i 0 inside) refl inside
          c.loop-i.invariant (w.if-labels-i.true ∙ c.len.ensures ∙ c.loop-i.firsts.ok.0))
      | else-labels-i w ↦
          rw (ap (λ l. l.items) w.firsts-is) (passing_old labels i k c.loop-i.firsts.items
          (slice_get-get_or labels i 0 inside) refl inside c.loop-i.invariant (λ e. w.if-labels-i.false (e
          ∙ sym c.loop-i.firsts.ok.0 ∙ sym c.len.ensures)))
    ]

pub returns-clause-classes : goal.returns-clause-classes
returns-clause-classes c i h = c.loop-i.invariant.classes i
    (omega (arith, h, c.requires.one_each, c.loop-i-test.false))

pub returns-clause-first : goal.returns-clause-first
returns-clause-first c i h = c.loop-i.invariant.first i h

pub returns-clause-states : goal.returns-clause-states
returns-clause-states c i h = omega (arith, c.loop-i.invariant.states i h, c.loop-i.auto.i-end)
