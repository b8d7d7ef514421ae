use Rattle.std.proofs.Common.{◌≡◌, ℕ, ◌<◌, ◌++◌, List, [], ◌∷◌, length, refl, sym, ap, ◌∙◌, subst, arith}
use Rattle.std.specs.Prelude.{slice_index}
use Rattle.std.proofs.lemmas.Option.{slice_get_read, get_or_from_slice_get}
use Rattle.quotient_writer.proofs.NumberLaws.{IsNumbering, numbering_none, numbering_new, numbering_old, all_numbered, all_same}
use Rattle.quotient_writer.proofs.numbering.class_numbers.Goals as goal
use Rattle.quotient_writer.proofs.numbering.class_numbers.Goals.{then-first-i+in_ok-push, else-first-i+in_ok-push-2}

pub loop-i-init : goal.loop-i-init
loop-i-init c = rw c.in_ok-labels.ensures.items (numbering_none c.args.firsts.now)

pub overflow_add-classes : goal.overflow_add-classes
overflow_add-classes c = omega (arith, c.loop-i.invariant.few, c.loop-i-test.true, c.requires.few)

pub index-label-requires : goal.index-label-requires
index-label-requires c = omega (
  arith,
  (c.requires.firsts c.loop-i.i c.loop-i-test.true).0,
  c.if-first-i.false,
  c.loop-i.invariant.count,
  c.loop-i.labels.ok.0,
)

pub loop-i-preserved : goal.loop-i-preserved
loop-i-preserved c =
    let firsts : List ℕ = c.args.firsts.now in
    let labels : List ℕ = c.loop-i.labels.items in
    let i : ℕ = c.loop-i.i in
    let f : ℕ = slice_index firsts i in
    elim c.if-first-i.branch [
      | then-first-i+in_ok-push w ↦
          rw (ap (λ l. l.items) w.labels-is ∙ w.in_ok-push.ensures.items, w.classes-is)
          (numbering_new firsts c.requires.firsts i c.loop-i.classes labels c.loop-i-test.true
          c.loop-i.invariant w.if-first-i.true)
      | else-first-i+in_ok-push-2 w ↦
          let known : f < length labels = omega (
            arith,
            (c.requires.firsts i c.loop-i-test.true).0,
            w.if-first-i.false,
            c.loop-i.invariant.count,
          ) in
          let read : slice_index labels f ≡ w.index-label.result.now = get_or_from_slice_get labels
          f w.index-label.result.now 0 (slice_get_read labels (length labels) f
          w.index-label.result.now refl known w.index-label.ensures) in
          rw (
            ap (λ l. l.items) w.labels-is ∙ w.in_ok-push-2.ensures.items
                ∙ ap (λ k. labels ++ k ∷ []) (sym read),
            w.classes-is,
          )
          (numbering_old firsts c.requires.firsts i c.loop-i.classes labels c.loop-i-test.true
          c.loop-i.invariant w.if-first-i.false)
    ]

pub returns-clause-numbered : goal.returns-clause-numbered
returns-clause-numbered c =
    let past : c.loop-i.i ≡ length c.args.firsts.now =
    omega (arith, c.loop-i.auto.i-end, c.loop-i-test.false) in
    all_numbered c.args.firsts.now c.requires.firsts c.loop-i.labels.items c.loop-i.classes
    (subst (λ n. IsNumbering c.args.firsts.now n c.loop-i.labels.items c.loop-i.classes) past
    c.loop-i.invariant)

pub returns-clause-same_classes : goal.returns-clause-same_classes
returns-clause-same_classes c =
    let past : c.loop-i.i ≡ length c.args.firsts.now =
    omega (arith, c.loop-i.auto.i-end, c.loop-i-test.false) in
    all_same c.args.firsts.now c.requires.firsts c.loop-i.labels.items c.loop-i.classes
    (subst (λ n. IsNumbering c.args.firsts.now n c.loop-i.labels.items c.loop-i.classes) past
    c.loop-i.invariant)
