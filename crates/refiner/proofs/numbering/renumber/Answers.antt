use Rattle.std.proofs.Common.{◌≡◌, ◌≢◌, ◌<◌, ℕ, List, length, get_or, set, get_or-set_other, sym, ap, inl, inr, ◌∙◌, subst, arith}
use Rattle.std.proofs.lemmas.Bool.Decides.{nat_tests}
use Rattle.std.proofs.lemmas.Bool.{cases_eq}
use Rattle.std.proofs.lemmas.List.{get_or_default, get_or-set_same, length-set}
use Rattle.refinable_partition.specs.Layout.{AreMoved as HaveLeft}
use Rattle.refinable_partition.proofs.Counting.{moved_more}
use Rattle.refinable_partition.proofs.Lists.{at_set}
use Rattle.refiner.proofs.numbering.renumber.Goals as goal

pub loop-x-preserved : goal.loop-x-preserved
loop-x-preserved c =
    let block : List ℕ = c.loop-x.of.items in
    let i : ℕ = c.loop-x.x-index in
    let x : ℕ = get_or c.args.some.now i 0 in
    let was = c.loop-x.invariant in
    let hx : x < length block = omega (arith, c.requires.in_range i 0 c.loop-x-test.true, was.len)
    in
    record {
      len = length-set block x c.args.new ∙ was.len;
      moved = λ k low. (
          let at = at_set block x (get_or c.args.some.now k 0) c.args.new 0 hx in
          let before = was.moved k in
          let same : k ≡ i → get_or c.args.some.now k 0 ≡ x =
          λ e. ap (λ j. get_or c.args.some.now j 0) e in
          grind (arith, nat_tests, at, before, same));
      others = λ y out. (
          let apart : y ≢ x = λ e. out i (omega arith) (sym e) in
          get_or-set_other block x y c.args.new 0 apart
          ∙ was.others y (λ k low. out k (omega arith)));
      either = λ y. elim (cases_eq y x) [
        | inl here ↦ inl (subst (λ z. get_or (set block x c.args.new) z 0 ≡ c.args.new) (sym here)
            (get_or-set_same block x c.args.new 0 hx))
        | inr far ↦ elim (was.either y) [
          | inl new ↦ inl (get_or-set_other block x y c.args.new 0 far ∙ new)
          | inr old ↦ inr (get_or-set_other block x y c.args.new 0 far ∙ old)
        ]
      ];
      counted = λ old apart all.
          moved_more c.args.of.now.items block c.args.some.now i old c.args.new c.requires.once
          c.loop-x-test.true hx apart all was.others (was.counted old apart all);
    }

pub returns-clause-moved : goal.returns-clause-moved
returns-clause-moved c = λ k d h.
    rw (get_or_default c.args.some.now k d 0 h) (c.loop-x.invariant.moved k (omega arith))

pub returns-clause-counted : goal.returns-clause-counted
returns-clause-counted c = λ old apart all.
    let all_of : c.loop-x.x-index ≡ length c.args.some.now = omega arith in
    subst (λ n. HaveLeft old c.args.new n c.args.of.now.items c.loop-x.of.items) all_of
    (c.loop-x.invariant.counted old apart all)
