use Rattle.std.proofs.Common.{◌≡◌, ◌≤◌, ◌+◌, ◌-◌, ◌<◌, ℕ, ℤ, ◌+ℤ◌, length, drop, get_or, sym, ap, ◌∙◌, subst, inl, inr, arith, to_z, of_z, FitsSigned, List, ◌^◌}
use Rattle.std.specs.Prelude.{unsigned_abs}
use Rattle.std.proofs.lemmas.Bool.{cases_lt}
use Rattle.std.specs.Int.{w128}
use Rattle.std.proofs.lemmas.Int.{to_z-of_z}
use Rattle.typing.specs.declared.value.Value.{Value}
use Rattle.typing.specs.Bounds.{absolute_sum}
use Rattle.typing.specs.Equality.{the_sum}
use Rattle.formula_checker.specs.LayerValues.{joint_with}
use Rattle.evaluation.proofs.JointLaws.{IsJointAt, joint_end, joint_more, element_at}
use Rattle.evaluation.proofs.weighing.joint_weight.Goals as goal

pub loop-i-init : goal.loop-i-init
loop-i-init c =
    let es = c.args.entries.now in
    let trits = c.args.trits.now in
    record {
      joint =
          sym (joint_end the_sum c.args.trit es trits c.min-i.result
          (elim (cases_lt (length trits) (length es)) [
            | inl less ↦ inr (omega (arith, less, c.min-i.ensures))
            | inr more ↦ inl (omega (arith, more, c.min-i.ensures))
          ]));
      small = omega arith;
      in_entries = omega (arith, c.min-i.ensures);
      in_trits = omega (arith, c.min-i.ensures);
    }

-- what holds at the place before
before :
    (es : List (Value × ℤ)) (trits : List ℕ) (k n : ℕ) (e : Value × ℤ) (S : ℤ) →
    0 < n → n ≤ length es → n ≤ length trits → e ≡ get_or es (n - 1) e →
    absolute_sum es ≤ 2 ^ 106 → S ≡ joint_with the_sum (drop n es) (drop n trits) k →
    unsigned_abs S ≤ absolute_sum (drop n es) → IsJointAt es trits k (n - 1) e S
before es trits k n e S some he ht re bound is small =
    let back : n ≡ n - 1 + 1 = omega (arith, some) in
    joint_more es trits k (n - 1) e S (omega (arith, some, he)) (omega (arith, some, ht)) re bound
    (subst (λ m. S ≡ joint_with the_sum (drop m es) (drop m trits) k) back is)
    (subst (λ m. unsigned_abs S ≤ absolute_sum (drop m es)) back small)

-- a weight that is read is itself
read_back : (w S : ℤ) → FitsSigned w128 w → FitsSigned w128 (w +ℤ S) →
    to_z w128 (of_z w128 (to_z w128 (of_z w128 w) +ℤ S)) ≡ w +ℤ S
read_back w S one both =
    ap (λ z. to_z w128 (of_z w128 (z +ℤ S))) (to_z-of_z w128 w one) ∙ to_z-of_z w128 (w +ℤ S) both

pub overflow_add-sum : goal.overflow_add-sum
overflow_add-sum c =
    let es = c.args.entries.now in
    let n = c.loop-i.i in
    let inv = c.loop-i.invariant in
    let S = to_z w128 c.loop-i.sum-bits in
    let e = get_or es (n - 1) c.index-entries-i.result in
    let m = before es c.args.trits.now c.args.trit n e S c.loop-i-test.true inv.in_entries
    inv.in_trits (ap (get_or es (n - 1)) c.index-entries-i.is) c.requires.small inv.joint
    inv.small in
    subst (λ z. FitsSigned w128 (z +ℤ S)) (sym (to_z-of_z w128 e.1 m.weight_fits)) m.sum_fits

pub loop-i-preserved-then-trits-i : goal.loop-i-preserved-then-trits-i
loop-i-preserved-then-trits-i c =
    let es = c.args.entries.now in
    let n = c.loop-i.i in
    let inv = c.loop-i.invariant in
    let S = to_z w128 c.loop-i.sum-bits in
    let e = get_or es (n - 1) c.index-entries-i.result in
    let m = before es c.args.trits.now c.args.trit n e S c.loop-i-test.true inv.in_entries
    inv.in_trits (ap (get_or es (n - 1)) c.index-entries-i.is) c.requires.small inv.joint
    inv.small in
    let is = read_back e.1 S m.weight_fits m.sum_fits in
    record {
      joint = is ∙ m.taken c.if-trits-i.true;
      small =
          subst (λ z. unsigned_abs z ≤ absolute_sum (drop (n - 1) es)) (sym is) m.small_taken;
      in_entries = omega (arith, inv.in_entries);
      in_trits = omega (arith, inv.in_trits);
    }

pub loop-i-preserved : goal.loop-i-preserved
loop-i-preserved c =
    let es = c.args.entries.now in
    let n = c.loop-i.i in
    let inv = c.loop-i.invariant in
    let S = to_z w128 c.loop-i.sum-bits in
    let (e, re) = element_at es (n - 1) (omega (arith, c.loop-i-test.true, inv.in_entries)) in
    let m = before es c.args.trits.now c.args.trit n e S c.loop-i-test.true inv.in_entries
    inv.in_trits re c.requires.small inv.joint inv.small in
    record {
      joint = m.passed c.if-trits-i.false;
      small = m.small_passed;
      in_entries = omega (arith, inv.in_entries);
      in_trits = omega (arith, inv.in_trits);
    }
