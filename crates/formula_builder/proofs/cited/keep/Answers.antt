use Rattle.std.proofs.Common.{◌≡◌, ◌∙◌, ◌+◌, ◌∷◌, ◌++◌, ℕ, List, [], length, ap, sym, subst, arith}
use Rattle.std.specs.Prelude.{slice_index}
use Rattle.formulas.specs.declared.formula.Formula.{Formula}
use Rattle.formulas.specs.Formulas.{CitesBelow}
use Rattle.formula_builder.specs.Cited.{renumbered}
use Rattle.formula_builder.specs.Keeping.{AreKept}
use Rattle.formula_builder.proofs.Marking.{marked_from, unmarked_from}
use Rattle.formula_builder.proofs.Cutting.{kept_unmarked, kept_cites, kept_marked, kept_few}
use Rattle.formula_builder.proofs.cited.keep.Goals as goal

pub push-requires-then-marks-k-clause-cites : goal.push-requires-then-marks-k-clause-cites
push-requires-then-marks-k-clause-cites c =
    let same : c.in_ok-formula.formula
    ≡ renumbered (slice_index c.args.numbers.now.items) c.formula.result.now =
    c.in_ok-formula.ensures
    ∙ ap (λ (xs : List ℕ). renumbered (slice_index xs) c.formula.result.now)
    c.as_slice.ensures.value in
    subst (λ (g : Formula). CitesBelow (length c.args.small.now) g) (sym same)
    (kept_cites c.args.dag.now c.args.marks.now c.args.small.now c.args.numbers.now.items
    c.args.k c.requires.kept c.formula.result.now c.formula.ensures.there
    (marked_from c.args.marks.now c.args.k _ (omega (arith, c.requires.one_each, c.requires.next))
    c.if-marks-k.true) c.is_dag.ensures.ordered c.requires.closed)

pub push-requires-then-marks-k-clause-room : goal.push-requires-then-marks-k-clause-room
push-requires-then-marks-k-clause-room c =
    let few = kept_few c.args.dag.now c.args.marks.now c.args.small.now c.args.numbers.now.items
    c.args.k c.requires.kept in
    omega (arith, few, c.requires.next, c.ranges.k.fits, c.is_dag.ensures.few)

pub returns-in_ok-push-2 : goal.returns-in_ok-push-2
returns-in_ok-push-2 c =
    let numbers = c.args.numbers.now.items in
    let same : c.in_ok-formula.formula
    ≡ renumbered (slice_index numbers) c.formula.result.now =
    c.in_ok-formula.ensures
    ∙ ap (λ (xs : List ℕ). renumbered (slice_index xs) c.formula.result.now)
    c.as_slice.ensures.value in
    let small_is : c.push-then-marks-k.new.self
    ≡ c.args.small.now ++ renumbered (slice_index numbers) c.formula.result.now ∷ [] =
    c.in_ok-push-2.ensures.last.1 ∙ ap (λ (g : Formula). c.args.small.now ++ g ∷ []) same in
    let numbers_are : c.push.new.self.items ≡ numbers ++ length c.args.small.now ∷ [] =
    c.in_ok-push.ensures.items ∙ ap (λ (n : ℕ). numbers ++ n ∷ []) c.len.ensures in
    record {
      kept = subst (λ (fs : List Formula). AreKept c.args.dag.now c.args.marks.now fs
          c.push.new.self.items (c.args.k + 1)) (sym small_is)
          (subst (λ (ns : List ℕ). AreKept c.args.dag.now c.args.marks.now
          (c.args.small.now ++ renumbered (slice_index numbers) c.formula.result.now ∷ []) ns
          (c.args.k + 1)) (sym numbers_are)
          (kept_marked c.args.dag.now c.args.marks.now c.args.small.now numbers c.args.k
          c.requires.kept c.formula.result.now c.formula.ensures.there
          (marked_from c.args.marks.now c.args.k _
          (omega (arith, c.requires.one_each, c.requires.next)) c.if-marks-k.true)
          c.is_dag.ensures.ordered c.requires.closed));
    }

pub returns-else-marks-k : goal.returns-else-marks-k
returns-else-marks-k c = record {
  kept = subst (λ (ns : List ℕ). AreKept c.args.dag.now c.args.marks.now c.args.small.now ns
      (c.args.k + 1)) (sym c.in_ok-push.ensures.items)
      (kept_unmarked c.args.dag.now c.args.marks.now c.args.small.now c.args.numbers.now.items
      c.args.k c.requires.kept c.len.result
      (unmarked_from c.args.marks.now c.args.k _ c.if-marks-k.false));
}
