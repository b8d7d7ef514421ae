use Rattle.std.proofs.Common.{◌≡◌, ℕ, ◌+◌, List, ◌++◌, [], ◌∷◌, length, map, Some, refl, sym, ap, ◌∙◌, subst, arith, rules}
use Rattle.std.specs.Prelude.{slice_get, option_map}
use Rattle.std.proofs.lemmas.List.{length-map}
use Rattle.std.proofs.lemmas.Option.{slice_get_read, slice_get-map}
use Rattle.std.proofs.lemmas.List.Sorted.{IsNonDecreasingBy-from_sort_by_key}
use Rattle.formula_text.specs.declared.answer.BlockLine.{BlockLine}
use Rattle.answer_checker.specs.Truths.{citation_of, AreCitationsBefore}
use Rattle.answer_checker.specs.declared.truths.Citation.{Citation}
use Rattle.answer_checker.proofs.Citing.{citing_more, citing_sorted}
use Rattle.answer_checker.proofs.truths.citations.Goals as goal

-- the formula of a line
abbrev formula_of : BlockLine → ℕ
formula_of b = b.formula

pub loop-block-preserved : goal.loop-block-preserved
loop-block-preserved c =
    let blocks : List BlockLine = c.args.blocks.now in
    let i : ℕ = c.loop-block.block-index in
    let b : BlockLine = c.block-item.result in
    let at : slice_get (map formula_of blocks) i ≡ Some (formula_of b) =
    slice_get-map formula_of blocks i
    ∙ ap (option_map formula_of)
    (slice_get_read blocks (length blocks) i b refl c.loop-block-test.true c.block-item.is) in
    record {
      count = omega (arith, c.loop-block.invariant.count);
      cited =
          subst (AreCitationsBefore (map formula_of blocks) (i + 1))
          (ap (λ k. c.loop-block.found.items ++ citation_of (formula_of b) k ∷ [])
          (sym c.loop-block.invariant.count) ∙ sym c.in_ok-push.ensures.items)
          (citing_more (map formula_of blocks) i (formula_of b) c.loop-block.found.items at
          c.loop-block.invariant.cited);
    }

pub returns-clause-cited : goal.returns-clause-cited
returns-clause-cited c =
    let blocks : List BlockLine = c.args.blocks.now in
    let past : c.loop-block.block-index ≡ length (map formula_of blocks) =
    omega (
      arith,
      c.loop-block.auto.block-index-end,
      c.loop-block-test.false,
      length-map blocks
          formula_of,
    ) in
    citing_sorted (map formula_of blocks) (length (map formula_of blocks)) c.loop-block.found.items
    c.sort_unstable_by_key.new.self.items c.sort_unstable_by_key.ensures.permutation
    (subst (λ n. AreCitationsBefore (map formula_of blocks) n c.loop-block.found.items) past
    c.loop-block.invariant.cited)

pub returns-clause-ascending : goal.returns-clause-ascending
returns-clause-ascending c =
    IsNonDecreasingBy-from_sort_by_key (λ (k : Citation). k.formula)
    c.sort_unstable_by_key.new.self.items c.sort_unstable_by_key.ensures.sorted
    (λ a r f k. search rules)
