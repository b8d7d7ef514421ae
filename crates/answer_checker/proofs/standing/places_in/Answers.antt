use Rattle.std.proofs.Common.{◌≡◌, ℕ, ◌+◌, List, [], ◌∷◌, ◌++◌, length, map, take, drop, sym, ap, ◌∙◌, subst, arith}
use Rattle.formula_text.specs.declared.answer.BlockLine.{BlockLine as TheBlockLine}
use Rattle.answer_checker.specs.Blocks.{BlockLine, line_with}
use Rattle.answer_checker.specs.Verdicts.{number_of, lines_seen}
use Rattle.answer_checker.specs.Steps.{ArePlaces}
use Rattle.answer_checker.specs.declared.places.Place.{Place}
use Rattle.answer_checker.proofs.PutStates.{written_back, lines_seen-count, lines_seen-more}
use Rattle.answer_checker.proofs.standing.places_in.Goals as goal

pub loop-block-preserved : goal.loop-block-preserved
loop-block-preserved c =
    let names : List (List ℕ) = c.args.names.now in
    let blocks : List TheBlockLine = c.args.blocks.now in
    let i : ℕ = c.loop-block.block-index in
    let b : TheBlockLine = c.block-item.result in
    let new : List Place = c.put_states.new.places in
    let items : List Place = c.loop-block.places.items in
    let before : List BlockLine = lines_seen names (take i blocks) in
    let behind : List Place = take c.loop-block.places.len (new ++ drop (length new) items) in
    let same : behind ≡ new =
    written_back c.loop-block.places.len new items c.loop-block.places.ok.0
    (c.put_states.ensures.one_each ∙ sym c.loop-block.invariant.one_each) in
    let lines : lines_seen names (take (i + 1) blocks)
    ≡ before ++ line_with b.formula (map (λ word. number_of names word.now) b.names.items) ∷ [] =
    lines_seen-more names blocks i c.loop-block-test.true b (sym c.block-item.is) in
    let put : ArePlaces
    (before ++ line_with b.formula (map (λ word. number_of names word.now) c.as_slice.result.now)
    ∷ [])
    new =
    c.put_states.ensures.put before b.formula
    (lines_seen-count names blocks i c.loop-block-test.true ∙ sym c.loop-block.invariant.count)
    (subst (ArePlaces before) (sym c.as_mut_slice.ensures.value) c.loop-block.invariant.places) in
    record {
      count = omega (arith, c.loop-block.invariant.count);
      one_each = ap length same ∙ c.put_states.ensures.one_each;
      places =
          subst (λ ls. ArePlaces ls behind) (sym lines)
          (subst (ArePlaces _) (sym same)
          (subst (λ ws. ArePlaces (before ++ line_with b.formula
          (map (λ word. number_of names word.now) ws) ∷ []) new)
          c.as_slice.ensures.value put));
    }
