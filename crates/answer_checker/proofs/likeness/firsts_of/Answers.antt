use Rattle.std.proofs.Common.{◌≡◌, ℕ, ◌+◌, ◌<◌, List, set, Some, None, length, get_or, refl, sym, ap, ◌∙◌, subst, arith}
use Rattle.std.specs.Prelude.{Option, unwrap_or, slice_index}
use Rattle.std.proofs.lemmas.List.{length-set, get_or_default}
use Rattle.answer_checker.proofs.Firsts.{IsNoting, noting-more}
use Rattle.answer_checker.proofs.likeness.firsts_of.Goals as goal

pub loop-number-preserved : goal.loop-number-preserved
loop-number-preserved c =
    let numbers : List ℕ = c.args.numbers.now in
    let seen : List (Option ℕ) = c.loop-number.seen.items in
    let y : ℕ = c.loop-number.number-index in
    let k : ℕ = slice_index numbers y in
    let f : ℕ = c.unwrap_or-first.result in
    let inside : k < length seen =
    omega (arith, c.requires.below y c.loop-number-test.true, c.loop-number.invariant.table) in
    let read : get_or seen k None ≡ c.index.result.now =
    get_or_default seen k None c.index.result.now inside ∙ sym c.index.ensures in
    let is : f ≡ unwrap_or (get_or seen k None) y =
    c.unwrap_or-first.ensures ∙ ap (unwrap_or c.index.result.now) c.loop-number.invariant.place
    ∙ ap (λ o. unwrap_or o y) (sym read) in
    record {
      place = omega (arith, c.loop-number.invariant.place);
      table = length-set seen k (Some f) ∙ c.loop-number.invariant.table;
      noted =
          subst (IsNoting numbers (y + 1) (set seen k (Some f))) (sym c.in_ok-push.ensures.items)
          (noting-more numbers y k f seen c.loop-number.firsts.items c.loop-number-test.true refl
          inside
          is c.loop-number.invariant.noted);
    }
