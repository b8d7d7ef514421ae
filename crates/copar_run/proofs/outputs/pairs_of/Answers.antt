use Rattle.std.proofs.Common.{◌≤◌, ◌*◌, ◌++◌, length, drop, arith, ap, sym, ◌∙◌, append-nil, length-drop}
use Rattle.copar_run.proofs.AnswerLaws.{no-pair}
use Rattle.copar_run.proofs.outputs.pairs_of.Goals as goal

pub returns : goal.returns
returns c =
    let k = c.loop-k.k in
    let numbers = c.args.numbers.now in
    let few : length (drop (2 * k) numbers) ≤ 1 =
    omega (arith, length-drop (2 * k) numbers, c.loop-k-test.false) in
    sym (append-nil c.loop-k.pairs.items)
    ∙ ap (λ ps. c.loop-k.pairs.items ++ ps) (sym (no-pair (drop (2 * k) numbers) few))
    ∙ c.loop-k.invariant
