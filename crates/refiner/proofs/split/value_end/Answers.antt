use Rattle.std.proofs.Common.{ap, sym, ◌∙◌, arith}
use Rattle.std.proofs.lemmas.List.{get_or_default}
use Rattle.refiner.specs.declared.moved.Moved.{Moved}
use Rattle.refiner.proofs.SplitOff.{run_ends}
use Rattle.refiner.proofs.split.value_end.Goals as goal

pub returns-then-not-is_same : goal.returns-then-not-is_same
returns-then-not-is_same c =
    let moved = c.args.moved.now in
    run_ends moved c.args.from c.loop-k.k c.requires.rising (omega arith) c.loop-k-test.true
    c.loop-k.invariant
    (λ d e. (
    let here = ap (λ (m : Moved). m.three)
    (get_or_default moved c.loop-k.k d c.index-moved-k.result c.loop-k-test.true) in
    let first = ap (λ (m : Moved). m.three)
    (get_or_default moved c.args.from d c.index-moved-from.result c.requires.place) in
    let same = c.is_same.ensures.1 (sym here ∙ e ∙ first) in cc))
