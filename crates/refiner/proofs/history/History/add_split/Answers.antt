use Rattle.std.proofs.Common.{◌∙◌, ◌++◌, ◌∷◌, [], length, ap, arith}
use Rattle.refiner.specs.Recorded.{Recorded}
use Rattle.refiner.proofs.Ranges.{rounds_kept, splits_added}
use Rattle.refiner.proofs.history.History.add_split.Goals as goal

pub returns-clause-rounds : goal.returns-clause-rounds
returns-clause-rounds c =
    let was = c.self.inside in
    rw (c.in_ok-push.ensures.items, c.in_ok-append.ensures.items)
    (rounds_kept was.splits.items _ was.parts.items c.args.parts.now.items was.rounds.items
    c.self.invariant.of_parts c.self.invariant.of_splits
    ∙ ap (λ (r : Recorded). r.rounds) c.self.view_is)

pub returns-clause-splits : goal.returns-clause-splits
returns-clause-splits c =
    let was = c.self.inside in
    rw (c.in_ok-push.ensures.items, c.in_ok-append.ensures.items)
    (splits_added was.ended was.splits.items was.parts.items c.args.parts.now.items _
    c.self.invariant.open_within c.self.invariant.of_parts (omega arith)
    (omega (arith, ap length c.in_ok-append.ensures.items))
    ∙ ap (λ (r : Recorded). r.splits
    ++ record { parent = c.args.parent; parts = c.args.parts.now.items } ∷ []) c.self.view_is)
