use Rattle.std.proofs.Common.{sym, subst, []}
use Rattle.typing.specs.Layers.{roots_of}
use Rattle.structures.specs.Walk.{IsWalked}
use Rattle.structures.proofs.Walked.{walked_start}
use Rattle.structures.proofs.walking.walked.Goals as goal

pub follow-requires-clause-begun : goal.follow-requires-clause-begun
follow-requires-clause-begun c =
    let t = c.args.term.now in
    let values = c.args.values.now in
    subst (λ ps. IsWalked t values ps c.in_ok-sources.sources.items c.in_ok-targets.targets.items 0)
    (sym c.in_ok-places.ensures)
    (subst (λ ss. IsWalked t values (roots_of values) ss c.in_ok-targets.targets.items 0)
    (sym c.in_ok-sources.ensures.items)
    (subst (λ ts. IsWalked t values (roots_of values) [] ts 0)
    (sym c.in_ok-targets.ensures.items)
    (walked_start t values c.requires.fitting c.requires.in_range c.requires.within)))
