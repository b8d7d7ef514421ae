use Rattle.std.proofs.Common.{◌∙◌, ℕ, length, sym, ap}
use Rattle.typing.specs.Contents.{content_of}
use Rattle.edge_store.specs.Edges.{Graph}
use Rattle.classes.specs.Counted.{IsCounted}
use Rattle.classes.proofs.Along.{along}
use Rattle.classes.proofs.equivalents.first_equivalents.Goals as goal

pub returns-clause-counted : goal.returns-clause-counted
returns-clause-counted g c =
    along (λ (a b r : ℕ). IsCounted (content_of c.args.c.now) a b r) (sym c.sorted.ensures.count)
    (sym (c.len.ensures.edges
    ∙ ap (λ (g : Graph ℕ). length g.edges) c.store-store.ensures.store))
    (sym c.labels.ensures) c.in_ok-found.ensures.counted
