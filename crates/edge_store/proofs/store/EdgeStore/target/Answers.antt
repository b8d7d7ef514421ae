use Rattle.std.proofs.Common.{◌<◌, get_or, length, sym, ap, ◌∙◌, arith}
use Rattle.std.proofs.lemmas.List.{get_or_read}
use Rattle.edge_store.proofs.Shown.{shown, edge_in}
use Rattle.edge_store.proofs.store.EdgeStore.target.Goals as goal

pub returns-clause-target : goal.returns-clause-target
returns-clause-target g c =
    let show = shown c.self.invariant c.self.view_is in
    let inside = edge_in show c.requires in
    get_or_read c.self.inside.targets.items c.args.e c.index.result.now
    (omega (arith, inside, c.self.invariant.targets_len)) c.index.ensures 0
    ∙ ap (λ xs. get_or xs c.args.e 0) (sym show.targets)

pub returns-clause-in_range : goal.returns-clause-in_range
returns-clause-in_range g c =
    let show = shown c.self.invariant c.self.view_is in
    let inside : c.args.e < length c.self.inside.targets.items =
    omega (arith, edge_in show c.requires, c.self.invariant.targets_len) in
    let is = get_or_read c.self.inside.targets.items c.args.e c.index.result.now inside
    c.index.ensures 0 in
    omega (arith, is, c.self.invariant.targets_in c.args.e 0 inside, show.states)

pub index-requires : goal.index-requires
index-requires g c =
    let show = shown c.self.invariant c.self.view_is in
    omega (arith, edge_in show c.requires, c.self.invariant.targets_len)
