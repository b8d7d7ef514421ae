use Rattle.std.proofs.Common.{◌<◌, length, get_or, sym, ap, ◌∙◌, arith}
use Rattle.std.proofs.lemmas.List.{get_or_read}
use Rattle.edge_store.proofs.Shown.{shown, edge_in}
use Rattle.edge_store.proofs.store.EdgeStore.label.Goals as goal

pub returns : goal.returns
returns g c =
    let show = shown c.self.invariant c.self.view_is in
    let inside : c.args.e < length c.self.inside.labels.items =
    omega (arith, edge_in show c.requires, c.self.invariant.labels_len) in
    record {
      label = λ d.
          get_or_read c.self.inside.labels.items c.args.e c.index.result.now inside c.index.ensures
          d
          ∙ ap (λ xs. get_or xs c.args.e d) (sym show.labels);
    }

pub index-requires : goal.index-requires
index-requires g c =
    let show = shown c.self.invariant c.self.view_is in
    omega (arith, edge_in show c.requires, c.self.invariant.labels_len)
