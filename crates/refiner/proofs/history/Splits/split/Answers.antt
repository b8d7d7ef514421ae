use Rattle.std.proofs.Common.{◌≡◌, ◌<◌, List, Some, length, slice_index_or, sym, subst}
use Rattle.std.specs.Prelude.{slice_get}
use Rattle.refiner.specs.Recorded.{Split}
use Rattle.refiner.specs.Flat.{split_of}
use Rattle.refiner.proofs.Ranges.{map_at}
use Rattle.refiner.proofs.history.Splits.split.Goals as goal

pub returns : goal.returns
returns c =
    let rows = c.self.inside.rows.now in
    let parts = c.self.inside.parts.now in
    subst (λ (ss : List Split). slice_get ss c.args.k
    ≡ Some (split_of parts (slice_index_or rows c.args.k _))) c.self.view_is
    (map_at (split_of parts) rows c.args.k _
    (subst (λ (ss : List Split). c.args.k < length ss) (sym c.self.view_is) c.requires))
