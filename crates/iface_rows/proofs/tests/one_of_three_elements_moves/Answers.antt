use Rattle.std.proofs.Common.{[], ◌∷◌, refl, arith}
use Rattle.iface_rows.proofs.tests.one_of_three_elements_moves.Goals as goal

pub first_round-requires-clause-whole : goal.first_round-requires-clause-whole
first_round-requires-clause-whole g c = (
  2 ∷ 1 ∷ 1 ∷ [],
  record {
    one_each = refl;
    are_trits = (omega arith, (omega arith, (omega arith, tt)));
    all_coarse = refl;
    moved_is = refl;
  },
)
