use Rattle.std.proofs.Common.{[], ◌∷◌, refl, arith}
use Rattle.iface_rows.proofs.tests.the_successor_of_a_summand_stays.Goals as goal

pub first_round-requires-clause-whole : goal.first_round-requires-clause-whole
first_round-requires-clause-whole g c = (
  1 ∷ [],
  record {
    one_each = refl;
    are_trits = (omega arith, tt);
    all_coarse = refl;
    moved_is = refl;
  },
)
