use Rattle.std.proofs.Common.{[], ◌∷◌, refl, arith}
use Rattle.iface_rows.proofs.tests.a_sum_of_interfaces_takes_a_set_on_the_left.Goals as goal

pub first_round-requires-clause-whole : goal.first_round-requires-clause-whole
first_round-requires-clause-whole g c = (
  2 ∷ 1 ∷ 1 ∷ [],
  record {
    one_each = refl;
    are_trits = (omega arith, (omega arith, (omega arith, tt)));
    all_coarse = refl;
    moved_is = refl;
  },
)
