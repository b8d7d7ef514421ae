use Rattle.std.proofs.Common.{[], ◌∷◌, refl, arith}
use Rattle.iface_rows.proofs.sums_tests.a_distribution_keeps_what_lies_outside.Goals as goal

pub two_rounds-requires-clause-twice : goal.two_rounds-requires-clause-twice
two_rounds-requires-clause-twice g c = (
  1 ∷ 2 ∷ 1 ∷ [],
  1 ∷ 0 ∷ 2 ∷ [],
  record {
    whole = record {
      one_each = refl;
      are_trits = (omega arith, (omega arith, (omega arith, tt)));
      all_coarse = refl;
      moved_is = refl;
    };
    one_each = refl;
    are_trits = (omega arith, (omega arith, (omega arith, tt)));
    within_rest = refl;
    second_is = refl;
  },
)
