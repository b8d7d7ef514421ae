use Rattle.std.proofs.Common.{◌-◌, length, take, ap}
use Rattle.std.proofs.lemmas.List.Sums.{suffix_len-le-length}
use Rattle.weights.proofs.digits.without_end_zeros.Goals as goal

pub slice_bounds-result-count : goal.slice_bounds-result-count
slice_bounds-result-count c = rw c.zeros_at_end.ensures.value
    (suffix_len-le-length _ c.args.digits.now)

pub returns : goal.returns
returns c =
    record {
      value =
          ap (λ n. take (length c.args.digits.now - n) c.args.digits.now)
          c.zeros_at_end.ensures.value;
    }
