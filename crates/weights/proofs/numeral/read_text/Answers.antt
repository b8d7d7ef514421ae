use Rattle.std.specs.Char.{is_ascii_digit}
use Rattle.std.proofs.lemmas.List.Sums.{prefix_len-le-length}
use Rattle.weights.proofs.numeral.read_text.Goals as goal

pub split_at-requires : goal.split_at-requires
split_at-requires c = rw c.digits_in_front.ensures.value (prefix_len-le-length is_ascii_digit
    c.args.text.now)
