use Rattle.std.proofs.Common.{◌≡◌, ◌+◌, drop}
use Rattle.std.specs.List.{position_or_len}
use Rattle.formula_text.specs.Numbers.{is_same}
use Rattle.formula_text.specs.Values.{set_texts}
use Rattle.formula_text.proofs.values.set_in.Given as goal

-- none of the sets so far has the text
abbrev pub invariant-loop-bits : goal.invariant-loop-bits
invariant-loop-bits l =
    position_or_len (is_same l.part) set_texts
    ≡ l.bits + position_or_len (is_same l.part) (drop l.bits set_texts)
