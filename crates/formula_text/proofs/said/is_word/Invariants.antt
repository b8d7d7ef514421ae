use Rattle.std.proofs.Common.{◌≡◌, drop}
use Rattle.std.specs.List.{list_all}
use Rattle.file_cut.specs.Bytes.{is_word_byte}
use Rattle.formula_text.proofs.said.is_word.Given as goal

-- the bytes so far are of words
abbrev pub invariant-loop-byte : goal.invariant-loop-byte
invariant-loop-byte l =
    list_all is_word_byte l.part ≡ list_all is_word_byte (drop l.byte-index l.part)
