use Rattle.std.proofs.Common.{◌≤◌, ◌+◌, ◌^◌, length}
use Rattle.formula_text.proofs.ReadLaws.{IsReadSoFar}
use Rattle.formula_text.proofs.reading.read_lines.Given as goal

-- the text has what the lines before those that are left say
abbrev pub invariant-lines : goal.invariant-lines
invariant-lines l = record {
  read : IsReadSoFar l.fn.pairs l.fn.found l.line-iterator l.text;
  room : length l.text.dag + length l.line-iterator ≤ 2 ^ 26;
}
