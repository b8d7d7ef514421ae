use Rattle.std.proofs.Common.{◌≡◌, ◌+◌, ◌≤◌, ◌^◌, [], length}
use Rattle.std.specs.Prelude.{if◌then◌else◌}
use Rattle.std.specs.List.{AllByRecursion}
use Rattle.structure_parser.specs.Reading.{names_in, fresh_in}
use Rattle.structure_parser.proofs.heads.first_words.Given as goal

-- what the rest makes of the names so far is what all lines make, and the count is over once a word
-- is old
abbrev pub invariant-lines : goal.invariant-lines
invariant-lines l = record {
  named : names_in l.names l.line-iterator ≡ names_in [] l.fn.lines;
  counted :
      (if l.repeated then l.fresh else l.fresh + fresh_in l.names l.line-iterator)
      ≡ fresh_in [] l.fn.lines;
  few : length l.names + length l.line-iterator ≤ length l.fn.lines;
  less : l.fresh + length l.line-iterator ≤ length l.fn.lines;
  short : AllByRecursion (λ line. length line.text ≤ 2 ^ 26) l.line-iterator;
}
