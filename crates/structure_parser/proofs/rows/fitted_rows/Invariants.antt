use Rattle.std.proofs.Common.{◌≡◌, ◌≤◌, ◌^◌, length}
use Rattle.std.specs.List.{AllByRecursion}
use Rattle.structure_parser.specs.Reading.{rows_in, first_bad, told, told_all, IsSound}
use Rattle.structure_parser.proofs.rows.fitted_rows.Given as goal

-- the first bad line of the rest is that of all, and what is told with the rest is told of all
abbrev pub invariant-lines : goal.invariant-lines
invariant-lines l = record {
  rows : first_bad l.line-iterator ≡ first_bad l.fn.lines;
  so_told :
      told l.term l.heads.names l.so_far (rows_in l.line-iterator)
      ≡ told_all l.term l.heads.names l.heads.fresh (rows_in l.fn.lines);
  sound : IsSound l.term (length l.heads.names) l.so_far;
  short : AllByRecursion (λ line. length line.text ≤ 2 ^ 26) l.line-iterator;
}
