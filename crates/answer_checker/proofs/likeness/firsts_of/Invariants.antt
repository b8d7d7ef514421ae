use Rattle.std.proofs.Common.{◌≡◌, length}
use Rattle.answer_checker.proofs.Firsts.{IsNoting}
use Rattle.answer_checker.proofs.likeness.firsts_of.Given as goal

-- the firsts of the states so far
abbrev pub invariant-loop-number : goal.invariant-loop-number
invariant-loop-number l = record {
  place : l.y ≡ l.number-index;
  table : length l.seen.items ≡ l.count;
  noted : IsNoting l.numbers l.number-index l.seen.items l.firsts.items;
}
