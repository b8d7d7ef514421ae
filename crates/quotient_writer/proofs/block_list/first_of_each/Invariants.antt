use Rattle.quotient_writer.proofs.Classes.{IsPassing}
use Rattle.quotient_writer.proofs.block_list.first_of_each.Given as goal

abbrev pub invariant-loop-i : goal.invariant-loop-i
invariant-loop-i l = IsPassing l.labels l.i l.firsts.items
