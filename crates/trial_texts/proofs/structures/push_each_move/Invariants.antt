use Rattle.std.proofs.Common.{◌≡◌, ◌-◌, ◌*◌, ◌++◌}
use Rattle.trial_texts.specs.Draws.{number}
use Rattle.trial_texts.specs.Text.{move_text}
use Rattle.trial_texts.proofs.EntryLaws.{entries}
use Rattle.trial_texts.proofs.structures.push_each_move.Given as goal

-- what is put so far goes on with the entries that are left to what is put in all
abbrev pub invariant-loop-i : goal.invariant-loop-i
invariant-loop-i l = record {
  text :
      l.text.items ++ entries move_text 3 l.size (l.count - l.i) l.draws.number
      ≡ l.initial.text.items ++ entries move_text 3 l.size l.count l.initial.draws.number;
  draws : number (2 * (l.count - l.i)) l.draws.number ≡ number (2 * l.count) l.initial.draws.number;
}
