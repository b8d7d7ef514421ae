use Rattle.std.proofs.Common.{◌≡◌, ◌++◌, drop}
use Rattle.formula_text.specs.Texts.{text_from}
use Rattle.formula_text.proofs.writing.dag_text.Given as goal

-- what is written, with the lines to come, is the whole
abbrev pub invariant-loop-k : goal.invariant-loop-k
invariant-loop-k l = l.text.items ++ text_from l.k (drop l.k l.dag) ≡ text_from 0 l.dag
