use Rattle.std.proofs.Common.{◌++◌, [], ◌∷◌, Bool, List, length, ap, ◌∙◌, arith}
use Rattle.evaluation.specs.Packed.{has_bit}
use Rattle.evaluation.proofs.BitLaws.{length-truths, truths_pushed}
use Rattle.evaluation.proofs.row.Row.push.Goals as goal

pub overflow_add-self : goal.overflow_add-self
overflow_add-self c =
    let s = c.self.inside in
    let count = length-truths (has_bit s.words.items) s.len in
    let is = ap (λ (l : List Bool). length l) c.self.view_is in
    omega (arith, count, is, c.requires.room)

pub returns : goal.returns
returns c =
    let s = c.self.inside in
    record {
      last =
          truths_pushed s.len c.args.truth s.words.items c.push_bit.new.words.items
          c.in_ok-push_bit.ensures.pushed
          ∙ ap (λ (l : List Bool). l ++ c.args.truth ∷ []) c.self.view_is;
    }
