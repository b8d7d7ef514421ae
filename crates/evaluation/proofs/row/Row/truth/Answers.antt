use Rattle.std.proofs.Common.{◌≡◌, Bool, false, List, ℕ, sym, ap, ◌∙◌}
use Rattle.std.proofs.lemmas.Bool.Decides.{nat_tests}
use Rattle.std.proofs.Common.{nat_lt, arith, ◌≤◌}
use Rattle.evaluation.specs.Truths.{truth_at}
use Rattle.evaluation.specs.Packed.{has_bit}
use Rattle.evaluation.proofs.BitLaws.{truth_here, truth_past}
use Rattle.evaluation.proofs.row.Row.truth.Goals as goal

fails : (x n : ℕ) → n ≤ x → nat_lt x n ≡ false
fails x n h = grind (arith, nat_tests)

pub returns-then-x-self : goal.returns-then-x-self
returns-then-x-self c =
    let s = c.self.inside in
    record {
      there =
          c.bit_of.ensures ∙ ap (λ ws. has_bit ws c.args.x) c.as_slice.ensures.value
          ∙ sym (truth_here (has_bit s.words.items) s.len c.args.x c.if-x-self.true)
          ∙ ap (λ (l : List Bool). truth_at l c.args.x) c.self.view_is;
    }

pub returns-else-x-self : goal.returns-else-x-self
returns-else-x-self c =
    let s = c.self.inside in
    record {
      there =
          fails c.args.x s.len c.if-x-self.false
          ∙ sym (truth_past (has_bit s.words.items) s.len c.args.x c.if-x-self.false)
          ∙ ap (λ (l : List Bool). truth_at l c.args.x) c.self.view_is;
    }
