use Rattle.std.proofs.Common.{◌≡◌, ◌∙◌, ◌+◌, ap, arith, slice_get}
use Rattle.quotient_writer.specs.Blocks.{first_state}
use Rattle.quotient_writer.proofs.Firsts.{pick-at}
use Rattle.quotient_writer.proofs.laws.first_states_are_picked.Goals as goal

pub returns : goal.returns
returns c = record {
  names = λ b xs l h k.
      pick-at 0 b xs l h k
      ∙ ap (λ n. slice_get xs (first_state b n)) (let e : 0 + k ≡ k = omega arith in e);
  values = λ b xs l h k.
      pick-at 0 b xs l h k
      ∙ ap (λ n. slice_get xs (first_state b n)) (let e : 0 + k ≡ k = omega arith in e);
}
