use Rattle.std.proofs.Common.{arith, ◌≤◌}
use Rattle.quotient_writer.proofs.Firsts.{began-before, numbered-so}
use Rattle.quotient_writer.proofs.laws.classes_are_numbered_by_first_states.Goals as goal

pub returns : goal.returns
returns c b = (
  λ numbered i hi k high. began-before 0 b numbered i hi k (omega arith) high,
  λ began. numbered-so 0 b (λ i hi k low high. began i hi k high),
)
