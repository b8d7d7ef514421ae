use Rattle.std.proofs.Common.{zero, suc, [], ◌∷◌, refl, arith}
use Rattle.quotient_writer.specs.Blocks.{AreFirsts}
use Rattle.quotient_writer.proofs.tests.classes_are_numbered_by_their_first_states.Goals as goal

firsts : AreFirsts (0 ∷ 0 ∷ 2 ∷ 0 ∷ 2 ∷ [])
firsts zero h = (omega arith, refl)
firsts (suc zero) h = (omega arith, refl)
firsts (suc (suc zero)) h = (omega arith, refl)
firsts (suc (suc (suc zero))) h = (omega arith, refl)
firsts (suc (suc (suc (suc zero)))) h = (omega arith, refl)
firsts (suc (suc (suc (suc (suc i))))) h = absurd (omega arith)

pub class_numbers-requires-clause-firsts : goal.class_numbers-requires-clause-firsts
class_numbers-requires-clause-firsts t c = firsts
