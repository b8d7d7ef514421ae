use Rattle.file_sizes.proofs.QuotientSizes.{quotient_no_larger, quotient_few}
use Rattle.file_sizes.proofs.laws.quotients_are_no_larger.Goals as goal

pub returns-clause-no_larger : goal.returns-clause-no_larger
returns-clause-no_larger c = quotient_no_larger

pub returns-clause-few : goal.returns-clause-few
returns-clause-few c = quotient_few
