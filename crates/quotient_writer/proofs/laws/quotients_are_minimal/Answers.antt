use Rattle.quotient_writer.proofs.QuotientLaws.{minimal}
use Rattle.quotient_writer.proofs.laws.quotients_are_minimal.Goals as goal

pub returns : goal.returns
returns c t names values b l within joins ns vs q =
    minimal t names values b l.covers l.one_each l.numbered within ns vs q joins
