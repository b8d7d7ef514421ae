use Rattle.quotient_writer.proofs.OwnQuotient.{own_quotient}
use Rattle.quotient_writer.proofs.laws.minimal_systems_are_their_own_quotients.Goals as goal

pub returns : goal.returns
returns c t names values b l well apart ns vs q = own_quotient t names values b l well apart ns vs q
