use Rattle.quotient_writer.proofs.QuotientLaws.{determined}
use Rattle.quotient_writer.proofs.laws.quotients_are_determined.Goals as goal

pub returns-clause-names : goal.returns-clause-names
returns-clause-names c t names values b l ns ms us vs p q =
    (determined t names values b l.covers l.one_each l.numbered ns ms us vs p q).0

pub returns-clause-values : goal.returns-clause-values
returns-clause-values c t names values b l ns ms us vs p q =
    (determined t names values b l.covers l.one_each l.numbered ns ms us vs p q).1
