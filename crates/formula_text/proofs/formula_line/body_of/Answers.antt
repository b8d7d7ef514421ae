use Rattle.std.proofs.Common.{arith}
use Rattle.formula_text.proofs.LineLaws.{body_of-other}
use Rattle.formula_text.proofs.formula_line.body_of.Goals as goal

pub returns-in-len4-clause-body : goal.returns-in-len4-clause-body
returns-in-len4-clause-body c =
    body_of-other c.args.k (λ part. part.now) c.args.body.now
    (omega arith) (omega arith) (omega arith) (omega arith)

pub returns-in-len6-up-clause-body : goal.returns-in-len6-up-clause-body
returns-in-len6-up-clause-body c =
    body_of-other c.args.k (λ part. part.now) c.args.body.now
    (omega arith) (omega arith) (omega arith) (omega arith)
