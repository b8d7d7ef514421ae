use Rattle.std.proofs.Common.{◌<◌, ◌^◌, ℤ, unsigned_abs, FitsSigned, arith, rules}
use Rattle.std.specs.Int.{w128}
use Rattle.std.proofs.lemmas.Int.{ints}
use Rattle.weights.specs.FractionTextLaws.{text_of_fraction-spells, reading_of-text}
use Rattle.weights.proofs.text.ratio_text.Goals as goal

-- a number of 128 bits has at most 64 digits
few_digits : (p : ℤ) → FitsSigned w128 p → unsigned_abs p < 10 ^ 64
few_digits p fits = omega (arith, ints)

pub returns-then-r-eq1-clause-spells : goal.returns-then-r-eq1-clause-spells
returns-then-r-eq1-clause-spells c some =
    let fits : FitsSigned w128 c.args.r.p = search rules in
    text_of_fraction-spells c.args.r.p c.args.r.q (few_digits c.args.r.p fits) some (omega arith)

pub returns-clause-spells : goal.returns-clause-spells
returns-clause-spells c some =
    let fits : FitsSigned w128 c.args.r.p = search rules in
    text_of_fraction-spells c.args.r.p c.args.r.q (few_digits c.args.r.p fits) some (omega arith)

pub returns-then-r-eq1-clause-reads_back : goal.returns-then-r-eq1-clause-reads_back
returns-then-r-eq1-clause-reads_back c = reading_of-text c.args.r.p c.args.r.q

pub returns-clause-reads_back : goal.returns-clause-reads_back
returns-clause-reads_back c = reading_of-text c.args.r.p c.args.r.q
