use Rattle.std.proofs.Common.{◌∙◌, sym}
use Rattle.weights.proofs.Spelled.{joined_in_bound, joined_over}
use Rattle.weights.proofs.digits.joined_within.Goals as goal

pub returns-in-Some : goal.returns-in-Some
returns-in-Some c =
    record {
      value =
          c.number_within-in-Some.ensures.value
          ∙ joined_in_bound c.in-Some.front c.args.whole.now c.args.fraction.now
          (sym c.in-Some.is ∙ c.number_within.ensures.value);
    }

pub returns-in-None : goal.returns-in-None
returns-in-None c =
    record {
      value =
          joined_over c.args.whole.now c.args.fraction.now
          (sym c.in-None.is ∙ c.number_within.ensures.value);
    }
