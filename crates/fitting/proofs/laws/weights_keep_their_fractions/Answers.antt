use Rattle.fitting.proofs.ScaledFractions.{weights-keep}
use Rattle.fitting.proofs.laws.weights_keep_their_fractions.Goals as goal

pub returns : goal.returns
returns c = weights-keep
