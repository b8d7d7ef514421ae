use Rattle.satisfaction.specs.Modalities.{FitBelow}
use Rattle.satisfaction.proofs.modality.first_misfit.Given as goal

abbrev pub invariant-loop-k : goal.invariant-loop-k
invariant-loop-k l = FitBelow l.term l.dag l.k
