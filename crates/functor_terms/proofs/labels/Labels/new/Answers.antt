use Rattle.std.proofs.Common.{List, ℕ, map, sym, subst}
use Rattle.std.specs.Borrow.{Bor}
use Rattle.functor_terms.specs.Words.{AreNames}
use Rattle.functor_terms.proofs.NamesLemmas.{no_names}
use Rattle.functor_terms.proofs.labels.Labels.new.Goals as goal

pub invariant_of-result : goal.invariant_of-result
invariant_of-result c = subst (λ (ks : List (Bor (List ℕ))). AreNames (map (λ w. w.now) ks))
    (sym c.new.ensures.empty) no_names
