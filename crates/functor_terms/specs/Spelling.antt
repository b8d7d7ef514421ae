-- Terms that crates above speak of by name.
--
-- sets_of_states  == the term of the sets of states
use Rattle.std.specs.Prelude.{[], ◌∷◌}
use Rattle.functor_terms.specs.declared.node.Node.TheVariants.{State, Powerset}
use Rattle.functor_terms.specs.Terms.{Nodes, branch}

-- the sets of states
abbrev pub sets_of_states : Nodes
sets_of_states = branch Powerset (1 ∷ []) ∷ branch State [] ∷ []
