-- Laws of the definitions, as statements. Each is the contract of a function that does nothing.
--
-- ListsAreShort          == no list in what a line denotes has more entries than the line has bytes
-- WeightsKeepFractions   == over a multiple of its denominator, a weight is kept as its fraction
use Rattle.std.specs.Prelude.{◌≡◌, ℕ, ◌≤◌, true, pos, ◌*ℤ◌, List, length, Ok, IsTrue}
use Rattle.std.specs.Int.{◌∣◌}
use Rattle.file_cut.specs.Trees.{SpellsLine}
use Rattle.file_cut.specs.declared.tree.Tree.{Tree}
use Rattle.functor_terms.specs.declared.node.Node.{Node}
use Rattle.functor_terms.specs.Terms.{Nodes}
use Rattle.weights.specs.declared.numeral.Numeral.{Numeral}
use Rattle.fitting.specs.declared.fitted.Fitted.{Fitted}
use Rattle.fitting.specs.declared.fitted.Weight.TheVariants as weight
use Rattle.fitting.specs.Fitting.{has_fractions, fitting}
use Rattle.fitting.specs.Scaling.{lists_within, scaled_weight}

-- no list in what a line denotes has more entries than the line has bytes
abbrev pub ListsAreShort : Type 0
ListsAreShort =
    (line head : List ℕ) (tree : Tree) (t : Nodes) (names : List (List ℕ)) (fitted : Fitted) →
    SpellsLine line head tree → fitting t names 0 tree ≡ Ok fitted →
    (n : ℕ) → length line ≤ n → IsTrue (lists_within n fitted)

-- over a multiple of its denominator, a weight p/q at a distribution or at rationals is kept as the
-- same fraction: what is kept is to l as p is to q
abbrev pub WeightsKeepFractions : Type 0
WeightsKeepFractions =
    (l : ℕ) (m : Node) (n : Numeral) → has_fractions m ≡ true → n.q ∣ l →
    scaled_weight l m (weight.Fraction n) *ℤ pos n.q ≡ n.p *ℤ pos l
