-- When a formula holds at a state of a coalgebra.
--
-- layers_of t d values         == the structures in the values of the states, as points in layers
-- holds_in t d values dag k i  == formula k holds at state i
-- holds_at c dag k i           == the same of a coalgebra, as plain data
-- HoldsAt c dag k i            == the same, as a statement
use Rattle.std.specs.Prelude.{ℕ, Bool, false, IsTrue, List, slice_get}
use Rattle.std.specs.Option.{option_map_or}
use Rattle.functor_terms.specs.Terms.{Nodes, node_at}
use Rattle.typing.specs.declared.value.Value.{Value}
use Rattle.typing.specs.Contents.{Content}
use Rattle.typing.specs.Layers.{Place, kids}
use Rattle.formulas.specs.declared.formula.Formula.{Formula}
use Rattle.formulas.specs.Truth.{Layers, holds}
use Rattle.formula_checker.specs.LayerValues.{layer_value}

module _ (t : Nodes) (d : ℕ) (values : List Value) where
  -- The structures in the values of the states, as points in layers. Below a structure are its
  -- children, where a state has its root structure; d is the denominator of the weights.
  abbrev pub layers_of : Layers Place
  layers_of = record {
    node = λ x. x.0;
    below = kids t values;
    value = λ x trits. layer_value d (node_at t x.0) x.1 trits;
  }

  -- formula k holds at the root structure of state i, and at no state past the last
  abbrev pub holds_in : List Formula → ℕ → ℕ → Bool
  holds_in dag k i = option_map_or (λ v. holds layers_of dag k (0, v)) (slice_get values i) false

-- formula k holds at state i of the coalgebra
abbrev pub holds_at : Content → List Formula → ℕ → ℕ → Bool
holds_at c dag k i = holds_in c.term c.denominator c.values dag k i

-- the same, as a statement
abbrev pub HoldsAt : Content → List Formula → ℕ → ℕ → Type 0
HoldsAt c dag k i = IsTrue (holds_at c dag k i)
