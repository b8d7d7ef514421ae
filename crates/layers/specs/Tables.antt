-- What a table under way holds.
--     Tables        the shapes and the weights that have numbers, in their order
use Rattle.std.specs.Prelude.{◌≡◌, ℕ, ℤ, List, Some, slice_get}
use Rattle.layers.specs.declared.shape.LayerShape.{LayerShape}

-- the shapes and the weights that have numbers, in their order
pub record Tables : Type 0 where
  pub shapes : List LayerShape
  pub weights : List ℤ

-- what has a number in the first list has the same number in the second
abbrev pub Keeps : {A : Type 0} → List A → List A → Type 0
Keeps {A} old new = (i : ℕ) (x : A) → slice_get old i ≡ Some x → slice_get new i ≡ Some x
