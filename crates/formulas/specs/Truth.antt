-- When a formula holds at a point of a layered structure. The states of a sorted system and the
-- structures in values are such points, so there is one truth for both.
--
-- Layers             == what is known of points: nodes, the points below, the values of layers
-- is_value a b       == the two values are one
-- trit               == the number that two cited formulas give to a point below
-- holds_by           == whether a formula holds, by the truths of those that it cites
-- holds_within       == the same, where citations are followed to a depth
-- holds w dag k x    == formula k holds at x
-- IsLikeness         == points that are related have one node, and one value of their layers
use Rattle.std.specs.Prelude.{◌≡◌, ◌≤◌, ℕ, zero, suc, Bool, false, true, not, ◌&&◌, ◌==◌, if◌then◌else◌, List, map, slice_get}
use Rattle.std.specs.Option.{option_map_or}
use Rattle.std.specs.Ordering.{eq_by_cmp}
use Rattle.modalities.specs.declared.three.Three.{Three}
use Rattle.modalities.specs.Order.{three_cmp}
use Rattle.formulas.specs.declared.formula.Formula.{Formula}
use Rattle.formulas.specs.declared.formula.Formula.TheVariants.{True, Not, And, At}

-- Points in layers: each has a node, the points below it in order, and a value of its one layer,
-- once each point below has a number 0, 1 or 2.
pub record Layers (Point : Type 0) : Type 0 where
  pub node : Point → ℕ
  pub below : Point → List Point
  pub value : Point → List ℕ → Three

-- the two values are one
abbrev pub is_value : Three → Three → Bool
is_value = eq_by_cmp three_cmp

-- 2 where both formulas hold, 1 where the coarse one alone does, 0 elsewhere
abbrev pub trit : Bool → Bool → ℕ
trit splitter coarse = if coarse then (if splitter then 2 else 1) else 0

module _ {Point : Type 0} (w : Layers Point) where
  -- whether a formula holds at a point, by the truths of the formulas that it cites
  abbrev pub holds_by : (ℕ → Point → Bool) → Formula → Point → Bool
  holds_by told True x = true
  holds_by told (Not i) x = not (told i x)
  holds_by told (And i j) x = told i x && told j x
  holds_by told (At node value splitter coarse) x =
      (w.node x == node)
      && is_value (w.value x (map (λ y. trit (told splitter y) (told coarse y)) (w.below x))) value

  -- the same of formula k, where citations are followed to a depth of at most n
  abbrev pub holds_within : List Formula → ℕ → ℕ → Point → Bool
  holds_within dag zero k x = false
  holds_within dag (suc n) k x =
      option_map_or (λ f. holds_by (holds_within dag n) f x) (slice_get dag k) false

  -- formula k holds at the point; it cites smaller numbers, so k steps down are enough
  unfoldable pub holds : List Formula → ℕ → Point → Bool
  holds dag k x = holds_within dag (suc k) k x

-- A relation of points of two layered structures: points that are related have one node, and one
-- value wherever related points below have one number.
pub record IsLikeness
    {Point Other : Type 0} (w : Layers Point) (v : Layers Other)
    (like : Point → Other → Type 0) : Type 0 where
  pub one_node : (x : Point) (y : Other) → like x y → w.node x ≡ v.node y
  pub one_value :
      (x : Point) (y : Other) → like x y → (f : Point → ℕ) (g : Other → ℕ) →
      ((a : Point) → f a ≤ 2) → ((b : Other) → g b ≤ 2) →
      ((a : Point) (b : Other) → like a b → f a ≡ g b) →
      w.value x (map f (w.below x)) ≡ v.value y (map g (v.below y))
