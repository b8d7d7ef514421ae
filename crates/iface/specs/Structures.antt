-- What an interface means, and its laws, over plain lists.
--     Classed, under              a structure with the class of each edge's target; other classes
--     joined, three_way           two classes made one, and the trits that tell them apart
--     IsFitting, IsNumbering      labels suit the shape; classes are numbered by 0, 1 and 2
--     IfaceLaws                   the laws that no call states
--     IsCell, IsUpdated           the weight of one structure before a move and after it
use Rattle.std.specs.Prelude.{◌≡◌, ◌≢◌, ◌≤◌, ℕ, ◌==◌, Bool, cond, List, length, map}
use Rattle.modalities.specs.declared.three.Three.{Three}
use Rattle.iface.specs.Trits.{AreTrits, each, picked, in_coarse, in_rest, in_splitter, without_splitter}

-- the class, with the new one joined to the old
abbrev pub joined : ℕ → ℕ → ℕ → ℕ
joined old new class = cond (class == new) old class

-- 2 on the new class, 1 on the old one, 0 elsewhere
abbrev pub three_way : ℕ → ℕ → ℕ → ℕ
three_way old new class = cond (class == new) 2 (cond (class == old) 1 0)

-- a numbering of classes by 0, 1 and 2
abbrev pub IsNumbering : (ℕ → ℕ) → Type 0
IsNumbering h = (class : ℕ) → h class ≤ 2

-- a structure, with the class of the target of each of its edges
pub record Classed (Shape Label : Type 0) : Type 0 where
  pub shape : Shape
  pub labels : List Label
  pub classes : List ℕ

-- the same structure under other classes
abbrev pub under :
    {Shape Label : Type 0} → (ℕ → ℕ) → Classed Shape Label → Classed Shape Label
under f x = record { shape = x.shape; labels = x.labels; classes = map f x.classes }

-- the labels suit the shape, and each edge's target has a class
pub record IsFitting
    {Shape Label : Type 0} (fits : Shape → List Label → Type 0)
    (x : Classed Shape Label) : Type 0 where
  pub fit : fits x.shape x.labels
  pub one_each : length x.classes ≡ length x.labels

-- the laws of an interface other than those that its calls state
pub record IfaceLaws
    {Shape Label : Type 0} (node : Shape → ℕ) (kin : Shape → Shape → Type 0)
    (fits : Shape → List Label → Type 0) (value : Shape → List Label → List ℕ → Three)
    (agree : Classed Shape Label → Classed Shape Label → Type 0) : Type 0 where
  -- kin structures of one node, and with one value for 2 everywhere, agree where all targets have
  -- one class
  pub start :
      (x y : Classed Shape Label) (class : ℕ) → IsFitting fits x → IsFitting fits y →
      kin x.shape y.shape → node x.shape ≡ node y.shape →
      value x.shape x.labels (each 2 x.labels) ≡ value y.shape y.labels (each 2 y.labels) →
      agree (under (λ _. class) x) (under (λ _. class) y)
  -- structures that agree while the new class is joined to the old one, and have one value for 2
  -- on the new class, 1 on the old one and 0 elsewhere, agree under both classes
  pub splits :
      (x y : Classed Shape Label) (old new : ℕ) → old ≢ new → IsFitting fits x → IsFitting fits y →
      agree (under (joined old new) x) (under (joined old new) y) →
      value x.shape x.labels (map (three_way old new) x.classes)
      ≡ value y.shape y.labels (map (three_way old new) y.classes) →
      agree x y
  -- structures that agree go on agreeing where classes are merged
  pub merges :
      (x y : Classed Shape Label) (f : ℕ → ℕ) → IsFitting fits x → IsFitting fits y →
      agree x y → agree (under f x) (under f y)
  -- structures that agree have one node
  pub one_node :
      (x y : Classed Shape Label) → IsFitting fits x → IsFitting fits y →
      agree x y → node x.shape ≡ node y.shape
  -- structures that agree have one value for each numbering of their classes by 0, 1 and 2
  pub one_value :
      (x y : Classed Shape Label) (h : ℕ → ℕ) → IsNumbering h → IsFitting fits x →
      IsFitting fits y → agree x y →
      value x.shape x.labels (map h x.classes) ≡ value y.shape y.labels (map h y.classes)

-- a weight towards a coarse block, and the labels of the edges into a splitter within that block
pub record IsCell
    {Shape Label Weight : Type 0} (fits : Shape → List Label → Type 0)
    (toward : Shape → List Label → List Bool → Weight) (weight : Weight) (moved : List Label)
    (shape : Shape) (labels : List Label) (trits : List ℕ) : Type 0 where
  pub fit : fits shape labels
  pub one_each : length trits ≡ length labels
  pub are_trits : AreTrits trits
  pub weight_is : weight ≡ toward shape labels (in_coarse trits)
  pub moved_is : moved ≡ picked labels trits

-- the weights towards the rest and the splitter, the value, and the value of a structure that
-- agrees with this one while they are one block, and has no edge into the splitter
pub record IsUpdated
    {Shape Label Weight : Type 0} (value : Shape → List Label → List ℕ → Three)
    (toward : Shape → List Label → List Bool → Weight) (rest part : Weight) (three void : Three)
    (shape : Shape) (labels : List Label) (trits : List ℕ) : Type 0 where
  pub rest_is : rest ≡ toward shape labels (in_rest trits)
  pub part_is : part ≡ toward shape labels (in_splitter trits)
  pub three_is : three ≡ value shape labels trits
  pub void_is : void ≡ value shape labels (without_splitter trits)
