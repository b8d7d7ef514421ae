-- Stable lists and behavioural equivalence. A list has one number for each state; states with one
-- number are in one class. Nothing here knows how classes are found.
--
-- AreEqualUnder t b u v          == u and v are equal once their states are relabelled by b
-- IsStable t values b            == states with one number have structures that are equal under b
-- AreEquivalent t values i j     == some stable list has one number for i and j
-- IsFirst t values i f           == f is the least state that is equivalent to i
-- Refines s b                    == states with one number in s have one number in b
use Rattle.std.specs.Prelude.{◌≡◌, ℕ, ◌<◌, ◌≤◌, List, length, slice_index, slice_get, Some, IsTrue, map}
use Rattle.std.specs.List.{position_or_len}
use Rattle.functor_terms.specs.Terms.{Nodes}
use Rattle.typing.specs.declared.value.Value.{Value}
use Rattle.typing.specs.Values.{relabelled}
use Rattle.typing.specs.Equality.{are_equal}

-- the structures u and v are equal once their states are relabelled by b
abbrev pub AreEqualUnder : Nodes → List ℕ → Value → Value → Type 0
AreEqualUnder t b u v = IsTrue (are_equal t 0 (relabelled b u) (relabelled b v))

module _ (t : Nodes) (values : List Value) where
  -- one number for each state, and states with one number have structures equal under the list
  pub record IsStable (b : List ℕ) : Type 0 where
    pub covers : length b ≡ length values
    pub equal :
        (i j : ℕ) (u v : Value) → slice_get values i ≡ Some u → slice_get values j ≡ Some v →
        slice_index b i ≡ slice_index b j → AreEqualUnder t b u v

  -- i and j are states, and some stable list has one number for both
  abbrev pub AreEquivalent : ℕ → ℕ → Type 0
  AreEquivalent i j =
      (i < length values) × (j < length values) ×
      (b : List ℕ) × IsStable b × (slice_index b i ≡ slice_index b j)

  -- the least state that is equivalent to i
  pub record IsFirst (i f : ℕ) : Type 0 where
    pub equivalent : AreEquivalent i f
    pub least : (j : ℕ) → AreEquivalent i j → f ≤ j

  -- the least state whose structure is equal to u under the list
  abbrev pub first_equal : List ℕ → Value → ℕ
  first_equal b u =
      position_or_len (λ v. are_equal t 0 (relabelled b v) (relabelled b u)) values

  -- for each state the least one whose structure is equal to its own under the list
  abbrev pub regrouped : List ℕ → List ℕ
  regrouped b = map (first_equal b) values

-- states with one number in s have one number in b
abbrev pub Refines : List ℕ → List ℕ → Type 0
Refines s b =
    (i j : ℕ) → i < length b → j < length b →
    slice_index s i ≡ slice_index s j → slice_index b i ≡ slice_index b j
