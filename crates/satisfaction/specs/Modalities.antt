-- When a modality fits a term.
--
-- has_form m k value          == the value has the form of a node m with k children
-- is_layer t p                == structures at node p have a layer of their own
-- fits_term t f               == the formula is no modality, or one that fits the term
-- AllFit t dag                == each modality of the list fits
-- FitBelow t dag n            == each modality before number n fits
-- IsFirstMisfit t dag k       == formula k is the first that does not
use Rattle.std.specs.Prelude.{◌≡◌, ◌<◌, ◌^◌, ◌==◌, ℕ, Bool, true, false, not, ◌&&◌, ◌||◌, nat_lt, nat_le, IsTrue, List, length, slice_get, Some}
use Rattle.std.specs.List.{list_all}
use Rattle.modalities.specs.declared.three.Three.{Three}
use Rattle.modalities.specs.declared.three.Three.TheVariants as value
use Rattle.functor_terms.specs.declared.node.Node.{Node}
use Rattle.functor_terms.specs.declared.node.Node.TheVariants.{State, Constant, Naturals, Product, Sum, Power, Powerset, Bag, Distribution, Integers, Rationals}
use Rattle.functor_terms.specs.Terms.{Nodes, node_at, children_at, label_count}
use Rattle.typing.specs.Layers.{is_state}
use Rattle.formulas.specs.declared.formula.Formula.{Formula}
use Rattle.formulas.specs.declared.formula.Formula.TheVariants.{True, Not, And, At}

-- the number is 0, 1 or 2
abbrev pub is_trit : ℕ → Bool
is_trit t = nat_le t 2

-- The value has the form of the node, which has k children: a trit at each place, or a label, an
-- index or a set that is there, or the three sums of weights.
abbrev pub has_form : Node → ℕ → Three → Bool
has_form State k (value.Trit t) = is_trit t
has_form (Constant labels) k (value.Label n) = nat_lt n (label_count labels)
has_form Naturals k (value.Label n) = nat_le n (2 ^ 40)
has_form Product k (value.Trits trits) = (length trits == k) && list_all is_trit trits
has_form (Power labels) k (value.Trits trits) =
    (length trits == label_count labels) && list_all is_trit trits
has_form Sum k (value.Tagged i t) = nat_lt i k && is_trit t
has_form Powerset k (value.Members bits) = nat_lt bits 8
has_form Bag k (value.Triple sums) = true
has_form Distribution k (value.Triple sums) = true
has_form Integers k (value.Triple sums) = true
has_form Rationals k (value.Triple sums) = true
has_form _ _ _ = false

-- node 0, and each node that is no State node
abbrev pub is_layer : Nodes → ℕ → Bool
is_layer t p = (p == 0) || not (is_state (node_at t p))

-- a modality is at a layer node of the term, and its value has the node's form
abbrev pub fits_term : Nodes → Formula → Bool
fits_term t True = true
fits_term t (Not i) = true
fits_term t (And i j) = true
fits_term t (At p v splitter coarse) =
    nat_lt p (length t) && is_layer t p && has_form (node_at t p) (length (children_at t p)) v

-- each modality of the list fits
abbrev pub AllFit : Nodes → List Formula → Type 0
AllFit t dag = (k : ℕ) (f : Formula) → slice_get dag k ≡ Some f → IsTrue (fits_term t f)

-- each modality before number n fits
abbrev pub FitBelow : Nodes → List Formula → ℕ → Type 0
FitBelow t dag n =
    (k : ℕ) (f : Formula) → k < n → slice_get dag k ≡ Some f → IsTrue (fits_term t f)

-- formula k is a modality that does not fit, and each one before it fits
pub record IsFirstMisfit (t : Nodes) (dag : List Formula) (k : ℕ) : Type 0 where
  pub misfit : (f : Formula) × (slice_get dag k ≡ Some f) × (fits_term t f ≡ false)
  pub first : FitBelow t dag k
