-- Laws of the definitions, as statements. Each is the contract of a function that does nothing.
use Rattle.std.specs.Prelude.{◌≡◌, ◌↔◌, ℕ, ◌<◌, List, length, IsTrue}
use Rattle.std.specs.List.{list_all}
use Rattle.std.specs.Cmp.{IsEquivalence}
use Rattle.functor_terms.specs.Terms.{Nodes}
use Rattle.typing.specs.declared.value.Value.{Value}
use Rattle.typing.specs.Values.{relabelled, states_below}
use Rattle.typing.specs.Equality.{are_equal}
use Rattle.typing.specs.Fits.{fits}
use Rattle.typing.specs.Order.{is_normal}
use Rattle.typing.specs.NormalForms.{IsRelabelledAt}
use Rattle.typing.specs.Stable.{IsStable, Refines, AreEquivalent}

-- each structure speaks of states of the list alone
abbrev pub AreInRange : List Value → Type 0
AreInRange values = IsTrue (list_all (states_below (length values)) values)

-- equality at each node is reflexive, symmetric and transitive
abbrev pub EqualityIsAnEquivalence : Type 0
EqualityIsAnEquivalence = (t : Nodes) (p : ℕ) → IsEquivalence (are_equal t p)

-- each state is equivalent to itself
abbrev pub EquivalenceIsReflexive : Type 0
EquivalenceIsReflexive =
    (t : Nodes) (values : List Value) → AreInRange values →
    (i : ℕ) → i < length values → AreEquivalent t values i i

-- equivalence goes both ways
abbrev pub EquivalenceIsSymmetric : Type 0
EquivalenceIsSymmetric =
    (t : Nodes) (values : List Value) (i j : ℕ) →
    AreEquivalent t values i j → AreEquivalent t values j i

-- states that are equivalent to one state are equivalent
abbrev pub EquivalenceIsTransitive : Type 0
EquivalenceIsTransitive =
    (t : Nodes) (values : List Value) → AreInRange values → (i j k : ℕ) →
    AreEquivalent t values i j → AreEquivalent t values j k → AreEquivalent t values i k

-- some stable list is refined by every stable list
abbrev pub SomeStableListIsGreatest : Type 0
SomeStableListIsGreatest =
    (t : Nodes) (values : List Value) → AreInRange values →
    (r : List ℕ) × IsStable t values r × ((s : List ℕ) → IsStable t values s → Refines s r)

-- what is equal under a list is equal under each list that merges some of its classes
abbrev pub MergingKeepsEquality : Type 0
MergingKeepsEquality =
    (t : Nodes) (p : ℕ) (b c : List ℕ) → Refines b c → (u v : Value) →
    IsTrue (states_below (length c) u) → IsTrue (states_below (length c) v) →
    IsTrue (are_equal t p (relabelled b u) (relabelled b v)) →
    IsTrue (are_equal t p (relabelled c u) (relabelled c v))

-- normal values that fit a node and are equal there are one value
abbrev pub NormalValuesAreUnique : Type 0
NormalValuesAreUnique =
    (t : Nodes) (p : ℕ) (u v : Value) → IsTrue (fits t p u) → IsTrue (fits t p v) →
    IsTrue (is_normal t p u) → IsTrue (is_normal t p v) → IsTrue (are_equal t p u v) → u ≡ v

-- two normal forms are one value exactly where the relabelled values are equal
abbrev pub NormalFormsTell : Type 0
NormalFormsTell =
    (t : Nodes) (p : ℕ) (b c : List ℕ) (u v r s : Value) →
    IsRelabelledAt t b p u r → IsRelabelledAt t c p v s →
    ((r ≡ s) ↔ IsTrue (are_equal t p (relabelled b u) (relabelled c v)))
