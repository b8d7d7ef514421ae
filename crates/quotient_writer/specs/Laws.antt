-- Laws of quotients, as statements. Each is the contract of a function that does nothing.
--
-- NumberedByFirstStates        == what it is that classes are numbered by their first states
-- PickedAreFirstStates         == what is picked stands at the first states of the classes
-- FirstEquivalentsAreNumbered  == numbers for the first equivalent states number the classes
-- NamesAreDetermined .. MinimalSystemsAreTheirOwnQuotients
--                              == there is one quotient; it is minimal; a minimal system is its own
use Rattle.std.specs.Prelude.{◌≡◌, ◌↔◌, ℕ, ◌<◌, List, length, slice_get, slice_index, EachIndex, IsTrue}
use Rattle.std.specs.List.{list_all}
use Rattle.functor_terms.specs.Terms.{Nodes}
use Rattle.typing.specs.declared.value.Value.{Value}
use Rattle.typing.specs.Values.{states_below}
use Rattle.typing.specs.Fits.{fits}
use Rattle.typing.specs.Order.{is_normal}
use Rattle.typing.specs.Stable.{IsStable, IsFirst, Refines, AreEquivalent}
use Rattle.quotient_writer.specs.Quotient.{is_numbered, picked, IsQuotient}
use Rattle.quotient_writer.specs.Blocks.{AreFirsts, first_state, first_states}

-- classes are numbered by their first states exactly if, at each state, each class of a smaller
-- number has begun before
abbrev pub NumberedByFirstStates : Type 0
NumberedByFirstStates =
    (b : List ℕ) → IsTrue (is_numbered b) ↔
    ((i : ℕ) → i < length b → (k : ℕ) → k < slice_index b i → first_state b k < i)

-- what is picked from a list stands, class by class, at the first state of the class
abbrev pub PickedAreFirstStates : Type 0 → Type 0
PickedAreFirstStates X =
    (b : List ℕ) (xs : List X) → length b ≡ length xs → IsTrue (is_numbered b) → (k : ℕ) →
    slice_get (picked b xs) k ≡ slice_get xs (first_state b k)

-- a stable list that every stable list refines, which has for each state the first equivalent one
pub record AreFirstEquivalents (t : Nodes) (values : List Value) (firsts : List ℕ) : Type 0 where
  pub stable : IsStable t values firsts
  pub coarsest : (s : List ℕ) → IsStable t values s → Refines s firsts
  pub first : EachIndex values (λ i. IsFirst t values i (slice_index firsts i))

-- a number for each state; states with one number have structures that are equal under the numbers,
-- and two states have one number exactly if they are equivalent
pub record AreClassNumbers (t : Nodes) (values : List Value) (labels : List ℕ) : Type 0 where
  pub covers : length labels ≡ length values
  pub stable : IsStable t values labels
  pub alike :
      (i j : ℕ) → i < length values → j < length values →
      (slice_index labels i ≡ slice_index labels j) ↔ AreEquivalent t values i j

-- first equivalent states are not behind their states, and are given for themselves
abbrev pub FirstEquivalentsAreFirsts : Type 0
FirstEquivalentsAreFirsts =
    (t : Nodes) (values : List Value) (firsts : List ℕ) → AreFirstEquivalents t values firsts →
    AreFirsts firsts

-- numbers of which these are the first states number the classes of equivalence
abbrev pub FirstEquivalentsAreNumbered : Type 0
FirstEquivalentsAreNumbered =
    (t : Nodes) (values : List Value) (firsts labels : List ℕ) →
    IsTrue (list_all (states_below (length values)) values) →
    AreFirstEquivalents t values firsts → first_states labels ≡ firsts →
    AreClassNumbers t values labels

-- one name and one label for each state, and the labels number classes by their first states
pub record AreLabelled (names : List (List ℕ)) (values : List Value) (b : List ℕ) : Type 0 where
  pub covers : length b ≡ length names
  pub one_each : length values ≡ length names
  pub numbered : IsTrue (is_numbered b)

-- two quotients by one list have the same names
abbrev pub NamesAreDetermined : Type 0
NamesAreDetermined =
    (t : Nodes) (names : List (List ℕ)) (values : List Value) (b : List ℕ) →
    AreLabelled names values b → (ns ms : List (List ℕ)) (us vs : List Value) →
    IsQuotient t names values b ns us → IsQuotient t names values b ms vs → ns ≡ ms

-- and the same values
abbrev pub ValuesAreDetermined : Type 0
ValuesAreDetermined =
    (t : Nodes) (names : List (List ℕ)) (values : List Value) (b : List ℕ) →
    AreLabelled names values b → (ns ms : List (List ℕ)) (us vs : List Value) →
    IsQuotient t names values b ns us → IsQuotient t names values b ms vs → us ≡ vs

-- where equivalent states have one label, no two states of the quotient are equivalent
abbrev pub QuotientsAreMinimal : Type 0
QuotientsAreMinimal =
    (t : Nodes) (names : List (List ℕ)) (values : List Value) (b : List ℕ) →
    AreLabelled names values b → IsTrue (list_all (states_below (length values)) values) →
    ((i j : ℕ) → AreEquivalent t values i j → slice_index b i ≡ slice_index b j) →
    (ns : List (List ℕ)) (vs : List Value) → IsQuotient t names values b ns vs →
    (k l : ℕ) → AreEquivalent t vs k l → k ≡ l

-- normal values that fit, and speak of states of the list
pub record AreWellFormed (t : Nodes) (values : List Value) : Type 0 where
  pub fitting : IsTrue (list_all (fits t 0) values)
  pub normal : IsTrue (list_all (is_normal t 0) values)
  pub in_range : IsTrue (list_all (states_below (length values)) values)

-- no two states have one label
abbrev pub AreApart : List ℕ → Type 0
AreApart b =
    (i j : ℕ) → i < length b → j < length b → slice_index b i ≡ slice_index b j → i ≡ j

-- where no two states have one label, the quotient is the system itself
abbrev pub MinimalSystemsAreTheirOwnQuotients : Type 0
MinimalSystemsAreTheirOwnQuotients =
    (t : Nodes) (names : List (List ℕ)) (values : List Value) (b : List ℕ) →
    AreLabelled names values b → AreWellFormed t values → AreApart b →
    (ns : List (List ℕ)) (vs : List Value) → IsQuotient t names values b ns vs →
    (ns ≡ names) × (vs ≡ values)
