-- How a tree fits a term: what it denotes, or its first misfit. Trees are read from left to right
-- and from outside to inside, and at each place the tests stand in this order:
--
--     State        a word; the name of a state
--     Constant     a word; a label
--     Naturals     a word; digits alone (a number above 2^40 is no misfit, but over bound)
--     Product      a tuple; as many parts as places; each part
--     Sum          an `inj`; an index below the number of parts; the tree behind it
--     Power        braces of words, each with a colon and a tree; for each entry: a label, one that
--                  did not stand before, the tree; at the end each label has an entry
--     Powerset     braces of trees without colons; each tree
--     Bag          braces; for each entry: the tree, then its weight, which is 1 without a colon
--     Distribution, Integers, Rationals
--                  braces of trees, each with a colon and a weight; for each entry: the tree, then
--                  its weight
--
-- Found            == what was found, or the first misfit
-- needs, demands   == a test that finds something; a test that holds or not
-- each, places     == the elements of a list in order; parts, each by the reading of its place
-- weighed m        == the tests of a weight at node m, by what was read of its word
-- fitting t names p u == what the tree u denotes at node p of the term t, or its first misfit
use Rattle.std.specs.Prelude.{◌≡◌, ℕ, ◌+◌, ◌-◌, ◌^◌, Bool, true, false, not, ◌&&◌, ◌||◌, ◌==◌, nat_le, if◌then◌else◌, List, [], ◌∷◌, length, map, slice_get, slice_set, replicate, is_some, is_none, Option, Some, None, Result, Ok, Err, pos, int_lt}
use Rattle.std.specs.List.{list_all}
use Rattle.std.specs.Option.{option_map_or}
use Rattle.file_cut.specs.declared.tree.Tree.{Tree}
use Rattle.file_cut.specs.declared.tree.Entry.{Entry}
use Rattle.functor_terms.specs.declared.node.Node.{Node}
use Rattle.functor_terms.specs.declared.node.Node.TheVariants.{State, Constant, Naturals, Product, Sum, Power, Powerset, Bag, Distribution, Integers, Rationals}
use Rattle.functor_terms.specs.declared.node.LabelSet.{LabelSet}
use Rattle.functor_terms.specs.Terms.{Nodes, fold, children_at, label_count, label_number, number_below}
use Rattle.functor_terms.specs.Words.{place_of}
use Rattle.weights.specs.Numerals.{is_digits, number_of, numeral, reading_of}
use Rattle.weights.specs.declared.numeral.Numeral.{Numeral}
use Rattle.weights.specs.declared.fault.NumeralFault.{NumeralFault}
use Rattle.weights.specs.declared.fault.NumeralFault.TheVariants as numeral_fault
use Rattle.typing.specs.declared.kind.TypeKind.{TypeKind}
use Rattle.typing.specs.declared.kind.TypeKind.TheVariants.{UnknownState, NotALabel, WrongShape, WrongCount, RepeatedKey, MissingKey, BadIndex, NotANumber, Negative}
use Rattle.fitting.specs.declared.fault.FitFault.{FitFault}
use Rattle.fitting.specs.declared.fault.FitFault.TheVariants as fault
use Rattle.fitting.specs.declared.fitted.Fitted.{Fitted}
use Rattle.fitting.specs.declared.fitted.Fitted.TheVariants as fitted
use Rattle.fitting.specs.declared.fitted.Weight.{Weight}
use Rattle.fitting.specs.declared.fitted.Weight.TheVariants as weight
use Rattle.fitting.specs.Levels.{word, parts, branch, entries, held, key, weight_tree}

-- ---- tests in order

-- what was found, or the first misfit
abbrev pub Found : Type 0 → Type 0
Found A = Result A TypeKind

-- what the test finds goes on; where it finds nothing, this is the misfit
abbrev pub needs : {A B : Type 0} → Option A → TypeKind → (A → Found B) → Found B
needs None kind rest = Err kind
needs (Some x) kind rest = rest x

-- where the test holds, the rest; where not, this is the misfit
abbrev pub demands : {B : Type 0} → Bool → TypeKind → Found B → Found B
demands true kind rest = rest
demands false kind rest = Err kind

-- what was found goes on; a misfit stays
abbrev pub found : {A B : Type 0} → Found A → (A → Found B) → Found B
found (Ok x) rest = rest x
found (Err kind) rest = Err kind

-- f of what was found
abbrev pub made : {A B : Type 0} → (A → B) → Found A → Found B
made f (Ok x) = Ok (f x)
made f (Err kind) = Err kind

-- each element in order
abbrev pub each : {A B : Type 0} → (A → Found B) → List A → Found (List B)
each f [] = Ok []
each f (x ∷ xs) = found (f x) (λ y. made (λ ys. y ∷ ys) (each f xs))

-- how trees are read at some node
abbrev pub Fit : Type 0
Fit = Tree → Found Fitted

-- where there is no such node
abbrev pub no_fit : Fit
no_fit u = Err WrongShape

-- how the k-th of some nodes reads
abbrev pub fit_at : List Fit → ℕ → Fit
fit_at [] k = no_fit
fit_at (f ∷ fs) k = if k == 0 then f else fit_at fs (k - 1)

-- parts from place k on, each by the reading of its own place
abbrev pub places : List Fit → ℕ → List Tree → Found (List Fitted)
places fs k [] = Ok []
places fs k (u ∷ us) = found (fit_at fs k u) (λ v. made (λ vs. v ∷ vs) (places fs (k + 1) us))

-- ---- the kinds of node

-- a state
abbrev pub state_fit : List (List ℕ) → Fit
state_fit names u =
    needs (word u) WrongShape
    (λ w. needs (place_of w names) UnknownState (λ i. Ok (fitted.State i)))

-- a label
abbrev pub label_fit : LabelSet → Fit
label_fit labels u =
    needs (word u) WrongShape
    (λ w. needs (label_number labels w) NotALabel (λ k. Ok (fitted.Label k)))

-- the greatest whole number that is within the bound
abbrev pub number_limit : ℕ
number_limit = 2 ^ 40

-- a whole number
abbrev pub number_fit : Fit
number_fit u =
    needs (word u) WrongShape
    (λ w. demands (is_digits w) NotALabel
    (Ok (if nat_le (number_of w) number_limit
    then fitted.Label (number_of w)
    else fitted.OverBound)))

-- a tuple with a part for each place
abbrev pub product_fit : List Fit → Fit
product_fit fs u =
    needs (parts u) WrongShape
    (λ us. demands (length us == length fs) WrongCount (made fitted.Tuple (places fs 0 us)))

-- a part of a sum
abbrev pub sum_fit : List Fit → Fit
sum_fit fs u =
    needs (branch u) WrongShape
    (λ b. needs (number_below (length fs) b.0) BadIndex
    (λ k. made (fitted.Inj k) (fit_at fs k b.1)))

-- ---- powers: a slot for each label, empty until the label's entry is read

-- the slots of the labels
abbrev pub Slots : Type 0
Slots = List (Option Fitted)

-- the entry is a word, a colon and a tree
abbrev pub is_keyed : Entry → Bool
is_keyed e = is_some (key e) && is_some (weight_tree e)

-- the slot is there, and empty
abbrev pub is_free : Slots → ℕ → Bool
is_free slots k = option_map_or is_none (slice_get slots k) false

-- the slots once entries are read
abbrev pub filled : LabelSet → Fit → Slots → List Entry → Found Slots
filled labels f slots [] = Ok slots
filled labels f slots (e ∷ es) =
    needs (key e) WrongShape (λ w.
    needs (weight_tree e) WrongShape (λ u.
    needs (label_number labels w) NotALabel (λ k.
    demands (is_free slots k) RepeatedKey
    (found (f u) (λ v. filled labels f (slice_set slots k (Some v)) es)))))

-- what all slots hold, if none is empty
abbrev pub all_held : Slots → Option (List Fitted)
all_held [] = Some []
all_held (None ∷ slots) = None
all_held (Some v ∷ slots) = option_map_or (λ vs. Some (v ∷ vs)) (all_held slots) None

-- a slot for each label, each of them empty
abbrev pub empty_slots : LabelSet → Slots
empty_slots labels = replicate (label_count labels) None

-- the values of a power in label order
abbrev pub power_of : LabelSet → Fit → List Entry → Found Fitted
power_of labels f es =
    demands (list_all is_keyed es) WrongShape
    (found (filled labels f (empty_slots labels) es)
    (λ slots. needs (all_held slots) MissingKey (λ vs. Ok (fitted.Tuple vs))))

-- a value for each label
abbrev pub power_fit : LabelSet → List Fit → Fit
power_fit labels fs u = needs (entries u) WrongShape (power_of labels (fit_at fs 0))

-- ---- sets and weights

-- the entry is a tree alone
abbrev pub is_alone : Entry → Bool
is_alone e = is_none (weight_tree e)

-- a set
abbrev pub set_of : Fit → List Entry → Found Fitted
set_of f es =
    demands (list_all is_alone es) WrongShape (made fitted.Set (each (λ e. f (held e)) es))

-- a set of values of the one child
abbrev pub set_fit : List Fit → Fit
set_fit fs u = needs (entries u) WrongShape (set_of (fit_at fs 0))

-- weights below zero are misfits
abbrev pub is_from_zero : Node → Bool
is_from_zero Bag = true
is_from_zero Distribution = true
is_from_zero _ = false

-- weights may be fractions
abbrev pub has_fractions : Node → Bool
has_fractions Distribution = true
has_fractions Rationals = true
has_fractions _ = false

-- the tests of a weight, by what was read of its word: a numeral; not below zero where weights are
-- from zero; where it is over its bound, no further test; a whole number where there are no
-- fractions
abbrev pub weighed : Node → Result Numeral NumeralFault → Found Weight
weighed m (Err numeral_fault.NotANumber) = Err NotANumber
weighed m (Err (numeral_fault.OverBound negative)) =
    demands (not (is_from_zero m && negative)) Negative (Ok weight.OverBound)
weighed m (Ok n) =
    demands (not (is_from_zero m && int_lt n.p (pos 0))) Negative
    (demands (has_fractions m || (n.q == 1)) NotANumber (Ok (weight.Fraction n)))

-- the weight of an entry of a bag without a colon
abbrev pub one : Weight
one = weight.Fraction (numeral (pos 1) 1)

-- the weight of an entry
abbrev pub weight_fit : Node → Option Tree → Found Weight
weight_fit m None = Ok one
weight_fit m (Some u) = needs (word u) WrongShape (λ w. weighed m (reading_of w))

-- the entry has a weight, or needs none
abbrev pub has_weight : Node → Entry → Bool
has_weight Bag e = true
has_weight m e = is_some (weight_tree e)

-- an entry: the tree, and then its weight
abbrev pub entry_fit : Node → Fit → Entry → Found (Fitted × Weight)
entry_fit m f e = found (f (held e)) (λ v. made (λ w. (v, w)) (weight_fit m (weight_tree e)))

-- a weight list
abbrev pub weights_of : Node → Fit → List Entry → Found Fitted
weights_of m f es =
    demands (list_all (has_weight m) es) WrongShape (made fitted.Weights (each (entry_fit m f) es))

-- a weight list over values of the one child
abbrev pub weights_fit : Node → List Fit → Fit
weights_fit m fs u = needs (entries u) WrongShape (weights_of m (fit_at fs 0))

-- ---- terms

-- how a node reads, by how its children read
abbrev pub fit_step : List (List ℕ) → Node → List Fit → Fit
fit_step names State fs = state_fit names
fit_step names (Constant labels) fs = label_fit labels
fit_step names Naturals fs = number_fit
fit_step names Product fs = product_fit fs
fit_step names Sum fs = sum_fit fs
fit_step names (Power labels) fs = power_fit labels fs
fit_step names Powerset fs = set_fit fs
fit_step names Bag fs = weights_fit Bag fs
fit_step names Distribution fs = weights_fit Distribution fs
fit_step names Integers fs = weights_fit Integers fs
fit_step names Rationals fs = weights_fit Rationals fs

-- what a tree denotes at node p of a term, or its first misfit
abbrev pub fitting : Nodes → List (List ℕ) → ℕ → Fit
fitting t names p = fold no_fit (fit_step names) t p

-- how the k-th child of node p reads
abbrev pub child_fit : Nodes → List (List ℕ) → ℕ → ℕ → Fit
child_fit t names p k = fit_at (map (fitting t names) (children_at t p)) k

-- a function answered what reading finds, unless memory ran out
abbrev pub Gives : {A : Type 0} → Result A FitFault → Found A → Type 0
Gives (Ok x) read = read ≡ Ok x
Gives (Err (fault.Misfit kind)) read = read ≡ Err kind
Gives (Err fault.NoMemory) read = Unit {0}

-- the same, where f says what clauses see of the answer
abbrev pub GivesAs : {A B : Type 0} → (A → B) → Result A FitFault → Found B → Type 0
GivesAs f (Ok x) read = read ≡ Ok (f x)
GivesAs f (Err (fault.Misfit kind)) read = read ≡ Err kind
GivesAs f (Err fault.NoMemory) read = Unit {0}
