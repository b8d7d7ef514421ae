-- What a text spells, without the bounds on weights, on whole numbers and on its length.
--
-- fraction_spelled word   == the fraction that a numeral spells, whatever its size
-- free_fitting t names p  == `fitting`, but each numeral and each whole number is read
-- Spells text c           == the text is a functor line and rows, and they denote the coalgebra c
-- IsWellFormed c          == c is what a coalgebra is in the code: what its type keeps
use Rattle.std.specs.Prelude.{◌≡◌, ℕ, ◌≤◌, ◌^◌, List, length, drop, Option, Some, None, option_and_then, Ok, IsTrue, if◌then◌else◌, Bool}
use Rattle.std.specs.List.{AllByRecursion, AllZip, list_all}
use Rattle.std.specs.Int.{◌∣◌}
use Rattle.file_cut.specs.declared.tree.Tree.{Tree}
use Rattle.file_cut.specs.declared.tree.Entry.{Entry}
use Rattle.functor_terms.specs.declared.node.Node.{Node}
use Rattle.functor_terms.specs.declared.node.Node.TheVariants.{Naturals, Bag, Distribution, Integers, Rationals}
use Rattle.functor_terms.specs.Terms.{Nodes, IsTerm, fold}
use Rattle.functor_terms.specs.Words.{AreNames}
use Rattle.weights.specs.Numerals.{Form, is_form, form_of, has_sign, fraction_of, is_digits, number_of}
use Rattle.weights.specs.declared.numeral.Numeral.{Numeral}
use Rattle.typing.specs.declared.kind.TypeKind.TheVariants.{WrongShape, NotALabel, NotANumber}
use Rattle.typing.specs.Contents.{Content}
use Rattle.typing.specs.Values.{states_below}
use Rattle.typing.specs.Fits.{fits}
use Rattle.typing.specs.Order.{is_normal}
use Rattle.typing.specs.Bounds.{weights_hold, is_within}
use Rattle.fitting.specs.declared.fitted.Fitted.{Fitted}
use Rattle.fitting.specs.declared.fitted.Fitted.TheVariants as fitted
use Rattle.fitting.specs.declared.fitted.Weight.{Weight}
use Rattle.fitting.specs.Levels.{word, entries, held, weight_tree}
use Rattle.fitting.specs.Fitting.{Found, Fit, needs, demands, found, made, each, no_fit, fit_at, weighed, one, has_weight, fit_step}
use Rattle.fitting.specs.Scaling.{denominators}
use Rattle.structure_parser.specs.Rows.{Row, AreRows}
use Rattle.structure_parser.specs.Stages.{heads_of}
use Rattle.structure_parser.specs.Reads.{IsNormalForm}

-- ---- numbers of any size

-- the fraction of a form, if each part of it is digits
abbrev pub fraction_if : Bool → Form → Option Numeral
fraction_if negative form = if is_form form then Some (fraction_of negative form) else None

-- the fraction that a word spells, if it is a numeral, whatever its size
abbrev pub fraction_spelled : List ℕ → Option Numeral
fraction_spelled word =
    option_and_then (fraction_if (has_sign word))
    (form_of (if has_sign word then drop 1 word else word))

-- a whole number of any size
abbrev pub free_number : Fit
free_number u =
    needs (word u) WrongShape
    (λ w. demands (is_digits w) NotALabel (Ok (fitted.Label (number_of w))))

-- the weight of an entry, of any size; the tests are those of `weighed`
abbrev pub free_weight : Node → Option Tree → Found Weight
free_weight m None = Ok one
free_weight m (Some u) =
    needs (word u) WrongShape
    (λ w. needs (fraction_spelled w) NotANumber (λ n. weighed m (Ok n)))

-- ---- terms

-- an entry: the tree, and then its weight
abbrev pub free_entry : Node → Fit → Entry → Found (Fitted × Weight)
free_entry m f e = found (f (held e)) (λ v. made (λ w. (v, w)) (free_weight m (weight_tree e)))

-- a weight list
abbrev pub free_entries : Node → Fit → List Entry → Found Fitted
free_entries m f es =
    demands (list_all (has_weight m) es) WrongShape (made fitted.Weights (each (free_entry m f) es))

-- a weight list over values of the one child
abbrev pub free_weights : Node → List Fit → Fit
free_weights m fs u = needs (entries u) WrongShape (free_entries m (fit_at fs 0))

-- how a node reads, by how its children read: numbers of any size, and all else as in `fit_step`
abbrev pub free_step : List (List ℕ) → Node → List Fit → Fit
free_step names Naturals fs = free_number
free_step names Bag fs = free_weights Bag fs
free_step names Distribution fs = free_weights Distribution fs
free_step names Integers fs = free_weights Integers fs
free_step names Rationals fs = free_weights Rationals fs
free_step names m fs = fit_step names m fs

-- what a tree denotes at node p of a term, or its first misfit, with numbers of any size
abbrev pub free_fitting : Nodes → List (List ℕ) → ℕ → Fit
free_fitting t names p = fold no_fit (free_step names) t p

-- ---- files

-- the tree of a row denotes this fitted tree
abbrev pub Denotes : Nodes → List (List ℕ) → Row → Fitted → Type 0
Denotes t names r f = free_fitting t names 0 r.tree ≡ Ok f

-- each denominator in it divides l
abbrev pub DividesAll : ℕ → Fitted → Type 0
DividesAll l f = AllByRecursion (λ q. q ∣ l) (denominators f)

-- The lines are a functor line and rows with distinct heads. The coalgebra has the term that the
-- functor line spells, the heads as names in line order, a multiple of all denominators, from 1 on,
-- as its denominator, and for each state the normal form over it of what its tree denotes.
pub record Spells (text : List ℕ) (c : Content) : Type 0 where
  pub rows : List Row
  pub fitted : List Fitted
  pub spelled : AreRows text c.term rows
  pub same_names : c.names ≡ heads_of rows
  pub names : AreNames c.names
  pub positive : 1 ≤ c.denominator
  pub denoted : AllZip (Denotes c.term c.names) rows fitted
  pub multiple : AllByRecursion (DividesAll c.denominator) fitted
  pub values : AllZip (IsNormalForm c.denominator c.term) fitted c.values

-- what the type of coalgebras keeps
pub record IsWellFormed (c : Content) : Type 0 where
  pub term : IsTerm c.term
  pub names : AreNames c.names
  pub one_each : length c.values ≡ length c.names
  pub positive : 1 ≤ c.denominator
  pub bounded : c.denominator ≤ 2 ^ 40
  pub fitting : IsTrue (list_all (fits c.term 0) c.values)
  pub normal : IsTrue (list_all (is_normal c.term 0) c.values)
  pub in_range : IsTrue (list_all (states_below (length c.names)) c.values)
  pub weighted : IsTrue (list_all (weights_hold c.denominator c.term 0) c.values)
  pub in_bounds : IsTrue (list_all (is_within (2 ^ 106)) c.values)
