-- Weights and bounds of fitted trees, and the values that they denote over one denominator.
--
-- over_bound f              == some weight or whole number in f is over its bound
-- are_numerals f            == the fractions in f are within the bounds of a numeral
-- lists_within n f          == each weight list in f has at most n entries
-- denominators f            == the denominators of the weights in f, in reading order
-- common_multiple l qs      == the least common multiple of l and all of qs, joined in order
-- IsLeastMultiple l qs m    == m is a multiple of l and all of qs, and divides each other one
-- scaled l t p f            == the value of f at node p, where a weight a/q at a distribution or at
--                              rationals is a times l/q
-- has_sums l t p f          == the scaled weights of each distribution in f sum to l
-- IsFitted t n f            == f is what some tree denotes at the term t, where n states have names
use Rattle.std.specs.Prelude.{◌≡◌, ℕ, ◌+◌, ◌-◌, ◌/◌, ◌^◌, ℤ, pos, ◌*ℤ◌, unsigned_abs, Bool, true, false, ◌||◌, ◌&&◌, ◌==◌, nat_le, if◌then◌else◌, List, [], ◌∷◌, ◌++◌, length, map, Ok}
use Rattle.std.specs.List.{AllByRecursion, list_all, list_any, flat_map}
use Rattle.std.specs.Int.{◌∣◌}
use Rattle.file_cut.specs.declared.tree.Tree.{Tree}
use Rattle.functor_terms.specs.declared.node.Node.{Node}
use Rattle.functor_terms.specs.declared.node.Node.TheVariants.{Product}
use Rattle.functor_terms.specs.Terms.{Nodes, children_at, fold}
use Rattle.weights.specs.Fractions.{lcm_of}
use Rattle.typing.specs.declared.value.Value.{Value}
use Rattle.typing.specs.declared.value.Value.TheVariants as value
use Rattle.typing.specs.Bounds.{are_any, sums_hold}
use Rattle.typing.specs.Fits.{Check, check_at}
use Rattle.fitting.specs.declared.fitted.Fitted.{Fitted, Fitted-F, out-Fitted, fold-Fitted}
use Rattle.fitting.specs.declared.fitted.Weight.{Weight}
use Rattle.fitting.specs.declared.fitted.Weight.TheVariants as weight
use Rattle.fitting.specs.Fitting.{has_fractions, fitting}

-- ---- bounds

-- the weight is over a bound
abbrev pub is_over : Weight → Bool
is_over weight.OverBound = true
is_over (weight.Fraction n) = false

-- one level of `over_bound`
abbrev pub over_step : Fitted-F Bool → Bool
over_step (Fitted-F.State i) = false
over_step (Fitted-F.Label k) = false
over_step Fitted-F.OverBound = true
over_step (Fitted-F.Tuple bs) = list_any (λ b. b) bs
over_step (Fitted-F.Inj k b) = b
over_step (Fitted-F.Set bs) = list_any (λ b. b) bs
over_step (Fitted-F.Weights es) = list_any (λ e. e.0 || is_over e.1) es

-- some weight or whole number in it is over its bound
abbrev pub over_bound : Fitted → Bool
over_bound = fold-Fitted Bool over_step

-- the greatest numerator and denominator of a numeral
abbrev pub numeral_limit : ℕ
numeral_limit = 2 ^ 40

-- the denominator is from 1 on, and numerator and denominator are within the limit
abbrev pub is_numeral : Weight → Bool
is_numeral weight.OverBound = true
is_numeral (weight.Fraction n) =
    nat_le 1 n.q && (nat_le n.q numeral_limit && nat_le (unsigned_abs n.p) numeral_limit)

-- one level of `are_numerals`
abbrev pub numerals_step : Fitted-F Bool → Bool
numerals_step (Fitted-F.State i) = true
numerals_step (Fitted-F.Label k) = true
numerals_step Fitted-F.OverBound = true
numerals_step (Fitted-F.Tuple bs) = list_all (λ b. b) bs
numerals_step (Fitted-F.Inj k b) = b
numerals_step (Fitted-F.Set bs) = list_all (λ b. b) bs
numerals_step (Fitted-F.Weights es) = list_all (λ e. e.0 && is_numeral e.1) es

-- the fractions in it are within the bounds of a numeral
abbrev pub are_numerals : Fitted → Bool
are_numerals = fold-Fitted Bool numerals_step

-- one level of `lists_within`
abbrev pub lists_step : ℕ → Fitted-F Bool → Bool
lists_step n (Fitted-F.State i) = true
lists_step n (Fitted-F.Label k) = true
lists_step n Fitted-F.OverBound = true
lists_step n (Fitted-F.Tuple bs) = list_all (λ b. b) bs
lists_step n (Fitted-F.Inj k b) = b
lists_step n (Fitted-F.Set bs) = list_all (λ b. b) bs
lists_step n (Fitted-F.Weights es) = list_all (λ e. e.0) es && nat_le (length es) n

-- each weight list in it has at most n entries
abbrev pub lists_within : ℕ → Fitted → Bool
lists_within n = fold-Fitted Bool (lists_step n)

-- ---- the common denominator

-- the denominator of a weight, if it has one
abbrev pub denominator_of : Weight → List ℕ
denominator_of weight.OverBound = []
denominator_of (weight.Fraction n) = n.q ∷ []

-- one level of `denominators`
abbrev pub denominators_step : Fitted-F (List ℕ) → List ℕ
denominators_step (Fitted-F.Tuple qs) = flat_map (λ q. q) qs
denominators_step (Fitted-F.Inj k q) = q
denominators_step (Fitted-F.Set qs) = flat_map (λ q. q) qs
denominators_step (Fitted-F.Weights es) = flat_map (λ e. e.0 ++ denominator_of e.1) es
denominators_step _ = []

-- the denominators of its weights, in reading order
abbrev pub denominators : Fitted → List ℕ
denominators = fold-Fitted (List ℕ) denominators_step

-- the greatest common denominator that a file may have
abbrev pub denominator_limit : ℕ
denominator_limit = 2 ^ 40

-- the least common multiple of l and all of qs, joined in order
abbrev pub common_multiple : ℕ → List ℕ → ℕ
common_multiple l [] = l
common_multiple l (q ∷ qs) = common_multiple (lcm_of l q) qs

-- m is a multiple of l and of each of qs
pub record IsMultiple (l : ℕ) (qs : List ℕ) (m : ℕ) : Type 0 where
  pub of_first : l ∣ m
  pub of_others : AllByRecursion (λ q. q ∣ m) qs

-- and it divides each other such number
pub record IsLeastMultiple (l : ℕ) (qs : List ℕ) (m : ℕ) : Type 0 where
  pub multiple : IsMultiple l qs m
  pub least : (k : ℕ) → IsMultiple l qs k → m ∣ k

-- ---- values over one denominator

-- a weight over the denominator l, as node m keeps it
abbrev pub scaled_weight : ℕ → Node → Weight → ℤ
scaled_weight l m weight.OverBound = pos 0
scaled_weight l m (weight.Fraction n) = if has_fractions m then n.p *ℤ pos (l / n.q) else n.p

-- how the fitted trees at some node are scaled
abbrev pub Scale : Type 0
Scale = Fitted → Value

-- where there is no such node
abbrev pub no_scale : Scale
no_scale f = value.Label 0

-- how those of the k-th of some nodes are scaled
abbrev pub scale_at : List Scale → ℕ → Scale
scale_at [] k = no_scale
scale_at (s ∷ ss) k = if k == 0 then s else scale_at ss (k - 1)

-- parts from place k on, each by the scaling of its own place
abbrev pub scaled_places : List Scale → ℕ → List Fitted → List Value
scaled_places ss k [] = []
scaled_places ss k (f ∷ fs) = scale_at ss k f ∷ scaled_places ss (k + 1) fs

-- the parts of a tuple: each by its own place, or all by the one child of a power
abbrev pub scaled_parts : Node → List Scale → List Fitted → List Value
scaled_parts Product ss fs = scaled_places ss 0 fs
scaled_parts m ss fs = map (scale_at ss 0) fs

-- the entries of a weight list
abbrev pub scaled_entries : ℕ → Node → Scale → List (Fitted × Weight) → List (Value × ℤ)
scaled_entries l m s es = map (λ e. (s e.0, scaled_weight l m e.1)) es

-- one level of `scaled`
abbrev pub scaled_level : ℕ → Node → List Scale → Fitted-F Fitted → Value
scaled_level l m ss (Fitted-F.State i) = value.State i
scaled_level l m ss (Fitted-F.Label k) = value.Label k
scaled_level l m ss Fitted-F.OverBound = value.Label 0
scaled_level l m ss (Fitted-F.Tuple fs) = value.Tuple (scaled_parts m ss fs)
scaled_level l m ss (Fitted-F.Inj k f) = value.Inj k (scale_at ss k f)
scaled_level l m ss (Fitted-F.Set fs) = value.Set (map (scale_at ss 0) fs)
scaled_level l m ss (Fitted-F.Weights es) = value.Weights (scaled_entries l m (scale_at ss 0) es)

-- the same of the fitted tree itself
abbrev pub scaled_step : ℕ → Node → List Scale → Scale
scaled_step l m ss f = scaled_level l m ss (out-Fitted f)

-- the value of a fitted tree at node p over the denominator l, not yet in normal form
abbrev pub scaled : ℕ → Nodes → ℕ → Scale
scaled l t p = fold no_scale (scaled_step l) t p

-- how those at the k-th child of node p are scaled
abbrev pub child_scale : ℕ → Nodes → ℕ → ℕ → Scale
child_scale l t p k = scale_at (map (scaled l t) (children_at t p)) k

-- the scaled weights of each distribution in it sum to l
abbrev pub has_sums : ℕ → Nodes → ℕ → Fitted → Bool
has_sums l t p f = sums_hold are_any l t p (scaled l t p f)

-- the same of values at the k-th child of node p
abbrev pub child_sums : ℕ → Nodes → ℕ → ℕ → Check
child_sums l t p k = check_at (map (sums_hold are_any l t) (children_at t p)) k

-- some tree denotes it at the term, where n states have names
abbrev pub IsFitted : Nodes → ℕ → Fitted → Type 0
IsFitted t n f =
    (names : List (List ℕ)) × (tree : Tree) × (length names ≡ n) × (fitting t names 0 tree ≡ Ok f)
