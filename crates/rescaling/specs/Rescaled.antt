-- The same coalgebra over a multiple of its denominator: weights that are fractions are multiplied,
-- and all else stays.
--
-- rescaled k t p v   == the value v at node p, where each weight of a distribution or of rationals
--                       is multiplied by k
-- SameFractions d e  == d is e over a multiple of its denominator: the same term, names and
--                       fractions
use Rattle.std.specs.Prelude.{◌≡◌, ℕ, ◌-◌, ◌*◌, ℤ, pos, ◌*ℤ◌, ◌==◌, if◌then◌else◌, List, [], ◌∷◌, map}
use Rattle.functor_terms.specs.declared.node.Node.{Node}
use Rattle.functor_terms.specs.declared.node.Node.TheVariants.{Product}
use Rattle.functor_terms.specs.Terms.{Nodes, fold}
use Rattle.typing.specs.declared.value.Value.{Value, Value-F, out-Value}
use Rattle.typing.specs.declared.value.Value.TheVariants as value
use Rattle.typing.specs.Contents.{Content}
use Rattle.fitting.specs.Fitting.{has_fractions}

-- how the values at some node are rescaled
abbrev pub Rescale : Type 0
Rescale = Value → Value

-- where there is no such node
abbrev pub no_rescale : Rescale
no_rescale v = v

-- how those at the k-th of some nodes are rescaled
abbrev pub rescale_at : List Rescale → ℕ → Rescale
rescale_at [] k = no_rescale
rescale_at (r ∷ rs) k = if k == 0 then r else rescale_at rs (k - 1)

-- parts, each by its own place, and those past the places as they are
abbrev pub rescaled_places : List Rescale → List Value → List Value
rescaled_places [] vs = vs
rescaled_places (r ∷ rs) [] = []
rescaled_places (r ∷ rs) (v ∷ vs) = r v ∷ rescaled_places rs vs

-- the parts of a tuple: each by its own place, or all by the one child of a power
abbrev pub rescaled_parts : Node → List Rescale → List Value → List Value
rescaled_parts Product rs vs = rescaled_places rs vs
rescaled_parts m rs vs = map (rescale_at rs 0) vs

-- a weight at node m: multiplied by k where weights may be fractions, and as it is elsewhere
abbrev pub rescaled_weight : ℕ → Node → ℤ → ℤ
rescaled_weight k m w = if has_fractions m then w *ℤ pos k else w

-- the entries of a weight list
abbrev pub rescaled_entries : ℕ → Node → Rescale → List (Value × ℤ) → List (Value × ℤ)
rescaled_entries k m r es = map (λ e. (r e.0, rescaled_weight k m e.1)) es

-- one level of `rescaled`
abbrev pub rescaled_level : ℕ → Node → List Rescale → Value-F Value → Value
rescaled_level k m rs (Value-F.State i) = value.State i
rescaled_level k m rs (Value-F.Label n) = value.Label n
rescaled_level k m rs (Value-F.Tuple vs) = value.Tuple (rescaled_parts m rs vs)
rescaled_level k m rs (Value-F.Inj j v) = value.Inj j (rescale_at rs j v)
rescaled_level k m rs (Value-F.Set vs) = value.Set (map (rescale_at rs 0) vs)
rescaled_level k m rs (Value-F.Weights es) =
    value.Weights (rescaled_entries k m (rescale_at rs 0) es)

-- the same of the value itself
abbrev pub rescaled_step : ℕ → Node → List Rescale → Rescale
rescaled_step k m rs v = rescaled_level k m rs (out-Value v)

-- the value at node p of a term, where each weight of a distribution or of rationals is multiplied
-- by k
abbrev pub rescaled : ℕ → Nodes → ℕ → Rescale
rescaled k t p = fold no_rescale (rescaled_step k) t p

-- d is e over a multiple of its denominator: the term, the names and the fractions are the same,
-- and each weight of d is that of e over the larger denominator
pub record SameFractions (d e : Content) : Type 0 where
  pub factor : ℕ
  pub same_term : e.term ≡ d.term
  pub same_names : e.names ≡ d.names
  pub same_denominator : d.denominator ≡ factor * e.denominator
  pub same_values : d.values ≡ map (rescaled factor d.term 0) e.values
