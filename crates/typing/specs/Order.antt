-- The order of values at a node, and normal values.
--
-- compare t p u v     == states and labels by number; places one after the other; a part of a sum
--                        by its index, then its value; sets and weight lists element by element, a
--                        proper prefix first; an entry by its value, then its weight
-- is_normal t p v     == every set in v ascends strictly, and so do the values of every weight
--                        list, in which no weight is 0
use Rattle.std.specs.Prelude.{ℕ, ℤ, pos, ◌-◌, Bool, true, not, ◌&&◌, ◌==◌, if◌then◌else◌, List, [], ◌∷◌, map}
use Rattle.std.specs.declared.cmp.Ordering.{Ordering}
use Rattle.std.specs.declared.cmp.Ordering.TheVariants.{Less, Equal, Greater}
use Rattle.std.specs.Option.{option_cmp}
use Rattle.std.specs.Ordering.{nat_cmp, int_cmp, int_eq, ordering_then, is_lt}
use Rattle.std.specs.Cmp.Lexicographic.{slice_cmp}
use Rattle.std.specs.List.{list_all}
use Rattle.functor_terms.specs.declared.node.Node.{Node}
use Rattle.functor_terms.specs.declared.node.Node.TheVariants.{State, Constant, Naturals, Product, Sum, Power, Powerset, Bag, Distribution, Integers, Rationals}
use Rattle.functor_terms.specs.Terms.{Nodes, fold}
use Rattle.typing.specs.declared.value.Value.{Value}
use Rattle.typing.specs.Values.{state, label, index, inner, parts, entries}

-- how two values compare
abbrev pub Compare : Type 0
Compare = Value → Value → Ordering

-- what is known at a node: how values compare there, and which are normal
pub record Form : Type 0 where
  pub compare : Compare
  pub is_normal : Value → Bool

-- any two values tie, and each is normal
abbrev pub no_form : Form
no_form = record { compare = λ u v. Equal; is_normal = λ v. true }

-- the k-th of some forms
abbrev pub form_at : List Form → ℕ → Form
form_at [] k = no_form
form_at (f ∷ fs) k = if k == 0 then f else form_at fs (k - 1)

-- place by place, the first difference decides
abbrev pub each_cmp : List Form → List Value → List Value → Ordering
each_cmp [] us vs = Equal
each_cmp (f ∷ fs) [] [] = Equal
each_cmp (f ∷ fs) [] (v ∷ vs) = Less
each_cmp (f ∷ fs) (u ∷ us) [] = Greater
each_cmp (f ∷ fs) (u ∷ us) (v ∷ vs) = ordering_then (f.compare u v) (each_cmp fs us vs)

-- by the value and then by the weight
abbrev pub entry_cmp : Compare → Value × ℤ → Value × ℤ → Ordering
entry_cmp c e f = ordering_then (c e.0 f.0) (int_cmp e.1 f.1)

-- how two values compare at a node, by the forms at its children
abbrev pub cmp_step : Node → List Form → Compare
cmp_step State fs u v = option_cmp nat_cmp (state u) (state v)
cmp_step (Constant labels) fs u v = nat_cmp (label u) (label v)
cmp_step Naturals fs u v = nat_cmp (label u) (label v)
cmp_step Product fs u v = each_cmp fs (parts u) (parts v)
cmp_step Sum fs u v =
    ordering_then (nat_cmp (index u) (index v)) ((form_at fs (index u)).compare (inner u) (inner v))
cmp_step (Power labels) fs u v = slice_cmp (form_at fs 0).compare (parts u) (parts v)
cmp_step Powerset fs u v = slice_cmp (form_at fs 0).compare (parts u) (parts v)
cmp_step Bag fs u v = slice_cmp (entry_cmp (form_at fs 0).compare) (entries u) (entries v)
cmp_step Distribution fs u v = slice_cmp (entry_cmp (form_at fs 0).compare) (entries u) (entries v)
cmp_step Integers fs u v = slice_cmp (entry_cmp (form_at fs 0).compare) (entries u) (entries v)
cmp_step Rationals fs u v = slice_cmp (entry_cmp (form_at fs 0).compare) (entries u) (entries v)

-- each element stands below the next
abbrev pub ascends : Compare → List Value → Bool
ascends c [] = true
ascends c (v ∷ []) = true
ascends c (u ∷ v ∷ vs) = is_lt (c u v) && ascends c (v ∷ vs)

-- each place is normal for its own child
abbrev pub each_normal : List Form → List Value → Bool
each_normal [] vs = true
each_normal (f ∷ fs) [] = true
each_normal (f ∷ fs) (v ∷ vs) = f.is_normal v && each_normal fs vs

-- an ascending list of normal values
abbrev pub is_normal_list : Form → List Value → Bool
is_normal_list f vs = ascends f.compare vs && list_all f.is_normal vs

-- and no weight 0
abbrev pub is_normal_sum : Form → List (Value × ℤ) → Bool
is_normal_sum f es =
    is_normal_list f (map (λ e. e.0) es) && list_all (λ e. not (int_eq e.1 (pos 0))) es

-- which values are normal at a node, by the forms at its children
abbrev pub normal_step : Node → List Form → Value → Bool
normal_step State fs v = true
normal_step (Constant labels) fs v = true
normal_step Naturals fs v = true
normal_step Product fs v = each_normal fs (parts v)
normal_step Sum fs v = (form_at fs (index v)).is_normal (inner v)
normal_step (Power labels) fs v = list_all (form_at fs 0).is_normal (parts v)
normal_step Powerset fs v = is_normal_list (form_at fs 0) (parts v)
normal_step Bag fs v = is_normal_sum (form_at fs 0) (entries v)
normal_step Distribution fs v = is_normal_sum (form_at fs 0) (entries v)
normal_step Integers fs v = is_normal_sum (form_at fs 0) (entries v)
normal_step Rationals fs v = is_normal_sum (form_at fs 0) (entries v)

-- both at a node, by the forms at its children
abbrev pub form_step : Node → List Form → Form
form_step m fs = record { compare = cmp_step m fs; is_normal = normal_step m fs }

-- both at node p of a term
abbrev pub form : Nodes → ℕ → Form
form t p = fold no_form form_step t p

-- the order of values at node p
abbrev pub compare : Nodes → ℕ → Compare
compare t p = (form t p).compare

-- the value is normal at node p
abbrev pub is_normal : Nodes → ℕ → Value → Bool
is_normal t p = (form t p).is_normal
