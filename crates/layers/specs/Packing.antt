-- Weights in few bytes. Each weight is kept in one way, so that equal weights are kept alike.
--     class_of                       how the weights of a kind of layer are kept
--     is_narrow, pack_sums, pack     the weight in few bytes
--     opened_of                      the weight that is kept
use Rattle.std.specs.Prelude.{ℤ, pos, negsuc, int_le, Bool, true, false, ◌&&◌, cond}
use Rattle.layers.specs.declared.shape.Kind.{Kind}
use Rattle.layers.specs.declared.shape.Kind.TheVariants as kind
use Rattle.layers.specs.declared.shape.Class.{Class}
use Rattle.layers.specs.declared.shape.Class.TheVariants as class
use Rattle.layers.specs.declared.weight.SumsWeight.{SumsWeight}
use Rattle.layers.specs.declared.weight.Opened.{Opened}
use Rattle.layers.specs.declared.weight.Opened.TheVariants as opened
use Rattle.layers.specs.declared.weight.LayerWeight.{LayerWeight}
use Rattle.layers.specs.declared.weight.LayerWeight.TheVariants as weight

-- sets apart, weights by their denominator, polynomial layers by their form
abbrev pub class_of : Kind → Class
class_of kind.Set = class.Set
class_of kind.Bag = class.Sums false
class_of kind.Whole = class.Sums false
class_of kind.Scaled = class.Sums true
class_of kind.Dist = class.Sums true
class_of (kind.Poly f) = class.Form f

-- the number has at most 64 bits, one of them for its sign
abbrev pub is_narrow : ℤ → Bool
is_narrow x = int_le (negsuc 9223372036854775807) x && int_le x (pos 9223372036854775807)

-- two sums of 64 bits where both fit, and else both behind a pointer
abbrev pub pack_sums : Bool → ℤ → ℤ → LayerWeight
pack_sums scaled o i =
    cond (is_narrow o && is_narrow i)
    (cond scaled (weight.Scaled (record { outside = o; inside = i }))
    (weight.Plain (record { outside = o; inside = i })))
    (weight.Wide (record { scaled = scaled; outside = o; inside = i }))

-- the weight in few bytes
abbrev pub pack : Opened → LayerWeight
pack (opened.Set w) = weight.Set w
pack (opened.Places w) = weight.Places w
pack (opened.Many w) = weight.Many w
pack (opened.Sums w) = pack_sums w.scaled w.outside w.inside

-- the weight that is kept
abbrev pub opened_of : LayerWeight → Opened
opened_of (weight.Set w) = opened.Set w
opened_of (weight.Places w) = opened.Places w
opened_of (weight.Many w) = opened.Many w
opened_of (weight.Plain w) =
    opened.Sums (record { scaled = false; outside = w.outside; inside = w.inside })
opened_of (weight.Scaled w) =
    opened.Sums (record { scaled = true; outside = w.outside; inside = w.inside })
opened_of (weight.Wide w) = opened.Sums w
