-- The meanings of the interface of polynomial layers.
--     arity, numbers_from, fits_form          the places of a form, and the labels that suit it
--     first_trit, value_of_form               the form with a trit for each place
--     toward_of_form, agree_of_forms          the form and the marks, and when two structures agree
use Rattle.std.specs.Prelude.{◌≡◌, ◌+◌, ℕ, zero, suc, Bool, List, [], ◌∷◌}
use Rattle.modalities.specs.declared.three.Three.{Three}
use Rattle.modalities.specs.declared.three.Three.TheVariants.{Label, Trit, Trits, Tagged as TaggedValue}
use Rattle.iface.specs.Structures.{Classed}
use Rattle.polynomial_iface.specs.declared.weight.Form.{Form}
use Rattle.polynomial_iface.specs.declared.weight.Form.TheVariants.{Constant, Identity, Places, Tagged}
use Rattle.polynomial_iface.specs.declared.weight.PolyShape.{PolyShape}
use Rattle.polynomial_iface.specs.declared.weight.PolyWeight.{PolyWeight}

-- the number of places of a form
abbrev pub arity : Form → ℕ
arity (Constant label) = 0
arity Identity = 1
arity (Places count) = count
arity (Tagged index) = 1

-- so many numbers in order, from the first on
abbrev pub numbers_from : ℕ → ℕ → List ℕ
numbers_from first zero = []
numbers_from first (suc count) = first ∷ numbers_from (first + 1) count

-- the labels are the places 0, 1, 2 and so on, one for each place of the form
abbrev pub fits_form : Form → List ℕ → Type 0
fits_form form labels = labels ≡ numbers_from 0 (arity form)

-- the first trit, and 0 of none
abbrev pub first_trit : List ℕ → ℕ
first_trit [] = 0
first_trit (t ∷ ts) = t

-- the label; the trit of the one place; all trits; the number of the summand with the trit
abbrev pub value_of_form : Form → List ℕ → Three
value_of_form (Constant label) trits = Label label
value_of_form Identity trits = Trit (first_trit trits)
value_of_form (Places count) trits = Trits trits
value_of_form (Tagged index) trits = TaggedValue index (first_trit trits)

-- the weight is the form and the marks
abbrev pub toward_of_form : Form → List Bool → PolyWeight
toward_of_form form marks = record { form = form; marks = marks }

-- the nodes and the forms are equal, and the classes are equal place by place
abbrev pub agree_of_forms : {L : Type 0} → Classed PolyShape L → Classed PolyShape L → Type 0
agree_of_forms x y =
    (x.shape.node ≡ y.shape.node) × (x.shape.form ≡ y.shape.form) × (x.classes ≡ y.classes)
