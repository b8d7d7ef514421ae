-- The laws of the interface of polynomial layers.
--     value_tells, form_told        the value of a form tells its trits, and the form
--     split_lists                   joined classes and the trits of the two tell the classes
--     poly_laws                     the laws
use Rattle.std.specs.Prelude.{◌≡◌, ◌+◌, ℕ, zero, suc, List, [], ◌∷◌, map, length, refl}
use Rattle.std.proofs.Common.{sym, ◌∙◌, ap, arith}
use Rattle.std.proofs.lemmas.Bool.Decides.{nat_tests}
use Rattle.std.proofs.lemmas.List.{length-map}
use Rattle.iface.specs.Structures.{IfaceLaws, Classed, IsFitting, joined, three_way}
use Rattle.iface.specs.Trits.{each}
use Rattle.polynomial_iface.specs.declared.polys.Polys.{Polys}
use Rattle.polynomial_iface.specs.declared.weight.Form.{Form}
use Rattle.polynomial_iface.specs.declared.weight.Form.TheVariants.{Constant, Identity, Places, Tagged}
use Rattle.polynomial_iface.specs.declared.weight.PolyShape.{PolyShape}
use Rattle.polynomial_iface.specs.Polys.{arity, numbers_from, fits_form, first_trit, value_of_form, agree_of_forms}

pub length-numbers_from : (first count : ℕ) → length (numbers_from first count) ≡ count
length-numbers_from first zero = refl
length-numbers_from first (suc count) = ap suc (length-numbers_from (first + 1) count)

pub length-each :
    {L : Type 0} (t : ℕ) (labels : List L) → length (each t labels) ≡ length labels
length-each t [] = refl
length-each t (x ∷ xs) = ap suc (length-each t xs)

one_trit :
    (ts us : List ℕ) → length ts ≡ 1 → length us ≡ 1 → first_trit ts ≡ first_trit us → ts ≡ us
one_trit (t ∷ []) (u ∷ []) p q e = ap (λ x. x ∷ []) e
one_trit [] us p q e = absurd (omega arith)
one_trit (t ∷ []) [] p q e = absurd (omega arith)
one_trit (t ∷ []) (u ∷ v ∷ us) p q e = absurd (omega arith)
one_trit (t ∷ s ∷ ts) us p q e = absurd (omega arith)

no_trits : (ts us : List ℕ) → length ts ≡ 0 → length us ≡ 0 → ts ≡ us
no_trits [] [] p q = refl
no_trits [] (u ∷ us) p q = absurd (omega arith)
no_trits (t ∷ ts) us p q = absurd (omega arith)

-- the value of a form tells its trits
value_tells :
    (form : Form) (ts us : List ℕ) → length ts ≡ arity form → length us ≡ arity form →
    value_of_form form ts ≡ value_of_form form us → ts ≡ us
value_tells (Constant label) ts us p q e = no_trits ts us p q
value_tells Identity ts us p q e = one_trit ts us p q (cc)
value_tells (Places count) ts us p q e = cc
value_tells (Tagged index) ts us p q e = one_trit ts us p q (cc)

-- the value tells the form, where the trits are as many as the places
form_told :
    (f g : Form) (ts us : List ℕ) → length ts ≡ arity f → length us ≡ arity g →
    value_of_form f ts ≡ value_of_form g us → f ≡ g
form_told (Constant a) (Constant b) ts us p q e = cc
form_told Identity Identity ts us p q e = refl
form_told (Places m) (Places n) ts us p q e =
    let same : ts ≡ us = cc in
    ap Places (sym p ∙ ap length same ∙ q)
form_told (Tagged i) (Tagged j) ts us p q e =
    let same : i ≡ j = cc in
    ap Tagged same
form_told (Constant a) Identity ts us p q e = cc
form_told (Constant a) (Places n) ts us p q e = cc
form_told (Constant a) (Tagged j) ts us p q e = cc
form_told Identity (Constant b) ts us p q e = cc
form_told Identity (Places n) ts us p q e = cc
form_told Identity (Tagged j) ts us p q e = cc
form_told (Places m) (Constant b) ts us p q e = cc
form_told (Places m) Identity ts us p q e = cc
form_told (Places m) (Tagged j) ts us p q e = cc
form_told (Tagged i) (Constant b) ts us p q e = cc
form_told (Tagged i) Identity ts us p q e = cc
form_told (Tagged i) (Places n) ts us p q e = cc

constant_lists :
    (class : ℕ) (cs ds : List ℕ) → length cs ≡ length ds →
    map (λ _. class) cs ≡ map (λ _. class) ds
constant_lists class [] [] e = refl
constant_lists class (c ∷ cs) (d ∷ ds) e =
    ap (λ xs. class ∷ xs) (constant_lists class cs ds (omega arith))
constant_lists class [] (d ∷ ds) e = absurd (omega arith)
constant_lists class (c ∷ cs) [] e = absurd (omega arith)

one_class :
    (old new c d : ℕ) → joined old new c ≡ joined old new d →
    three_way old new c ≡ three_way old new d → c ≡ d
one_class old new c d e h = grind (arith, nat_tests)

-- joined classes and the trits of the two tell the classes
split_lists :
    (old new : ℕ) (cs ds : List ℕ) → map (joined old new) cs ≡ map (joined old new) ds →
    map (three_way old new) cs ≡ map (three_way old new) ds → cs ≡ ds
split_lists old new [] [] e h = refl
split_lists old new [] (d ∷ ds) e h = cc
split_lists old new (c ∷ cs) [] e h = cc
split_lists old new (c ∷ cs) (d ∷ ds) e h =
    let heads : joined old new c ≡ joined old new d = cc in
    let tails : map (joined old new) cs ≡ map (joined old new) ds = cc in
    let trit : three_way old new c ≡ three_way old new d = cc in
    let trits : map (three_way old new) cs ≡ map (three_way old new) ds = cc in
    let first : c ≡ d = one_class old new c d heads trit in
    let others : cs ≡ ds = split_lists old new cs ds tails trits in
    cc

-- a structure whose labels suit its form
abbrev Fitting : Classed PolyShape ℕ → Type 0
Fitting x = IsFitting (λ shape labels. fits_form shape.form labels) x

-- it has as many classes as its form has places
as_many : (x : Classed PolyShape ℕ) → Fitting x → length x.classes ≡ arity x.shape.form
as_many x fit = fit.one_each ∙ ap length fit.fit ∙ length-numbers_from 0 (arity x.shape.form)

as_many_labels :
    (x : Classed PolyShape ℕ) → Fitting x → length (each 2 x.labels) ≡ arity x.shape.form
as_many_labels x fit =
    length-each 2 x.labels ∙ ap length fit.fit ∙ length-numbers_from 0 (arity x.shape.form)

start_law :
    (x y : Classed PolyShape ℕ) (class : ℕ) → Fitting x → Fitting y →
    value_of_form x.shape.form (each 2 x.labels) ≡ value_of_form y.shape.form (each 2 y.labels) →
    (x.shape.form ≡ y.shape.form) × (map (λ _. class) x.classes ≡ map (λ _. class) y.classes)
start_law x y class fx fy same =
    let form : x.shape.form ≡ y.shape.form =
    form_told x.shape.form y.shape.form (each 2 x.labels) (each 2 y.labels)
    (as_many_labels x fx) (as_many_labels y fy) same in
    let count = as_many x fx ∙ ap arity form ∙ sym (as_many y fy) in
    (form, constant_lists class x.classes y.classes count)

split_law :
    (x y : Classed PolyShape ℕ) (old new : ℕ) → Fitting x → Fitting y →
    x.shape.form ≡ y.shape.form →
    map (joined old new) x.classes ≡ map (joined old new) y.classes →
    value_of_form x.shape.form (map (three_way old new) x.classes)
    ≡ value_of_form y.shape.form (map (three_way old new) y.classes) →
    x.classes ≡ y.classes
split_law x y old new fx fy form joined_same same =
    let xs = map (three_way old new) x.classes in
    let ys = map (three_way old new) y.classes in
    let same_form : value_of_form x.shape.form xs ≡ value_of_form x.shape.form ys =
    same ∙ ap (λ f. value_of_form f ys) (sym form) in
    let x_count = length-map x.classes (three_way old new) ∙ as_many x fx in
    let y_count = length-map y.classes (three_way old new) ∙ as_many y fy ∙ ap arity (sym form) in
    let trits = value_tells x.shape.form xs ys x_count y_count same_form in
    split_lists old new x.classes y.classes joined_same trits

pub poly_laws :
    (self : Polys) →
    IfaceLaws {Shape = PolyShape} {Label = ℕ} (λ shape. shape.node) (λ _ _. Unit {0})
    (λ shape labels. fits_form shape.form labels)
    (λ shape _ trits. value_of_form shape.form trits) agree_of_forms
poly_laws self = record {
  start = λ x y class fx fy kin same_node same.
      let law = start_law x y class fx fy same in
      (same_node, law.0, law.1);
  splits = λ x y old new apart fx fy agree same.
      (agree.0, agree.1, split_law x y old new fx fy agree.1 agree.2 same);
  merges = λ x y f fx fy agree. (agree.0, agree.1, ap (map f) agree.2);
  one_node = λ x y fx fy agree. agree.0;
  one_value = λ x y h numbering fx fy agree. rw (agree.1, agree.2) refl;
}
