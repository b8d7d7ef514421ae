-- The order of values is total, and agrees with equality.
--     three_total, three_equivalence, three_partial_order       the laws of the comparisons
--     three_equal_exactly                                       it tells apart exactly what differs
use Rattle.std.specs.Prelude.{◌≡◌, ◌↔◌, ℕ, zero, suc, ℤ, List, [], ◌∷◌, refl}
use Rattle.std.proofs.Common.{sym, ◌∙◌, ap}
use Rattle.std.specs.Ordering.{nat_cmp, int_cmp, ordering_then, as_partial_cmp, eq_by_cmp}
use Rattle.std.specs.declared.cmp.Ordering.{Ordering}
use Rattle.std.specs.declared.cmp.Ordering.TheVariants.{Less, Equal, Greater}
use Rattle.std.specs.Cmp.{IsTotalOrder, IsEquivalence, IsPartialEquivalence, IsPartialOrder, partial_equiv_from_equiv, partial_order_from_total}
use Rattle.std.specs.Cmp.Lexicographic.{slice_cmp}
use Rattle.std.proofs.lemmas.Cmp.{nat_cmp_total, int_cmp_total, nat_list_cmp_total, on_total, then_total, eq_by_cmp_equiv, ranked, int_ranked, tied_itself}
use Rattle.weights.specs.declared.ratio.Ratio.{Ratio}
use Rattle.modalities.specs.declared.sums.Sums.{Sums}
use Rattle.modalities.specs.declared.three.Three.{Three}
use Rattle.modalities.specs.declared.three.Three.TheVariants.{Label, Trit, Trits, Tagged, Members, Triple}
use Rattle.modalities.specs.Order.{kind_of, number_of, trits_of, sums_of, ratio_cmp, sums_cmp, three_cmp}

pub ratio_total : IsTotalOrder ratio_cmp
ratio_total =
    then_total (on_total (λ (r : Ratio). r.p) int_cmp_total)
    (on_total (λ (r : Ratio). r.q) nat_cmp_total)

pub sums_total : IsTotalOrder sums_cmp
sums_total =
    then_total (on_total (λ (s : Sums). s.at_zero) ratio_total)
    (then_total (on_total (λ (s : Sums). s.at_one) ratio_total)
    (on_total (λ (s : Sums). s.at_two) ratio_total))

pub three_total : IsTotalOrder three_cmp
three_total =
    then_total (on_total kind_of nat_cmp_total)
    (then_total (on_total number_of nat_cmp_total)
    (then_total (on_total trits_of nat_list_cmp_total)
    (on_total sums_of sums_total)))

pub three_equivalence :
    IsPartialEquivalence (eq_by_cmp three_cmp) × IsEquivalence (eq_by_cmp three_cmp)
three_equivalence =
    let equivalence : IsEquivalence (eq_by_cmp three_cmp) = eq_by_cmp_equiv three_total in
    (partial_equiv_from_equiv equivalence, equivalence)

pub three_partial_order : IsPartialOrder (eq_by_cmp three_cmp) (as_partial_cmp three_cmp)
three_partial_order = partial_order_from_total three_total

-- where two comparisons in a row find no difference, neither does
then_equal : (r s : Ordering) → ordering_then r s ≡ Equal → (r ≡ Equal) × (s ≡ Equal)
then_equal Less s e = cc
then_equal Equal s e = (refl, e)
then_equal Greater s e = cc

nat_equal : (x y : ℕ) → nat_cmp x y ≡ Equal → x ≡ y
nat_equal x y e = ranked x y Equal (sym e)

int_equal : (x y : ℤ) → int_cmp x y ≡ Equal → x ≡ y
int_equal x y e = int_ranked x y Equal (sym e)

list_equal : (xs ys : List ℕ) → slice_cmp nat_cmp xs ys ≡ Equal → xs ≡ ys
list_equal [] [] e = refl
list_equal [] (y ∷ ys) e = cc
list_equal (x ∷ xs) [] e = cc
list_equal (x ∷ xs) (y ∷ ys) e =
    let both = then_equal (nat_cmp x y) (slice_cmp nat_cmp xs ys) e in
    let head : x ≡ y = nat_equal x y both.0 in
    let tail : xs ≡ ys = list_equal xs ys both.1 in
    cc

ratio_equal : (a b : Ratio) → ratio_cmp a b ≡ Equal → a ≡ b
ratio_equal a b e =
    let both = then_equal (int_cmp a.p b.p) (nat_cmp a.q b.q) e in
    let top : a.p ≡ b.p = int_equal a.p b.p both.0 in
    let bottom : a.q ≡ b.q = nat_equal a.q b.q both.1 in
    λ i. record { p = top i; q = bottom i }

sums_equal : (a b : Sums) → sums_cmp a b ≡ Equal → a ≡ b
sums_equal a b e =
    let by_zero = then_equal _ _ e in
    let by_one = then_equal _ _ by_zero.1 in
    let at_zero = ratio_equal a.at_zero b.at_zero by_zero.0 in
    let at_one = ratio_equal a.at_one b.at_one by_one.0 in
    let at_two = ratio_equal a.at_two b.at_two by_one.1 in
    λ i. record { at_zero = at_zero i; at_one = at_one i; at_two = at_two i }

-- the first trit, and 0 of none
abbrev first_of : List ℕ → ℕ
first_of [] = 0
first_of (t ∷ ts) = t

-- the value of a kind with these numbers, trits and fractions
abbrev made_of : ℕ → ℕ → List ℕ → Sums → Three
made_of zero n ts s = Label n
made_of (suc zero) n ts s = Trit (first_of ts)
made_of (suc (suc zero)) n ts s = Trits ts
made_of (suc (suc (suc zero))) n ts s = Tagged n (first_of ts)
made_of (suc (suc (suc (suc zero)))) n ts s = Members n
made_of (suc (suc (suc (suc (suc k))))) n ts s = Triple s

-- a value is made of what it has
made_again :
    (a : Three) → made_of (kind_of a) (number_of a) (trits_of a) (sums_of a) ≡ a
made_again (Label n) = refl
made_again (Trit t) = refl
made_again (Trits ts) = refl
made_again (Tagged i t) = refl
made_again (Members bits) = refl
made_again (Triple s) = refl

-- values that the order does not tell apart are one
three_equal : (a b : Three) → three_cmp a b ≡ Equal → a ≡ b
three_equal a b e =
    let by_kind = then_equal _ _ e in
    let by_number = then_equal _ _ by_kind.1 in
    let by_trits = then_equal _ _ by_number.1 in
    let kind = nat_equal (kind_of a) (kind_of b) by_kind.0 in
    let number = nat_equal (number_of a) (number_of b) by_number.0 in
    let trits = list_equal (trits_of a) (trits_of b) by_trits.0 in
    let sums = sums_equal (sums_of a) (sums_of b) by_trits.1 in
    sym (made_again a)
    ∙ (λ i. made_of (kind i) (number i) (trits i) (sums i))
    ∙ made_again b

-- the order tells apart exactly what differs
pub three_equal_exactly : (a b : Three) → three_cmp a b ≡ Equal ↔ (a ≡ b)
three_equal_exactly a b =
    (three_equal a b, λ e. ap (three_cmp a) (sym e) ∙ tied_itself three_total a)
