-- The laws of the interface of finite sets.
--     has-two, has-one, has-joined          which trits and which joined classes occur
--     bits_apart, same_members              the value of a set tells which trits occur
--     map-same                              sets of classes stay the same where classes are merged
--     set_laws                              the laws
use Rattle.std.specs.Prelude.{◌≡◌, ◌≢◌, ◌+◌, ◌*◌, ℕ, ◌==◌, Bool, true, false, ◌||◌, ◌&&◌, cond, List, [], ◌∷◌, map, length, refl}
use Rattle.std.proofs.Common.{sym, ◌∙◌, ap, subst, inl, inr, arith}
use Rattle.std.proofs.lemmas.Bool.{eq-eqb, eqb-true, or_cases, or_right}
use Rattle.std.proofs.lemmas.Bool.Decides.{nat_tests, eqb_tells}
use Rattle.std.proofs.Math.Bool.{and-false}
use Rattle.modalities.specs.declared.three.Three.{Three}
use Rattle.iface.specs.Structures.{IfaceLaws, Classed, joined, three_way}
use Rattle.iface.specs.Trits.{each}
use Rattle.powerset_iface.specs.declared.sets.Sets.{Sets}
use Rattle.powerset_iface.specs.declared.weight.SetShape.{SetShape}
use Rattle.powerset_iface.specs.Sets.{has, SameSet, members_of, value_of_set, agree_of_sets}

two_test : (a b : Bool) → (cond a 2 (cond b 1 0) == 2) ≡ a
two_test true b = refl
two_test false true = refl
two_test false false = refl

-- trit 2 occurs where the new class does
has-two :
    (old new : ℕ) (cs : List ℕ) → has 2 (map (three_way old new) cs) ≡ has new cs
has-two old new [] = refl
has-two old new (c ∷ cs) = rw (two_test (c == new) (c == old), has-two old new cs) refl

one_test : (old new c : ℕ) → old ≢ new → (three_way old new c == 1) ≡ (c == old)
one_test old new c ne = grind (arith, nat_tests)

-- trit 1 occurs where the old class does
has-one :
    (old new : ℕ) → old ≢ new → (cs : List ℕ) → has 1 (map (three_way old new) cs) ≡ has old cs
has-one old new ne [] = refl
has-one old new ne (c ∷ cs) = rw (one_test old new c ne, has-one old new ne cs) refl

joined_test : (old new d c : ℕ) → d ≢ old → d ≢ new → (joined old new c == d) ≡ (c == d)
joined_test old new d c not_old not_new = grind (arith, nat_tests)

-- to join two classes changes no other one
has-joined :
    (old new d : ℕ) → d ≢ old → d ≢ new → (cs : List ℕ) →
    has d (map (joined old new) cs) ≡ has d cs
has-joined old new d not_old not_new [] = refl
has-joined old new d not_old not_new (c ∷ cs) =
    rw (joined_test old new d c not_old not_new, has-joined old new d not_old not_new cs) refl

-- a lowest bit and the rest
low_bit :
    (a x : Bool) (u v : ℕ) → cond a 1 0 + 2 * u ≡ cond x 1 0 + 2 * v → (a ≡ x) × (u ≡ v)
low_bit true true u v e = (refl, omega arith)
low_bit true false u v e = absurd (omega arith)
low_bit false true u v e = absurd (omega arith)
low_bit false false u v e = (refl, omega arith)

one_bit : (a x : Bool) → ◌≡◌ {A = ℕ} (cond a 1 0) (cond x 1 0) → a ≡ x
one_bit true true e = refl
one_bit true false e = absurd (omega arith)
one_bit false true e = absurd (omega arith)
one_bit false false e = refl

two_of : (b : Bool) → ◌≡◌ {A = ℕ} (cond b 2 0) (2 * cond b 1 0)
two_of true = refl
two_of false = refl

four_of : (b : Bool) → ◌≡◌ {A = ℕ} (cond b 4 0) (2 * (2 * cond b 1 0))
four_of true = refl
four_of false = refl

-- the bits of a set tell its members
bits_apart :
    (a b c x y z : Bool) →
    ◌≡◌ {A = ℕ} (cond a 1 0 + cond b 2 0 + cond c 4 0) (cond x 1 0 + cond y 2 0 + cond z 4 0) →
    (a ≡ x) × (b ≡ y) × (c ≡ z)
bits_apart a b c x y z e =
    let first =
    low_bit a x (cond b 1 0 + 2 * cond c 1 0) (cond y 1 0 + 2 * cond z 1 0)
    (omega (arith, two_of b, four_of c, two_of y, four_of z)) in
    let second = low_bit b y (cond c 1 0) (cond z 1 0) first.1 in
    (first.0, second.0, one_bit c z second.1)

-- the value tells which trits occur
same_members :
    (ts us : List ℕ) → ◌≡◌ {A = Three} (value_of_set ts) (value_of_set us) →
    (has 0 ts ≡ has 0 us) × (has 1 ts ≡ has 1 us) × (has 2 ts ≡ has 2 us)
same_members ts us e =
    let bits : members_of ts ≡ members_of us = cc in
    bits_apart (has 0 ts) (has 1 ts) (has 2 ts) (has 0 us) (has 1 us) (has 2 us) bits

has_head : (c : ℕ) (xs : List ℕ) → has c (c ∷ xs) ≡ true
has_head c xs = rw (eq-eqb c c refl) refl

-- what is in the list of merged classes was merged from a class in the list
has-map :
    (f : ℕ → ℕ) (c : ℕ) (xs : List ℕ) → has c (map f xs) ≡ true →
    (d : ℕ) × (has d xs ≡ true) × (f d ≡ c)
has-map f c [] h = cc
has-map f c (x ∷ xs) h = elim (or_cases (f x == c) (has c (map f xs)) h) [
  | inl here ↦ (x, has_head x xs, eqb-true (f x) c here)
  | inr there ↦
      let found = has-map f c xs there in
      (found.0, or_right (x == found.0) (has found.0 xs) found.1, found.2)
]

has-map_back :
    (f : ℕ → ℕ) (d : ℕ) (xs : List ℕ) → has d xs ≡ true → has (f d) (map f xs) ≡ true
has-map_back f d [] h = cc
has-map_back f d (x ∷ xs) h = elim (or_cases (x == d) (has d xs) h) [
  | inl here ↦ rw (eq-eqb (f x) (f d) (ap f (eqb-true x d here))) refl
  | inr there ↦ or_right (f x == f d) (has (f d) (map f xs)) (has-map_back f d xs there)
]

both_ways : (a b : Bool) → (a ≡ true → b ≡ true) → (b ≡ true → a ≡ true) → a ≡ b
both_ways true b f g = sym (f refl)
both_ways false true f g = g refl
both_ways false false f g = refl

map_into :
    (f : ℕ → ℕ) (xs ys : List ℕ) → SameSet xs ys →
    (c : ℕ) → has c (map f xs) ≡ true → has c (map f ys) ≡ true
map_into f xs ys same c h =
    let found = has-map f c xs h in
    let back = has-map_back f found.0 ys (sym (same found.0) ∙ found.1) in
    subst (λ e. has e (map f ys) ≡ true) found.2 back

-- the same classes go on occurring in both where classes are merged
map-same :
    (f : ℕ → ℕ) (xs ys : List ℕ) → SameSet xs ys → SameSet (map f xs) (map f ys)
map-same f xs ys same c =
    both_ways (has c (map f xs)) (has c (map f ys))
    (map_into f xs ys same c) (map_into f ys xs (λ d. sym (same d)) c)

absorb : (a b : Bool) → (a || (a && b)) ≡ (a && true)
absorb true b = refl
absorb false b = refl

-- a list of one class has it where it is not empty
has-constant :
    {Label : Type 0} (class c : ℕ) (labels : List Label) (cs : List ℕ) →
    length cs ≡ length labels →
    has c (map (λ _. class) cs) ≡ ((class == c) && has 2 (each 2 labels))
has-constant class c [] [] e = sym (and-false (class == c))
has-constant class c [] (d ∷ cs) e = absurd (omega arith)
has-constant class c (x ∷ xs) [] e = absurd (omega arith)
has-constant class c (x ∷ xs) (d ∷ cs) e =
    ap (λ b. (class == c) || b) (has-constant class c xs cs (omega arith))
    ∙ absorb (class == c) (has 2 (each 2 xs))

start_law :
    {Label : Type 0} (x y : Classed SetShape Label) (class : ℕ) →
    length x.classes ≡ length x.labels → length y.classes ≡ length y.labels →
    ◌≡◌ {A = Three} (value_of_set (each 2 x.labels)) (value_of_set (each 2 y.labels)) →
    SameSet (map (λ _. class) x.classes) (map (λ _. class) y.classes)
start_law x y class fx fy same c =
    has-constant class c x.labels x.classes fx
    ∙ ap (λ b. (class == c) && b) (same_members (each 2 x.labels) (each 2 y.labels) same).2
    ∙ sym (has-constant class c y.labels y.classes fy)

-- the same classes occur where the joined ones do, and the value tells the two apart
split_law :
    (old new : ℕ) (cs ds : List ℕ) → old ≢ new →
    SameSet (map (joined old new) cs) (map (joined old new) ds) →
    ◌≡◌ {A = Three}
    (value_of_set (map (three_way old new) cs)) (value_of_set (map (three_way old new) ds)) →
    SameSet cs ds
split_law old new cs ds apart same values c =
    let trits = same_members (map (three_way old new) cs) (map (three_way old new) ds) values in
    let of_new : has new cs ≡ has new ds =
    sym (has-two old new cs) ∙ trits.2 ∙ has-two old new ds in
    let of_old : has old cs ≡ has old ds =
    sym (has-one old new apart cs) ∙ trits.1 ∙ has-one old new apart ds in
    elim (eqb_tells c new) [
      | inl is_new ↦ subst (λ d. has d cs ≡ has d ds) (sym is_new.1) of_new
      | inr not_new ↦ elim (eqb_tells c old) [
        | inl is_old ↦ subst (λ d. has d cs ≡ has d ds) (sym is_old.1) of_old
        | inr not_old ↦
            sym (has-joined old new c not_old.1 not_new.1 cs) ∙ same c
            ∙ has-joined old new c not_old.1 not_new.1 ds
      ]
    ]

value_law :
    (ts us : List ℕ) → SameSet ts us → ◌≡◌ {A = Three} (value_of_set ts) (value_of_set us)
value_law ts us same = rw (same 0, same 1, same 2) refl

pub set_laws :
    (self : Sets) →
    IfaceLaws {Shape = SetShape} {Label = Unit {0}} (λ shape. shape.node) (λ _ _. Unit {0})
    (λ _ _. Unit {0}) (λ _ _ trits. value_of_set trits) agree_of_sets
set_laws self = record {
  start = λ x y class fx fy kin same_node same.
      (same_node, start_law x y class fx.one_each fy.one_each same);
  splits = λ x y old new apart fx fy agree same.
      (agree.0, split_law old new x.classes y.classes apart agree.1 same);
  merges = λ x y f fx fy agree. (agree.0, map-same f x.classes y.classes agree.1);
  one_node = λ x y fx fy agree. agree.0;
  one_value = λ x y h numbering fx fy agree.
      value_law (map h x.classes) (map h y.classes) (map-same h x.classes y.classes agree.1);
}
