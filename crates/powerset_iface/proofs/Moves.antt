-- What a move out of a coarse block does to the weight and the value of a set.
use Rattle.std.proofs.Common.{◌≡◌, ◌+◌, ◌≤◌, ℕ, zero, suc, Bool, true, false, ◌||◌, cond, List, [], ◌∷◌, length, map, refl, sym, ◌∙◌, ap, arith, nat_lt, ◌-◌}
use Rattle.std.proofs.Math.Bool.{or-true}
use Rattle.std.proofs.lemmas.Bool.{lt-ltb}
use Rattle.iface.specs.Trits.{AreTrits, each, picked, in_coarse, in_rest, in_splitter, without_splitter}
use Rattle.modalities.specs.declared.three.Three.{Three}
use Rattle.modalities.specs.declared.three.Three.TheVariants.{Members}
use Rattle.powerset_iface.specs.declared.weight.SetWeight.{SetWeight}
use Rattle.powerset_iface.specs.Sets.{has, some_outside, marked, value_of_set, toward_of_set}

-- how many places have trit 1 or 2, and 2 alone, and which trits occur before and after the move
pub record Counts {Label : Type 0} (labels : List Label) (ts : List ℕ) : Type 0 where
  pub coarse : marked (in_coarse ts) ≡ length (picked labels ts) + marked (in_rest ts)
  pub splitter : marked (in_splitter ts) ≡ length (picked labels ts)
  pub rest_outside :
      some_outside (in_rest ts)
      ≡ (some_outside (in_coarse ts) || nat_lt 0 (length (picked labels ts)))
  pub part_outside :
      some_outside (in_splitter ts)
      ≡ (some_outside (in_coarse ts) || nat_lt 0 (marked (in_rest ts)))
  pub zero_is : has 0 ts ≡ some_outside (in_coarse ts)
  pub one_is : has 1 ts ≡ nat_lt 0 (marked (in_rest ts))
  pub two_is : has 2 ts ≡ nat_lt 0 (length (picked labels ts))
  pub void_zero : has 0 (without_splitter ts) ≡ some_outside (in_coarse ts)
  pub void_one : has 1 (without_splitter ts) ≡ nat_lt 0 (marked (in_coarse ts))
  pub void_two : has 2 (without_splitter ts) ≡ false

above : (n : ℕ) → nat_lt 0 (suc n) ≡ true
above n = lt-ltb 0 (suc n) (omega arith)

-- where something is above 0, so is it or anything else
or_above : (b : Bool) (n : ℕ) → true ≡ (b || nat_lt 0 (suc n))
or_above b n = sym (rw (above n) (or-true b))

pub counts :
    {Label : Type 0} (labels : List Label) (ts : List ℕ) →
    length ts ≡ length labels → AreTrits ts → Counts labels ts
counts [] [] e trits = record {
  coarse = refl;
  splitter = refl;
  rest_outside = refl;
  part_outside = refl;
  zero_is = refl;
  one_is = refl;
  two_is = refl;
  void_zero = refl;
  void_one = refl;
  void_two = refl;
}
counts [] (t ∷ ts) e trits = absurd (omega arith)
counts (x ∷ xs) [] e trits = absurd (omega arith)
counts (x ∷ xs) (zero ∷ ts) e trits =
    let c : Counts xs ts = counts xs ts (omega arith) trits.1 in
    record {
      coarse = c.coarse;
      splitter = c.splitter;
      rest_outside = refl;
      part_outside = refl;
      zero_is = refl;
      one_is = c.one_is;
      two_is = c.two_is;
      void_zero = refl;
      void_one = c.void_one;
      void_two = c.void_two;
    }
counts (x ∷ xs) (suc zero ∷ ts) e trits =
    let c : Counts xs ts = counts xs ts (omega arith) trits.1 in
    record {
      coarse = omega (arith, c.coarse);
      splitter = c.splitter;
      rest_outside = c.rest_outside;
      part_outside = or_above (some_outside (in_coarse ts)) (marked (in_rest ts));
      zero_is = c.zero_is;
      one_is = sym (above (marked (in_rest ts)));
      two_is = c.two_is;
      void_zero = c.void_zero;
      void_one = sym (above (marked (in_coarse ts)));
      void_two = c.void_two;
    }
counts (x ∷ xs) (suc (suc zero) ∷ ts) e trits =
    let c : Counts xs ts = counts xs ts (omega arith) trits.1 in
    record {
      coarse = omega (arith, c.coarse);
      splitter = ap suc c.splitter;
      rest_outside = or_above (some_outside (in_coarse ts)) (length (picked xs ts));
      part_outside = c.part_outside;
      zero_is = c.zero_is;
      one_is = c.one_is;
      two_is = sym (above (length (picked xs ts)));
      void_zero = c.void_zero;
      void_one = sym (above (marked (in_coarse ts)));
      void_two = c.void_two;
    }
counts (x ∷ xs) (suc (suc (suc t)) ∷ ts) e trits = absurd (omega arith)

-- where each place is marked, none is not, and they are as many as the labels
pub all_marked :
    {Label : Type 0} (labels : List Label) →
    (some_outside (map (λ _. true) labels) ≡ false)
    × (marked (map (λ _. true) labels) ≡ length labels)
all_marked [] = (refl, refl)
all_marked (x ∷ xs) = ((all_marked xs).0, ap suc (all_marked xs).1)

-- where each trit is 2, the others do not occur
pub each_two :
    {Label : Type 0} (labels : List Label) →
    (has 0 (each 2 labels) ≡ false) × (has 1 (each 2 labels) ≡ false)
    × (has 2 (each 2 labels) ≡ nat_lt 0 (length labels))
each_two [] = (refl, refl, refl)
each_two (x ∷ xs) = ((each_two xs).0, (each_two xs).1, sym (above (length xs)))

-- weights with equal parts are equal
pub same_weight :
    (a b : Bool) (m n : ℕ) → a ≡ b → m ≡ n →
    ◌≡◌ {A = SetWeight} (record { outside = a; inside = m }) (record { outside = b; inside = n })
same_weight a b m n p q = rw (p, q) refl

-- the bits of a set
abbrev pub bits_of : Bool → Bool → Bool → ℕ
bits_of a b c = cond a 1 0 + cond b 2 0 + cond c 4 0

-- equal tests have equal bits
pub same_bits : (a b c x y z : Bool) → a ≡ x → b ≡ y → c ≡ z → bits_of a b c ≡ bits_of x y z
same_bits a b c x y z p q r = rw (p, q, r) refl

module _
    {Label : Type 0} (weight : SetWeight) (moved : List Label) (labels : List Label)
    (ts : List ℕ) (one_each : length ts ≡ length labels) (trits : AreTrits ts)
    (weight_is : weight ≡ toward_of_set (in_coarse ts)) (moved_is : moved ≡ picked labels ts) where
  inside_is : weight.inside ≡ marked (in_coarse ts)
  inside_is = ap (λ (w : SetWeight). w.inside) weight_is

  outside_is : weight.outside ≡ some_outside (in_coarse ts)
  outside_is = ap (λ (w : SetWeight). w.outside) weight_is

  -- the elements that move are some of those inside
  pub fewer : length moved ≤ weight.inside
  fewer =
      let k : Counts labels ts = counts labels ts one_each trits in
      rw (inside_is, moved_is) (omega (arith, k.coarse))

  rest_count : weight.inside - length moved ≡ marked (in_rest ts)
  rest_count =
      let k : Counts labels ts = counts labels ts one_each trits in
      rw (inside_is, moved_is) (omega (arith, k.coarse))

  -- the weight of what stays is that towards the rest
  pub rest_is :
      ◌≡◌ {A = SetWeight}
      (record {
        outside = weight.outside || nat_lt 0 (length moved);
        inside = weight.inside - length moved;
      })
      (toward_of_set (in_rest ts))
  rest_is =
      let k : Counts labels ts = counts labels ts one_each trits in
      same_weight _ _ _ _ (rw (outside_is, moved_is) (sym k.rest_outside)) rest_count

  -- the weight of what moves is that towards the splitter
  pub part_is :
      ◌≡◌ {A = SetWeight}
      (record {
        outside = weight.outside || nat_lt 0 (weight.inside - length moved);
        inside = length moved;
      })
      (toward_of_set (in_splitter ts))
  part_is =
      let k : Counts labels ts = counts labels ts one_each trits in
      same_weight _ _ _ _ (rw (outside_is, rest_count) (sym k.part_outside))
      (rw moved_is (sym k.splitter))

  -- the value of what is inside and outside is the definition's
  pub three_is :
      (n : ℕ) →
      n ≡ bits_of weight.outside (nat_lt 0 (weight.inside - length moved)) (nat_lt 0 (length moved))
      →
      ◌≡◌ {A = Three} (Members n) (value_of_set ts)
  three_is n e =
      let k : Counts labels ts = counts labels ts one_each trits in
      ap Members (e ∙ same_bits _ _ _ _ _ _ (outside_is ∙ sym k.zero_is)
      (rw rest_count (sym k.one_is)) (rw moved_is (sym k.two_is)))

  -- the value of an untouched member is the definition's
  pub void_is :
      (n : ℕ) → n ≡ bits_of weight.outside (nat_lt 0 weight.inside) false →
      ◌≡◌ {A = Three} (Members n) (value_of_set (without_splitter ts))
  void_is n e =
      let k : Counts labels ts = counts labels ts one_each trits in
      ap Members (e ∙ same_bits _ _ _ _ _ _ (outside_is ∙ sym k.void_zero)
      (rw inside_is (sym k.void_one)) (sym k.void_two))
