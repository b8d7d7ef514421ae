-- The laws of whole numbers, and what follows from the laws of any weights.
use Rattle.std.specs.Prelude.{◌≡◌, ◌+◌, ◌*◌, ◌≤◌, ◌^◌, ℤ, pos, ◌+ℤ◌, ◌-ℤ◌, unsigned_abs}
use Rattle.std.proofs.Common.{refl, arith}
use Rattle.std.proofs.lemmas.Int.{ints}
use Rattle.weights.specs.Monoids.{CanAdd, MonoidLaws, Undoes}

-- whole numbers, which stand for themselves, keep the laws
pub integers_laws : MonoidLaws {E = ℤ} (λ a. a) (pos 0) (λ a b. a +ℤ b)
integers_laws = record {
  commutes = λ a b h. omega (arith, ints);
  associates = λ a b c h i j k. omega (arith, ints);
  neutral = λ a h. omega (arith, ints);
  zero_is = refl;
  told = λ a b e. e;
  bounded = λ a b h. omega (arith, ints);
}

-- and their differences undo their sums
pub integers_undo : Undoes {E = ℤ} (λ a. a) (λ a b. a +ℤ b) (λ a b. a -ℤ b)
integers_undo a b h i = omega (arith, ints)

module _
    {E : Type 0} (number : E → ℤ) (zero : E) (add : E → E → E)
    (laws : MonoidLaws number zero add) where
  -- three weights whose absolute values sum to at most 2 ^ 126 may be added in either order
  pub associates_within :
      (a b c : E) →
      unsigned_abs (number a) + unsigned_abs (number b) + unsigned_abs (number c) ≤ 2 ^ 126 →
      add (add a b) c ≡ add a (add b c)
  associates_within a b c small =
      let left : CanAdd number a b = omega (arith, small) in
      let right : CanAdd number b c = omega (arith, small) in
      laws.associates a b c left (omega (arith, small, laws.bounded a b left))
      right (omega (arith, small, laws.bounded b c right))

-- what was added may be taken away where it is counted twice within 2 ^ 126
pub undone_within :
    {E : Type 0} (number : E → ℤ) (zero : E) (add sub : E → E → E) →
    MonoidLaws number zero add → Undoes number add sub →
    (a b : E) → unsigned_abs (number a) + 2 * unsigned_abs (number b) ≤ 2 ^ 126 →
    sub (add a b) b ≡ a
undone_within number zero add sub laws undoes a b small =
    let there : CanAdd number a b = omega (arith, small) in
    undoes a b there (omega (arith, small, laws.bounded a b there))
