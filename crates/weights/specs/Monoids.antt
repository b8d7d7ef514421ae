-- The laws of weights that can be added, and of those that can be subtracted too. Each holds where
-- the additions and subtractions in it are allowed.
use Rattle.std.specs.Prelude.{◌≡◌, ◌+◌, ◌≤◌, ◌^◌, ℤ, pos, unsigned_abs}

-- two weights may be added or subtracted: the absolute values of their numbers sum to at most
-- 2 ^ 126
abbrev pub CanAdd : {E : Type 0} → (E → ℤ) → E → E → Type 0
CanAdd number a b = unsigned_abs (number a) + unsigned_abs (number b) ≤ 2 ^ 126

-- `add` is commutative and associative, with `zero` neutral; a weight is told by its number; the
-- number of `zero` is 0, and that of a sum is no larger than both together
pub record MonoidLaws {E : Type 0} (number : E → ℤ) (zero : E) (add : E → E → E) : Type 0 where
  pub commutes : (a b : E) → CanAdd number a b → add a b ≡ add b a
  pub associates :
      (a b c : E) →
      CanAdd number a b → CanAdd number (add a b) c →
      CanAdd number b c → CanAdd number a (add b c) →
      add (add a b) c ≡ add a (add b c)
  pub neutral : (a : E) → CanAdd number a zero → add a zero ≡ a
  pub zero_is : number zero ≡ pos 0
  pub told : (a b : E) → number a ≡ number b → a ≡ b
  pub bounded :
      (a b : E) → CanAdd number a b →
      unsigned_abs (number (add a b)) ≤ unsigned_abs (number a) + unsigned_abs (number b)

-- to subtract what was added gives the weight back
abbrev pub Undoes : {E : Type 0} → (E → ℤ) → (E → E → E) → (E → E → E) → Type 0
Undoes {E} number add sub =
    (a b : E) → CanAdd number a b → CanAdd number (add a b) b → sub (add a b) b ≡ a
