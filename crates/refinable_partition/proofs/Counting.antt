-- How many states a list of blocks puts in one block, as states move.
use Rattle.std.proofs.Common.{◌≡◌, ◌≢◌, ◌+◌, ◌<◌, ◌≤◌, ◌==◌, ℕ, zero, suc, cond, List, [], ◌∷◌, length, get_or, set, zero-add, sum, refl, ◌∙◌, subst, arith}
use Rattle.std.proofs.lemmas.Bool.{ne_eqb}
use Rattle.std.proofs.lemmas.Bool.Decides.{nat_tests}
use Rattle.std.proofs.lemmas.List.Sums.{sum_by-set, sum_by-cons}
use Rattle.std.specs.Prelude.{All, AllPairs}
use Rattle.refinable_partition.specs.Blocks.{size_in}
use Rattle.refinable_partition.specs.Layout.{AreMoved}

-- where each of c numbers is positive, c is at most their sum
as_many : (xs : List ℕ) (c : ℕ) → ((k : ℕ) → k < c → 0 < get_or xs k 0) → c ≤ sum xs
as_many xs zero some = omega arith
as_many [] (suc c) some = absurd (omega (arith, some 0 (omega arith)))
as_many (x ∷ xs) (suc c) some =
    omega (
      arith,
      sum_by-cons (λ (v : ℕ). v) x xs,
      some 0 (omega arith),
      as_many xs c (λ k h. some (suc k) (omega arith)),
    )

-- and below it where one of them is 2 or more
pub room : (xs : List ℕ) (c b : ℕ) → ((k : ℕ) → k < c → 0 < get_or xs k 0) → b < c →
    2 ≤ get_or xs b 0 → c + 1 ≤ sum xs
room [] c b some hb two = absurd (omega arith)
room (x ∷ xs) zero b some hb two = absurd (omega arith)
room (x ∷ xs) (suc c) zero some hb two =
    omega (arith, sum_by-cons (λ (v : ℕ). v) x xs, as_many xs c (λ k h. some (suc k) (omega arith)))
room (x ∷ xs) (suc c) (suc b) some hb two =
    omega (
      arith,
      sum_by-cons (λ (v : ℕ). v) x xs,
      some 0 (omega arith),
      room xs c b (λ k h. some (suc k) (omega arith)) (omega arith) two,
    )

-- a block that no state is in has none
pub size_none : (block : List ℕ) (b : ℕ) →
    ((x : ℕ) → x < length block → get_or block x 0 ≢ b) → size_in block b ≡ 0
size_none [] b apart = refl
size_none (c ∷ cs) b apart =
    sum_by-cons (λ (v : ℕ). cond (v == b) 1 0) c cs
    ∙ rw (ne_eqb c b (apart 0 (omega arith)))
    (zero-add (size_in cs b) ∙ size_none cs b (λ x hx. apart (suc x) (omega arith)))

-- one state moves
size_set : (block : List ℕ) (x new c : ℕ) → x < length block →
    size_in (set block x new) c + cond (get_or block x 0 == c) 1 0 ≡ size_in block c
    + cond (new == c) 1 0
size_set block x new c hx = sum_by-set (λ (v : ℕ). cond (v == c) 1 0) block x new 0 hx

-- so one more is moved
moved_one : (before block : List ℕ) (old new moved x : ℕ) → old ≢ new → x < length block →
    get_or block x 0 ≡ old → AreMoved old new moved before block →
    AreMoved old new (moved + 1) before (set block x new)
moved_one before block old new moved x apart hx here so_far =
    let at : (c : ℕ) →
    size_in (set block x new) c + cond (old == c) 1 0 ≡ size_in block c + cond (new == c) 1 0 =
    λ c. subst (λ b. size_in (set block x new) c + cond (b == c) 1 0
    ≡ size_in block c + cond (new == c) 1 0) here (size_set block x new c hx) in
    let to = at new in
    let from = at old in
    record {
      to = grind (arith, nat_tests, to, apart, so_far.to);
      from = grind (arith, nat_tests, from, apart, so_far.from);
      others = λ c a b. (let o = at c in let s = so_far.others c a b in
          grind (arith, nat_tests, o, s, a, b));
    }

-- the next state of a list moves, where each is listed once and was in the old block
pub moved_more : (before block states : List ℕ) (i old new : ℕ) → AllPairs (λ x y. x ≢ y) states →
    i < length states → get_or states i 0 < length block → old ≢ new →
    All (λ x. get_or before x 0 ≡ old) states →
    ((x : ℕ) → ((k : ℕ) → k < i → get_or states k 0 ≢ x) → get_or block x 0 ≡ get_or before x 0) →
    AreMoved old new i before block →
    AreMoved old new (i + 1) before (set block (get_or states i 0) new)
moved_more before block states i old new once high hx apart all others so_far =
    moved_one before block old new i (get_or states i 0) apart hx
    (others (get_or states i 0) (λ k h e. once k i 0 h high e) ∙ all i 0 high) so_far
