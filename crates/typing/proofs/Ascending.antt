-- Lists that ascend by an order.
use Rattle.std.proofs.Common.{◌≡◌, true, List, [], ◌∷◌, refl, ap}
use Rattle.std.specs.Cmp.{IsTotalOrder}
use Rattle.std.specs.List.{list_all}
use Rattle.std.specs.declared.cmp.Ordering.{Ordering}
use Rattle.std.specs.declared.cmp.Ordering.TheVariants.{Less, Equal, Greater}
use Rattle.std.specs.Ordering.{is_lt}
use Rattle.std.proofs.lemmas.Bool.{and_parts, and_from}
use Rattle.typing.specs.declared.value.Value.{Value}
use Rattle.typing.specs.Order.{Compare, ascends}
use Rattle.typing.proofs.Coarser.{all_where}

-- the test of less holds of less alone
pub lt_is : (r : Ordering) → is_lt r ≡ true → r ≡ Less
lt_is Less h = refl
lt_is Equal h = cc
lt_is Greater h = cc

-- no two are both less and equal
pub less_equal : (r : Ordering) → r ≡ Less → r ≡ Equal → ⊥
less_equal r p q = cc

module _ (c : Compare) (o : IsTotalOrder c) where
  -- the first of an ascending list stands below the others
  pub below_all : (u : Value) (us : List Value) → ascends c (u ∷ us) ≡ true
      → list_all (λ w. is_lt (c u w)) us ≡ true
  below_all u [] h = refl
  below_all u (v ∷ vs) h =
      let p = and_parts (is_lt (c u v)) (ascends c (v ∷ vs)) h in
      and_from (is_lt (c u v)) (list_all (λ w. is_lt (c u w)) vs) p.0
      (all_where (λ w. is_lt (c v w)) (λ w. is_lt (c u w)) vs (below_all v vs p.1)
      (λ w k. ap is_lt (o.trans u v w (lt_is (c u v) p.0) (lt_is (c v w) k))))

  -- what ascends, ascends behind its first
  pub rest_ascends : (u : Value) (us : List Value) → ascends c (u ∷ us) ≡ true
      → ascends c us ≡ true
  rest_ascends u [] h = refl
  rest_ascends u (v ∷ vs) h = (and_parts (is_lt (c u v)) (ascends c (v ∷ vs)) h).1
