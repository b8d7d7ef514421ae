-- Moved states in the order of their blocks and values.
use Rattle.std.proofs.Common.{◌≡◌, ◌+◌, ◌-◌, ◌<◌, ◌≤◌, ℕ, false, List, length, get_or, take, drop, ◌∙◌, sym, subst, arith}
use Rattle.std.specs.Ordering.{is_lt, nat_cmp, ordering_then, MatchOrdering}
use Rattle.std.specs.declared.cmp.Ordering.{Ordering}
use Rattle.std.specs.declared.cmp.Ordering.TheVariants.{Less, Equal, Greater}
use Rattle.std.specs.Cmp.{IsTotalOrder, ranks}
use Rattle.std.specs.List.Sorted.{IsSortedBy, IsNonDecreasingBy}
use Rattle.std.proofs.lemmas.Cmp.{nat_cmp_total, on_total, then_total}
use Rattle.std.proofs.lemmas.List.{get_or-take, get_or-drop, length-take-le, length-drop}
use Rattle.std.proofs.lemmas.List.Sorted.{ranks_by, sorted_far}
use Rattle.modalities.specs.Order.{three_cmp}
use Rattle.modalities.specs.OrderLaws.{three_total}
use Rattle.refiner.specs.declared.moved.Moved.{Moved}
use Rattle.refiner.specs.Touched.{moved_cmp, AreRising}

-- the order is total
pub moved_total : IsTotalOrder moved_cmp
moved_total =
    then_total (on_total (λ (m : Moved). m.block) nat_cmp_total)
    (on_total (λ (m : Moved). m.three) three_total)

-- where a pair is not lower, its first is not, and where these are one, neither is its second
not_lower :
    (x y : ℕ) (first second : Ordering) → MatchOrdering first (x < y) (x ≡ y) (y < x) →
    is_lt (ordering_then first second) ≡ false →
    (y ≤ x) × (x ≡ y → is_lt second ≡ false)
not_lower x y Less second less h = cc
not_lower x y Equal second same h = (omega (arith, same), λ e. h)
not_lower x y Greater second more h = (omega (arith, more), λ e. absurd (omega (arith, more, e)))

module _
    (moved : List Moved) (sorted : IsSortedBy (λ m n. is_lt (moved_cmp m n)) moved) where
  -- a later one has no lower block, and in one block no lower value
  later :
      (i j : ℕ) (d : Moved) → i ≤ j → j < length moved →
      ((get_or moved i d).block ≤ (get_or moved j d).block)
      × ((get_or moved j d).block ≡ (get_or moved i d).block →
      is_lt (three_cmp (get_or moved j d).three (get_or moved i d).three) ≡ false)
  later i j d h l =
      not_lower (get_or moved j d).block (get_or moved i d).block
      (nat_cmp (get_or moved j d).block (get_or moved i d).block)
      (three_cmp (get_or moved j d).three (get_or moved i d).three)
      (ranks (get_or moved j d).block (get_or moved i d).block)
      (sorted_far (λ m n. is_lt (moved_cmp m n)) (ranks_by moved_total (λ (m : Moved). m)) moved
      sorted i j d h l)

  -- the blocks do not fall
  pub blocks_rise : IsNonDecreasingBy (λ (m : Moved). m.block) moved
  blocks_rise i j d h l = (later i j d h l).0

  -- nor do the values in the run of a block
  pub values_rise :
      (from to : ℕ) → to ≤ length moved →
      ((k : ℕ) (d : Moved) → from ≤ k → k < to →
      (get_or moved k d).block ≡ (get_or moved from d).block) →
      AreRising (take (to - from) (drop from moved))
  values_rise from to within same = record {
    rises = λ i j d h l. (
        let len = length-take-le (to - from) (drop from moved)
        (omega (arith, length-drop from moved, within)) in
        let at : (k : ℕ) → k < to - from →
        get_or (take (to - from) (drop from moved)) k d ≡ get_or moved (from + k) d =
        λ k less.
        get_or-take (to - from) (drop from moved) k d less ∙ get_or-drop from moved k d in
        subst (λ (n : Moved). is_lt (three_cmp n.three
        (get_or (take (to - from) (drop from moved)) i d).three) ≡ false)
        (sym (at j (omega (arith, l, len))))
        (subst (λ (m : Moved). is_lt (three_cmp (get_or moved (from + j) d).three m.three) ≡ false)
        (sym (at i (omega (arith, h, l, len))))
        ((later (from + i) (from + j) d (omega arith) (omega (arith, l, len, within))).1
        (same (from + j) d (omega arith) (omega (arith, l, len))
        ∙ sym (same (from + i) d (omega arith) (omega (arith, h, l, len)))))));
  }
