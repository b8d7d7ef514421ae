-- The first places of a block hold members of it, each once, and all its places hold all of them.
use Rattle.std.proofs.Common.{◌≡◌, ◌≢◌, ◌+◌, ◌-◌, ◌<◌, ◌≤◌, ℕ, List, length, get_or, take, drop, sym, ◌∙◌, ap, subst, arith, length-drop}
use Rattle.std.proofs.lemmas.List.{get_or-take, get_or-drop, get_or_default, length-take}
use Rattle.std.specs.Prelude.{All, AllPairs}
use Rattle.refinable_partition.specs.Blocks.{Blocks, IsMembers, size_in}
use Rattle.refinable_partition.specs.Layout.{IsLaidOut}

module _ {order place block first sizes marks : List ℕ} {count : ℕ}
    (laid : IsLaidOut order place block first sizes marks count)
    {b f n : ℕ} (hb : b < count) (f_is : f ≡ get_or first b 0) (fits : n ≤ get_or sizes b 0) where
  abbrev front : List ℕ
  front = take n (drop f order)

  ends : f + n ≤ length order
  ends = omega (arith, f_is, fits, laid.ends b hb)

  -- the front is as long as it is said
  pub length-front : length front ≡ n
  length-front = simp (length-take, length-drop) (omega (arith, ends))

  -- an entry of the front is one of the list
  pub front_at : (k d : ℕ) → k < n → get_or front k d ≡ get_or order (f + k) 0
  front_at k d h =
      get_or-take n (drop f order) k d h ∙ get_or-drop f order k d
      ∙ get_or_default order (f + k) d 0 (omega (arith, ends))

  -- the front is of states
  pub front_in : All (λ x. x < length block) front
  front_in k d h =
      let hk : k < n = omega (arith, length-front) in
      let here = (laid.in_order (f + k) (omega (arith, ends))).0 in
      rw (front_at k d hk) (omega (arith, here, laid.block_len))

  -- the front is of one block
  pub front_of_block : All (λ x. get_or block x 0 ≡ b) front
  front_of_block k d h =
      let hk : k < n = omega (arith, length-front) in
      rw (front_at k d hk) (laid.contiguous b (f + k) hb (omega (arith, f_is))
      (omega (arith, f_is, fits)))

  -- no state stands twice in the front
  pub front_once : AllPairs (λ x y. x ≢ y) front
  front_once i j d hij hj same =
      let hj2 : j < n = omega (arith, length-front) in
      let at : get_or order (f + i) 0 ≡ get_or order (f + j) 0 =
      sym (front_at i d (omega arith)) ∙ same ∙ front_at j d hj2 in
      let places : f + i ≡ f + j =
      sym (laid.in_order (f + i) (omega (arith, ends))).1 ∙ ap (λ x. get_or place x 0) at
      ∙ (laid.in_order (f + j) (omega (arith, ends))).1 in
      omega arith

  -- all places of a block lend its members
  pub range_members : (p : Blocks) → p.block ≡ block → n ≡ get_or sizes b 0 → IsMembers p b front
  range_members p same whole = record {
    each = λ k d h. (
        let there : get_or block (get_or front k d) 0 ≡ b = front_of_block k d h in
        rw same (front_in k d h, there));
    every = λ x hx eb. (
        let bx : get_or block x 0 ≡ b = ap (λ l. get_or l x 0) (sym same) ∙ eb in
        let hx2 : x < length order = omega (arith, hx, ap length same, laid.block_len) in
        let stands = (laid.in_block x hx2).1 in
        let low : get_or first b 0 ≤ get_or place x 0 =
        subst (λ c. get_or first c 0 ≤ get_or place x 0) bx stands.0 in
        let high : get_or place x 0 < get_or first b 0 + get_or sizes b 0 =
        subst (λ c. get_or place x 0 < get_or first c 0 + get_or sizes c 0) bx stands.1 in
        let back : f + (get_or place x 0 - f) ≡ get_or place x 0 = omega (arith, f_is) in (
          get_or place x 0 - f,
          omega (arith, length-front, f_is, whole),
          front_at (get_or place x 0 - f) x (omega (arith, f_is, whole))
              ∙ ap (λ i. get_or order i 0) back ∙ (laid.in_place x hx2).1,
        ));
    once = front_once;
    some = omega (arith, length-front, whole, laid.none_empty b hb);
    as_many = length-front ∙ whole ∙ laid.sizes_are b hb ∙ ap (λ l. size_in l b) (sym same);
  }
