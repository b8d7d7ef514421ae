-- The marked front of a block becomes a block.
use Rattle.std.proofs.Common.{◌≡◌, ◌≢◌, ◌+◌, ◌-◌, ◌<◌, ◌≤◌, ◌^◌, ◌==◌, ◌&&◌, ◌⊎◌, ltb, ℕ, Bool, true, false, cond, List, length, get_or, set, take, drop, sum, refl, sym, ◌∙◌, ap, subst, inl, inr, arith}
use Rattle.std.proofs.lemmas.Bool.{eq-eqb, ne_eqb, cases_eq, lt-ltb, le-ltb, cases_lt}
use Rattle.std.proofs.lemmas.Bool.Decides.{nat_tests}
use Rattle.std.proofs.lemmas.List.{get_or_read, length-set}
use Rattle.std.proofs.lemmas.List.Sums.{sum_by-set}
use Rattle.std.specs.Prelude.{All, AllPairs}
use Rattle.refinable_partition.specs.Layout.{IsLaidOut, StandsIn, marks_in, AreMoved}
use Rattle.refinable_partition.specs.Blocks.{Blocks, HasMember, IsMixed, size_in}
use Rattle.refinable_partition.proofs.Lists.{at_set, at_marks_in}
use Rattle.refinable_partition.proofs.Ranges.{front_at, front_in, front_of_block, front_once, length-front}
use Rattle.refinable_partition.proofs.Counting.{room, size_none}

module _ {order place block first sizes marks : List ℕ} {count : ℕ}
    (laid : IsLaidOut order place block first sizes marks count)
    {b f m s : ℕ} (hb : b < count)
    (f_read : f ≡ get_or first b f) (m_read : m ≡ get_or marks b m) (s_read : s ≡ get_or sizes b s)
  where
    b_in : b < length order
    b_in = omega (arith, hb, laid.counted)

    f_is : f ≡ get_or first b 0
    f_is = get_or_read first b f (omega (arith, b_in, laid.first_len)) f_read 0

    m_is : m ≡ get_or marks b 0
    m_is = get_or_read marks b m (omega (arith, b_in, laid.marks_len)) m_read 0

    s_is : s ≡ get_or sizes b 0
    s_is = get_or_read sizes b s (omega (arith, b_in, laid.sizes_len)) s_read 0

    pub m_s : m ≤ s
    m_s = rw (m_is, s_is) (laid.front b hb)

    pub ends : f + s ≤ length order
    ends = rw (f_is, s_is) (laid.ends b hb)

    in_range : (i : ℕ) → f ≤ i → i < f + s → get_or block (get_or order i 0) 0 ≡ b
    in_range i low high = laid.contiguous b i hb (omega (arith, f_is)) (omega (arith, f_is, s_is))

    stands : (x : ℕ) → x < length order → get_or block x 0 ≡ b →
        (f ≤ get_or place x 0) × (get_or place x 0 < f + s)
    stands x hx bx =
        let here = (laid.in_block x hx).1 in
        let low : get_or first b 0 ≤ get_or place x 0 =
        subst (λ c. get_or first c 0 ≤ get_or place x 0) bx here.0 in
        let high : get_or place x 0 < get_or first b 0 + get_or sizes b 0 =
        subst (λ c. get_or place x 0 < get_or first c 0 + get_or sizes c 0) bx here.1 in
        (omega (arith, f_is), omega (arith, f_is, s_is))

    -- a state is marked
    abbrev old_mark : ℕ → Bool
    old_mark x = get_or (marks_in block place first marks) x false

    old_mark_at : (x : ℕ) → x < length order →
        old_mark x ≡ ltb (get_or place x 0) (get_or first (get_or block x 0) 0 + get_or marks
        (get_or block x 0) 0)
    old_mark_at x hx =
        at_marks_in block place first marks x (omega (arith, laid.block_len)) (laid.place_len
        ∙ sym laid.block_len)

    old_mark_in : (x : ℕ) → x < length order → get_or block x 0 ≡ b
        → old_mark x ≡ ltb (get_or place x 0) (f + m)
    old_mark_in x hx bx =
        old_mark_at x hx
        ∙ ap (λ c. ltb (get_or place x 0) (get_or first c 0 + get_or marks c 0)) bx
        ∙ rw (f_is, m_is) refl

    abbrev seen : Blocks
    seen = record { block = block; marked = marks_in block place first marks; count = count }

    -- where the front is neither empty nor all, some member is marked, and some is not
    pub counts_mixed : (0 < m) × (m < s) → (view : Blocks) → seen ≡ view → IsMixed view b
    counts_mixed within view is =
        let marked : HasMember seen b true = (
        let here = laid.in_order f (omega (arith, ends)) in
        let bx : get_or block (get_or order f 0) 0 ≡ b = in_range f (omega arith) (omega arith) in (
          get_or order f 0,
          omega (arith, here.0, laid.block_len),
          bx,
          old_mark_in (get_or order f 0) here.0 bx ∙ lt-ltb _ _ (omega (arith, here.1)),
        )) in
        let unmarked : HasMember seen b false = (
        let here = laid.in_order (f + m) (omega (arith, ends)) in
        let bx : get_or block (get_or order (f + m) 0) 0 ≡ b =
        in_range (f + m) (omega arith) (omega arith) in (
          get_or order (f + m) 0,
          omega (arith, here.0, laid.block_len),
          bx,
          old_mark_in (get_or order (f + m) 0) here.0 bx ∙ le-ltb _ _ (omega (arith, here.1)),
        )) in
        subst (λ (p : Blocks). IsMixed p b) is (marked, unmarked)

    -- and only there: an empty front marks none, and a whole one marks all
    pub mixed_counts : (view : Blocks) → seen ≡ view → IsMixed view b → (0 < m) × (m < s)
    mixed_counts view is mixed =
        let was : IsMixed seen b = subst (λ (p : Blocks). IsMixed p b) (sym is) mixed in
        let x_in : was.0.0 < length order = omega (arith, was.0.1, laid.block_len) in
        let y_in : was.1.0 < length order = omega (arith, was.1.1, laid.block_len) in (
          elim (cases_lt 0 m) [
            | inl low ↦ low
            | inr none ↦ (
                let off : old_mark was.0.0 ≡ false =
                old_mark_in was.0.0 x_in was.0.2
                ∙ le-ltb _ _ (omega (arith, (stands was.0.0 x_in was.0.2).0)) in
                let on : old_mark was.0.0 ≡ true = was.0.3 in
                cc)
          ],
          elim (cases_lt m s) [
            | inl high ↦ high
            | inr all ↦ (
                let on : old_mark was.1.0 ≡ true =
                old_mark_in was.1.0 y_in was.1.2
                ∙ lt-ltb _ _ (omega (arith, (stands was.1.0 y_in was.1.2).1)) in
                let off : old_mark was.1.0 ≡ false = was.1.3 in
                cc)
          ],
        )

    abbrev marks_new : List ℕ
    marks_new = set marks b 0

    marks_at : (c : ℕ) → get_or marks_new c 0 ≡ cond (c == b) 0 (get_or marks c 0)
    marks_at c = at_set marks b c 0 0 (omega (arith, b_in, laid.marks_len))

    -- the marks of the block are forgotten, and its states stay
    pub cleared_only : (x : ℕ) → x < length block →
        get_or (marks_in block place first marks_new) x false ≡ cond (get_or block x 0 == b) false
        (old_mark x)
    cleared_only x hx =
        let hx2 : x < length order = omega (arith, laid.block_len) in
        let new = at_marks_in block place first marks_new x hx (laid.place_len
        ∙ sym laid.block_len) in
        let old = old_mark_at x hx2 in
        let front = marks_at (get_or block x 0) in
        let here = laid.in_block x hx2 in
        grind (arith, nat_tests, new, old, front, here)

    -- where the marked end is a small number
    pub end_in : f + m < 2 ^ 26
    end_in = omega (arith, ends, m_s, laid.few)

    -- a block of two members leaves room for one block more
    pub count_in : (0 < m) × (m < s) → count < length order
    count_in within =
        let two : 2 ≤ get_or sizes b 0 = omega (arith, s_is) in
        omega (arith, laid.total, room sizes count b laid.none_empty hb two)

    module _ {lent : List ℕ} (lent_is : lent ≡ order) where
      -- the states that move, as they are lent
      abbrev moving : List ℕ
      moving = take (f + m - f) (drop f lent)

      fits : f + m - f ≤ get_or sizes b 0
      fits = omega (arith, s_is, m_s)

      -- those that move are states
      pub moving_in : All (λ x. x < length block) moving
      moving_in = rw lent_is (front_in laid hb f_is fits)

      -- no state moves twice
      pub moving_once : AllPairs (λ x y. x ≢ y) moving
      moving_once = rw lent_is (front_once laid hb f_is fits)

      moving_of_block : All (λ x. get_or block x 0 ≡ b) moving
      moving_of_block = rw lent_is (front_of_block laid hb f_is fits)

      length-moving : length moving ≡ m
      length-moving = rw lent_is (omega (arith, length-front laid hb f_is fits))

      moving_at : (k d : ℕ) → k < m → get_or moving k d ≡ get_or order (f + k) 0
      moving_at k d h = rw lent_is (front_at laid hb f_is fits k d (omega arith))

      module _ (within : (0 < m) × (m < s)) {block_new : List ℕ} (len_new : length block_new
          ≡ length block)
          (moved : All (λ x. get_or block_new x 0 ≡ count) moving)
          (kept : (x : ℕ) → All (λ y. y ≢ x) moving → get_or block_new x 0 ≡ get_or block x 0)
          (counted : (old : ℕ) → old ≢ count → All (λ x. get_or block x 0 ≡ old) moving →
          AreMoved old count (length moving) block block_new) where
        abbrev first_new : List ℕ
        first_new = set (set first count f) b (f + m)

        abbrev sizes_new : List ℕ
        sizes_new = set (set sizes count m) b (s - m)

        b_old : b ≢ count
        b_old = omega (arith, hb)

        counts : AreMoved b count m block block_new
        counts = subst (λ n. AreMoved b count n block block_new) length-moving
            (counted b b_old moving_of_block)

        moved_at : (i : ℕ) → f ≤ i → i < f + m → get_or block_new (get_or order i 0) 0 ≡ count
        moved_at i below above =
            let back : f + (i - f) ≡ i = omega arith in
            let at : get_or moving (i - f) 0 ≡ get_or order i 0 =
            moving_at (i - f) 0 (omega arith) ∙ ap (λ k. get_or order k 0) back in
            rw (← at) (moved (i - f) 0 (omega (arith, length-moving)))

        -- a member of the block that stands at the front moves
        block_in : (x : ℕ) → x < length order → get_or block x 0 ≡ b → get_or place x 0 < f + m →
            get_or block_new x 0 ≡ count
        block_in x hx bx h =
            ap (λ z. get_or block_new z 0) (sym (laid.in_place x hx).1)
            ∙ moved_at (get_or place x 0) (stands x hx bx).0 h

        -- and every other state stays
        block_out : (x : ℕ) → x < length order → (get_or block x 0 ≡ b → f + m ≤ get_or place x 0) →
            get_or block_new x 0 ≡ get_or block x 0
        block_out x hx out = kept x (λ k d h e. (
            let hk : k < m = omega (arith, length-moving) in
            let same : get_or order (f + k) 0 ≡ x = sym (moving_at k d hk) ∙ e in
            let at : get_or place x 0 ≡ f + k =
            ap (λ z. get_or place z 0) (sym same)
            ∙ (laid.in_order (f + k) (omega (arith, ends, m_s))).1 in
            let bx : get_or block x 0 ≡ b =
            ap (λ z. get_or block z 0) (sym same)
            ∙ in_range (f + k) (omega arith) (omega (arith, m_s)) in
            omega (arith, out bx)))

        where_to : (x : ℕ) → x < length order →
            ((get_or block x 0 ≡ b) × (get_or place x 0 < f + m) × (get_or block_new x 0 ≡ count))
            ⊎ ((get_or block x 0 ≡ b → f + m ≤ get_or place x 0)
            × (get_or block_new x 0 ≡ get_or block x 0))
        where_to x hx = elim (cases_eq (get_or block x 0) b) [
          | inl bx ↦ elim (cases_lt (get_or place x 0) (f + m)) [
            | inl h ↦ inl (bx, h, block_in x hx bx h)
            | inr h ↦ inr ((λ _. h), block_out x hx (λ _. h))
          ]
          | inr other ↦ inr ((λ e. absurd (other e)), block_out x hx (λ e. absurd (other e)))
        ]

        first_at : (c : ℕ) →
            get_or first_new c 0 ≡ cond (c == b) (f + m) (cond (c == count) f (get_or first c 0))
        first_at c =
            at_set (set first count f) b c (f + m) 0
            (omega (arith, length-set first count f, laid.first_len, b_in))
            ∙ ap (λ v. cond (c == b) (f + m) v)
            (at_set first count c f 0 (omega (arith, count_in within, laid.first_len)))

        sizes_at : (c : ℕ) →
            get_or sizes_new c 0 ≡ cond (c == b) (s - m) (cond (c == count) m (get_or sizes c 0))
        sizes_at c =
            at_set (set sizes count m) b c (s - m) 0
            (omega (arith, length-set sizes count m, laid.sizes_len, b_in))
            ∙ ap (λ v. cond (c == b) (s - m) v)
            (at_set sizes count c m 0 (omega (arith, count_in within, laid.sizes_len)))

        sum_new : sum sizes_new ≡ sum sizes
        sum_new =
            let outer = sum_by-set (λ (v : ℕ). v) (set sizes count m) b (s - m) 0
            (omega (arith, length-set sizes count m, laid.sizes_len, b_in)) in
            let inner = sum_by-set (λ (v : ℕ). v) sizes count m 0
            (omega (arith, count_in within, laid.sizes_len)) in
            let at : get_or (set sizes count m) b 0 ≡ get_or sizes b 0 =
            at_set sizes count b m 0 (omega (arith, count_in within, laid.sizes_len))
            ∙ rw (ne_eqb b count b_old) refl in
            omega (arith, outer, inner, at, s_is, m_s, (laid.unused count (omega arith)).0)

        none_yet : size_in block count ≡ 0
        none_yet =
            size_none block count
            (λ x hx. omega (arith, (laid.in_block x (omega (arith, laid.block_len))).0))

        in_block_new : (x : ℕ) → x < length order →
            (get_or block_new x 0 < count + 1) × StandsIn first_new sizes_new (get_or block_new x 0)
            (get_or place x 0)
        in_block_new x hx =
            let here = laid.in_block x hx in
            let to = where_to x hx in
            let fa = first_at (get_or block_new x 0) in
            let sa = sizes_at (get_or block_new x 0) in
            let front = stands x hx in
            grind (arith, nat_tests, here, to, fa, sa, front, hb, m_s)

        -- the places of b that are left, of the new block, and of every other block
        contiguous_new : (c i : ℕ) → c < count + 1 → get_or first_new c 0 ≤ i →
            i < get_or first_new c 0 + get_or sizes_new c 0
            → get_or block_new (get_or order i 0) 0 ≡ c
        contiguous_new c i hc below above = elim (cases_eq c b) [
          | inl cb ↦ (
              let f_at : get_or first_new c 0 ≡ f + m = first_at c ∙ rw (eq-eqb c b cb) refl in
              let s_at : get_or sizes_new c 0 ≡ s - m = sizes_at c ∙ rw (eq-eqb c b cb) refl in
              let here = laid.in_order i (omega (arith, ends, m_s)) in
              block_out (get_or order i 0) here.0 (λ _. omega (arith, here.1))
              ∙ in_range i (omega arith) (omega (arith, m_s)) ∙ sym cb)
          | inr cb ↦ elim (cases_eq c count) [
            | inl cc ↦ (
                let f_at : get_or first_new c 0 ≡ f = first_at c
                ∙ rw (ne_eqb c b cb, eq-eqb c count cc) refl in
                let s_at : get_or sizes_new c 0 ≡ m = sizes_at c
                ∙ rw (ne_eqb c b cb, eq-eqb c count cc) refl in
                moved_at i (omega arith) (omega arith) ∙ sym cc)
            | inr cc ↦ (
                let f_at : get_or first_new c 0 ≡ get_or first c 0 =
                first_at c ∙ rw (ne_eqb c b cb, ne_eqb c count cc) refl in
                let s_at : get_or sizes_new c 0 ≡ get_or sizes c 0 =
                sizes_at c ∙ rw (ne_eqb c b cb, ne_eqb c count cc) refl in
                let old : c < count = omega arith in
                let was : get_or block (get_or order i 0) 0 ≡ c =
                laid.contiguous c i old (omega arith) (omega arith) in
                let here = laid.in_order i (omega (arith, laid.ends c old)) in
                block_out (get_or order i 0) here.0 (λ e. absurd (cb (sym was ∙ e))) ∙ was)
          ]
        ]

        sizes_are_new : (c : ℕ) → c < count + 1 → get_or sizes_new c 0 ≡ size_in block_new c
        sizes_are_new c hc = sizes_at c ∙ elim (cases_eq c b) [
          | inl cb ↦ rw (eq-eqb c b cb) (
              let e : size_in block_new c ≡ size_in block_new b = ap (size_in block_new) cb in
              omega (arith, e, counts.from, s_is, laid.sizes_are b hb))
          | inr cb ↦ elim (cases_eq c count) [
            | inl cc ↦ rw (ne_eqb c b cb, eq-eqb c count cc) (
                let e : size_in block_new c ≡ size_in block_new count = ap (size_in block_new) cc in
                omega (arith, e, counts.to, none_yet))
            | inr cc ↦ rw (ne_eqb c b cb, ne_eqb c count cc)
                (laid.sizes_are c (omega arith) ∙ sym (counts.others c cc cb))
          ]
        ]

        -- what is laid out stays so when a block splits
        pub split_laid : IsLaidOut order place block_new first_new sizes_new marks_new (count + 1)
        split_laid = record {
          few = laid.few;
          place_len = laid.place_len;
          block_len = len_new ∙ laid.block_len;
          first_len = length-set (set first count f) b (f + m) ∙ length-set first count f
              ∙ laid.first_len;
          sizes_len = length-set (set sizes count m) b (s - m) ∙ length-set sizes count m
              ∙ laid.sizes_len;
          marks_len = length-set marks b 0 ∙ laid.marks_len;
          in_order = laid.in_order;
          in_place = laid.in_place;
          in_block = in_block_new;
          contiguous = contiguous_new;
          ends = λ c hc. (
              let fa = first_at c in
              let sa = sizes_at c in
              let old = laid.ends c in
              grind (arith, nat_tests, fa, sa, old, ends, m_s));
          none_empty = λ c hc. (
              let sa = sizes_at c in
              let old = laid.none_empty c in
              grind (arith, nat_tests, sa, old, within));
          front = λ c hc. (
              let sa = sizes_at c in
              let ma = marks_at c in
              let old = laid.front c in
              let new = laid.unused c in
              grind (arith, nat_tests, sa, ma, old, new));
          counted = omega (arith, count_in within);
          total = sum_new ∙ laid.total;
          sizes_are = sizes_are_new;
          unused = λ c hc. (
              let sa = sizes_at c in
              let ma = marks_at c in
              let new = laid.unused c in
              grind (arith, nat_tests, sa, ma, new, hb));
        }

        -- the marked members of the block get the new number
        pub split_blocks : (x : ℕ) → x < length block →
            get_or block_new x 0 ≡ cond ((get_or block x 0 == b) && old_mark x) count
            (get_or block x 0)
        split_blocks x hx =
            let hx2 : x < length order = omega (arith, laid.block_len) in
            let to = where_to x hx2 in
            let old = old_mark_in x hx2 in
            elim (cases_eq (get_or block x 0) b) [
              | inl bx ↦ (let o = old bx in rw (eq-eqb _ _ bx) (grind (arith, nat_tests, to, o, bx)))
              | inr other ↦ rw (ne_eqb _ _ other) (grind (arith, to, other))
            ]

        -- the block has no marks behind the split
        pub split_cleared : (x : ℕ) → x < length block →
            get_or (marks_in block_new place first_new marks_new) x false
            ≡ cond (get_or block x 0 == b) false (old_mark x)
        split_cleared x hx =
            let hx2 : x < length order = omega (arith, laid.block_len) in
            let after = at_marks_in block_new place first_new marks_new x (omega (arith, len_new))
            (laid.place_len ∙ sym (len_new ∙ laid.block_len)) in
            let to = where_to x hx2 in
            let fa = first_at (get_or block_new x 0) in
            let ma = marks_at (get_or block_new x 0) in
            let front = stands x hx2 in
            let old = old_mark_at x hx2 in
            let here = laid.in_block x hx2 in
            let new = laid.unused count (omega arith) in
            grind (arith, nat_tests, after, to, fa, ma, front, old, here, new, b_old)
