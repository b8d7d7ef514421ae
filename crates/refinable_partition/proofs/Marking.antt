-- A swap to the first unmarked place of a block marks one state.
use Rattle.std.proofs.Common.{◌≡◌, ◌≢◌, ◌+◌, ◌<◌, ◌≤◌, ◌==◌, ℕ, ◌^◌, Bool, true, false, cond, List, length, get_or, set, sym, ◌∙◌, ap, refl, inl, inr, arith}
use Rattle.std.proofs.lemmas.Bool.{eq-eqb, ne_eqb, cases_eq, cases_lt, lt-ltb}
use Rattle.std.proofs.lemmas.Bool.Decides.{nat_tests}
use Rattle.std.proofs.lemmas.List.{get_or_past, get_or_read, length-set}
use Rattle.std.specs.List.{SwappedAt}
use Rattle.refinable_partition.specs.Layout.{IsLaidOut, marks_in}
use Rattle.refinable_partition.proofs.Lists.{at_set, length-marks_in, at_marks_in}

-- a list with two elements swapped, read at any place
at_swapped : (xs ys : List ℕ) (i j k : ℕ) → SwappedAt xs ys i j →
    get_or ys k 0 ≡ cond (k == j) (get_or xs i 0) (cond (k == i) (get_or xs j 0) (get_or xs k 0))
at_swapped xs ys i j k s = elim (cases_eq k j) [
  | inl e ↦ rw (eq-eqb k j e) (ap (λ n. get_or ys n 0) e ∙ s.1 0)
  | inr e ↦ rw (ne_eqb k j e) (elim (cases_eq k i) [
    | inl g ↦ rw (eq-eqb k i g) (ap (λ n. get_or ys n 0) g ∙ s.0 0)
    | inr g ↦ rw (ne_eqb k i g) (s.2 k 0 g e)
  ])
]

length-swapped : (xs ys : List ℕ) (i j : ℕ) → SwappedAt xs ys i j → length ys ≡ length xs
length-swapped xs ys i j s =
    ap length (s.3 0) ∙ length-set (set xs i (get_or xs j 0)) j (get_or xs i 0)
    ∙ length-set xs i (get_or xs j 0)

module _ {order place block first sizes marks : List ℕ} {count : ℕ}
    (laid : IsLaidOut order place block first sizes marks count)
    {x b m i f : ℕ} (hx : x < length block)
    (b_read : b ≡ get_or block x b) (m_read : m ≡ get_or marks b m)
    (i_read : i ≡ get_or place x i) (f_read : f ≡ get_or first b f) where
  x_in : x < length order
  x_in = omega (arith, hx, laid.block_len)

  b_is : b ≡ get_or block x 0
  b_is = get_or_read block x b hx b_read 0

  b_count : b < count
  b_count = rw b_is (laid.in_block x x_in).0

  -- the block's number is below that of the states
  pub b_in : b < length order
  b_in = omega (arith, b_count, laid.counted)

  i_is : i ≡ get_or place x 0
  i_is = get_or_read place x i (omega (arith, x_in, laid.place_len)) i_read 0

  m_is : m ≡ get_or marks b 0
  m_is = get_or_read marks b m (omega (arith, b_in, laid.marks_len)) m_read 0

  f_is : f ≡ get_or first b 0
  f_is = get_or_read first b f (omega (arith, b_in, laid.first_len)) f_read 0

  i_low : get_or first b 0 ≤ i
  i_low = rw (i_is, b_is) (laid.in_block x x_in).1.0

  i_high : i < get_or first b 0 + get_or sizes b 0
  i_high = rw (i_is, b_is) (laid.in_block x x_in).1.1

  abbrev old_marks : List Bool
  old_marks = marks_in block place first marks

  -- a state that stands before the first unmarked place is marked already
  pub marked_before : i < f + m → get_or old_marks x false ≡ true
  marked_before h =
      at_marks_in block place first marks x hx (laid.place_len ∙ sym laid.block_len)
      ∙ rw (← b_is, ← i_is, ← f_is, ← m_is) (lt-ltb i (f + m) h)

  module _ (later : f + m ≤ i) {y : ℕ} (y_read : y ≡ get_or order (f + m) y) where
    i_in : i < length order
    i_in = rw i_is (laid.in_place x x_in).0

    j_in : f + m < length order
    j_in = omega (arith, i_in, later)

    y_is : y ≡ get_or order (f + m) 0
    y_is = get_or_read order (f + m) y j_in y_read 0

    -- the place of the member is one of the list
    pub y_in : y < length order
    y_in = rw y_is (laid.in_order (f + m) j_in).0

    -- there is room for one more mark
    pub room : f + m + 1 < 2 ^ 26
    room = omega (arith, j_in, laid.few)

    order_i : get_or order i 0 ≡ x
    order_i = rw i_is (laid.in_place x x_in).1

    place_y : get_or place y 0 ≡ f + m
    place_y = rw y_is (laid.in_order (f + m) j_in).1

    block_y : get_or block y 0 ≡ b
    block_y = rw y_is (laid.contiguous b (f + m) b_count (omega (arith, f_is))
        (omega (arith, i_high, later)))

    module _ {order_new place_new : List ℕ} (order_swap : SwappedAt order order_new i (f + m))
        (place_swap : SwappedAt place place_new x y) where
      abbrev marks_new : List ℕ
      marks_new = set marks b (m + 1)

      order_len : length order_new ≡ length order
      order_len = length-swapped order order_new i (f + m) order_swap

      place_len : length place_new ≡ length order
      place_len = length-swapped place place_new x y place_swap ∙ laid.place_len

      order_at : (k : ℕ) →
          get_or order_new k 0 ≡ cond (k == f + m) x (cond (k == i) y (get_or order k 0))
      order_at k = at_swapped order order_new i (f + m) k order_swap ∙ rw (order_i, ← y_is) refl

      place_at : (z : ℕ) →
          get_or place_new z 0 ≡ cond (z == y) i (cond (z == x) (f + m) (get_or place z 0))
      place_at z = at_swapped place place_new x y z place_swap ∙ rw (place_y, ← i_is) refl

      marks_at : (c : ℕ) → get_or marks_new c 0 ≡ cond (c == b) (m + 1) (get_or marks c 0)
      marks_at c = at_set marks b c (m + 1) 0 (omega (arith, b_in, laid.marks_len))

      order_new_in : (k : ℕ) → k < length order →
          (get_or order_new k 0 < length order) × (get_or place_new (get_or order_new k 0) 0 ≡ k)
      order_new_in k h =
          let here = laid.in_order k h in
          let o = order_at k in
          let p = place_at (get_or order_new k 0) in
          grind (arith, nat_tests, o, p, here, i_is, order_i, place_y, x_in, y_in)

      place_new_in : (z : ℕ) → z < length order →
          (get_or place_new z 0 < length order) × (get_or order_new (get_or place_new z 0) 0 ≡ z)
      place_new_in z h =
          let here = laid.in_place z h in
          let o = place_at z in
          let p = order_at (get_or place_new z 0) in
          grind (arith, nat_tests, o, p, here, i_is, order_i, place_y, y_is, i_in, j_in)

      -- what is laid out stays so when a member is marked
      pub mark_laid : IsLaidOut order_new place_new block first sizes marks_new count
      mark_laid = record {
        few = omega (arith, order_len, laid.few);
        place_len = place_len ∙ sym order_len;
        block_len = laid.block_len ∙ sym order_len;
        first_len = laid.first_len ∙ sym order_len;
        sizes_len = laid.sizes_len ∙ sym order_len;
        marks_len = length-set marks b (m + 1) ∙ laid.marks_len ∙ sym order_len;
        in_order = λ k h. rw order_len (order_new_in k (omega (arith, order_len)));
        in_place = λ z h. rw order_len (place_new_in z (omega (arith, order_len)));
        in_block = λ z h. (
            let here = laid.in_block z (omega (arith, order_len)) in
            let o = place_at z in
            grind (
              arith,
              nat_tests,
              o,
              here,
              block_y,
              b_is,
              i_is,
              i_low,
              i_high,
              f_is,
              later,
              b_count,
            ));
        contiguous = λ c k hc low high. (
            let here = laid.contiguous c k hc low high in
            let o = order_at k in
            grind (arith, nat_tests, o, here, block_y, b_is, order_i, y_is));
        ends = λ c hc. omega (arith, order_len, laid.ends c hc);
        none_empty = laid.none_empty;
        front = λ c hc. (
            let here = laid.front c hc in
            let o = marks_at c in
            grind (arith, nat_tests, o, here, i_high, f_is, later));
        counted = omega (arith, order_len, laid.counted);
        total = laid.total ∙ sym order_len;
        sizes_are = laid.sizes_are;
        unused = λ c hc. (
            let here = laid.unused c hc in
            let o = marks_at c in
            grind (arith, nat_tests, o, here, b_count));
      }

      abbrev new_marks : List Bool
      new_marks = marks_in block place_new first marks_new

      new_len : length place_new ≡ length block
      new_len = place_len ∙ sym laid.block_len

      -- each mark, from its old one
      mark_of : (z : ℕ) → z < length block →
          get_or new_marks z false ≡ cond (z == x) true (get_or old_marks z false)
      mark_of z h =
          let old = at_marks_in block place first marks z h (laid.place_len ∙ sym laid.block_len) in
          let new = at_marks_in block place_new first marks_new z h new_len in
          let at = place_at z in
          let front = marks_at (get_or block z 0) in
          let here = laid.in_place z (omega (arith, laid.block_len)) in
          grind (
            arith,
            nat_tests,
            old,
            new,
            at,
            front,
            here,
            block_y,
            b_is,
            i_is,
            f_is,
            m_is,
            y_is,
            later,
            order_i,
            place_y,
          )

      -- the member is marked
      pub marked_here : get_or new_marks x false ≡ true
      marked_here = mark_of x hx ∙ rw (eq-eqb x x refl) refl

      -- the marks of the others stay
      pub marked_others : (z : ℕ) → z ≢ x → get_or new_marks z false ≡ get_or old_marks z false
      marked_others z ne = elim (cases_lt z (length block)) [
        | inl h ↦ mark_of z h ∙ rw (ne_eqb z x ne) refl
        | inr h ↦
            get_or_past new_marks z false
            (omega (arith, length-marks_in block place_new first marks_new new_len))
            ∙ sym (get_or_past old_marks z false (
            omega (
              arith,
              length-marks_in block place first marks (laid.place_len
                  ∙ sym laid.block_len),
            )))
      ]
