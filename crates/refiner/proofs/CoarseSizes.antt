-- The sizes of the coarse blocks, where some members leave one.
use Rattle.std.proofs.Common.{◌≡◌, ◌≢◌, ◌+◌, ◌<◌, ◌≤◌, ℕ, suc, List, [], ◌∷◌, ◌++◌, length, get_or, set, sum, refl, sym, ◌∙◌, ap, subst, inl, inr, ◌⊎◌, arith}
use Rattle.std.proofs.lemmas.Bool.{cases_eq}
use Rattle.std.proofs.lemmas.List.{length-set, length_push, get_or-set_same, get_or-set_other, get_or_append_left, get_or_default, get_or_push}
use Rattle.std.proofs.lemmas.List.Sums.{sum_by-set, sum_by-cons, sum_by_push}
use Rattle.refinable_partition.specs.Blocks.{size_in}
use Rattle.refinable_partition.specs.Layout.{AreMoved as HaveLeft}
use Rattle.refiner.specs.Sized.{AreSized}
use Rattle.refiner.proofs.Sizes.{size_no}

-- where each of some numbers is positive, there are at most as many as their sum
pub as_many : (xs : List ℕ) → ((k : ℕ) → k < length xs → 0 < get_or xs k 0) → length xs ≤ sum xs
as_many [] some = omega arith
as_many (x ∷ xs) some =
    omega (
      arith,
      sum_by-cons (λ (v : ℕ). v) x xs,
      some 0 (omega arith),
      as_many xs (λ k h. some (suc k) (omega arith)),
    )

-- there are at most as many coarse blocks as states
pub few_sized : (of sizes : List ℕ) → AreSized of sizes → length sizes ≤ length of
few_sized of sizes sized = omega (arith, as_many sizes sized.none_empty, sized.total)

-- a coarse block that no state is in has no member
pub size_none : (of : List ℕ) (c : ℕ) → ((x : ℕ) → x < length of → get_or of x 0 ≢ c) →
    size_in of c ≡ 0
size_none [] c apart = refl
size_none (d ∷ ds) c apart =
    size_no d c ds (apart 0 (omega arith)) ∙ size_none ds c (λ x hx. apart (suc x) (omega arith))

-- k states leave coarse block c, of which some stay
pub sized_after :
    (of sizes of2 : List ℕ) (c k v : ℕ) → AreSized of sizes → c < length sizes →
    0 < k → k < size_in of c → v + k ≡ size_in of c → length of2 ≡ length of →
    ((x : ℕ) → (get_or of2 x 0 ≡ length sizes) ⊎ (get_or of2 x 0 ≡ get_or of x 0)) →
    HaveLeft c (length sizes) k of of2 →
    AreSized of2 (set (sizes ++ k ∷ []) c v)
sized_after of sizes of2 c k v sized hc some stays rest len either left =
    let pushed : List ℕ = sizes ++ k ∷ [] in
    let was : get_or pushed c 0 ≡ get_or sizes c 0 =
    get_or_append_left sizes (k ∷ []) 0 c hc in
    let many : length (set pushed c v) ≡ length sizes + 1 =
    length-set pushed c v ∙ length_push sizes k in
    let size_c = sized.sizes_are c hc in
    let here : get_or (set pushed c v) c 0 ≡ v =
    get_or-set_same pushed c v 0 (omega (arith, hc, length_push sizes k)) in
    let last : get_or (set pushed c v) (length sizes) 0 ≡ k =
    get_or-set_other pushed c (length sizes) v 0 (λ e. omega (arith, e, hc))
    ∙ get_or_push sizes k 0 (length sizes) refl in
    let kept : (d : ℕ) → d < length sizes → d ≢ c →
    get_or (set pushed c v) d 0 ≡ get_or sizes d 0 =
    λ d hd ne. get_or-set_other pushed c d v 0 ne ∙ get_or_append_left sizes (k ∷ []) 0 d hd in
    let none : size_in of (length sizes) ≡ 0 =
    size_none of (length sizes) (λ x hx e. omega (arith, sized.in_range x hx, e)) in
    record {
      few = omega (arith, sized.few, len);
      in_range = λ x hx. elim (either x) [
        | inl new ↦ omega (arith, new, many)
        | inr old ↦ omega (arith, old, many, sized.in_range x (omega (arith, hx, len)))
      ];
      none_empty = λ d hd. elim (cases_eq d (length sizes)) [
        | inl at ↦ subst (λ i. 0 < get_or (set pushed c v) i 0) (sym at) (omega (arith, last, some))
        | inr far ↦ elim (cases_eq d c) [
          | inl at ↦ subst (λ i. 0 < get_or (set pushed c v) i 0) (sym at)
              (omega (arith, here, rest, stays))
          | inr other ↦ omega (
            arith,
            kept d (omega (arith, hd, many, far)) other,
            sized.none_empty d (omega (arith, hd, many, far)),
          )
        ]
      ];
      total = omega (
        arith,
        sum_by-set (λ (u : ℕ). u) pushed c v 0 (omega (arith, hc, length_push sizes k)),
        sum_by_push (λ (u : ℕ). u) sizes k,
        sized.total,
        was,
        size_c,
        rest,
        len,
      );
      sizes_are = λ d hd. elim (cases_eq d (length sizes)) [
        | inl at ↦ subst (λ i. get_or (set pushed c v) i 0 ≡ size_in of2 i) (sym at)
            (omega (arith, last, left.to, none))
        | inr far ↦ elim (cases_eq d c) [
          | inl at ↦ subst (λ i. get_or (set pushed c v) i 0 ≡ size_in of2 i) (sym at)
              (omega (arith, here, rest, left.from))
          | inr other ↦ kept d (omega (arith, hd, many, far)) other
              ∙ sized.sizes_are d (omega (arith, hd, many, far)) ∙ sym (left.others d far other)
        ]
      ];
    }

-- the size of a coarse block, read where another size stands behind it
pub size_read :
    (of sizes xs : List ℕ) (c k m : ℕ) → AreSized of sizes → c < length sizes →
    xs ≡ sizes ++ k ∷ [] → m ≡ get_or xs c m → m ≡ size_in of c
size_read of sizes xs c k m sized hc is read =
    read ∙ ap (λ ys. get_or ys c m) is ∙ get_or_append_left sizes (k ∷ []) m c hc
    ∙ get_or_default sizes c m 0 hc ∙ sized.sizes_are c hc
