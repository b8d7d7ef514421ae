-- The list of the formulas that have marks.
--
-- kept_none              == at the start
-- kept_marked            == one formula further, where it has a mark
-- kept_unmarked          == one formula further, where it has none
-- cited_small            == each formula of the list is cited on the way from a wanted one
-- all_kept               == at the end, the list is what is wanted and cited
-- kept_few               == fewer formulas are kept than were looked at
-- no_longer              == it is no longer than the large list
use Rattle.std.proofs.Common.{◌≡◌, ◌+◌, ◌<◌, ◌≤◌, ℕ, zero, suc, Bool, List, [], ◌∷◌, ◌++◌, length, map, get_or, refl, sym, ◌∙◌, ap, subst, inl, inr, arith, length-append}
use Rattle.std.specs.Prelude.{All, Contains, slice_get, slice_index, Some}
use Rattle.std.proofs.lemmas.Bool.Decides.{eqb_tells}
use Rattle.std.proofs.lemmas.List.{get_or_default, get_or-map, length-map}
use Rattle.std.proofs.lemmas.Option.{slice_get_within, slice_get_cases}
use Rattle.formulas.specs.declared.formula.Formula.{Formula}
use Rattle.formulas.specs.Formulas.{CitesBelow, IsDag}
use Rattle.formula_builder.specs.Cited.{Cites, IsCited, renumbered, IsOnlyCited}
use Rattle.formula_builder.specs.Keeping.{IsMarked, AreClosed, AreNeeded, AreKept}
use Rattle.formula_builder.proofs.Lists.{get_or-first, get_or-second}
use Rattle.formula_builder.proofs.Renumbered.{cites-below, renumbered-below, renumbered-same, renumbered-back, cites-renumbered, at_push, push_ordered}

-- nothing is kept yet
pub kept_none : (dag : List Formula) (marks : List Bool) → AreKept dag marks [] [] 0
kept_none dag marks = record {
  old = [];
  one_each = refl;
  in_order = λ i j less h. absurd (omega arith);
  same = λ j f e. absurd (omega (arith, slice_get_within [] j f e));
  ordered = λ j f e. absurd (omega (arith, slice_get_within [] j f e));
  numbered = refl;
  marked = λ j h. absurd (omega arith);
  found = λ i h m. absurd (omega arith);
}

-- the element put behind, and those before it
first : (xs : List ℕ) (y i : ℕ) → i < length xs → slice_index (xs ++ y ∷ []) i ≡ slice_index xs i
first xs y i h = get_or-first xs (y ∷ []) i 0 h

last : (xs : List ℕ) (y i : ℕ) → i ≡ length xs → slice_index (xs ++ y ∷ []) i ≡ y
last xs y i e = get_or-second xs (y ∷ []) i 0 0 (omega (arith, e))

module _
    (dag : List Formula) (marks : List Bool) (small : List Formula) (numbers : List ℕ) (k : ℕ)
    (was : AreKept dag marks small numbers k) where
  -- one formula further, where it has no mark
  pub kept_unmarked :
      (n : ℕ) → (IsMarked marks k → ⊥) → AreKept dag marks small (numbers ++ n ∷ []) (k + 1)
  kept_unmarked n none = record {
    old = was.old;
    one_each = was.one_each;
    in_order = was.in_order;
    same = was.same;
    ordered = was.ordered;
    numbered = length-append numbers (n ∷ []) ∙ omega (arith, was.numbered);
    marked = λ j h. (
        let (less, mark, back) = was.marked j h in (
          omega (arith, less),
          mark,
          first numbers n (slice_index was.old j) (omega (arith, less, was.numbered)) ∙ back,
        ));
    found = λ i h m. elim (eqb_tells i k) [
      | inl here ↦ absurd (none (subst (λ x. IsMarked marks x) here.1 m))
      | inr other ↦ (
          let less : i < k = omega (arith, other.1) in
          let (there, back) = was.found i less m in
          let same = first numbers n i (omega (arith, was.numbered)) in (
            subst (λ x. x < length small) (sym same) there,
            ap (slice_index was.old) same ∙ back,
          ))
    ];
  }

  module _
      (f : Formula) (is : slice_get dag k ≡ Some f) (mark : IsMarked marks k)
      (ordered : IsDag dag) (closed : AreClosed dag marks 0) where
    -- what it cites has a new number
    cited_found :
        (i : ℕ) → Cites f i →
        (slice_index numbers i < length small) × (slice_index was.old (slice_index numbers i) ≡ i)
    cited_found i c =
        was.found i (cites-below f k (ordered k f is) i c) (closed k f i (omega arith) is mark c)

    -- so it may be put behind
    pub kept_cites : CitesBelow (length small) (renumbered (slice_index numbers) f)
    kept_cites =
        renumbered-below f (slice_index numbers) (length small) (λ i c. (cited_found i c).0)

    -- one formula further, where it has a mark
    pub kept_marked :
        AreKept dag marks (small ++ renumbered (slice_index numbers) f ∷ [])
        (numbers ++ length small ∷ []) (k + 1)
    kept_marked =
        let n : ℕ = length small in
        let g : Formula = renumbered (slice_index numbers) f in
        let size : length (was.old ++ k ∷ []) ≡ n + 1 =
        length-append was.old (k ∷ []) ∙ omega (arith, was.one_each) in
        let more : length (small ++ g ∷ []) ≡ n + 1 = length-append small (g ∷ []) in
        let before : (i : ℕ) → i < n → slice_index (was.old ++ k ∷ []) i ≡ slice_index was.old i =
        λ i h. first was.old k i (omega (arith, was.one_each)) in
        let here : (i : ℕ) → i ≡ n → slice_index (was.old ++ k ∷ []) i ≡ k =
        λ i e. last was.old k i (omega (arith, e, was.one_each)) in
        let counted : (i : ℕ) → i < k → slice_index (numbers ++ n ∷ []) i ≡ slice_index numbers i =
        λ i h. first numbers n i (omega (arith, was.numbered)) in
        let new : (i : ℕ) → i ≡ k → slice_index (numbers ++ n ∷ []) i ≡ n =
        λ i e. last numbers n i (omega (arith, e, was.numbered)) in
        record {
          old = was.old ++ k ∷ [];
          one_each = size ∙ sym more;
          in_order = λ i j less h. elim (eqb_tells j n) [
            | inl end ↦ (
                let inside : i < n = omega (arith, end.1) in
                let small_one = (was.marked i (omega (arith, was.one_each))).0 in
                let one = before i inside in
                let two = here j end.1 in
                omega (arith, small_one, one, two))
            | inr other ↦ (
                let inside : j < n = omega (arith, other.1, size) in
                let one = before i (omega arith) in
                let two = before j inside in
                let rest = was.in_order i j less (omega (arith, was.one_each)) in
                omega (arith, one, two, rest))
          ];
          same = λ j h e. elim (at_push small g h j e) [
            | inl old ↦ (
                let inside : j < n = slice_get_within small j h old in
                ap (slice_get dag) (before j inside) ∙ was.same j h old
                ∙ ap (λ (x : Formula). Some x) (renumbered-same h j (slice_index was.old)
                (slice_index (was.old ++ k ∷ [])) (was.ordered j h old)
                (λ i less. sym (before i (omega arith)))))
            | inr end ↦ (
                let back : renumbered (slice_index (was.old ++ k ∷ [])) g ≡ f =
                renumbered-back f (slice_index numbers) (slice_index (was.old ++ k ∷ []))
                (λ i c. (let (there, is_i) = cited_found i c in
                before (slice_index numbers i) there ∙ is_i)) in
                ap (slice_get dag) (here j end.0) ∙ is ∙ ap (λ (x : Formula). Some x) (sym back)
                ∙ ap (λ (x : Formula). Some (renumbered (slice_index (was.old ++ k ∷ [])) x))
                end.1)
          ];
          ordered = push_ordered small g was.ordered kept_cites;
          numbered = length-append numbers (n ∷ []) ∙ omega (arith, was.numbered);
          marked = λ j h. elim (eqb_tells j n) [
            | inl end ↦ (
                let at = here j end.1 in (
                  omega (arith, at),
                  subst (λ x. IsMarked marks x) (sym at) mark,
                  new (slice_index (was.old ++ k ∷ []) j) at ∙ sym end.1,
                ))
            | inr other ↦ (
                let inside : j < n = omega (arith, other.1, size) in
                let at = before j inside in
                let (less, marked, back) = was.marked j (omega (arith, was.one_each)) in (
                  omega (arith, at, less),
                  subst (λ x. IsMarked marks x) (sym at) marked,
                  ap (slice_index (numbers ++ n ∷ [])) at
                      ∙ counted (slice_index was.old j) less ∙ back,
                ))
          ];
          found = λ i h m. elim (eqb_tells i k) [
            | inl end ↦ (
                let at = new i end.1 in (
                  omega (arith, at, more),
                  here (slice_index (numbers ++ n ∷ []) i) at ∙ sym end.1,
                ))
            | inr other ↦ (
                let less : i < k = omega (arith, other.1) in
                let at = counted i less in
                let (there, back) = was.found i less m in (
                  omega (arith, at, there, more),
                  ap (slice_index (was.old ++ k ∷ [])) at
                      ∙ before (slice_index numbers i) there ∙ back,
                ))
          ];
        }

module _
    (dag : List Formula) (wanted : List ℕ) (marks : List Bool) (small : List Formula)
    (numbers new : List ℕ) (ordered : IsDag dag)
    (within : All (λ k. k < length dag) wanted) (needed : AreNeeded dag wanted marks)
    (is : AreKept dag marks small numbers (length dag))
    (new_is : new ≡ map (slice_index numbers) wanted) where
  as_many : length new ≡ length wanted
  as_many = ap length new_is ∙ length-map wanted (slice_index numbers)

  -- the new number of a wanted formula
  number_of :
      (p : ℕ) → p < length wanted →
      slice_index new p ≡ slice_index numbers (slice_index wanted p)
  number_of p h =
      ap (λ xs. slice_index xs p) new_is ∙ get_or-map (slice_index numbers) wanted p 0 0 h

  -- each formula is cited on the way from a wanted one
  cited_small : (n j : ℕ) → j < length small → length small ≤ j + n → IsCited small new j
  cited_small zero j h enough = absurd (omega arith)
  cited_small (suc n) j h enough =
      let (less, mark, back) = is.marked j (omega (arith, is.one_each)) in
      elim (needed.reasoned (slice_index is.old j) mark) [
        | inl wished ↦ (0, at_wished wished.0 wished.1 wished.2 back)
        | inr by ↦ through (cited_small n) by.0 by.1 by.2 by.3 by.4 back
      ]
    where
      at_wished :
          (p : ℕ) → p < length wanted →
          get_or wanted p (slice_index is.old j) ≡ slice_index is.old j →
          slice_index numbers (slice_index is.old j) ≡ j → Contains new j
      at_wished p hp e back =
          let inside : p < length new = omega (arith, as_many) in (
            p,
            inside,
            get_or_default new p j 0 inside ∙ number_of p hp
                ∙ ap (slice_index numbers) (get_or_default wanted p 0 (slice_index is.old j) hp ∙ e)
                ∙ back,
          )

      formula_at : (m : ℕ) → m < length small → (f : Formula) × (slice_get small m ≡ Some f)
      formula_at m below = elim (slice_get_cases small m).1 [
        | inl found ↦ (found.0, found.2)
        | inr past ↦ absurd (omega (arith, past.0))
      ]

      through :
          ((m : ℕ) → m < length small → length small ≤ m + n → IsCited small new m) →
          (k : ℕ) (f : Formula) → slice_get dag k ≡ Some f → Cites f (slice_index is.old j) →
          IsMarked marks k → slice_index numbers (slice_index is.old j) ≡ j → IsCited small new j
      through again k f e cites mark back =
          let (there, at) = is.found k (slice_get_within dag k f e) mark in
          let m : ℕ = slice_index numbers k in
          let (g, eg) = formula_at m there in
          let one : Some (renumbered (slice_index is.old) g) ≡ Some f =
          sym (is.same m g eg) ∙ ap (slice_get dag) at ∙ e in
          let formulas : renumbered (slice_index is.old) g ≡ f = cc one in
          let (i, ci, ei) = cites-renumbered g (slice_index is.old) (slice_index is.old j)
          (subst (λ h. Cites h (slice_index is.old j)) (sym formulas) cites) in
          let less : i < m = cites-below g m (is.ordered m g eg) i ci in
          let same : i ≡ j =
          sym (is.marked i (omega (arith, is.one_each))).2 ∙ ap (slice_index numbers) ei ∙ back in
          let (steps, path) = again m there (omega (arith, same)) in
          (suc steps, (m, g, eg, subst (λ x. Cites g x) same ci, path))

  -- at the end, the list is what is wanted and cited
  pub all_kept : IsOnlyCited dag wanted small new
  all_kept = record {
    old = is.old;
    one_each = is.one_each;
    in_order = is.in_order;
    same = is.same;
    ordered = is.ordered;
    all_wanted = as_many;
    there = λ i h. subst (λ x. x < length small) (sym (number_of i h)) (at i h).0;
    are_wanted = λ i h. ap (slice_index is.old) (number_of i h) ∙ (at i h).1;
    cited = λ j h. cited_small (length small) j h (omega arith);
  }
    where
      at : (i : ℕ) → i < length wanted →
          (slice_index numbers (slice_index wanted i) < length small)
          × (slice_index is.old (slice_index numbers (slice_index wanted i))
          ≡ slice_index wanted i)
      at i h =
          is.found (slice_index wanted i) (within i 0 h) (needed.wanted_marked i 0 h)

-- numbers in order are at least their places
at_least :
    (old : List ℕ) →
    ((i j : ℕ) → i < j → j < length old → slice_index old i < slice_index old j) →
    (j : ℕ) → j < length old → j ≤ slice_index old j
at_least old in_order zero h = omega arith
at_least old in_order (suc j) h =
    omega (
      arith,
      at_least old in_order j (omega arith),
      in_order j (suc j) (omega arith) h,
    )

-- fewer formulas are kept than were looked at
pub kept_few :
    (dag : List Formula) (marks : List Bool) (small : List Formula) (numbers : List ℕ) (k : ℕ) →
    AreKept dag marks small numbers k → length small ≤ k
kept_few dag marks small numbers k is = by (length is.old) refl
  where
    by : (n : ℕ) → length is.old ≡ n → length small ≤ k
    by zero e = omega (arith, e, is.one_each)
    by (suc m) e =
        omega (
          arith,
          e,
          is.one_each,
          at_least is.old is.in_order m (omega (arith, e)),
          (is.marked m (omega (arith, e))).0,
        )

-- the list is no longer than the large one
pub no_longer :
    (dag : List Formula) (wanted : List ℕ) (small : List Formula) (new : List ℕ) →
    IsOnlyCited dag wanted small new → length small ≤ length dag
no_longer dag wanted small new is = by (length small) refl
  where
    by : (n : ℕ) → length small ≡ n → length small ≤ length dag
    by zero e = omega (arith, e)
    by (suc m) e = elim (slice_get_cases small m).1 [
      | inl found ↦ (
          let inside = slice_get_within dag (slice_index is.old m) _ (is.same m found.0 found.2) in
          let most = at_least is.old is.in_order m (omega (arith, e, is.one_each)) in
          omega (arith, e, inside, most))
      | inr past ↦ absurd (omega (arith, e, past.0))
    ]
