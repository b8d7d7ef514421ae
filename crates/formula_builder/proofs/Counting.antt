-- How many formulas there are: each split makes at least half as many blocks as it has parts, and
-- each round makes a coarse block.
use Rattle.std.proofs.Common.{◌≡◌, ◌≢◌, ◌+◌, ◌*◌, ◌<◌, ◌≤◌, ◌==◌, ℕ, zero, suc, Bool, true, false, List, [], ◌∷◌, ◌++◌, length, map, get_or, refl, sym, ◌∙◌, ap, subst, inl, inr, arith, length-append}
use Rattle.std.specs.Prelude.{All, Any, Contains, AllPairs, if◌then◌else◌}
use Rattle.std.proofs.lemmas.Bool.{eqb-true}
use Rattle.std.proofs.lemmas.Bool.Decides.{eqb_tells, Decides-eqb}
use Rattle.std.proofs.lemmas.List.Kept.{AllPairs-cons}
use Rattle.std.proofs.lemmas.Map.Made.{IsDistinct-from_AllPairs}
use Rattle.std.proofs.lemmas.Map.Steps.{length-le_from_distinct_below}
use Rattle.std.proofs.lemmas.List.Folds.{Any-from_list_any}
use Rattle.std.proofs.Math.Dec.{eqb}
use Rattle.refiner.specs.declared.parts.Part.{Part}
use Rattle.refiner.specs.Recorded.{Split}
use Rattle.formula_builder.specs.Books.{parts_in}
use Rattle.formula_builder.proofs.Lists.{all_at}

-- ---- lists of distinct elements

module _ {X : Type 0} where
  -- what holds of all holds of all but the first
  pub tail_all : (P : X → Type 0) (x : X) (xs : List X) → All P (x ∷ xs) → All P xs
  tail_all P x xs all k d h = all (suc k) d (omega arith)

  tail_pairs : (R : X → X → Type 0) (x : X) (xs : List X) → AllPairs R (x ∷ xs) → AllPairs R xs
  tail_pairs R x xs pairs i j d before h = pairs (suc i) (suc j) d (omega arith) (omega arith)

  -- the first is related to each later one
  pub head_pairs : (R : X → X → Type 0) (x : X) (xs : List X) → AllPairs R (x ∷ xs) → All (R x) xs
  head_pairs R x xs pairs k d h = pairs 0 (suc k) d (omega arith) (omega arith)

  -- what holds of an element and of all of a list holds of all of both
  pub all_cons : (P : X → Type 0) (x : X) (xs : List X) → P x → All P xs → All P (x ∷ xs)
  all_cons P x xs here rest zero d h = here
  all_cons P x xs here rest (suc k) d h = rest k d (omega arith)

  -- what holds of all of two lists holds of all of both together
  pub all_append : (P : X → Type 0) (xs ys : List X) → All P xs → All P ys → All P (xs ++ ys)
  all_append P [] ys here rest = rest
  all_append P (x ∷ xs) ys here rest =
      all_cons P x (xs ++ ys) (here 0 x (omega arith)) (all_append P xs ys (tail_all P x xs here)
      rest)

  -- what follows from what holds of all holds of all
  pub all_map : (P Q : X → Type 0) (xs : List X) → All P xs → ((x : X) → P x → Q x) → All Q xs
  all_map P Q xs all f k d h = f (get_or xs k d) (all k d h)

  pub any_later : (P : X → Type 0) (x : X) (xs : List X) → Any P xs → Any P (x ∷ xs)
  any_later P x xs found =
      let (k, y, h, e, is) = found in (suc k, y, omega (arith, h), e, is)

  -- pairs within two lists and between them are pairs of both together
  pub pairs_append :
      (R : X → X → Type 0) (xs ys : List X) → AllPairs R xs → AllPairs R ys →
      All (λ x. All (R x) ys) xs → AllPairs R (xs ++ ys)
  pairs_append R [] ys one two cross = two
  pairs_append R (x ∷ xs) ys one two cross =
      AllPairs-cons R x (xs ++ ys)
      (all_append (R x) xs ys (head_pairs R x xs one) (cross 0 x (omega arith)))
      (pairs_append R xs ys (tail_pairs R x xs one) two (tail_all (λ x. All (R x) ys) x xs cross))

-- two numbers differ
abbrev pub Apart : List ℕ → Type 0
Apart xs = AllPairs (λ x y. x ≢ y) xs

-- the first place of a number
place : List ℕ → ℕ → ℕ
place [] k = 0
place (x ∷ xs) k = if x == k then 0 else suc (place xs k)

place_is : (ys : List ℕ) (b : ℕ) (k : ℕ) → k < length ys → get_or ys k b ≡ b →
    (place ys b < length ys) × (get_or ys (place ys b) 0 ≡ b)
unfolding place
place_is [] b k h e = absurd (omega arith)
place_is (y ∷ ys) b zero h e = by (y == b) refl
  where
    by : (o : Bool) → (y == b) ≡ o → ((if o then 0 else suc (place ys b)) < suc (length ys))
        × (get_or (y ∷ ys) (if o then 0 else suc (place ys b)) 0 ≡ b)
    by true is = (omega arith, eqb-true y b is)
    by false is = elim (eqb_tells y b) [
      | inl same ↦ absurd (cc (is, same.0))
      | inr other ↦
          absurd (other.1 e)
    ]
place_is (y ∷ ys) b (suc k) h e = by (y == b) refl (place_is ys b k (omega arith) e)
  where
    by : (o : Bool) → (y == b) ≡ o → (place ys b < length ys) × (get_or ys (place ys b) 0 ≡ b) →
        ((if o then 0 else suc (place ys b)) < suc (length ys))
        × (get_or (y ∷ ys) (if o then 0 else suc (place ys b)) 0 ≡ b)
    by true is later = (omega arith, eqb-true y b is)
    by false is later = (omega (arith, later.0), later.1)

places_apart :
    (ys xs : List ℕ) → Apart xs → All (λ b. Contains ys b) xs → Apart (map (place ys) xs)
places_apart ys [] apart in_ = λ i j d before h. absurd (omega arith)
places_apart ys (x ∷ xs) apart in_ =
    AllPairs-cons (λ x y. x ≢ y) (place ys x) (map (place ys) xs)
    (others xs (head_pairs (λ x y. x ≢ y) x xs apart) (tail_all (λ b. Contains ys b) x xs in_))
    (places_apart ys xs (tail_pairs (λ x y. x ≢ y) x xs apart)
    (tail_all (λ b. Contains ys b) x xs in_))
  where
    here : (place ys x < length ys) × (get_or ys (place ys x) 0 ≡ x)
    here = let (k, h, e) = in_ 0 x (omega arith) in place_is ys x k h e

    others : (zs : List ℕ) → All (λ z. x ≢ z) zs → All (λ b. Contains ys b) zs →
        All (λ k. place ys x ≢ k) (map (place ys) zs)
    others [] differ all = λ k d h. absurd (omega arith)
    others (z ∷ zs) differ all =
        all_cons (λ k. place ys x ≢ k) (place ys z) (map (place ys) zs)
        (λ same. (let (k, h, e) = all 0 z (omega arith) in
        let there = place_is ys z k h e in
        differ 0 z (omega arith) (sym here.1 ∙ ap (λ i. get_or ys i 0) same ∙ there.1)))
        (others zs (tail_all (λ z. x ≢ z) z zs differ) (tail_all (λ b. Contains ys b) z zs all))

places_below : (ys xs : List ℕ) → All (λ b. Contains ys b) xs →
    All (λ k. k < length ys) (map (place ys) xs)
places_below ys [] in_ = λ k d h. absurd (omega arith)
places_below ys (x ∷ xs) in_ =
    all_cons (λ k. k < length ys) (place ys x) (map (place ys) xs)
    (let (k, h, e) = in_ 0 x (omega arith) in (place_is ys x k h e).0)
    (places_below ys xs (tail_all (λ b. Contains ys b) x xs in_))

length_places : (ys xs : List ℕ) → length (map (place ys) xs) ≡ length xs
length_places ys [] = refl
length_places ys (x ∷ xs) = ap suc (length_places ys xs)

-- distinct elements of a list are at most as many as it has
pub at_most : (xs ys : List ℕ) → Apart xs → All (λ b. Contains ys b) xs → length xs ≤ length ys
at_most xs ys apart in_ =
    let idx : List ℕ = map (place ys) xs in
    let small : length idx ≤ length ys =
    length-le_from_distinct_below idx (length ys)
    (IsDistinct-from_AllPairs Decides-eqb idx (places_apart ys xs apart in_))
    (λ q found. (let (k, x, h, e, is) = Any-from_list_any (eqb q) idx found in
    subst (λ n. n < length ys) (sym (eqb-true q x is))
    (all_at (λ k. k < length ys) idx k x (places_below ys xs in_) h e))) in
    subst (λ n. n ≤ length ys) (length_places ys xs) small

-- ---- the new blocks of a round

-- the numbers of the parts other than the parent
others_of : ℕ → List Part → List ℕ
others_of parent [] = []
others_of parent (p ∷ parts) = if p.block == parent then others_of parent parts else
    p.block ∷ others_of parent parts

-- each of some numbers is that of a part, and not the parent's
abbrev AreOthers : ℕ → List Part → List ℕ → Type 0
AreOthers parent parts numbers = All (λ b. Any (λ (p : Part). p.block ≡ b) parts × (b ≢ parent))
    numbers

others_are : (parent : ℕ) (parts : List Part) → AreOthers parent parts (others_of parent parts)
unfolding others_of
others_are parent [] = λ k d h. absurd (omega arith)
others_are parent (p ∷ parts) = by (p.block == parent) refl (others_are parent parts)
  where
    wider : (numbers : List ℕ) → AreOthers parent parts numbers →
        AreOthers parent (p ∷ parts) numbers
    wider numbers all = all_map (λ b. Any (λ (p : Part). p.block ≡ b) parts × (b ≢ parent))
        (λ b. Any (λ (p : Part). p.block ≡ b) (p ∷ parts) × (b ≢ parent)) numbers all
        (λ b is. (any_later (λ (p : Part). p.block ≡ b) p parts is.0, is.1))

    by : (o : Bool) → (p.block == parent) ≡ o → AreOthers parent parts (others_of parent parts) →
        AreOthers parent (p ∷ parts) (if o then others_of parent parts else p.block ∷ others_of
        parent parts)
    by true is rest = wider (others_of parent parts) rest
    by false is rest =
        all_cons (λ b. Any (λ (p : Part). p.block ≡ b) (p ∷ parts) × (b ≢ parent)) p.block
        (others_of parent parts) (
          (0, p, omega arith, refl, refl),
          (λ same. elim (eqb_tells p.block parent) [
            | inl yes_ ↦ absurd (cc (is, yes_.0))
            | inr
                not_ ↦ absurd (not_.1 same)
          ]),
        )
        (wider (others_of parent parts) rest)

others_apart : (parent : ℕ) (parts : List Part) →
    AllPairs (λ (p : Part). λ (q : Part). p.block ≢ q.block) parts → Apart (others_of parent parts)
unfolding others_of
others_apart parent [] apart = λ i j d before h. absurd (omega arith)
others_apart parent (p ∷ parts) apart =
    by (p.block == parent)
    (others_apart parent parts (tail_pairs (λ (p : Part). λ (q : Part). p.block ≢ q.block) p
    parts apart))
  where
    by : (o : Bool) → Apart (others_of parent parts) →
        Apart (if o then others_of parent parts else p.block ∷ others_of parent parts)
    by true rest = rest
    by false rest =
        AllPairs-cons (λ x y. x ≢ y) p.block (others_of parent parts)
        (all_map (λ b. Any (λ (q : Part). q.block ≡ b) parts × (b ≢ parent)) (λ b. p.block ≢ b)
        (others_of parent parts) (others_are parent parts)
        (λ b is same. (let (k, q, h, e, eq) = is.0 in
        all_at (λ (q : Part). p.block ≢ q.block) parts k q
        (head_pairs (λ (p : Part). λ (q : Part). p.block ≢ q.block) p parts apart) h e
        (same ∙ sym eq))))
        rest

-- at most one part has the parent's number
others_all : (parent : ℕ) (parts : List Part) → All (λ (p : Part). p.block ≢ parent) parts →
    length (others_of parent parts) ≡ length parts
unfolding others_of
others_all parent [] none = refl
others_all parent (p ∷ parts) none =
    by (p.block == parent) refl
    (others_all parent parts (tail_all (λ (p : Part). p.block ≢ parent) p parts none))
  where
    by : (o : Bool) → (p.block == parent) ≡ o → length (others_of parent parts) ≡ length parts →
        length (if o then others_of parent parts else p.block ∷ others_of parent parts)
        ≡ suc (length parts)
    by true is rest = absurd (none 0 p (omega arith) (eqb-true p.block parent is))
    by false is rest = ap suc rest

others_many : (parent : ℕ) (parts : List Part) →
    AllPairs (λ (p : Part). λ (q : Part). p.block ≢ q.block) parts →
    length parts ≤ length (others_of parent parts) + 1
unfolding others_of
others_many parent [] apart = omega arith
others_many parent (p ∷ parts) apart =
    by (p.block == parent) refl
    (others_many parent parts (tail_pairs (λ (p : Part). λ (q : Part). p.block ≢ q.block) p
    parts apart))
  where
    by : (o : Bool) → (p.block == parent) ≡ o → length parts ≤ length (others_of parent parts) + 1 →
        suc (length parts) ≤ length (if o then others_of parent parts else p.block ∷ others_of
        parent parts) + 1
    by true is rest =
        let same : p.block ≡ parent = eqb-true p.block parent is in
        let all =
        others_all parent parts
        (λ k d h e. head_pairs (λ (p : Part). λ (q : Part). p.block ≢ q.block) p parts apart
        k d h (same ∙ sym e)) in
        omega arith
    by false is rest = omega arith

-- The new numbers of some splits: distinct, each that of a part and not of its parent, and at least
-- half as many as there are parts.
pub record IsFresh (splits : List Split) (numbers : List ℕ) : Type 0 where
  pub apart : Apart numbers
  pub parts : All (λ b. Any (λ (s : Split). Any (λ (p : Part). p.block ≡ b) s.parts
      × (b ≢ s.parent)) splits) numbers
  pub many : parts_in splits ≤ 2 * length numbers

-- the parts of splits that are no first parts are new blocks
pub fresh_of :
    (splits : List Split) → All (λ (s : Split). 2 ≤ length s.parts) splits →
    All (λ (s : Split). AllPairs (λ (p : Part). λ (q : Part). p.block ≢ q.block) s.parts) splits →
    AllPairs (λ (s : Split). λ (t : Split). All (λ (p : Part). All (λ (q : Part). p.block ≢ q.block)
    t.parts) s.parts) splits →
    (numbers : List ℕ) × IsFresh splits numbers
fresh_of [] two apart news = (
  [],
  record {
    apart = λ i j d before h. absurd (omega arith);
    parts = λ k d h. absurd (omega arith);
    many = omega arith;
  },
)
fresh_of (s ∷ splits) two apart news =
    let parts : List Part = s.parts in
    let (numbers, rest) =
    fresh_of splits (tail_all (λ (s : Split). 2 ≤ length s.parts) s splits two)
    (tail_all (λ (s : Split). AllPairs (λ (p : Part). λ (q : Part). p.block ≢ q.block) s.parts) s
    splits apart)
    (tail_pairs
    (λ (s : Split). λ (t : Split). All (λ (p : Part). All (λ (q : Part). p.block ≢ q.block)
    t.parts) s.parts) s splits news) in
    let here : List ℕ = others_of s.parent parts in
    let mine : AllPairs (λ (p : Part). λ (q : Part). p.block ≢ q.block) parts =
    apart 0 s (omega arith) in
    let are : AreOthers s.parent parts here = others_are s.parent parts in
    let pair : 2 ≤ length parts = two 0 s (omega arith) in
    let head =
    head_pairs
    (λ (s : Split). λ (t : Split). All (λ (p : Part). All (λ (q : Part). p.block ≢ q.block)
    t.parts) s.parts) s splits news in (
      here ++ numbers,
      record {
        apart = pairs_append (λ x y. x ≢ y) here numbers (others_apart s.parent parts mine)
            rest.apart
            (all_map (λ b. Any (λ (p : Part). p.block ≡ b) parts × (b ≢ s.parent))
            (λ b. All (λ c. b ≢ c) numbers) here are
            (λ b is. all_map (λ c. Any (λ (t : Split). Any (λ (q : Part). q.block ≡ c) t.parts
            × (c ≢ t.parent)) splits) (λ c. b ≢ c) numbers rest.parts
            (λ c there same. (let (j, p, hj, ej, ep) = is.0 in
            let (k, t, hk, ek, found) = there in
            let (l, q, hl, el, eq) = found.0 in
            all_at (λ (q : Part). p.block ≢ q.block) t.parts l q
            (all_at (λ (p : Part). All (λ (q : Part). p.block ≢ q.block) t.parts) parts j p
            (all_at (λ (t : Split). All (λ (p : Part). All (λ (q : Part). p.block ≢ q.block)
            t.parts) parts) splits k t head hk ek) hj ej)
            hl el (ep ∙ same ∙ sym eq)))));
        parts = all_append (λ b. Any (λ (t : Split). Any (λ (p : Part). p.block ≡ b) t.parts
            × (b ≢ t.parent)) (s ∷ splits)) here numbers
            (all_map (λ b. Any (λ (p : Part). p.block ≡ b) parts × (b ≢ s.parent))
            (λ b. Any (λ (t : Split). Any (λ (p : Part). p.block ≡ b) t.parts × (b ≢ t.parent))
            (s ∷ splits)) here are
            (λ b is. (0, s, omega arith, refl, is)))
            (all_map (λ b. Any (λ (t : Split). Any (λ (p : Part). p.block ≡ b) t.parts
            × (b ≢ t.parent)) splits)
            (λ b. Any (λ (t : Split). Any (λ (p : Part). p.block ≡ b) t.parts
            × (b ≢ t.parent)) (s ∷ splits)) numbers rest.parts
            (λ b is. any_later (λ (t : Split). Any (λ (p : Part). p.block ≡ b) t.parts
            × (b ≢ t.parent)) s splits is));
        many = omega (
          arith,
          rest.many,
          others_many s.parent parts mine,
          length-append here numbers,
          pair,
        );
      },
    )
