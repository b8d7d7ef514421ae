-- The live blocks and coarse blocks along a legal history, and how many formulas are told of them.
use Rattle.std.proofs.Common.{◌≡◌, ◌≢◌, ◌+◌, ◌*◌, ◌<◌, ◌≤◌, ◌==◌, ℕ, suc, List, [], ◌∷◌, ◌++◌, length, map, refl, sym, ◌∙◌, ap, subst, inl, inr, arith, length-append}
use Rattle.std.specs.Prelude.{All, Any, Contains, AllPairs, if◌then◌else◌}
use Rattle.std.proofs.lemmas.Bool.Decides.{eqb_tells}
use Rattle.std.proofs.lemmas.List.Kept.{AllPairs-cons}
use Rattle.modalities.specs.declared.three.Three.{Three}
use Rattle.sorted_systems.specs.Systems.{Sorted, class_in}
use Rattle.refiner.specs.declared.parts.Start.{Start}
use Rattle.refiner.specs.declared.parts.Part.{Part}
use Rattle.refiner.specs.Recorded.{Split}
use Rattle.refiner.specs.Recorded.{Round}
use Rattle.refiner.specs.History.{Moment, IsStart, IsSplit, IsRound}
use Rattle.formula_builder.specs.Books.{Book, IsBegun, IsRoundTold, parts_in}
use Rattle.formula_builder.proofs.Lists.{all_at, find_number, contains, place_of_contained}
use Rattle.formula_builder.proofs.Blocks.{next, class-coarse_after, length-coarse_after}
use Rattle.formula_builder.proofs.Counting.{Apart, IsFresh, fresh_of, at_most, tail_all, head_pairs, all_cons, all_append, all_map, pairs_append}

-- Distinct live blocks, and a distinct live coarse block for each round.
pub record IsLive (number : ℕ) (m : Moment) : Type 0 where
  pub live : List ℕ
  pub live_apart : Apart live
  pub live_in : All (λ b. Contains m.blocks b) live
  pub inner : List ℕ
  pub inner_apart : Apart inner
  pub inner_in : All (λ c. Contains m.coarse c) inner
  pub inner_count : length inner ≡ number

-- There are at most four formulas for each of the blocks, two for each round, and one.
pub record IsCounted (number : ℕ) (m : Moment) (book : Book) : Type 0 where
  pub lists : IsLive number m
  pub count : length book.dag ≤ 1 + 4 * length lists.live + 2 * number

-- at most six for each state, and one
pub few_of :
    (number n : ℕ) (m : Moment) (l : IsLive number m) → length m.blocks ≡ n → length m.coarse ≡ n →
    1 + 4 * length l.live + 2 * number ≤ 6 * n + 1
few_of number n m l blocks coarse =
    omega (
      arith,
      at_most l.live m.blocks l.live_apart l.live_in,
      at_most l.inner m.coarse l.inner_apart l.inner_in,
      l.inner_count,
    )

-- the coarse block that is split goes on as the outer one
abbrev renamed : ℕ → ℕ → ℕ → ℕ
renamed split outer c = if c == split then outer else c

length_map : {X : Type 0} (f : X → ℕ) (xs : List X) → length (map f xs) ≡ length xs
length_map f [] = refl
length_map f (x ∷ xs) = ap suc (length_map f xs)

map_apart :
    {X : Type 0} (f : X → ℕ) (P : X → Type 0) (R : X → X → Type 0) (xs : List X) → AllPairs R xs →
    All P xs →
    ((x y : X) → P x → P y → R x y → f x ≢ f y) → Apart (map f xs)
map_apart f P R [] pairs all differ = λ i j d before h. absurd (omega arith)
map_apart f P R (x ∷ xs) pairs all differ =
    AllPairs-cons (λ a b. a ≢ b) (f x) (map f xs)
    (others xs (head_pairs R x xs pairs) (tail_all P x xs all))
    (map_apart f P R xs (λ i j d before h. pairs (suc i) (suc j) d (omega arith) (omega arith))
    (tail_all P x xs all) differ)
  where
    others : (ys : List _) → All (R x) ys → All P ys → All (λ b. f x ≢ b) (map f ys)
    others [] apart_ all_ = λ k d h. absurd (omega arith)
    others (y ∷ ys) apart_ all_ =
        all_cons (λ b. f x ≢ b) (f y) (map f ys)
        (differ x y (all 0 x (omega arith)) (all_ 0 y (omega arith)) (apart_ 0 y (omega arith)))
        (others ys (tail_all (R x) y ys apart_) (tail_all P y ys all_))

map_all :
    {X : Type 0} (f : X → ℕ) (P : X → Type 0) (Q : ℕ → Type 0) (xs : List X) → All P xs →
    ((x : X) → P x → Q (f x)) → All Q (map f xs)
map_all f P Q [] all gives = λ k d h. absurd (omega arith)
map_all f P Q (x ∷ xs) all gives = all_cons Q (f x) (map f xs) (gives x (all 0 x (omega arith)))
    (map_all f P Q xs (tail_all P x xs all) gives)

renamed_apart :
    (split outer b c : ℕ) → b ≢ outer → c ≢ outer → b ≢ c →
    renamed split outer b ≢ renamed split outer c
renamed_apart split outer b c fresh_b fresh_c differ same = elim (eqb_tells b split) [
  | inl one ↦ elim (eqb_tells c split) [
    | inl two ↦ differ (one.1 ∙ sym two.1)
    | inr two ↦ fresh_c (sym (sym (rw one.0 refl) ∙ same ∙ rw two.0 refl))
  ]
  | inr one ↦ elim (eqb_tells c split) [
    | inl two ↦ fresh_b (sym (rw one.0 refl) ∙ same ∙ rw two.0 refl)
    | inr two ↦ differ (sym (rw one.0 refl) ∙ same ∙ rw two.0 refl)
  ]
]

module _
    {Shape Label : Type 0} (node : Shape → ℕ) (value : Shape → List Label → List ℕ → Three)
    (system : List (Sorted Shape Label)) where
  -- a block that is live stays live
  pub stays_live :
      (number : ℕ) (before after : Moment) (r : Round) → IsRound node value system number before
      after r →
      length before.blocks ≡ length system → (b : ℕ) → Contains before.blocks b →
      Contains after.blocks b
  stays_live number before after r round each b in_ =
      elim (find_number (λ (s : Split). s.parent) r.splits b) [
        | inl found ↦ (
            let (k, s, hk, ek, e) = found in
            let split : IsSplit node value system before after r s =
            all_at (λ (t : Split). IsSplit node value system before after r t) r.splits k s
            round.splits
            hk ek in
            let (j, p, hj, ej, keeps) = split.one_keeps in
            subst (λ c. Contains after.blocks c) (keeps ∙ e)
            (all_at (λ (q : Part). Contains after.blocks q.block) s.parts j p split.none_empty hj
            ej))
        | inr none ↦ (
            let (x, hx, ex) = place_of_contained before.blocks b in_ in
            let here : x < length system = subst (λ n. x < n) each hx in
            let stays : class_in after.blocks x ≡ class_in before.blocks x =
            round.others_stay x here (subst (λ c. All (λ (s : Split). s.parent ≢ c) r.splits)
            (sym ex)
            none) in
            subst (λ c. Contains after.blocks c) (stays ∙ ex)
            (contains after.blocks x (subst (λ n. x < n) (sym round.one_each) here)))
      ]

  -- the start blocks are live
  pub start_live : (start : List Start) (m : Moment) → IsStart node value system start m →
      IsLive 0 m
  start_live start m starts = record {
    live = map (λ (p : Start). p.block) start;
    live_apart =
        map_apart (λ (p : Start). p.block) (λ _. Unit {0}) (λ (p : Start). λ (q : Start). p.block ≢
        q.block) start starts.numbers_apart (λ k d h. tt) (λ p q _ _ differ. differ);
    live_in = map_all (λ (p : Start). p.block) (λ (p : Start). Contains m.blocks p.block)
        (λ b. Contains m.blocks b) start starts.none_empty (λ p is. is);
    inner = [];
    inner_apart = λ i j d before h. absurd (omega arith);
    inner_in = λ k d h. absurd (omega arith);
    inner_count = refl;
  }

  -- so there are no more of them than states
  pub starts_few : (start : List Start) (m : Moment) → IsStart node value system start m →
      length start ≤ length system
  unfolding start_live
  starts_few start m starts =
      let l : IsLive 0 m = start_live start m starts in
      omega (
        arith,
        at_most l.live m.blocks l.live_apart l.live_in,
        starts.one_each,
        length_map (λ (p : Start). p.block) start,
      )

  -- the start blocks are live, and there is one formula for each, and one
  pub start_counted :
      (start : List Start) (m : Moment) → IsStart node value system start m → (book : Book) →
      IsBegun start book →
      IsCounted 0 m book
  unfolding start_live
  start_counted start m starts book begun = record {
    lists = start_live start m starts;
    count = omega (arith, begun.count, length_map (λ (p : Start). p.block) start);
  }

  module _ (number : ℕ) (before after : Moment) (r : Round)
      (round : IsRound node value system number before after r)
      (blocks_each : length before.blocks ≡ length system) (coarse_each : length before.coarse
      ≡ length system)
      (few : (x : ℕ) → x < length system → class_in before.coarse x ≤ 2 * number) where
    next_is : (x : ℕ) → x < length system →
        class_in after.coarse x ≡ next (class_in before.blocks x) (class_in before.coarse x)
        r.splitter r.coarse r.inner r.outer
    next_is x h =
        ap (λ cs. class_in cs x) round.coarse_is
        ∙ class-coarse_after before.blocks before.coarse r x (coarse_each ∙ sym blocks_each)
        (subst (λ n. x < n) (sym blocks_each) h)

    pub coarse_after_each : length after.coarse ≡ length system
    coarse_after_each = ap length round.coarse_is
        ∙ length-coarse_after before.blocks before.coarse r (coarse_each ∙ sym blocks_each)
        ∙ blocks_each

    fresh : (numbers : List ℕ) × IsFresh r.splits numbers
    fresh = fresh_of r.splits (λ k d h. (round.splits k d h).two)
        (λ k d h. (round.splits k d h).numbers_apart) round.news_apart

    -- a fresh number is live, and was not
    is_new : (b : ℕ) → Any (λ (s : Split). Any (λ (p : Part). p.block ≡ b) s.parts × (b ≢ s.parent))
        r.splits →
        Contains after.blocks b × ¬ Contains before.blocks b
    is_new b found =
        let (k, s, hk, ek, inside) = found in
        let (j, p, hj, ej, e) = inside.0 in
        let split : IsSplit node value system before after r s =
        all_at (λ (t : Split). IsSplit node value system before after r t) r.splits k s round.splits
        hk ek in (
          subst (λ c. Contains after.blocks c) e
              (all_at (λ (q : Part). Contains after.blocks q.block) s.parts j p split.none_empty hj
              ej),
          λ was. all_at (λ (q : Part). q.block ≢ s.parent → ¬ Contains before.blocks q.block)
              s.parts j p split.others_new hj ej
              (λ same. inside.1 (sym e ∙ same)) (subst (λ c. Contains before.blocks c) (sym e) was),
        )

    small_in : (c : ℕ) → Contains before.coarse c → c ≤ 2 * number
    small_in c in_ =
        let (x, hx, ex) = place_of_contained before.coarse c in_ in
        subst (λ d. d ≤ 2 * number) ex (few x (subst (λ n. x < n) coarse_each hx))

    -- the coarse blocks after the round
    lands :
        (x : ℕ) → x < length system → (c : ℕ) →
        next (class_in before.blocks x) (class_in before.coarse x) r.splitter r.coarse r.inner
        r.outer ≡ c →
        Contains after.coarse c
    lands x h c e =
        subst (λ d. Contains after.coarse d) (next_is x h ∙ e)
        (contains after.coarse x (subst (λ n. x < n) (sym coarse_after_each) h))

    goes_on : (c : ℕ) → Contains before.coarse c →
        Contains after.coarse (renamed r.coarse r.outer c)
    goes_on c in_ = elim (eqb_tells c r.coarse) [
      | inl here ↦ (
          let (x, hx, inside, outside) = round.splitter_proper in
          lands x hx (renamed r.coarse r.outer c)
          (elim (eqb_tells (class_in before.blocks x) r.splitter) [
            | inl no_ ↦ absurd (outside no_.1)
            | inr away ↦ (elim (eqb_tells (class_in before.coarse x) r.coarse) [
              | inl there ↦ rw (away.0, there.0, here.0) refl
              | inr no_ ↦ absurd (no_.1 inside)
            ])
          ]))
      | inr other ↦ (
          let (x, hx, ex) = place_of_contained before.coarse c in_ in
          let h : x < length system = subst (λ n. x < n) coarse_each hx in
          lands x h (renamed r.coarse r.outer c)
          (elim (eqb_tells (class_in before.blocks x) r.splitter) [
            | inl here ↦ absurd (other.1 (sym ex ∙ round.splitter_within x h here.1))
            | inr away ↦ (elim (eqb_tells (class_in before.coarse x) r.coarse) [
              | inl there ↦ absurd (other.1 (sym ex ∙ there.1))
              | inr still ↦ rw (away.0, still.0, other.0) ex
            ])
          ]))
    ]

    inner_lands : Contains after.coarse r.inner
    inner_lands =
        let (x, hx, ex) = place_of_contained before.blocks r.splitter round.splitter_live in
        lands x (subst (λ n. x < n) blocks_each hx) r.inner
        (elim (eqb_tells (class_in before.blocks x) r.splitter) [
          | inl here ↦ rw here.0 refl
          | inr no_ ↦ absurd (no_.1 ex)
        ])

    not_the_inner : (c : ℕ) → Contains before.coarse c → renamed r.coarse r.outer c ≢ r.inner
    not_the_inner c in_ same = elim (eqb_tells c r.coarse) [
      | inl here ↦ omega (
        arith,
        round.inner_is,
        round.outer_is,
        (let e : r.outer ≡ r.inner =
            sym (rw here.0 refl) ∙ same in e),
      )
      | inr other ↦ omega (
        arith,
        round.inner_is,
        small_in c in_,
        (let e : c ≡ r.inner =
            sym (rw other.0 refl) ∙ same in e),
      )
    ]

    -- a round adds at least half as many blocks as it has parts
    pub round_live : IsLive number before → IsLive (number + 1) after
    round_live c = record {
      live = c.live ++ fresh.0;
      live_apart = pairs_append (λ a b. a ≢ b) c.live fresh.0 c.live_apart fresh.1.apart
          (all_map (λ b. Contains before.blocks b) (λ b. All (λ d. b ≢ d) fresh.0) c.live c.live_in
          (λ b was. all_map (λ d. Any (λ (s : Split). Any (λ (p : Part). p.block ≡ d) s.parts
          × (d ≢ s.parent)) r.splits) (λ d. b ≢ d) fresh.0 fresh.1.parts
          (λ d found same. (is_new d found).1 (subst (λ e. Contains before.blocks e) same was))));
      live_in = all_append (λ b. Contains after.blocks b) c.live fresh.0
          (all_map (λ b. Contains before.blocks b) (λ b. Contains after.blocks b) c.live c.live_in
          (λ b was. stays_live number before after r round blocks_each b was))
          (all_map (λ d. Any (λ (s : Split). Any (λ (p : Part). p.block ≡ d) s.parts
          × (d ≢ s.parent)) r.splits) (λ b. Contains after.blocks b) fresh.0 fresh.1.parts
          (λ d found. (is_new d found).0));
      inner = map (renamed r.coarse r.outer) c.inner ++ r.inner ∷ [];
      inner_apart = pairs_append (λ a b. a ≢ b) (map (renamed r.coarse r.outer) c.inner)
          (r.inner ∷ [])
          (map_apart (renamed r.coarse r.outer) (λ d. Contains before.coarse d) (λ a b. a ≢ b)
          c.inner c.inner_apart c.inner_in
          (λ a b ia ib differ. renamed_apart r.coarse r.outer a b
          (λ e. omega (arith, small_in a ia, round.outer_is, e))
          (λ e. omega (arith, small_in b ib, round.outer_is, e)) differ))
          (λ i j d earlier h. absurd (omega arith))
          (map_all (renamed r.coarse r.outer) (λ d. Contains before.coarse d)
          (λ a. All (λ b. a ≢ b) (r.inner ∷ [])) c.inner c.inner_in
          (λ a ia. all_cons (λ b. renamed r.coarse r.outer a ≢ b) r.inner [] (not_the_inner a ia)
          (λ k d h. absurd (omega arith))));
      inner_in = all_append (λ d. Contains after.coarse d) (map (renamed r.coarse r.outer) c.inner)
          (r.inner ∷ [])
          (map_all (renamed r.coarse r.outer) (λ d. Contains before.coarse d)
          (λ d. Contains after.coarse d) c.inner c.inner_in goes_on)
          (all_cons (λ d. Contains after.coarse d) r.inner [] inner_lands
          (λ k d h. absurd (omega arith)));
      inner_count = length-append (map (renamed r.coarse r.outer) c.inner) (r.inner ∷ [])
          ∙ omega (arith, c.inner_count, length_map (renamed r.coarse r.outer) c.inner);
    }

    pub round_many : (c : IsLive number before) →
        2 * parts_in r.splits + 4 * length c.live ≤ 4 * length (round_live c).live
    unfolding round_live
    round_many c = omega (arith, fresh.1.many, length-append c.live fresh.0)

    -- what there will be after the round
    pub round_room :
        (book : Book) → IsCounted number before book →
        length book.dag + 2 * parts_in r.splits + 2 ≤ 6 * length system + 1
    round_room book c =
        omega (
          arith,
          c.count,
          round_many c.lists,
          few_of (number + 1) (length system) after (round_live c.lists) round.one_each
              coarse_after_each,
        )

    -- a round keeps the count
    pub round_counted :
        (old new : Book) → IsRoundTold old new r → IsCounted number before old →
        IsCounted (number + 1) after new
    round_counted old new step c = record {
      lists = round_live c.lists;
      count = omega (arith, c.count, step.count, round_many c.lists);
    }
