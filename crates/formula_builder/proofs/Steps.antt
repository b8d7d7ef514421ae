-- The builder's way along a legal history: what each round needs is there, and what is told holds.
use Rattle.std.proofs.Common.{◌≡◌, ◌+◌, ◌*◌, ◌<◌, ◌≤◌, ◌==◌, ℕ, suc, List, [], ◌∷◌, length, get_or, drop, drop-cons, take, refl, sym, ◌∙◌, ap, subst, inl, inr, arith}
use Rattle.std.specs.Prelude.{◌^◌, All, Contains, slice_index}
use Rattle.std.proofs.lemmas.Bool.Decides.{eqb_tells}
use Rattle.std.proofs.lemmas.List.{take_all, drop_all}
use Rattle.modalities.specs.declared.three.Three.{Three}
use Rattle.sorted_systems.specs.Systems.{Sorted, IsState, class_in, system_from}
use Rattle.edge_store.specs.declared.edge.Edge.{Edge}
use Rattle.refiner.specs.declared.parts.Start.{Start}
use Rattle.refiner.specs.Recorded.{Split}
use Rattle.refiner.specs.Recorded.{Round}
use Rattle.refiner.specs.Recorded.{Answer}
use Rattle.refiner.specs.History.{Moment, last_moment, IsSplit, IsRound, AreRounds, IsLegal}
use Rattle.formula_builder.specs.SortedLayers.{BlocksAreTold}
use Rattle.formula_builder.specs.Books.{Book, IsBegun, IsRoundTold}
use Rattle.formula_builder.specs.Making.{AreStartsTold, IsTellable}
use Rattle.formula_builder.proofs.Lists.{contains}
use Rattle.formula_builder.proofs.Telling.{Tells}
use Rattle.formula_builder.proofs.Blocks.{IsTold, start_told, round_told}
use Rattle.formula_builder.proofs.Counted.{stays_live, IsCounted, few_of, starts_few, start_counted, round_counted, round_room}

-- there is a state for each shape
pub system_length :
    {Shape Label : Type 0} (first : ℕ) (shapes : List Shape) (edges : List (Edge Label)) →
    length (system_from first shapes edges) ≡ length shapes
system_length first [] edges = refl
system_length first (s ∷ shapes) edges = ap suc (system_length (first + 1) shapes edges)

-- a system of few states is short
pub few_in_system :
    {Shape Label : Type 0} (shapes : List Shape) (edges : List (Edge Label)) →
    length shapes < 2 ^ 26 → length (system_from 0 shapes edges) < 2 ^ 26
few_in_system shapes edges few = subst (λ n. n < 2 ^ 26) (sym (system_length 0 shapes edges)) few

-- the start blocks, when all are told
pub begun_from :
    (book : Book) (start : List Start) (i : ℕ) → length start ≤ i →
    AreStartsTold book (take i start) → book.coarse ≡ 0 ∷ [] → IsBegun start book
begun_from book start i past told coarse =
    let all : AreStartsTold book start = subst (λ ps. AreStartsTold book ps) (take_all i start past)
    told in
    record {
      ordered = all.ordered;
      top = all.top;
      blocks = all.blocks;
      nodes = all.nodes;
      coarse =
          coarse;
      count = all.count;
      modalities = all.modalities;
    }

-- what is left of a list at a place
drop_at : {X : Type 0} (xs : List X) (i : ℕ) (x : X) → i < length xs → x ≡ get_or xs i x →
    drop i xs ≡ x ∷ drop (i + 1) xs
drop_at xs i x below is =
    let next : suc i ≡ i + 1 = omega arith in
    drop-cons xs i x below ∙ ap (λ y. y ∷ drop (suc i) xs) (sym is) ∙ ap (λ n. x ∷ drop n xs) next

module _
    {Shape Label : Type 0} (node : Shape → ℕ) (value : Shape → List Label → List ℕ → Three)
    (system : List (Sorted Shape Label)) where
  pub lives_on :
      (number : ℕ) (m : Moment) (later : List Moment) (rounds : List Round) →
      AreRounds node value system number m later rounds → length m.blocks ≡ length system →
      (b : ℕ) → Contains m.blocks b → Contains (last_moment m later).blocks b
  lives_on number m [] [] legal each b in_ = in_
  lives_on number m [] (r ∷ rounds) legal each b in_ = absurd legal
  lives_on number m (after ∷ later) [] legal each b in_ = absurd legal
  lives_on number m (after ∷ later) (r ∷ rounds) legal each b in_ =
      lives_on (number + 1) after later rounds legal.1 legal.0.one_each b
      (stays_live node value system number m after r legal.0 each b in_)

  -- After some rounds, the rest of the history is legal from the moment that is reached, and what
  -- is told of this moment holds.
  pub record IsAt (number : ℕ) (rounds : List Round) (block_of : List ℕ) (count : ℕ)
      (book : Book) : Type 0 where
    pub moment : Moment
    pub later : List Moment
    pub legal : AreRounds node value system number moment later (drop number rounds)
    pub answer : (last_moment moment later).blocks ≡ block_of
    pub told : IsTold node value system number moment book
    pub one_each : length book.blocks ≡ count
    pub one_node_each : length book.nodes ≡ count
    pub counted : IsCounted number moment book

  -- a live block has an entry
  in_entries :
      (number : ℕ) (m : Moment) (later : List Moment) (rounds : List Round) (block_of : List ℕ)
      (count : ℕ) →
      AreRounds node value system number m later rounds → length m.blocks ≡ length system →
      (last_moment m later).blocks ≡ block_of → All (λ b. b < count) block_of →
      (b : ℕ) → Contains m.blocks b → b < count
  in_entries number m later rounds block_of count legal each answer numbers b in_ =
      let (x, hx, ex) = lives_on number m later rounds legal each b in_ in
      let here : x < length block_of = subst (λ l. x < length l) answer hx in
      subst (λ c. c < count) (ap (λ l. get_or l x b) (sym answer) ∙ ex) (numbers x b here)

  module _ (number : ℕ) (rounds : List Round) (block_of : List ℕ) (count : ℕ) (book : Book)
      (at : IsAt number rounds block_of count book) (numbers : All (λ b. b < count) block_of)
      (few : length system < 2 ^ 26)
      (r : Round) (below : number < length rounds) (is : r ≡ get_or rounds number r) where
    -- the round that comes next, and the moment after it
    next : (after : Moment) × (rest : List Moment) × IsRound node value system number at.moment
        after r
        × AreRounds node value system (number + 1) after rest (drop (number + 1) rounds)
        × ((last_moment after rest).blocks ≡ block_of)
    next = by at.later (subst (λ rs. AreRounds node value system number at.moment at.later rs)
        (drop_at rounds number r below is) at.legal) at.answer
      where
        by : (later : List Moment) → AreRounds node value system number at.moment later
            (r ∷ drop (number + 1) rounds) →
            (last_moment at.moment later).blocks ≡ block_of →
            (after : Moment) × (rest : List Moment) × IsRound node value system number at.moment
            after r
            × AreRounds node value system (number + 1) after rest (drop (number + 1) rounds)
            × ((last_moment after rest).blocks ≡ block_of)
        by [] legal answer = absurd legal
        by (after ∷ rest) legal answer = (after, rest, legal.0, legal.1, answer)

    -- it may be told
    pub ready_at : IsTellable book r
    ready_at =
        let (after, rest, round, legal, answer) = next in
        let m : Moment = at.moment in
        let live : (b : ℕ) → Contains m.blocks b → b < length book.blocks =
        λ b in_. subst (λ n. b < n) (sym at.one_each)
        (in_entries number m at.later (drop number rounds) block_of count at.legal
        at.told.blocks_each at.answer numbers b in_) in
        let live_after : (b : ℕ) → Contains after.blocks b → b < length book.blocks =
        λ b in_. subst (λ n. b < n) (sym at.one_each)
        (in_entries (number + 1) after rest (drop (number + 1) rounds) block_of count legal
        round.one_each answer numbers b in_) in
        let (x, hx, inside, outside) = round.splitter_proper in
        let coarse_live : Contains m.coarse r.coarse =
        subst (λ c. Contains m.coarse c) inside
        (contains m.coarse x (subst (λ n. x < n) (sym at.told.coarse_each) hx)) in
        let split_at : (k : ℕ) (s : Split) → k < length r.splits →
        IsSplit node value system m after r (get_or r.splits k s) =
        λ k s h. round.splits k s h in
        record {
          splitter_in = live r.splitter round.splitter_live;
          splitter_there = (at.told.blocks r.splitter round.splitter_live).there;
          coarse_in = (let small : class_in m.coarse x ≤ 2 * number = at.told.small x hx in
              let same : class_in m.coarse x ≡ r.coarse = inside in omega (arith, at.told.known));
          coarse_there = (at.told.coarse r.coarse coarse_live).there;
          splits = λ k s h. (let split = round.splits k s h in record {
            parent_in = live (get_or r.splits k s).parent split.live;
            parent_there = (at.told.blocks (get_or r.splits k s).parent split.live).there;
            parts_in = λ j p inside. live_after (get_or (get_or r.splits k s).parts j p).block
                (split.none_empty j p inside);
            apart = split.numbers_apart;
          });
          parents_apart = λ i j s before h. (
              let one : Split = get_or r.splits i s in
              let two : Split = get_or r.splits j s in
              let split : IsSplit node value system m after r one =
              round.splits i s (omega arith) in
              let other : IsSplit node value system m after r two = round.splits j s h in
              λ k p inside same. elim (eqb_tells (get_or one.parts k p).block one.parent) [
                | inl keeps ↦ round.parents_apart i j s before h (sym keeps.1 ∙ same)
                | inr new ↦ split.others_new k p inside new.1
                    (subst (λ c. Contains m.blocks c) (sym same) other.live)
              ]);
          parts_apart = round.news_apart;
          room = (let most = round_room node value system number m after r round at.told.blocks_each
              at.told.coarse_each at.told.small book at.counted in
              omega arith);
        }

    module _ (in_range : (x : ℕ) (a : Sorted Shape Label) → IsState system x a →
        All (λ t. t < length system) a.targets)
        (new : Book) (step : IsRoundTold book new r) (one_each : length new.blocks
        ≡ length book.blocks)
        (one_node_each : length new.nodes ≡ length book.nodes) where
      -- and once it is told, the builder is one round further
      pub step_at : IsAt (number + 1) rounds block_of count new
      step_at =
          let (after, rest, round, legal, answer) = next in record {
            moment = after;
            later = rest;
            legal = legal;
            answer = answer;
            told = round_told node value system in_range number at.moment after r round book new
                at.told step;
            one_each = one_each ∙ at.one_each;
            one_node_each = one_node_each ∙ at.one_node_each;
            counted = round_counted node value system number at.moment after r round
                at.told.blocks_each at.told.coarse_each at.told.small book new step at.counted;
          }

  module _ (in_range : (x : ℕ) (a : Sorted Shape Label) → IsState system x a →
      All (λ t. t < length system) a.targets) where
    -- the start
    pub start_at :
        (refined : Answer) (first : Moment) (later : List Moment) →
        IsLegal node value system refined first later →
        (book : Book) → IsBegun refined.start book →
        length book.blocks ≡ refined.blocks → length book.nodes ≡ refined.blocks →
        IsAt 0 refined.rounds refined.block_of refined.blocks book
    start_at refined first later legal book begun one_each one_node_each = record {
      moment = first;
      later = later;
      legal = legal.rounds;
      answer = legal.answer;
      told = start_told node value system in_range refined.start first legal.starts book begun;
      one_each = one_each;
      one_node_each = one_node_each;
      counted = start_counted node value system refined.start first legal.starts book begun;
    }

  -- a start block has an entry
  pub starts_in :
      (refined : Answer) (first : Moment) (later : List Moment) →
      IsLegal node value system refined first later →
      All (λ (p : Start). p.block < refined.blocks) refined.start
  starts_in refined first later legal k p h =
      in_entries 0 first later refined.rounds refined.block_of refined.blocks legal.rounds
      legal.starts.one_each legal.answer legal.numbers
      (get_or refined.start k p).block (legal.starts.none_empty k p h)

  -- there are no more start blocks than states
  pub few_starts :
      (refined : Answer) (first : Moment) (later : List Moment) →
      IsLegal node value system refined first later →
      length refined.start ≤ length system
  few_starts refined first later legal =
      starts_few node value system refined.start first legal.starts

  -- there are at most six formulas for each state, and one
  pub few_at :
      (number : ℕ) (rounds : List Round) (block_of : List ℕ) (count : ℕ) (book : Book) →
      IsAt number rounds block_of count book → length book.dag ≤ 6 * length system + 1
  few_at number rounds block_of count book at =
      omega (
        arith,
        at.counted.count,
        few_of number (length system) at.moment at.counted.lists
            at.told.blocks_each at.told.coarse_each,
      )

  -- the end
  pub end_at :
      (number : ℕ) (rounds : List Round) (block_of : List ℕ) (count : ℕ) (book : Book) →
      IsAt number rounds block_of count book → length rounds ≤ number →
      BlocksAreTold node value system book.dag book.blocks block_of
  end_at number rounds block_of count book at past =
      subst (λ l. BlocksAreTold node value system book.dag book.blocks l) last (record {
        ordered = at.told.ordered;
        there = λ x hx. (says x hx).there;
        exactly = λ x y hx hy. (says x hx).exactly y hy;
        shown = λ k q v s c e. at.told.shown q v (k, s, c, e);
      })
    where
      says : (x : ℕ) → x < length system →
          Tells node value system book.dag (slice_index book.blocks (class_in at.moment.blocks x))
          (λ y. class_in at.moment.blocks y == class_in at.moment.blocks x)
      says x hx =
          at.told.blocks (class_in at.moment.blocks x)
          (contains at.moment.blocks x (subst (λ n. x < n) (sym at.told.blocks_each) hx))

      by : (later : List Moment) → AreRounds node value system number at.moment later [] →
          (last_moment at.moment later).blocks ≡ block_of → at.moment.blocks ≡ block_of
      by [] legal answer = answer
      by (after ∷ rest) legal answer = absurd legal

      last : at.moment.blocks ≡ block_of
      last = by at.later (subst (λ rs. AreRounds node value system number at.moment at.later rs)
          (drop_all number rounds past) at.legal) at.answer
