-- What is told of blocks holds of them: at the start, after each round, and so at the end.
use Rattle.std.proofs.Common.{length-append, ◌≡◌, ◌≢◌, ◌+◌, ◌*◌, ◌<◌, ◌≤◌, ◌==◌, ◌&&◌, not, ℕ, zero, suc, Bool, true, List, [], ◌∷◌, length, map, get_or, refl, sym, ◌∙◌, ap, subst, inl, inr, arith}
use Rattle.std.specs.Prelude.{All, Contains, slice_index, ◌↔◌, if◌then◌else◌}
use Rattle.std.proofs.lemmas.Bool.{eq-eqb, eqb-true, and_parts, and_from}
use Rattle.std.proofs.lemmas.Bool.Decides.{eqb_tells, nat_tests}
use Rattle.std.proofs.lemmas.Option.{slice_get_within}
use Rattle.modalities.specs.declared.three.Three.{Three}
use Rattle.sorted_systems.specs.Systems.{Sorted, IsState, HasNode, HasValue, class_in}
use Rattle.refiner.specs.declared.parts.Start.{Start}
use Rattle.refiner.specs.declared.parts.Part.{Part}
use Rattle.refiner.specs.Recorded.{Split}
use Rattle.refiner.specs.Recorded.{Round}
use Rattle.refiner.specs.History.{Moment, last_moment, round_trit, coarse_after, IsStart, IsSplit, IsRound, AreRounds}
use Rattle.formulas.specs.declared.formula.Formula.{Formula}
use Rattle.formulas.specs.declared.formula.Formula.TheVariants.{True, Not, And, At}
use Rattle.formulas.specs.Formulas.{IsDag}
use Rattle.formulas.specs.Truth.{Layers, trit, holds}
use Rattle.formulas.proofs.TruthLaws.{holds-by_cases, holds-append}
use Rattle.formula_builder.specs.SortedLayers.{sorted_layers, IsShown}
use Rattle.formula_builder.specs.Books.{Book, IsFormula, HasModality, IsBegun, IsPartTold, IsNoPart, IsRoundTold, AreRoundsTold, last_book}
use Rattle.formula_builder.proofs.Lists.{same_test, all_at, find_number, find_within, get_or-first, get_or-second, contains, place_of_contained}
use Rattle.formula_builder.proofs.Telling.{Tells, state_at, node_is, modality_tells}

-- ---- numbers of coarse blocks

-- the coarse block of a state after a round
abbrev pub next : ℕ → ℕ → ℕ → ℕ → ℕ → ℕ → ℕ
next b c splitter split inner outer =
    if b == splitter then inner else (if c == split then outer else c)

-- the coarse block of a state after a round
pub class-coarse_after :
    (bs cs : List ℕ) (r : Round) (x : ℕ) → length cs ≡ length bs → x < length bs →
    class_in (coarse_after bs cs r) x
    ≡ next (class_in bs x) (class_in cs x) r.splitter r.coarse r.inner r.outer
class-coarse_after [] cs r x e h = absurd (omega arith)
class-coarse_after (b ∷ bs) [] r x e h = absurd (omega arith)
class-coarse_after (b ∷ bs) (c ∷ cs) r zero e h = refl
class-coarse_after (b ∷ bs) (c ∷ cs) r (suc x) e h =
    class-coarse_after bs cs r x (omega arith) (omega arith)

-- a round keeps the number of states
pub length-coarse_after :
    (bs cs : List ℕ) (r : Round) → length cs ≡ length bs →
    length (coarse_after bs cs r) ≡ length bs
length-coarse_after [] cs r e = refl
length-coarse_after (b ∷ bs) [] r e = absurd (omega arith)
length-coarse_after (b ∷ bs) (c ∷ cs) r e = ap suc (length-coarse_after bs cs r (omega arith))

-- who is in the new coarse blocks, and in another
inner_test :
    (b c splitter split inner outer : ℕ) → inner ≢ outer → c ≢ inner →
    (next b c splitter split inner outer == inner) ≡ (b == splitter)
inner_test b c splitter split inner outer apart fresh = grind (arith, nat_tests)

outer_test :
    (b c splitter split inner outer : ℕ) → inner ≢ outer → c ≢ outer →
    (next b c splitter split inner outer == outer) ≡ ((c == split) && not (b == splitter))
outer_test b c splitter split inner outer apart fresh = grind (arith, nat_tests)

other_test :
    (b c splitter split inner outer d : ℕ) → d ≢ inner → d ≢ outer → d ≢ split →
    (b ≡ splitter → c ≡ split) →
    (next b c splitter split inner outer == d) ≡ (c == d)
other_test b c splitter split inner outer d not_inner not_outer not_split within =
    grind (arith, nat_tests)

-- the old coarse block is left
left_behind :
    (b c splitter split inner outer d : ℕ) → d ≢ inner → d ≢ outer →
    next b c splitter split inner outer ≡ d → (c ≡ d) × (d ≢ split)
left_behind b c splitter split inner outer d not_inner not_outer is =
    elim (eqb_tells b splitter) [
      | inl here ↦ absurd (not_inner (sym is ∙ rw here.0 refl))
      | inr away ↦ elim (eqb_tells c split) [
        | inl here ↦ absurd (not_outer (sym is ∙ rw (away.0, here.0) refl))
        | inr other ↦ (
            let same : c ≡ d = sym (rw (away.0, other.0) refl) ∙ is in
            (same, λ e. other.1 (same ∙ e)))
      ]
    ]

-- trits of all targets
mapped_length : (f : ℕ → ℕ) (xs : List ℕ) → length (map f xs) ≡ length xs
mapped_length f [] = refl
mapped_length f (x ∷ xs) = ap suc (mapped_length f xs)

all_mapped : (f : ℕ → ℕ) → ((t : ℕ) → f t ≤ 2) → (xs : List ℕ) → All (λ t. t ≤ 2) (map f xs)
all_mapped f few [] k d below = absurd (omega arith)
all_mapped f few (x ∷ xs) zero d below = few x
all_mapped f few (x ∷ xs) (suc k) d below = all_mapped f few xs k d (omega arith)

-- a round's trit is at most 2
trit_few : (m : Moment) (r : Round) (t : ℕ) → round_trit m r t ≤ 2
trit_few m r t = grind (arith, nat_tests)

-- the trit of a target in a round, from the truths of the two formulas
round_trit_is :
    (b c splitter split : ℕ) → (b ≡ splitter → c ≡ split) →
    ◌≡◌ {A = ℕ} (trit (b == splitter) (c == split))
    (if b == splitter then 2 else (if c == split then 1 else 0))
round_trit_is b c splitter split within = grind (arith, nat_tests)

module _
    {Shape Label : Type 0} (node : Shape → ℕ) (value : Shape → List Label → List ℕ → Three)
    (system : List (Sorted Shape Label)) where
  abbrev layers : Layers ℕ
  layers = sorted_layers node value system

  abbrev Says : List Formula → ℕ → (ℕ → Bool) → Type 0
  Says = Tells node value system

  -- At a moment, the formula of each block holds at exactly its members, and so does the formula of
  -- each coarse block. The node of a block is that of its members.
  pub record IsTold (number : ℕ) (m : Moment) (book : Book) : Type 0 where
    pub ordered : IsDag book.dag
    pub blocks_each : length m.blocks ≡ length system
    pub coarse_each : length m.coarse ≡ length system
    pub blocks :
        (b : ℕ) → Contains m.blocks b →
        Tells node value system book.dag (slice_index book.blocks b) (λ x. class_in m.blocks x == b)
    pub nodes :
        (x : ℕ) → x < length system →
        (sorted_layers node value system).node x ≡ slice_index book.nodes (class_in m.blocks x)
    pub coarse :
        (c : ℕ) → Contains m.coarse c →
        Tells node value system book.dag (slice_index book.coarse c) (λ x. class_in m.coarse x == c)
    pub known : length book.coarse ≡ 2 * number + 1
    pub small : (x : ℕ) → x < length system → class_in m.coarse x ≤ 2 * number
    pub shown : (q : ℕ) (v : Three) → HasModality book q v → IsShown node value system q v

  -- a state's node and value are shown by it
  shown_by :
      (x : ℕ) (q : ℕ) (v : Three) (trit_of : ℕ → ℕ) → ((t : ℕ) → trit_of t ≤ 2) →
      (sorted_layers node value system).node x ≡ q → HasValue value system trit_of x v →
      IsShown node value system q v
  shown_by x q v trit_of few nodes has = record {
    place = x;
    state = has.0;
    is_state = has.1;
    node_is = sym (node_is node value system x has.0 has.1) ∙ nodes;
    trits = map trit_of has.0.targets;
    one_each = mapped_length trit_of has.0.targets;
    small = all_mapped trit_of few has.0.targets;
    value_is = has.2;
  }

  module _ (in_range : (x : ℕ) (a : Sorted Shape Label) → IsState system x a →
      All (λ t. t < length system) a.targets) where
    -- what passes some states passes them in another order of words
    retell :
        (dag : List Formula) (k l : ℕ) (test tests : ℕ → Bool) → Says dag k test → k ≡ l →
        ((x : ℕ) → x < length system → test x ≡ tests x) → Says dag l tests
    retell dag k l test tests says e same = record {
      there = subst (λ j. j < length dag) e says.there;
      exactly = λ x h. ap (λ j. holds layers dag j x) (sym e) ∙ says.exactly x h ∙ same x h;
    }

    module _ (number : ℕ) (before after : Moment) (r : Round)
        (round : IsRound node value system number before after r) (old new : Book)
        (told : IsTold number before old) (step : IsRoundTold old new r) where
      abbrev was : ℕ → ℕ
      was x = class_in before.blocks x

      abbrev later : ℕ → ℕ
      later x = class_in after.blocks x

      abbrev within : ℕ → ℕ
      within x = class_in before.coarse x

      abbrev Val : ℕ → Three → Type 0
      Val x v = HasValue value system (round_trit before r) x v

      -- the block of a state is live
      live : (x : ℕ) → x < length system → Contains before.blocks (was x)
      live x h = contains before.blocks x (subst (λ n. x < n) (sym told.blocks_each) h)

      -- a split of the round, at its place
      split_is :
          (k : ℕ) (s : Split) → k < length r.splits → get_or r.splits k s ≡ s →
          IsSplit node value system before after r s
      split_is k s h e =
          all_at (λ (t : Split). IsSplit node value system before after r t) r.splits k s
          round.splits h e

      -- a part of a split, at their places
      part_is :
          (k : ℕ) (s : Split) → k < length r.splits → get_or r.splits k s ≡ s →
          (j : ℕ) (p : Part) → j < length s.parts → get_or s.parts j p ≡ p →
          IsPartTold old new r s p
      part_is k s hk ek j p hj ej =
          all_at (λ (q : Part). IsPartTold old new r s q) s.parts j p
          (all_at (λ (t : Split). All (λ (q : Part). IsPartTold old new r t q) t.parts)
          r.splits k s step.parts hk ek) hj ej

      -- what is told stays told
      kept : (k : ℕ) (test : ℕ → Bool) → Says old.dag k test → Says new.dag k test
      kept k test says = record {
        there = (let h : k < length old.dag = says.there in
            let e = ap length step.longer ∙ length-append old.dag step.more in omega arith);
        exactly = λ x h. (ap (λ d. holds layers d k x) step.longer
            ∙ (λ i. holds-append layers old.dag step.more told.ordered
            (subst IsDag step.longer step.ordered) k says.there i x) ∙ says.exactly x h);
      }

      splitter_says : Says new.dag (slice_index old.blocks r.splitter) (λ x. was x == r.splitter)
      splitter_says = kept (slice_index old.blocks r.splitter) (λ x. was x == r.splitter)
          (told.blocks r.splitter round.splitter_live)

      coarse_live : Contains before.coarse r.coarse
      coarse_live =
          let (x, h, here, away) = round.splitter_proper in
          subst (λ c. Contains before.coarse c) here
          (contains before.coarse x (subst (λ n. x < n) (sym told.coarse_each) h))

      coarse_says : Says new.dag (slice_index old.coarse r.coarse) (λ x. within x == r.coarse)
      coarse_says = kept (slice_index old.coarse r.coarse) (λ x. within x == r.coarse)
          (told.coarse r.coarse coarse_live)

      trits :
          (t : ℕ) → t < length system →
          trit (holds layers new.dag (slice_index old.blocks r.splitter) t)
          (holds layers new.dag (slice_index old.coarse r.coarse) t) ≡ round_trit before r t
      trits t h =
          (λ i. trit (splitter_says.exactly t h i) (coarse_says.exactly t h i))
          ∙ round_trit_is (was t) (within t) r.splitter r.coarse (round.splitter_within t h)

      -- the formula of a part holds at exactly its members
      part_says :
          (s : Split) → IsSplit node value system before after r s → (j : ℕ) (p : Part) →
          j < length s.parts → get_or s.parts j p ≡ p → IsPartTold old new r s p →
          Says new.dag (slice_index new.blocks p.block) (λ x. later x == p.block)
      part_says s split j p hj ej part = record {
        there = slice_get_within new.dag (slice_index new.blocks p.block)
            (And part.at (slice_index old.blocks s.parent)) part.both;
        exactly = holds_at;
      }
        where
          parent_says : Says new.dag (slice_index old.blocks s.parent) (λ x. was x == s.parent)
          parent_says = kept (slice_index old.blocks s.parent) (λ x. was x == s.parent)
              (told.blocks s.parent split.live)

          holds_at : (x : ℕ) → x < length system →
              holds layers new.dag (slice_index new.blocks p.block) x ≡ (later x == p.block)
          holds_at x h =
              let a : Bool = holds layers new.dag part.at x in
              let b : Bool = holds layers new.dag (slice_index old.blocks s.parent) x in
              let cases : holds layers new.dag (slice_index new.blocks p.block) x ≡ (a && b) =
              holds-by_cases layers new.dag step.ordered (slice_index new.blocks p.block)
              (And part.at (slice_index old.blocks s.parent)) part.both x in
              let modality : (a ≡ true) ↔ ((layers.node x ≡ slice_index old.nodes s.parent)
              × Val x p.three) =
              modality_tells node value system in_range new.dag step.ordered part.at
              (slice_index old.nodes s.parent) p.three (slice_index old.blocks r.splitter)
              (slice_index old.coarse r.coarse) part.modality (round_trit before r) trits x h in
              let member : (later x ≡ p.block) ↔ ((was x ≡ s.parent) × Val x p.three) =
              all_at (λ (q : Part). (y : ℕ) → y < length system →
              (later y ≡ q.block) ↔ ((was y ≡ s.parent) × Val y q.three)) s.parts j p split.exactly
              hj ej x h in
              same_test (holds layers new.dag (slice_index new.blocks p.block) x)
              (later x == p.block)
              (λ held. (let both = and_parts a b (sym cases ∙ held) in
              eq-eqb (later x) p.block
              (member.1 (
                eqb-true (was x) s.parent (sym (parent_says.exactly x h) ∙ both.1),
                (modality.0 both.0).1,
              ))))
              (λ e. (let came = member.0 (eqb-true (later x) p.block e) in
              cases ∙ and_from a b (modality.1 (
                told.nodes x h ∙ ap (slice_index old.nodes) came.0,
                came.1,
              ))
              (parent_says.exactly x h ∙ eq-eqb (was x) s.parent came.0)))

      -- the members of a block that is no part are those of before
      stays_from : (b : ℕ) → IsNoPart r.splits b → (x : ℕ) → x < length system → later x ≡ b →
          was x ≡ b
      stays_from b none x h e = elim (find_number (λ (s : Split). s.parent) r.splits (was x)) [
        | inl found ↦ (
            let goes = (split_is found.0 found.1 found.2 found.3).each_in x h (sym found.4) in
            absurd (all_at (λ (p : Part). p.block ≢ b) found.1.parts goes.0 goes.1
            (all_at (λ (s : Split). All (λ (p : Part). p.block ≢ b) s.parts) r.splits found.0
            found.1 none found.2 found.3)
            goes.2 goes.3 (sym goes.4 ∙ e)))
        | inr stays ↦ sym (round.others_stay x h stays) ∙ e
      ]

      stays_to : (b : ℕ) → IsNoPart r.splits b → (x : ℕ) → x < length system → was x ≡ b →
          later x ≡ b
      stays_to b none x h e = elim (find_number (λ (s : Split). s.parent) r.splits (was x)) [
        | inl found ↦ (
            let keeps = (split_is found.0 found.1 found.2 found.3).one_keeps in
            absurd (all_at (λ (p : Part). p.block ≢ b) found.1.parts keeps.0 keeps.1
            (all_at (λ (s : Split). All (λ (p : Part). p.block ≢ b) s.parts) r.splits found.0
            found.1 none found.2 found.3)
            keeps.2 keeps.3 (keeps.4 ∙ found.4 ∙ e)))
        | inr stays ↦ round.others_stay x h stays ∙ e
      ]

      -- the formula of each block holds at exactly its members
      blocks_say : (b : ℕ) → Contains after.blocks b → Says new.dag (slice_index new.blocks b)
          (λ x. later x == b)
      blocks_say b in_ =
          elim (find_within (λ (s : Split). s.parts) (λ (p : Part). p.block) r.splits b) [
            | inl found ↦ (
                let (k, s, hk, ek, inner) = found in
                let (j, p, hj, ej, e) = inner in
                let says : Says new.dag (slice_index new.blocks p.block) (λ x. later x == p.block) =
                part_says s (split_is k s hk ek) j p hj ej (part_is k s hk ek j p hj ej) in
                retell new.dag (slice_index new.blocks p.block) (slice_index new.blocks b)
                (λ x. later x == p.block) (λ x. later x == b) says (ap (slice_index new.blocks) e)
                (λ x h. ap (λ c. later x == c) e))
            | inr none ↦ (
                let (x, hx, ex) = place_of_contained after.blocks b in_ in
                let here : x < length system = subst (λ n. x < n) round.one_each hx in
                let came : was x ≡ b = stays_from b none x here ex in
                let says : Says new.dag (slice_index old.blocks b) (λ x. was x == b) =
                kept (slice_index old.blocks b) (λ x. was x == b)
                (told.blocks b (subst (λ c. Contains before.blocks c) came (live x here))) in
                retell new.dag (slice_index old.blocks b) (slice_index new.blocks b)
                (λ x. was x == b) (λ x. later x == b) says (sym (step.others b none).0)
                (λ y h. same_test (was y == b) (later y == b)
                (λ e. eq-eqb (later y) b (stays_to b none y h (eqb-true (was y) b e)))
                (λ e. eq-eqb (was y) b (stays_from b none y h (eqb-true (later y) b e)))))
          ]

      -- a block has the node of its members
      nodes_are : (x : ℕ) → x < length system → layers.node x ≡ slice_index new.nodes (later x)
      nodes_are x h = elim (find_number (λ (s : Split). s.parent) r.splits (was x)) [
        | inl found ↦ (
            let goes = (split_is found.0 found.1 found.2 found.3).each_in x h (sym found.4) in
            let part : IsPartTold old new r found.1 goes.1 =
            part_is found.0 found.1 found.2 found.3 goes.0 goes.1 goes.2 goes.3 in
            told.nodes x h ∙ ap (slice_index old.nodes) (sym found.4) ∙ sym part.node_is
            ∙ ap (slice_index new.nodes) (sym goes.4))
        | inr stays ↦ elim (find_within (λ (s : Split). s.parts) (λ (p : Part). p.block) r.splits
            (was x)) [
              | inl found ↦ (
                  let (k, s, hk, ek, inner) = found in
                  let (j, p, hj, ej, e) = inner in
                  let split : IsSplit node value system before after r s = split_is k s hk ek in
                  elim (eqb_tells p.block s.parent) [
                    | inl keeps ↦
                        absurd (all_at (λ (t : Split). t.parent ≢ was x) r.splits k s stays hk
                        ek (sym keeps.1 ∙ e))
                    | inr other ↦
                        absurd (all_at (λ (q : Part). q.block ≢ s.parent →
                        ¬ Contains before.blocks q.block) s.parts j p
                        split.others_new hj ej other.1
                        (subst (λ c. Contains before.blocks c) (sym e)
                        (live x h)))
                  ])
              | inr none ↦ told.nodes x h ∙ sym (step.others (was x) none).1
                  ∙ ap (slice_index new.nodes) (sym (round.others_stay x h stays))
            ]
      ]

      -- the coarse block of a state after the round
      pub next_is : (x : ℕ) → x < length system →
          class_in after.coarse x ≡ next (was x) (within x) r.splitter r.coarse r.inner r.outer
      next_is x h =
          ap (λ cs. class_in cs x) round.coarse_is
          ∙ class-coarse_after before.blocks before.coarse r x (told.coarse_each
          ∙ sym told.blocks_each)
          (subst (λ n. x < n) (sym told.blocks_each) h)

      pub coarse_length : length after.coarse ≡ length system
      coarse_length = ap length round.coarse_is
          ∙ length-coarse_after before.blocks before.coarse r (told.coarse_each
          ∙ sym told.blocks_each)
          ∙ told.blocks_each

      pub apart : r.inner ≢ r.outer
      apart e = omega (arith, round.inner_is, round.outer_is, e)

      not_inner : (x : ℕ) → x < length system → within x ≢ r.inner
      not_inner x h e = omega (arith, told.small x h, round.inner_is, e)

      not_outer : (x : ℕ) → x < length system → within x ≢ r.outer
      not_outer x h e = omega (arith, told.small x h, round.outer_is, e)

      -- the formula of `outer`
      outer_says : Says new.dag step.outer
          (λ x. (within x == r.coarse) && not (was x == r.splitter))
      outer_says = record {
        there = slice_get_within new.dag step.outer
            (And (slice_index old.coarse r.coarse) step.denied) step.outer_is;
        exactly = λ x h. (
            holds-by_cases layers new.dag step.ordered step.outer
            (And (slice_index old.coarse r.coarse) step.denied) step.outer_is x
            ∙ (λ i. coarse_says.exactly x h i
            && holds-by_cases layers new.dag step.ordered step.denied
            (Not (slice_index old.blocks r.splitter)) step.denied_is x i)
            ∙ (λ i. (within x == r.coarse) && not (splitter_says.exactly x h i)));
      }

      -- the numbers that the new coarse blocks have
      coarse_inner : slice_index new.coarse r.inner ≡ slice_index old.blocks r.splitter
      coarse_inner = ap (λ cs. slice_index cs r.inner) step.coarse
          ∙ get_or-second old.coarse (slice_index old.blocks r.splitter ∷ step.outer ∷ []) r.inner 0
          0
          (omega (arith, told.known, round.inner_is))

      coarse_outer : slice_index new.coarse r.outer ≡ step.outer
      coarse_outer = ap (λ cs. slice_index cs r.outer) step.coarse
          ∙ get_or-second old.coarse (slice_index old.blocks r.splitter ∷ step.outer ∷ []) r.outer 1
          0
          (omega (arith, told.known, round.outer_is))

      coarse_other : (c : ℕ) → c ≤ 2 * number → slice_index new.coarse c ≡ slice_index old.coarse c
      coarse_other c h = ap (λ cs. slice_index cs c) step.coarse
          ∙ get_or-first old.coarse (slice_index old.blocks r.splitter ∷ step.outer ∷ []) c 0
          (omega (arith, told.known, h))

      -- the formula of each coarse block holds at exactly its members
      coarse_say : (c : ℕ) → Contains after.coarse c → Says new.dag (slice_index new.coarse c)
          (λ x. class_in after.coarse x == c)
      coarse_say c in_ = elim (eqb_tells c r.inner) [
        | inl inside ↦
            retell new.dag (slice_index old.blocks r.splitter) (slice_index new.coarse c)
            (λ x. was x == r.splitter) (λ x. class_in after.coarse x == c) splitter_says
            (sym coarse_inner ∙ ap (slice_index new.coarse) (sym inside.1))
            (λ x h. sym (inner_test (was x) (within x) r.splitter r.coarse r.inner r.outer apart
            (not_inner x h))
            ∙ sym (λ i. next_is x h i == inside.1 i))
        | inr not_in ↦ elim (eqb_tells c r.outer) [
          | inl outside ↦
              retell new.dag step.outer (slice_index new.coarse c)
              (λ x. (within x == r.coarse) && not (was x == r.splitter))
              (λ x. class_in after.coarse x == c) outer_says
              (sym coarse_outer ∙ ap (slice_index new.coarse) (sym outside.1))
              (λ x h. sym (outer_test (was x) (within x) r.splitter r.coarse r.inner r.outer apart
              (not_outer x h))
              ∙ sym (λ i. next_is x h i == outside.1 i))
          | inr not_out ↦ (
              let (x, hx, ex) = place_of_contained after.coarse c in_ in
              let here : x < length system = subst (λ n. x < n) coarse_length hx in
              let came : (within x ≡ c) × (c ≢ r.coarse) =
              left_behind (was x) (within x) r.splitter r.coarse r.inner r.outer c not_in.1
              not_out.1 (sym (next_is x here) ∙ ex) in
              let says : Says new.dag (slice_index old.coarse c) (λ y. within y == c) =
              kept (slice_index old.coarse c) (λ y. within y == c)
              (told.coarse c (subst (λ d. Contains before.coarse d) came.0
              (contains before.coarse x (subst (λ n. x < n) (sym told.coarse_each) here)))) in
              retell new.dag (slice_index old.coarse c) (slice_index new.coarse c)
              (λ y. within y == c) (λ y. class_in after.coarse y == c) says
              (sym (coarse_other c (subst (λ d. d ≤ 2 * number) came.0 (told.small x here))))
              (λ y h. sym (other_test (was y) (within y) r.splitter r.coarse r.inner r.outer c
              not_in.1 not_out.1 came.1 (round.splitter_within y h))
              ∙ ap (λ d. d == c) (sym (next_is y h))))
        ]
      ]

      still_small : (x : ℕ) → x < length system → class_in after.coarse x ≤ 2 * (number + 1)
      still_small x h =
          rw (next_is x h) (let small : within x ≤ 2 * number = told.small x h in
          let inner : r.inner ≡ 2 * number + 1 = round.inner_is in
          let outer : r.outer ≡ 2 * number + 2 = round.outer_is in grind (arith, nat_tests))

      -- each modality is that of a state
      shown_after : (q : ℕ) (v : Three) → HasModality new q v → IsShown node value system q v
      shown_after q v has = elim (step.modalities q v has) [
        | inl before ↦ told.shown q v before
        | inr some ↦ (
            let (k, s, hk, ek, inner) = some in
            let (j, p, hj, ej, is) = inner in
            let split : IsSplit node value system before after r s = split_is k s hk ek in
            let (x, hx, ex) = place_of_contained after.blocks p.block
            (all_at (λ (o : Part). Contains after.blocks o.block) s.parts j p split.none_empty hj
            ej) in
            let here : x < length system = subst (λ n. x < n) round.one_each hx in
            let came : (was x ≡ s.parent) × Val x p.three =
            (all_at (λ (o : Part). (y : ℕ) → y < length system →
            (later y ≡ o.block) ↔ ((was y ≡ s.parent) × Val y o.three)) s.parts j p split.exactly hj
            ej x here).0 ex in
            shown_by x q v (round_trit before r) (trit_few before r)
            (told.nodes x here ∙ ap (slice_index old.nodes) came.0 ∙ is.0)
            (subst (λ w. Val x w) is.1 came.1))
      ]

      -- a round that is told keeps what is told
      pub round_told : IsTold (number + 1) after new
      round_told = record {
        ordered = step.ordered;
        blocks_each = round.one_each;
        coarse_each = coarse_length;
        blocks = blocks_say;
        nodes = nodes_are;
        coarse = coarse_say;
        known = ap length step.coarse ∙ length-append old.coarse
            (slice_index old.blocks r.splitter ∷ step.outer ∷ []) ∙ omega (arith, told.known);
        small = still_small;
        shown = shown_after;
      }

    module _ (start : List Start) (m : Moment) (starts : IsStart node value system start m)
        (book : Book) (begun : IsBegun start book) where
      -- formula 0 holds everywhere
      top_says : (test : ℕ → Bool) → ((x : ℕ) → x < length system → true ≡ test x) →
          Says book.dag 0 test
      top_says test same = record {
        there = slice_get_within book.dag 0 True begun.top;
        exactly = λ x h. holds-by_cases layers book.dag begun.ordered 0 True begun.top x ∙ same x h;
      }

      -- the members of a start block
      members : (k : ℕ) (p : Start) → k < length start → get_or start k p ≡ p → (x : ℕ) →
          x < length system →
          (class_in m.blocks x ≡ p.block)
          ↔ (HasNode node system x p.node × HasValue value system (λ _. 2) x p.three)
      members k p hk ek x h =
          all_at (λ (q : Start). (y : ℕ) → y < length system →
          (class_in m.blocks y ≡ q.block)
          ↔ (HasNode node system y q.node × HasValue value system (λ _. 2) y q.three))
          start k p starts.exactly hk ek x h

      -- the formula of a start block holds at exactly its members
      start_says : (k : ℕ) (p : Start) → k < length start → get_or start k p ≡ p →
          Says book.dag (slice_index book.blocks p.block) (λ x. class_in m.blocks x == p.block)
      start_says k p hk ek = record {
        there = slice_get_within book.dag (slice_index book.blocks p.block) (At p.node p.three 0 0)
            told;
        exactly = holds_at;
      }
        where
          told : IsFormula book (slice_index book.blocks p.block) (At p.node p.three 0 0)
          told = all_at (λ (q : Start). IsFormula book (slice_index book.blocks q.block)
              (At q.node q.three 0 0)) start k p begun.blocks hk ek

          twos : (t : ℕ) → t < length system →
              trit (holds layers book.dag 0 t) (holds layers book.dag 0 t) ≡ 2
          twos t h = let top = (top_says (λ _. true) (λ x h. refl)).exactly t h in
              λ i. trit (top i) (top i)

          holds_at : (x : ℕ) → x < length system →
              holds layers book.dag (slice_index book.blocks p.block) x
              ≡ (class_in m.blocks x == p.block)
          holds_at x h =
              let (a, at) = state_at node value system x h in
              let modality : (holds layers book.dag (slice_index book.blocks p.block) x ≡ true)
              ↔ ((layers.node x ≡ p.node) × HasValue value system (λ _. 2) x p.three) =
              modality_tells node value system in_range book.dag begun.ordered
              (slice_index book.blocks p.block)
              p.node p.three 0 0 told (λ _. 2) twos x h in
              let member = members k p hk ek x h in
              same_test (holds layers book.dag (slice_index book.blocks p.block) x)
              (class_in m.blocks x == p.block)
              (λ held. (let both = modality.0 held in
              eq-eqb (class_in m.blocks x) p.block
              (member.1 ((a, at, sym (node_is node value system x a at) ∙ both.0), both.1))))
              (λ e. (let is = member.0 (eqb-true (class_in m.blocks x) p.block e) in
              modality.1 (node_is node value system x is.0.0 is.0.1 ∙ is.0.2, is.1)))

      zero_at : {X : Type 0} (xs : List X) (t : ℕ) → ◌≡◌ {A = ℕ} (get_or (map (λ _. 0) xs) t 0) 0
      zero_at [] t = refl
      zero_at (x ∷ xs) zero = refl
      zero_at (x ∷ xs) (suc t) = zero_at xs t

      length-zeros : {X : Type 0} (xs : List X) → length {A = ℕ} (map (λ _. 0) xs) ≡ length xs
      length-zeros [] = refl
      length-zeros (x ∷ xs) = ap suc (length-zeros xs)

      zero_coarse : (t : ℕ) → class_in m.coarse t ≡ 0
      zero_coarse t = ap (λ cs. class_in cs t) starts.one_coarse ∙ zero_at system t

      blocks_begin : (b : ℕ) → Contains m.blocks b → Says book.dag (slice_index book.blocks b)
          (λ x. class_in m.blocks x == b)
      blocks_begin b in_ =
          let (x, hx, ex) = place_of_contained m.blocks b in_ in
          let (k, p, hk, ek, e) = starts.each_in x (subst (λ n. x < n) starts.one_each hx) in
          let same : p.block ≡ b = sym e ∙ ex in
          retell book.dag (slice_index book.blocks p.block) (slice_index book.blocks b)
          (λ y. class_in m.blocks y == p.block) (λ y. class_in m.blocks y == b)
          (start_says k p hk ek) (ap (slice_index book.blocks) same)
          (λ y h. ap (λ c. class_in m.blocks y == c) same)

      nodes_begin : (x : ℕ) → x < length system → layers.node x
          ≡ slice_index book.nodes (class_in m.blocks x)
      nodes_begin x h =
          let (k, p, hk, ek, e) = starts.each_in x h in
          let has = ((members k p hk ek x h).0 e).0 in
          node_is node value system x has.0 has.1 ∙ has.2
          ∙ sym (all_at (λ (q : Start). slice_index book.nodes q.block ≡ q.node) start k p
          begun.nodes hk ek)
          ∙ ap (slice_index book.nodes) (sym e)

      coarse_begin : (c : ℕ) → Contains m.coarse c → Says book.dag (slice_index book.coarse c)
          (λ x. class_in m.coarse x == c)
      coarse_begin c in_ =
          let (x, hx, ex) = place_of_contained m.coarse c in_ in
          let none : c ≡ 0 = sym ex ∙ zero_coarse x in
          retell book.dag 0 (slice_index book.coarse c) (λ _. true) (λ y. class_in m.coarse y == c)
          (top_says (λ _. true) (λ y h. refl))
          (sym (ap (λ cs. slice_index cs 0) begun.coarse) ∙ ap (slice_index book.coarse) (sym none))
          (λ y h. sym (eq-eqb (class_in m.coarse y) c (zero_coarse y ∙ sym none)))

      -- what is told of the start blocks holds
      pub start_told : IsTold 0 m book
      start_told = record {
        ordered = begun.ordered;
        blocks_each = starts.one_each;
        coarse_each = ap length starts.one_coarse ∙ length-zeros system;
        blocks = blocks_begin;
        nodes = nodes_begin;
        coarse = coarse_begin;
        known = ap length begun.coarse;
        small = λ x h. rw (zero_coarse x) (omega arith);
        shown = λ q v has. (
            let (k, p, hk, ek, is) = begun.modalities q v has in
            let (x, hx, ex) = place_of_contained m.blocks p.block
            (all_at (λ (o : Start). Contains m.blocks o.block) start k p starts.none_empty hk ek) in
            let here : x < length system = subst (λ n. x < n) starts.one_each hx in
            let member = (members k p hk ek x here).0 ex in
            shown_by x q v (λ _. 2) (λ t. omega arith)
            (node_is node value system x member.0.0 member.0.1 ∙ member.0.2 ∙ is.0)
            (subst (λ w. HasValue value system (λ _. 2) x w) is.1 member.1));
      }

    -- what is told of all rounds holds at the end
    pub rounds_told :
        (number : ℕ) (m : Moment) (later : List Moment) (rounds : List Round) (book : Book)
        (books : List Book) →
        AreRounds node value system number m later rounds → AreRoundsTold book books rounds →
        IsTold number m book → (last : ℕ) × IsTold last (last_moment m later) (last_book book books)
    rounds_told number m [] [] book [] legal steps told = (number, told)
    rounds_told number m [] [] book (b ∷ books) legal steps told = absurd steps
    rounds_told number m [] (r ∷ rounds) book books legal steps told = absurd legal
    rounds_told number m (after ∷ later) [] book books legal steps told = absurd legal
    rounds_told number m (after ∷ later) (r ∷ rounds) book [] legal steps told = absurd steps
    rounds_told number m (after ∷ later) (r ∷ rounds) book (next ∷ books) legal steps told =
        rounds_told (number + 1) after later rounds next books legal.1 steps.1
        (round_told number m after r legal.0 book next told steps.0)
