-- One block more is split by the values of its members.
use Rattle.std.proofs.Common.{◌≡◌, ◌≢◌, ◌+◌, ◌<◌, ◌≤◌, ◌⊎◌, ℕ, List, [], ◌∷◌, ◌++◌, length, get_or, refl, sym, ◌∙◌, ap, subst, inl, inr, arith}
use Rattle.std.specs.Prelude.{All}
use Rattle.std.proofs.lemmas.Bool.{cases_eq, cases_lt}
use Rattle.std.proofs.lemmas.List.{get_or_default, get_or_append_left, get_or_push, length_push}
use Rattle.std.proofs.lemmas.List.Elements.{All-push, All-weaker}
use Rattle.std.proofs.lemmas.List.Quantifiers.{all_pairs_push}
use Rattle.modalities.specs.declared.three.Three.{Three}
use Rattle.refiner.specs.declared.parts.Part.{Part}
use Rattle.refiner.specs.Recorded.{Split}
use Rattle.refinable_partition.specs.Blocks.{Blocks, block_at, states_of, IsMembers}
use Rattle.refiner.specs.Grouping.{value_at, HasMember, WentTo, IsCut, IsSplitBy, AreApart, AreCut}
use Rattle.refiner.specs.Runs.{HaveOneValue}
use Rattle.refiner.proofs.Cutting.{any_weaker, all_any}

-- what all have, all but the last have
pub all_before : {X : Type 0} (P : X → Type 0) (xs : List X) (y : X) → All P (xs ++ y ∷ []) →
    All P xs
all_before P xs y all k d h = subst P (get_or_append_left xs (y ∷ []) d k h)
    (all k d (omega (arith, length_push xs y)))

-- what all have, the last has
pub all_last : {X : Type 0} (P : X → Type 0) (xs : List X) (y : X) → All P (xs ++ y ∷ []) → P y
all_last P xs y all = subst P (get_or_push xs y y (length xs) refl)
    (all (length xs) y (omega (arith, length_push xs y)))

module _ (values : List Three) (b : ℕ) (p q q2 : Blocks) (splits : List Split)
    (so_far : AreCut values b p q splits) (hb : b < p.count) (parts : List Part)
    (cut : IsCut values b q q2 parts) where
  to_q : (x : ℕ) → x < states_of p → x < states_of q
  to_q x hx = subst (λ n. x < n) (sym so_far.states) hx

  to_p : (x : ℕ) → x < states_of q → x < states_of p
  to_p x hx = subst (λ n. x < n) so_far.states hx

  was_b : (x : ℕ) → x < states_of p → block_at q x ≡ b → block_at p x ≡ b
  was_b x hx e = elim (so_far.moves x hx) [
    | inl same ↦ sym same ∙ e
    | inr far ↦
        absurd (omega (arith, far.0, e, hb))
  ]

  is_b : (x : ℕ) → x < states_of p → block_at p x ≡ b → block_at q x ≡ b
  is_b x hx e = so_far.waiting x hx (omega (arith, e)) ∙ e

  stays : (x : ℕ) → x < states_of p → block_at p x ≢ b → block_at q2 x ≡ block_at q x
  stays x hx other = cut.elsewhere x (to_q x hx) (λ e. other (was_b x hx e))

  states2 : states_of q2 ≡ states_of p
  states2 = cut.states ∙ so_far.states

  grown2 : p.count ≤ q2.count
  grown2 = omega (arith, so_far.grown, cut.grown)

  waiting2 : (x : ℕ) → x < states_of p → b + 1 ≤ block_at p x → block_at q2 x ≡ block_at p x
  waiting2 x hx h = stays x hx (λ e. omega (arith, h, e)) ∙ so_far.waiting x hx (omega (arith, h))

  moves2 : (x : ℕ) → x < states_of p → (block_at q2 x ≡ block_at p x) ⊎ ((p.count ≤ block_at q2 x) ×
      (block_at q2 x < q2.count))
  moves2 x hx = elim (cases_eq (block_at p x) b) [
    | inl here ↦ (let any = cut.each_goes x (to_q x hx) (is_b x hx here) in
        elim (cases_eq any.1.block b) [
          | inl keeps ↦ inl (any.4.0 ∙ keeps ∙ sym here)
          | inr other ↦
              (let f = all_any (λ (t : Part). t.block ≢ b
              → (q.count ≤ t.block) × (t.block < q2.count))
              (WentTo values q2 x) parts cut.others_new any other in
              inr (omega (arith, f.0, so_far.grown, any.4.0), omega (arith, f.1, any.4.0)))
        ])
    | inr other ↦ (let e = stays x hx other in elim (so_far.moves x hx) [
      | inl same ↦ inl (e ∙ same)
      | inr far ↦ inr (omega (arith, far.0, e), omega (arith, far.1, e, cut.grown))
    ])
  ]

  kept : (s : Split) → s.parent < b → IsSplitBy values p q s → IsSplitBy values p q2 s
  kept s below old =
      let apart : (x : ℕ) → block_at p x ≡ s.parent → block_at p x ≢ b =
      λ x e f. omega (arith, below, e, f) in
      record {
        live = old.live;
        two = old.two;
        each_goes = λ x hx e. any_weaker (WentTo values q x) (WentTo values q2 x) s.parts
            (λ t w. (stays x hx (apart x e) ∙ w.0, w.1)) (old.each_goes x hx e);
        one_keeps = old.one_keeps;
        others_new = All-weaker (λ (t : Part). t.block ≢ s.parent → (p.count ≤ t.block) ×
            (t.block < q.count)) (λ (t : Part). t.block ≢ s.parent → (p.count ≤ t.block) ×
            (t.block < q2.count)) (λ t h ne. (let f = h ne in (f.0, omega (arith, f.1, cut.grown))))
            s.parts old.others_new;
        none_empty = All-weaker (HasMember s.parent p q) (HasMember s.parent p q2)
            (λ t m. (m.0, m.1, m.2, stays m.0 m.1 (apart m.0 m.2) ∙ m.3)) s.parts
            old.none_empty;
        values_apart = old.values_apart;
        numbers_apart = old.numbers_apart;
      }

  cuts2 : All (IsSplitBy values p q2) splits
  cuts2 k d h = kept (get_or splits k d) (so_far.parents_below k d h) (so_far.cuts k d h)

  stay_below : (x : ℕ) → x < states_of p → block_at p x < b →
      All (λ (s : Split). s.parent ≢ block_at p x) splits → (block_at q2 x ≡ block_at p x) ×
      ((y : ℕ) → y < states_of p → block_at p y ≡ block_at p x → value_at values y ≡ value_at values
      x)
  stay_below x hx h none = (let old = so_far.others_stay x hx h none in
      (stays x hx (λ e. omega (arith, h, e)) ∙ old.0, old.1))

  below_more : All (λ (s : Split). s.parent < b + 1) splits
  below_more = All-weaker (λ (s : Split). s.parent < b) (λ (s : Split). s.parent < b + 1)
      (λ s h. omega (arith, h)) splits so_far.parents_below

  -- a block that keeps all its members
  pub cut_kept : length parts < 2 → AreCut values (b + 1) p q2 splits
  cut_kept few = record {
    states = states2;
    grown = grown2;
    unmarked = cut.unmarked;
    waiting = waiting2;
    moves = moves2;
    parents_below = below_more;
    parents_apart = so_far.parents_apart;
    news_apart = so_far.news_apart;
    cuts = cuts2;
    others_stay = λ x hx h none. elim (cases_eq (block_at p x) b) [
      | inr other ↦ stay_below x hx (omega (arith, h, other)) none
      | inl here ↦ (
          let to : (y : ℕ) → y < states_of p → block_at p y ≡ b → (block_at q2 y ≡ b) ×
          (value_at values y ≡ cut.one_keeps.1.three) = λ y hy e. (
          let any = cut.each_goes y (to_q y hy) (is_b y hy e) in
          let place : any.0 ≡ cut.one_keeps.0 = omega (arith, any.2, cut.one_keeps.2, few) in
          let one : any.1 ≡ cut.one_keeps.1 = sym any.3 ∙ ap (λ k. get_or parts k any.1) place
          ∙ get_or_default parts cut.one_keeps.0 any.1 cut.one_keeps.1 cut.one_keeps.2
          ∙ cut.one_keeps.3 in (
            any.4.0 ∙ ap (λ (t : Part). t.block) one ∙ cut.one_keeps.4,
            any.4.1
                ∙ ap (λ (t : Part). t.three) one,
          )) in
          let at_x = to x hx here in
          (at_x.0 ∙ sym here, λ y hy e. (to y hy (e ∙ here)).1 ∙ sym at_x.1))
    ];
  }

  -- where a part's number can lie
  old_number : (s : Split) → s.parent < b → IsSplitBy values p q s →
      All (λ (t : Part). (t.block < b) ⊎ ((p.count ≤ t.block) × (t.block < q.count))) s.parts
  old_number s below old k d h = elim (cases_eq (get_or s.parts k d).block s.parent) [
    | inl e ↦
        inl (omega (arith, e, below))
    | inr ne ↦ inr (old.others_new k d h ne)
  ]

  new_number : All (λ (t : Part). (t.block ≡ b) ⊎ (q.count ≤ t.block)) parts
  new_number k d h = elim (cases_eq (get_or parts k d).block b) [
    | inl e ↦ inl e
    | inr ne ↦
        inr ((cut.others_new k d h ne).0)
  ]

  -- a block that is split
  pub cut_pushed : (s : Split) → s.parent ≡ b → s.parts ≡ parts → 2 ≤ length parts →
      AreCut values (b + 1) p q2 (splits ++ s ∷ [])
  cut_pushed s sb sp two = record {
    states = states2;
    grown = grown2;
    unmarked = cut.unmarked;
    waiting = waiting2;
    moves = moves2;
    parents_below = All-push (λ (t : Split). t.parent < b + 1) splits s below_more
        (omega (arith, sb));
    parents_apart = all_pairs_push (λ (t : Split). λ (u : Split). t.parent ≢ u.parent) splits s
        so_far.parents_apart (λ k d h e. (let f = so_far.parents_below k d h in
        omega (arith, f, e, sb)));
    news_apart = all_pairs_push AreApart splits s so_far.news_apart (λ k d h. (
        let below = so_far.parents_below k d h in
        let old = old_number (get_or splits k d) below (so_far.cuts k d h) in
        λ i e hi. subst
        (λ ps. All (λ (t : Part). (get_or (get_or splits k d).parts i e).block ≢ t.block)
        ps) (sym sp) (λ j f hj eq. (
        let one = old i e hi in
        let two = new_number j f hj in
        elim one [
          | inl low ↦ elim two [
            | inl here ↦ omega (arith, low, here, eq)
            | inr far ↦
                omega (arith, low, far, eq, so_far.grown, hb)
          ]
          | inr mid ↦ elim two [
            | inl here ↦ omega (arith, mid.0, here, eq, hb)
            | inr far ↦
                omega (arith, mid.1, far, eq)
          ]
        ]))));
    cuts = All-push (IsSplitBy values p q2) splits s cuts2 (record {
      live = rw sb hb;
      two = rw sp two;
      each_goes = λ x hx e. rw sp (cut.each_goes x (to_q x hx) (is_b x hx (e ∙ sb)));
      one_keeps = rw (sp, sb) cut.one_keeps;
      others_new = rw (sp, sb) (All-weaker (λ (t : Part). t.block ≢ b → (q.count ≤ t.block) ×
          (t.block < q2.count)) (λ (t : Part). t.block ≢ b → (p.count ≤ t.block) ×
          (t.block < q2.count))
          (λ t h ne. (let f = h ne in (omega (arith, f.0, so_far.grown), f.1))) parts
          cut.others_new);
      none_empty = rw (sp, sb) (All-weaker (HasMember b q q2) (HasMember b p q2)
          (λ t m. (m.0, to_p m.0 m.1, was_b m.0 (to_p m.0 m.1) m.2, m.3)) parts cut.none_empty);
      values_apart = rw sp cut.values_apart;
      numbers_apart = rw sp cut.numbers_apart;
    });
    others_stay = λ x hx h none. elim (cases_eq (block_at p x) b) [
      | inr other ↦ stay_below x hx (omega (arith, h, other))
          (all_before (λ (t : Split). t.parent ≢ block_at p x) splits s none)
      | inl here ↦ absurd (all_last (λ (t : Split). t.parent ≢ block_at p x) splits s none (sb
          ∙ sym here))
    ];
  }

-- where there is one part, all members have one value
one_part :
    (values : List Three) (b : ℕ) (p q : Blocks) (parts : List Part) → IsCut values b p q parts →
    length parts < 2 → (x y : ℕ) → x < states_of p → y < states_of p → block_at p x ≡ b →
    block_at p y ≡ b → value_at values x ≡ value_at values y
one_part values b p q parts cut few x y hx hy bx by_ =
    let one = cut.each_goes x hx bx in
    let two = cut.each_goes y hy by_ in
    let place : one.0 ≡ two.0 = omega (arith, one.2, two.2, few) in
    let same : one.1 ≡ two.1 =
    sym one.3 ∙ ap (λ k. get_or parts k one.1) place
    ∙ get_or_default parts two.0 one.1 two.1 two.2 ∙ two.3 in
    one.4.1 ∙ ap (λ (t : Part). t.three) same ∙ sym two.4.1

-- where not all members have one value, there are two parts
pub two_parts :
    (values : List Three) (b : ℕ) (p q : Blocks) (parts : List Part) (xs : List ℕ) →
    IsCut values b p q parts → IsMembers p b xs → ¬ HaveOneValue values xs → 2 ≤ length parts
two_parts values b p q parts xs cut members other =
    elim (cases_lt (length parts) 2) [
      | inr many ↦ many
      | inl few ↦ absurd (other (λ k h. (
          let here = members.each k 0 h in
          let first = members.each 0 0 members.some in
          one_part values b p q parts cut few (get_or xs k 0) (get_or xs 0 0)
          here.0 first.0 here.1 first.1)))
    ]
