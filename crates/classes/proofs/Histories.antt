-- A legal history of a system is one of what it reads as.
use Rattle.std.specs.Prelude.{◌≡◌, ◌+◌, ◌<◌, ◌↔◌, ℕ, List, [], ◌∷◌, length, map, refl}
use Rattle.std.proofs.Common.{sym, ◌∙◌, ap}
use Rattle.std.proofs.lemmas.List.Elements.{All-weaker}
use Rattle.modalities.specs.declared.three.Three.{Three}
use Rattle.refiner.specs.declared.parts.Start.{Start}
use Rattle.refiner.specs.declared.parts.Part.{Part}
use Rattle.refiner.specs.Recorded.{Split, Round, Answer}
use Rattle.sorted_systems.specs.Systems.{Sorted, HasNode, HasValue, class_in}
use Rattle.refiner.specs.History.{Moment, IsStart, IsSplit, IsRound, AreRounds, IsLegal, round_trit}
use Rattle.decoding.specs.Decoded.{decoded_state, decoded_system, node_by, value_by}
use Rattle.decoding.specs.Systems.{as_many, below, below_own, node_decoded, node_from_decoded, value_decoded, value_from_decoded}

zeros :
    {A B : Type 0} (f : A → B) (xs : List A) →
    ◌≡◌ {A = List ℕ} (map (λ _. 0) xs) (map (λ _. 0) (map f xs))
zeros f [] = refl
zeros f (x ∷ xs) = ap (λ ys. 0 ∷ ys) (zeros f xs)

module _
    {Code Mark Shape Label : Type 0} (shape_of : Code → Shape) (label_of : Code → Mark → Label)
    (node : Shape → ℕ) (value : Shape → List Label → List ℕ → Three)
    (system : List (Sorted Code Mark)) where
  abbrev far : List (Sorted Shape Label)
  far = decoded_system shape_of label_of system

  abbrev own_node : Code → ℕ
  own_node s = node_by shape_of label_of node s

  abbrev own_value : Code → List Mark → List ℕ → Three
  own_value s ls trits = value_by shape_of label_of value s ls trits

  many : length far ≡ length system
  many = as_many shape_of label_of system

  own_place : (x : ℕ) → x < length far → x < length system
  own_place x h = below_own shape_of label_of system x h

  abbrev Exactly : Moment → Start → Type 0
  Exactly m p = (x : ℕ) → x < length far →
      (class_in m.blocks x ≡ p.block)
      ↔ (HasNode node far x p.node × HasValue value far (λ _. 2) x p.three)

  abbrev OwnExactly : Moment → Start → Type 0
  OwnExactly m p = (x : ℕ) → x < length system →
      (class_in m.blocks x ≡ p.block)
      ↔ (HasNode own_node system x p.node × HasValue own_value system (λ _. 2) x p.three)

  start_decoded :
      (start : List Start) (m : Moment) →
      IsStart own_node own_value system start m → IsStart node value far start m
  start_decoded start m s = record {
    one_each = s.one_each ∙ sym many;
    one_coarse = s.one_coarse ∙ zeros (decoded_state shape_of label_of) system;
    each_in = λ x h. s.each_in x (own_place x h);
    numbers_apart = s.numbers_apart;
    pairs_apart = s.pairs_apart;
    none_empty = s.none_empty;
    exactly = All-weaker (OwnExactly m) (Exactly m) (λ p e x h.
        let both = e x (own_place x h) in (
          λ here.
              let found = both.0 here in (
                node_decoded shape_of label_of system node x p.node found.0,
                value_decoded shape_of label_of system value (λ _. 2) x p.three found.1,
              ),
          λ found.
              both.1 (
                node_from_decoded shape_of label_of system node x p.node found.0,
                value_from_decoded shape_of label_of system value (λ _. 2) x p.three found.1,
              ),
        ))
        start s.exactly;
  }

  abbrev WentExactly : Moment → Moment → Round → Split → Part → Type 0
  WentExactly before after r s p = (x : ℕ) → x < length far →
      (class_in after.blocks x ≡ p.block)
      ↔ ((class_in before.blocks x ≡ s.parent)
      × HasValue value far (round_trit before r) x p.three)

  abbrev OwnWentExactly : Moment → Moment → Round → Split → Part → Type 0
  OwnWentExactly before after r s p = (x : ℕ) → x < length system →
      (class_in after.blocks x ≡ p.block)
      ↔ ((class_in before.blocks x ≡ s.parent)
      × HasValue own_value system (round_trit before r) x p.three)

  split_decoded :
      (before after : Moment) (r : Round) (s : Split) →
      IsSplit own_node own_value system before after r s →
      IsSplit node value far before after r s
  split_decoded before after r s k = record {
    live = k.live;
    two = k.two;
    values_apart = k.values_apart;
    numbers_apart = k.numbers_apart;
    none_empty = k.none_empty;
    one_keeps = k.one_keeps;
    others_new = k.others_new;
    each_in = λ x h. k.each_in x (own_place x h);
    exactly = All-weaker (OwnWentExactly before after r s) (WentExactly before after r s)
        (λ p e x h.
        let both = e x (own_place x h) in (
          λ here.
              let found = both.0 here in (
                found.0,
                value_decoded shape_of label_of system value (round_trit before r) x p.three
                    found.1,
              ),
          λ found.
              both.1 (
                found.0,
                value_from_decoded shape_of label_of system value (round_trit before r) x p.three
                    found.1,
              ),
        ))
        s.parts k.exactly;
  }

  round_decoded :
      (number : ℕ) (before after : Moment) (r : Round) →
      IsRound own_node own_value system number before after r →
      IsRound node value far number before after r
  round_decoded number before after r k = record {
    one_each = k.one_each ∙ sym many;
    splitter_live = k.splitter_live;
    splitter_within = λ x h. k.splitter_within x (own_place x h);
    splitter_proper =
        let p = k.splitter_proper in
        (p.0, below shape_of label_of system p.0 p.1, p.2, p.3);
    inner_is = k.inner_is;
    outer_is = k.outer_is;
    coarse_is = k.coarse_is;
    parents_apart = k.parents_apart;
    news_apart = k.news_apart;
    splits = All-weaker (IsSplit own_node own_value system before after r)
        (IsSplit node value far before after r) (split_decoded before after r) r.splits
        k.splits;
    others_stay = λ x h. k.others_stay x (own_place x h);
    others_alike = λ x y v w hx hy same no a b.
        k.others_alike x y v w (own_place x hx) (own_place y hy) same no
        (value_from_decoded shape_of label_of system value (round_trit before r) x v a)
        (value_from_decoded shape_of label_of system value (round_trit before r) y w b);
  }

  rounds_decoded :
      (number : ℕ) (m : Moment) (later : List Moment) (rounds : List Round) →
      AreRounds own_node own_value system number m later rounds →
      AreRounds node value far number m later rounds
  rounds_decoded number m [] [] k = tt
  rounds_decoded number m [] (r ∷ rounds) k = k
  rounds_decoded number m (after ∷ later) [] k = k
  rounds_decoded number m (after ∷ later) (r ∷ rounds) k =
      (round_decoded number m after r k.0, rounds_decoded (number + 1) after later rounds k.1)

  -- a history that is legal over the system is legal over what it decodes to
  pub legal_decoded :
      (refined : Answer) (first : Moment) (later : List Moment) →
      IsLegal own_node own_value system refined first later →
      IsLegal node value far refined first later
  legal_decoded refined first later k = record {
    starts = start_decoded refined.start first k.starts;
    rounds = rounds_decoded 0 first later refined.rounds k.rounds;
    answer = k.answer;
    numbers = k.numbers;
    none_empty = k.none_empty;
    scans_each = k.scans_each ∙ sym many;
    scans_are = λ y h. k.scans_are y (own_place y h);
  }
