-- A call on the sum of two interfaces is the call on one side.
use Rattle.std.proofs.Common.{◌≡◌, ◌==◌, ℕ, Bool, true, false, cond, List, [], ◌∷◌, length, map, refl, sym, ◌∙◌, ap, subst}
use Rattle.modalities.specs.declared.three.Three.{Three}
use Rattle.iface.specs.declared.side.Side.{Side}
use Rattle.iface.specs.declared.side.Side.TheVariants.{Left, Right}
use Rattle.iface.specs.Structures.{IsCell, IsUpdated}
use Rattle.iface.specs.Trits.{each, picked, in_coarse}
use Rattle.iface.specs.Sides.{lefts, rights, AllLeft, AllRight, fits_on_side, value_of_side, toward_of_side}
use Rattle.iface.specs.EitherLaws.{length-lefts, length-rights, each-lefts, each-rights}

true-lefts :
    {A B : Type 0} (xs : List (Side A B)) → AllLeft xs →
    ◌≡◌ {A = List Bool} (map (λ _. true) xs) (map (λ _. true) (lefts xs))
true-lefts [] all = refl
true-lefts (Left a ∷ xs) all = ap (λ ts. true ∷ ts) (true-lefts xs all)
true-lefts (Right b ∷ xs) all = absurd all

true-rights :
    {A B : Type 0} (xs : List (Side A B)) → AllRight xs →
    ◌≡◌ {A = List Bool} (map (λ _. true) xs) (map (λ _. true) (rights xs))
true-rights [] all = refl
true-rights (Left a ∷ xs) all = absurd all
true-rights (Right b ∷ xs) all = ap (λ ts. true ∷ ts) (true-rights xs all)

-- what is picked of labels on one side is picked of that side's labels
picked-lefts :
    {A B : Type 0} (xs : List (Side A B)) (ts : List ℕ) → AllLeft xs →
    lefts (picked xs ts) ≡ picked (lefts xs) ts
picked-lefts [] ts all = refl
picked-lefts (Left a ∷ xs) [] all = refl
picked-lefts {A} {B} (Left a ∷ xs) (t ∷ ts) all =
    let tail : lefts (picked xs ts) ≡ picked (lefts xs) ts = picked-lefts xs ts all in
    elim (t == 2) as (λ b.
    lefts (cond b (Left a ∷ picked xs ts) (picked xs ts))
    ≡ cond b (a ∷ picked (lefts xs) ts) (picked (lefts xs) ts)) [
      | true ↦ ap (λ ys. a ∷ ys) tail
      | false ↦ tail
    ]
picked-lefts (Right b ∷ xs) ts all = absurd all

picked-rights :
    {A B : Type 0} (xs : List (Side A B)) (ts : List ℕ) → AllRight xs →
    rights (picked xs ts) ≡ picked (rights xs) ts
picked-rights [] ts all = refl
picked-rights (Left a ∷ xs) ts all = absurd all
picked-rights (Right b ∷ xs) [] all = refl
picked-rights {A} {B} (Right b ∷ xs) (t ∷ ts) all =
    let tail : rights (picked xs ts) ≡ picked (rights xs) ts = picked-rights xs ts all in
    elim (t == 2) as (λ d.
    rights (cond d (Right b ∷ picked xs ts) (picked xs ts))
    ≡ cond d (b ∷ picked (rights xs) ts) (picked (rights xs) ts)) [
      | true ↦ ap (λ ys. b ∷ ys) tail
      | false ↦ tail
    ]

AllLeft-picked :
    {A B : Type 0} (xs : List (Side A B)) (ts : List ℕ) → AllLeft xs → AllLeft (picked xs ts)
AllLeft-picked [] ts all = tt
AllLeft-picked (Left a ∷ xs) [] all = tt
AllLeft-picked (Left a ∷ xs) (t ∷ ts) all =
    let tail : AllLeft (picked xs ts) = AllLeft-picked xs ts all in
    elim (t == 2) as (λ b. AllLeft (cond b (Left a ∷ picked xs ts) (picked xs ts))) [
      | true ↦ tail
      | false ↦ tail
    ]
AllLeft-picked (Right b ∷ xs) ts all = absurd all

AllRight-picked :
    {A B : Type 0} (xs : List (Side A B)) (ts : List ℕ) → AllRight xs → AllRight (picked xs ts)
AllRight-picked [] ts all = tt
AllRight-picked (Left a ∷ xs) ts all = absurd all
AllRight-picked (Right b ∷ xs) [] all = tt
AllRight-picked (Right b ∷ xs) (t ∷ ts) all =
    let tail : AllRight (picked xs ts) = AllRight-picked xs ts all in
    elim (t == 2) as (λ d. AllRight (cond d (Right b ∷ picked xs ts) (picked xs ts))) [
      | true ↦ tail
      | false ↦ tail
    ]

module _
    {A B L M V W : Type 0} (fits-l : A → List L → Type 0) (value-l : A → List L → List ℕ → Three)
    (toward-l : A → List L → List Bool → V) (fits-r : B → List M → Type 0)
    (value-r : B → List M → List ℕ → Three) (toward-r : B → List M → List Bool → W) where
  pub fit_left :
      (s : Side A B) (a : A) (labels : List (Side L M)) → s ≡ Left a →
      fits_on_side fits-l fits-r s labels → AllLeft labels × fits-l a (lefts labels)
  fit_left s a labels e h = subst (λ x. fits_on_side fits-l fits-r x labels) e h

  pub fit_right :
      (s : Side A B) (b : B) (labels : List (Side L M)) → s ≡ Right b →
      fits_on_side fits-l fits-r s labels → AllRight labels × fits-r b (rights labels)
  fit_right s b labels e h = subst (λ x. fits_on_side fits-l fits-r x labels) e h

  -- the first weight of a left structure is that of the left interface
  pub weight_left :
      (s : Side A B) (a : A) (labels : List (Side L M)) (own : List L) (w : V) → s ≡ Left a →
      fits_on_side fits-l fits-r s labels → own ≡ lefts labels →
      w ≡ toward-l a own (map (λ _. true) own) →
      ◌≡◌ {A = Side V W} (Left w)
      (toward_of_side toward-l toward-r s labels (map (λ _. true) labels))
  weight_left s a labels own w e h o we =
      let all : AllLeft labels = (fit_left s a labels e h).0 in
      rw (e, true-lefts labels all, we, o) refl

  -- the first weight of a right structure is that of the right interface
  pub weight_right :
      (s : Side A B) (b : B) (labels : List (Side L M)) (own : List M) (w : W) → s ≡ Right b →
      fits_on_side fits-l fits-r s labels → own ≡ rights labels →
      w ≡ toward-r b own (map (λ _. true) own) →
      ◌≡◌ {A = Side V W} (Right w)
      (toward_of_side toward-l toward-r s labels (map (λ _. true) labels))
  weight_right s b labels own w e h o we =
      let all : AllRight labels = (fit_right s b labels e h).0 in
      rw (e, true-rights labels all, we, o) refl

  -- the first value of a left structure is that of the left interface
  pub three_left :
      (s : Side A B) (a : A) (labels : List (Side L M)) (own : List L) (x : Three) → s ≡ Left a →
      fits_on_side fits-l fits-r s labels → own ≡ lefts labels →
      x ≡ value-l a own (each 2 own) →
      x ≡ value_of_side value-l value-r s labels (each 2 labels)
  three_left s a labels own x e h o xe =
      let all : AllLeft labels = (fit_left s a labels e h).0 in
      rw (e, each-lefts 2 labels all, xe, o) refl

  -- the first value of a right structure is that of the right interface
  pub three_right :
      (s : Side A B) (b : B) (labels : List (Side L M)) (own : List M) (x : Three) →
      s ≡ Right b → fits_on_side fits-l fits-r s labels → own ≡ rights labels →
      x ≡ value-r b own (each 2 own) →
      x ≡ value_of_side value-l value-r s labels (each 2 labels)
  three_right s b labels own x e h o xe =
      let all : AllRight labels = (fit_right s b labels e h).0 in
      rw (e, each-rights 2 labels all, xe, o) refl

  -- the left labels are as many as all
  pub length_left :
      (s : Side A B) (a : A) (labels : List (Side L M)) (own : List L) → s ≡ Left a →
      fits_on_side fits-l fits-r s labels → own ≡ lefts labels → length own ≡ length labels
  length_left s a labels own e h o =
      ap length o ∙ length-lefts labels (fit_left s a labels e h).0

  -- the right labels are as many as all
  pub length_right :
      (s : Side A B) (b : B) (labels : List (Side L M)) (own : List M) → s ≡ Right b →
      fits_on_side fits-l fits-r s labels → own ≡ rights labels → length own ≡ length labels
  length_right s b labels own e h o =
      ap length o ∙ length-rights labels (fit_right s b labels e h).0

  -- a cell of the sum whose weight is on the left is one of the left interface
  pub cell_left :
      (w : V) (weight : Side V W) (moved : List (Side L M)) (own : List L) (s : Side A B)
      (labels : List (Side L M)) (trits : List ℕ) → weight ≡ Left w → own ≡ lefts moved →
      IsCell (fits_on_side fits-l fits-r) (toward_of_side toward-l toward-r) weight moved s labels
      trits →
      (a : A) × (s ≡ Left a) × AllLeft labels × (length own ≡ length moved)
      × IsCell fits-l toward-l w own a (lefts labels) trits
  cell_left w weight moved own (Left a) labels trits e o cell =
      let all : AllLeft labels = cell.fit.0 in
      let marks = in_coarse trits in
      let both : ◌≡◌ {A = Side V W} (Left w) (Left (toward-l a (lefts labels) marks)) =
      sym e ∙ cell.weight_is in
      let all_moved : AllLeft moved = rw cell.moved_is (AllLeft-picked labels trits all) in (
        a,
        refl,
        all,
        ap length o ∙ length-lefts moved all_moved,
        record {
          fit = cell.fit.1;
          one_each = cell.one_each ∙ sym (length-lefts labels all);
          are_trits = cell.are_trits;
          weight_is = (cc);
          moved_is = o ∙ ap lefts cell.moved_is ∙ picked-lefts labels trits all;
        },
      )
  cell_left w weight moved own (Right b) labels trits e o cell =
      let marks = in_coarse trits in
      let both : ◌≡◌ {A = Side V W} (Left w) (Right (toward-r b (rights labels) marks)) =
      sym e ∙ cell.weight_is in
      absurd (cc)

  -- a cell of the right side is one of the right interface
  pub cell_right :
      (w : W) (weight : Side V W) (moved : List (Side L M)) (own : List M) (s : Side A B)
      (labels : List (Side L M)) (trits : List ℕ) → weight ≡ Right w → own ≡ rights moved →
      IsCell (fits_on_side fits-l fits-r) (toward_of_side toward-l toward-r) weight moved s labels
      trits →
      (b : B) × (s ≡ Right b) × AllRight labels × (length own ≡ length moved)
      × IsCell fits-r toward-r w own b (rights labels) trits
  cell_right w weight moved own (Left a) labels trits e o cell =
      let marks = in_coarse trits in
      let both : ◌≡◌ {A = Side V W} (Right w) (Left (toward-l a (lefts labels) marks)) =
      sym e ∙ cell.weight_is in
      absurd (cc)
  cell_right w weight moved own (Right b) labels trits e o cell =
      let all : AllRight labels = cell.fit.0 in
      let marks = in_coarse trits in
      let both : ◌≡◌ {A = Side V W} (Right w) (Right (toward-r b (rights labels) marks)) =
      sym e ∙ cell.weight_is in
      let all_moved : AllRight moved = rw cell.moved_is (AllRight-picked labels trits all) in (
        b,
        refl,
        all,
        ap length o ∙ length-rights moved all_moved,
        record {
          fit = cell.fit.1;
          one_each = cell.one_each ∙ sym (length-rights labels all);
          are_trits = cell.are_trits;
          weight_is = (cc);
          moved_is = o ∙ ap rights cell.moved_is ∙ picked-rights labels trits all;
        },
      )

  -- what the left interface tells of a cell, the sum tells of it
  pub updated_left :
      (rest part : V) (three void : Three) (a : A) (labels : List (Side L M)) (trits : List ℕ)
      (s : Side A B) → s ≡ Left a →
      IsUpdated value-l toward-l rest part three void a (lefts labels) trits →
      IsUpdated (value_of_side value-l value-r) (toward_of_side toward-l toward-r)
      (Left rest) (Left part) three void s labels trits
  updated_left rest part three void a labels trits s e u =
      subst (λ x.
      IsUpdated (value_of_side value-l value-r) (toward_of_side toward-l toward-r)
      (Left rest) (Left part) three void x labels trits) (sym e) (record {
        rest_is = ap Left u.rest_is;
        part_is = ap Left u.part_is;
        three_is = u.three_is;
        void_is = u.void_is;
      })

  -- an update on the right side is one of the right interface
  pub updated_right :
      (rest part : W) (three void : Three) (b : B) (labels : List (Side L M)) (trits : List ℕ)
      (s : Side A B) → s ≡ Right b →
      IsUpdated value-r toward-r rest part three void b (rights labels) trits →
      IsUpdated (value_of_side value-l value-r) (toward_of_side toward-l toward-r)
      (Right rest) (Right part) three void s labels trits
  updated_right rest part three void b labels trits s e u =
      subst (λ x.
      IsUpdated (value_of_side value-l value-r) (toward_of_side toward-l toward-r)
      (Right rest) (Right part) three void x labels trits) (sym e) (record {
        rest_is = ap Right u.rest_is;
        part_is = ap Right u.part_is;
        three_is = u.three_is;
        void_is = u.void_is;
      })
