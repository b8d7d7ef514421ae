-- The sum of two lawful interfaces is lawful: each law is that of the side on which both stand.
--     length-lefts, length-rights, each-lefts, each-rights       labels that all stand on one side
--     either_laws                                                the laws of the sum
use Rattle.std.specs.Prelude.{◌≡◌, ◌≢◌, ℕ, suc, List, [], ◌∷◌, length, map, refl}
use Rattle.std.proofs.Common.{sym, ◌∙◌, ap}
use Rattle.modalities.specs.declared.three.Three.{Three}
use Rattle.iface.specs.declared.side.Side.{Side}
use Rattle.iface.specs.declared.side.Side.TheVariants.{Left, Right}
use Rattle.iface.specs.Structures.{Classed, IfaceLaws, IsFitting, IsNumbering, joined, three_way, under}
use Rattle.iface.specs.Trits.{each}
use Rattle.iface.specs.Sides.{lefts, rights, AllLeft, AllRight, node_of_side, kin_of_sides, fits_on_side, value_of_side, agree_of_sides, left_of, right_of}

pub length-lefts :
    {A B : Type 0} (xs : List (Side A B)) → AllLeft xs → length (lefts xs) ≡ length xs
length-lefts [] all = refl
length-lefts (Left a ∷ xs) all = ap suc (length-lefts xs all)
length-lefts (Right b ∷ xs) all = absurd all

pub length-rights :
    {A B : Type 0} (xs : List (Side A B)) → AllRight xs → length (rights xs) ≡ length xs
length-rights [] all = refl
length-rights (Left a ∷ xs) all = absurd all
length-rights (Right b ∷ xs) all = ap suc (length-rights xs all)

pub each-lefts :
    {A B : Type 0} (t : ℕ) (xs : List (Side A B)) → AllLeft xs → each t xs ≡ each t (lefts xs)
each-lefts t [] all = refl
each-lefts t (Left a ∷ xs) all = ap (λ ts. t ∷ ts) (each-lefts t xs all)
each-lefts t (Right b ∷ xs) all = absurd all

pub each-rights :
    {A B : Type 0} (t : ℕ) (xs : List (Side A B)) → AllRight xs → each t xs ≡ each t (rights xs)
each-rights t [] all = refl
each-rights t (Left a ∷ xs) all = absurd all
each-rights t (Right b ∷ xs) all = ap (λ ts. t ∷ ts) (each-rights t xs all)

module _
    {A B L M : Type 0} (node-l : A → ℕ) (kin-l : A → A → Type 0) (fits-l : A → List L → Type 0)
    (value-l : A → List L → List ℕ → Three) (agree-l : Classed A L → Classed A L → Type 0)
    (node-r : B → ℕ) (kin-r : B → B → Type 0) (fits-r : B → List M → Type 0)
    (value-r : B → List M → List ℕ → Three) (agree-r : Classed B M → Classed B M → Type 0)
    (left : IfaceLaws node-l kin-l fits-l value-l agree-l)
    (right : IfaceLaws node-r kin-r fits-r value-r agree-r) where
  -- a structure of the sum
  abbrev seen : Side A B → List (Side L M) → List ℕ → Classed (Side A B) (Side L M)
  seen s ls cs = record { shape = s; labels = ls; classes = cs }

  abbrev Fitting : Side A B → List (Side L M) → List ℕ → Type 0
  Fitting s ls cs = IsFitting (fits_on_side fits-l fits-r) (seen s ls cs)

  abbrev Agree : Classed (Side A B) (Side L M) → Classed (Side A B) (Side L M) → Type 0
  Agree x y = agree_of_sides agree-l agree-r x y

  abbrev val : Side A B → List (Side L M) → List ℕ → Three
  val s ls ts = value_of_side value-l value-r s ls ts

  fitting_left :
      (a : A) (ls : List (Side L M)) (cs : List ℕ) →
      Fitting (Left a) ls cs → IsFitting fits-l (left_of a ls cs)
  fitting_left a ls cs f =
      record { fit = f.fit.1; one_each = f.one_each ∙ sym (length-lefts ls f.fit.0) }

  fitting_right :
      (b : B) (ls : List (Side L M)) (cs : List ℕ) →
      Fitting (Right b) ls cs → IsFitting fits-r (right_of b ls cs)
  fitting_right b ls cs f =
      record { fit = f.fit.1; one_each = f.one_each ∙ sym (length-rights ls f.fit.0) }

  start_law :
      (s t : Side A B) (ls ms : List (Side L M)) (cs ds : List ℕ) (class : ℕ) →
      Fitting s ls cs → Fitting t ms ds → kin_of_sides kin-l kin-r s t →
      node_of_side node-l node-r s ≡ node_of_side node-l node-r t →
      val s ls (each 2 ls) ≡ val t ms (each 2 ms) →
      Agree (under (λ _. class) (seen s ls cs)) (under (λ _. class) (seen t ms ds))
  start_law (Left a) (Left b) ls ms cs ds class fx fy kin same_node same =
      left.start (left_of a ls cs) (left_of b ms ds) class (fitting_left a ls cs fx)
      (fitting_left b ms ds fy) kin same_node
      (ap (value-l a (lefts ls)) (sym (each-lefts 2 ls fx.fit.0)) ∙ same
      ∙ ap (value-l b (lefts ms)) (each-lefts 2 ms fy.fit.0))
  start_law (Left a) (Right b) ls ms cs ds class fx fy kin same_node same = absurd kin
  start_law (Right a) (Left b) ls ms cs ds class fx fy kin same_node same = absurd kin
  start_law (Right a) (Right b) ls ms cs ds class fx fy kin same_node same =
      right.start (right_of a ls cs) (right_of b ms ds) class (fitting_right a ls cs fx)
      (fitting_right b ms ds fy) kin same_node
      (ap (value-r a (rights ls)) (sym (each-rights 2 ls fx.fit.0)) ∙ same
      ∙ ap (value-r b (rights ms)) (each-rights 2 ms fy.fit.0))

  split_law :
      (s t : Side A B) (ls ms : List (Side L M)) (cs ds : List ℕ) (old new : ℕ) → old ≢ new →
      Fitting s ls cs → Fitting t ms ds →
      Agree (under (joined old new) (seen s ls cs)) (under (joined old new) (seen t ms ds)) →
      val s ls (map (three_way old new) cs) ≡ val t ms (map (three_way old new) ds) →
      Agree (seen s ls cs) (seen t ms ds)
  split_law (Left a) (Left b) ls ms cs ds old new apart fx fy agree same =
      left.splits (left_of a ls cs) (left_of b ms ds) old new apart (fitting_left a ls cs fx)
      (fitting_left b ms ds fy) agree same
  split_law (Left a) (Right b) ls ms cs ds old new apart fx fy agree same = absurd agree
  split_law (Right a) (Left b) ls ms cs ds old new apart fx fy agree same = absurd agree
  split_law (Right a) (Right b) ls ms cs ds old new apart fx fy agree same =
      right.splits (right_of a ls cs) (right_of b ms ds) old new apart (fitting_right a ls cs fx)
      (fitting_right b ms ds fy) agree same

  merge_law :
      (s t : Side A B) (ls ms : List (Side L M)) (cs ds : List ℕ) (f : ℕ → ℕ) →
      Fitting s ls cs → Fitting t ms ds → Agree (seen s ls cs) (seen t ms ds) →
      Agree (under f (seen s ls cs)) (under f (seen t ms ds))
  merge_law (Left a) (Left b) ls ms cs ds f fx fy agree =
      left.merges (left_of a ls cs) (left_of b ms ds) f (fitting_left a ls cs fx)
      (fitting_left b ms ds fy) agree
  merge_law (Left a) (Right b) ls ms cs ds f fx fy agree = absurd agree
  merge_law (Right a) (Left b) ls ms cs ds f fx fy agree = absurd agree
  merge_law (Right a) (Right b) ls ms cs ds f fx fy agree =
      right.merges (right_of a ls cs) (right_of b ms ds) f (fitting_right a ls cs fx)
      (fitting_right b ms ds fy) agree

  node_law :
      (s t : Side A B) (ls ms : List (Side L M)) (cs ds : List ℕ) →
      Fitting s ls cs → Fitting t ms ds → Agree (seen s ls cs) (seen t ms ds) →
      node_of_side node-l node-r s ≡ node_of_side node-l node-r t
  node_law (Left a) (Left b) ls ms cs ds fx fy agree =
      left.one_node (left_of a ls cs) (left_of b ms ds) (fitting_left a ls cs fx)
      (fitting_left b ms ds fy) agree
  node_law (Left a) (Right b) ls ms cs ds fx fy agree = absurd agree
  node_law (Right a) (Left b) ls ms cs ds fx fy agree = absurd agree
  node_law (Right a) (Right b) ls ms cs ds fx fy agree =
      right.one_node (right_of a ls cs) (right_of b ms ds) (fitting_right a ls cs fx)
      (fitting_right b ms ds fy) agree

  value_law :
      (s t : Side A B) (ls ms : List (Side L M)) (cs ds : List ℕ) (h : ℕ → ℕ) → IsNumbering h →
      Fitting s ls cs → Fitting t ms ds → Agree (seen s ls cs) (seen t ms ds) →
      val s ls (map h cs) ≡ val t ms (map h ds)
  value_law (Left a) (Left b) ls ms cs ds h numbering fx fy agree =
      left.one_value (left_of a ls cs) (left_of b ms ds) h numbering (fitting_left a ls cs fx)
      (fitting_left b ms ds fy) agree
  value_law (Left a) (Right b) ls ms cs ds h numbering fx fy agree = absurd agree
  value_law (Right a) (Left b) ls ms cs ds h numbering fx fy agree = absurd agree
  value_law (Right a) (Right b) ls ms cs ds h numbering fx fy agree =
      right.one_value (right_of a ls cs) (right_of b ms ds) h numbering (fitting_right a ls cs fx)
      (fitting_right b ms ds fy) agree

  pub either_laws :
      IfaceLaws (node_of_side node-l node-r) (kin_of_sides kin-l kin-r)
      (fits_on_side fits-l fits-r) (value_of_side value-l value-r) (agree_of_sides agree-l agree-r)
  either_laws = record {
    start = λ x y class fx fy kin same_node same.
        start_law x.shape y.shape x.labels y.labels x.classes y.classes class fx fy kin same_node
        same;
    splits = λ x y old new apart fx fy agree same.
        split_law x.shape y.shape x.labels y.labels x.classes y.classes old new apart fx fy agree
        same;
    merges = λ x y f fx fy agree.
        merge_law x.shape y.shape x.labels y.labels x.classes y.classes f fx fy agree;
    one_node = λ x y fx fy agree.
        node_law x.shape y.shape x.labels y.labels x.classes y.classes fx fy agree;
    one_value = λ x y h numbering fx fy agree.
        value_law x.shape y.shape x.labels y.labels x.classes y.classes h numbering fx fy agree;
  }
