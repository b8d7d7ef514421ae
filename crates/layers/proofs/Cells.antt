-- What the weights of the compact interface tell of a structure.
use Rattle.std.proofs.Common.{◌≡◌, ◌*◌, ◌-◌, ◌^◌, ◌<◌, ◌≤◌, ◌==◌, ℕ, Bool, true, false, cond, List, [], ◌∷◌, length, map, refl, sym, ◌∙◌, ap, arith}
use Rattle.std.specs.Prelude.{ℤ, pos, nat_le}
use Rattle.std.proofs.lemmas.Bool.{leb-true}
use Rattle.std.proofs.lemmas.List.{length-map}
use Rattle.modalities.specs.declared.three.Three.{Three}
use Rattle.weights.specs.Sums.{size_of}
use Rattle.iface.specs.Trits.{AreTrits, each, picked, in_coarse, in_rest, in_splitter, without_splitter}
use Rattle.powerset_iface.specs.declared.weight.SetWeight.{SetWeight}
use Rattle.powerset_iface.specs.Sets.{value_of_set, toward_of_set}
use Rattle.monoid_iface.specs.declared.weight.GroupWeight.{GroupWeight}
use Rattle.monoid_iface.specs.Groups.{toward_of_group, value_of_group}
use Rattle.polynomial_iface.specs.declared.weight.Form.{Form}
use Rattle.polynomial_iface.specs.Polys.{arity, numbers_from, fits_form, value_of_form, toward_of_form}
use Rattle.polynomial_iface.specs.Places.{trits_from}
use Rattle.polynomial_iface.proofs.Told.{told}
use Rattle.polynomial_iface.specs.PolyLaws.{length-numbers_from}
use Rattle.layers.specs.Nest.{add}
use Rattle.layers.specs.declared.weight.SumsWeight.{SumsWeight}
use Rattle.layers.specs.declared.shape.Class.{Class}
use Rattle.layers.specs.declared.shape.Class.TheVariants as class
use Rattle.layers.specs.declared.weight.PlacesWeight.{PlacesWeight}
use Rattle.layers.specs.declared.weight.MarksWeight.{MarksWeight}
use Rattle.layers.specs.declared.weight.Opened.TheVariants as opened
use Rattle.layers.specs.Bits.{bits_of, powers, trits_of}
use Rattle.layers.specs.Meanings.{weights_at, form_of, fits_class, over, sums_of, value_of_class, wide_of}
use Rattle.layers.proofs.Bits.{powers-picked, powers-all, few_bits, bits_parts, trits-parts, trits-void, trits-all}

-- the same sums, as a weight of a group
abbrev pub group_of : SumsWeight → GroupWeight ℤ
group_of w = record { outside = w.outside; inside = w.inside }

-- marks are no set and no sums
no_set :
    {A : Type 0} (b : Bool) (w : SetWeight) (p : PlacesWeight) (m : MarksWeight) →
    opened.Set w ≡ cond b (opened.Places p) (opened.Many m) → A
no_set true w p m e = cc
no_set false w p m e = cc

no_sums :
    {A : Type 0} (b : Bool) (w : SumsWeight) (p : PlacesWeight) (m : MarksWeight) →
    opened.Sums w ≡ cond b (opened.Places p) (opened.Many m) → A
no_sums true w p m e = cc
no_sums false w p m e = cc

-- a weight that is one of a set is of the class of sets
pub set_weight :
    (ws : List ℤ) (k : Class) (s : ℕ) (ls : List ℕ) (ms : List Bool) (w : SetWeight) →
    opened.Set w ≡ wide_of ws k s ls ms → (k ≡ class.Set) × (w ≡ toward_of_set ms)
set_weight ws class.Set s ls ms w e = (refl, cc)
set_weight ws (class.Sums b) s ls ms w e = cc
set_weight ws (class.Form f) s ls ms w e =
    no_set (nat_le (arity f) 64) w (record { shape = s; marks = bits_of ms })
    (record { shape = s; marks = ms }) e

-- marks that are kept as bits
as_bits :
    (b : Bool) (w p : PlacesWeight) (m : MarksWeight) →
    opened.Places w ≡ cond b (opened.Places p) (opened.Many m) → (b ≡ true) × (w ≡ p)
as_bits true w p m e = (refl, cc)
as_bits false w p m e = cc

-- and marks that are kept one by one
one_by_one :
    (b : Bool) (w m : MarksWeight) (p : PlacesWeight) →
    opened.Many w ≡ cond b (opened.Places p) (opened.Many m) → (b ≡ false) × (w ≡ m)
one_by_one true w m p e = cc
one_by_one false w m p e = (refl, cc)

pub places_weight :
    (ws : List ℤ) (k : Class) (s : ℕ) (ls : List ℕ) (ms : List Bool) (w : PlacesWeight) →
    opened.Places w ≡ wide_of ws k s ls ms →
    (k ≡ class.Form (form_of k)) × (w ≡ record { shape = s; marks = bits_of ms })
    × (nat_le (arity (form_of k)) 64 ≡ true)
places_weight ws class.Set s ls ms w e = cc
places_weight ws (class.Sums b) s ls ms w e = cc
places_weight ws (class.Form f) s ls ms w e =
    let is = as_bits (nat_le (arity f) 64) w (record { shape = s; marks = bits_of ms })
    (record { shape = s; marks = ms }) e in
    (refl, is.1, is.0)

pub marks_weight :
    (ws : List ℤ) (k : Class) (s : ℕ) (ls : List ℕ) (ms : List Bool) (w : MarksWeight) →
    opened.Many w ≡ wide_of ws k s ls ms →
    (k ≡ class.Form (form_of k)) × (w ≡ record { shape = s; marks = ms })
    × (nat_le (arity (form_of k)) 64 ≡ false)
marks_weight ws class.Set s ls ms w e = cc
marks_weight ws (class.Sums b) s ls ms w e = cc
marks_weight ws (class.Form f) s ls ms w e =
    let is = one_by_one (nat_le (arity f) 64) w (record { shape = s; marks = ms })
    (record { shape = s; marks = bits_of ms }) e in
    (refl, is.1, is.0)

-- a weight that is one of sums is of a class of sums
pub sums_weight :
    (ws : List ℤ) (k : Class) (s : ℕ) (ls : List ℕ) (ms : List Bool) (w : SumsWeight) →
    opened.Sums w ≡ wide_of ws k s ls ms →
    (k ≡ class.Sums w.scaled)
    × (group_of w ≡ toward_of_group (pos 0) add (weights_at ws ls) ms)
sums_weight ws class.Set s ls ms w e = cc
sums_weight ws (class.Form f) s ls ms w e =
    no_sums (nat_le (arity f) 64) w (record { shape = s; marks = bits_of ms })
    (record { shape = s; marks = ms }) e
sums_weight ws (class.Sums b) s ls ms w e =
    let same : w ≡ sums_of b (toward_of_group (pos 0) add (weights_at ws ls) ms) = cc in
    (ap class.Sums (sym (ap (λ (v : SumsWeight). v.scaled) same)), ap group_of same)

-- the value of a set is that of the class
pub set_value :
    (k : Class) → k ≡ class.Set → (d : ℕ) (ws : List ℤ) (ls ts : List ℕ) →
    value_of_set ts ≡ value_of_class d ws k ls ts
set_value class.Set e d ws ls ts = refl
set_value (class.Sums b) e d ws ls ts = cc
set_value (class.Form f) e d ws ls ts = cc

-- the value of sums is that of the class
pub sums_value :
    (k : Class) (b : Bool) → k ≡ class.Sums b → (d : ℕ) (ws : List ℤ) (ls ts : List ℕ) →
    value_of_group (λ x. x) (pos 0) add (over d b) (weights_at ws ls) ts
    ≡ value_of_class d ws k ls ts
sums_value k b e d ws ls ts = rw e refl

pub form_value :
    (k : Class) → k ≡ class.Form (form_of k) → (d : ℕ) (ws : List ℤ) (ls ts : List ℕ) →
    value_of_form (form_of k) ts ≡ value_of_class d ws k ls ts
form_value class.Set e d ws ls ts = cc
form_value (class.Sums b) e d ws ls ts = cc
form_value (class.Form f) e d ws ls ts = refl

-- the weight of a set is that of the class
pub set_toward :
    (ws : List ℤ) (k : Class) → k ≡ class.Set → (s : ℕ) (ls : List ℕ) (ms : List Bool) →
    opened.Set (toward_of_set ms) ≡ wide_of ws k s ls ms
set_toward ws class.Set e s ls ms = refl
set_toward ws (class.Sums b) e s ls ms = cc
set_toward ws (class.Form f) e s ls ms = cc

-- the weight of sums is that of the class
pub sums_toward :
    (ws : List ℤ) (k : Class) (b : Bool) → k ≡ class.Sums b →
    (s : ℕ) (ls : List ℕ) (ms : List Bool) →
    opened.Sums (sums_of b (toward_of_group (pos 0) add (weights_at ws ls) ms))
    ≡ wide_of ws k s ls ms
sums_toward ws k b e s ls ms = rw e refl

pub form_toward :
    (ws : List ℤ) (k : Class) → k ≡ class.Form (form_of k) →
    nat_le (arity (form_of k)) 64 ≡ true → (s : ℕ) (ls : List ℕ) (ms : List Bool) →
    opened.Places (record { shape = s; marks = bits_of ms }) ≡ wide_of ws k s ls ms
form_toward ws class.Set e small s ls ms = cc
form_toward ws (class.Sums b) e small s ls ms = cc
form_toward ws (class.Form f) e small s ls ms = rw small refl

pub many_toward :
    (ws : List ℤ) (k : Class) → k ≡ class.Form (form_of k) →
    nat_le (arity (form_of k)) 64 ≡ false → (s : ℕ) (ls : List ℕ) (ms : List Bool) →
    opened.Many (record { shape = s; marks = ms }) ≡ wide_of ws k s ls ms
many_toward ws class.Set e large s ls ms = cc
many_toward ws (class.Sums b) e large s ls ms = cc
many_toward ws (class.Form f) e large s ls ms = rw large refl

-- weights that fit have a sum within its bound
pub sums_fit :
    (ws : List ℤ) (k : Class) (b : Bool) → k ≡ class.Sums b → (ls : List ℕ) →
    fits_class ws k ls → size_of (λ x. x) (weights_at ws ls) ≤ 2 ^ 106
sums_fit ws class.Set b e ls fit = cc
sums_fit ws (class.Sums c) b e ls fit = fit
sums_fit ws (class.Form f) b e ls fit = cc

-- what is picked of a list that is read
pub picked-map :
    {A B : Type 0} (f : A → B) (xs : List A) (ts : List ℕ) →
    map f (picked xs ts) ≡ picked (map f xs) ts
picked-map f [] ts = refl
picked-map f (x ∷ xs) [] = refl
picked-map f (x ∷ xs) (t ∷ ts) =
    let tail : map f (picked xs ts) ≡ picked (map f xs) ts = picked-map f xs ts in
    elim (t == 2) as (λ b. map f (cond b (x ∷ picked xs ts) (picked xs ts))
    ≡ cond b (f x ∷ picked (map f xs) ts) (picked (map f xs) ts)) [
      | true ↦ ap (λ ys. f x ∷ ys) tail
      | false ↦ tail
    ]

pub form_fits :
    (ws : List ℤ) (k : Class) → k ≡ class.Form (form_of k) → (ls : List ℕ) → fits_class ws k ls →
    fits_form (form_of k) ls
form_fits ws class.Set e ls fit = cc
form_fits ws (class.Sums b) e ls fit = cc
form_fits ws (class.Form f) e ls fit = fit

-- a class of a form is the class of its form
pub of_form :
    (k : Class) (f : Form) → k ≡ class.Form f → (k ≡ class.Form (form_of k)) × (f ≡ form_of k)
of_form class.Set f e = cc
of_form (class.Sums b) f e = cc
of_form (class.Form g) f e = (refl, cc)

once : (n : ℕ) → 2 ^ 0 * n ≡ n
once n = omega arith

-- a form at the start
module _
    (ws : List ℤ) (k : Class) (is_form : k ≡ class.Form (form_of k)) (ls : List ℕ)
    (fit : fits_class ws k ls) where
  -- a label for each place
  pub as_many : length ls ≡ arity (form_of k)
  as_many =
      ap length (form_fits ws k is_form ls fit) ∙ length-numbers_from 0 (arity (form_of k))

  abbrev every : List Bool
  every = map (λ _. true) ls

  pub all_marks : powers ls ≡ bits_of every
  all_marks =
      ap powers (form_fits ws k is_form ls fit ∙ ap (numbers_from 0) (sym as_many))
      ∙ powers-all 0 ls ∙ once (bits_of every)

  -- few places have a small number of bits
  pub few_marks : nat_le (arity (form_of k)) 64 ≡ true → powers ls < 2 ^ 64
  few_marks small =
      let below : arity (form_of k) ≤ 64 = leb-true (arity (form_of k)) 64 small in
      let count : length every ≡ length ls = length-map ls (λ _. true) in
      rw all_marks (few_bits every (omega (arith, count, as_many, below)))

  -- the first weight of few places is that of the class
  pub all_weight :
      nat_le (arity (form_of k)) 64 ≡ true → (s n : ℕ) → n ≡ powers ls →
      opened.Places (record { shape = s; marks = n }) ≡ wide_of ws k s ls every
  all_weight small s n n_is =
      ap (λ m. opened.Places (record { shape = s; marks = m })) (n_is ∙ all_marks)
      ∙ form_toward ws k is_form small s ls every

  -- the first value of few places is that of the class
  pub all_twos :
      (d n : ℕ) (f : Form) (x : Three) → f ≡ form_of k → n ≡ powers ls →
      x ≡ value_of_form f (trits_of (arity f) 0 n) →
      x ≡ value_of_class d ws k ls (each 2 ls)
  all_twos d n f x f_is n_is e =
      e ∙ ap (λ g. value_of_form g (trits_of (arity g) 0 n)) f_is
      ∙ ap (value_of_form (form_of k))
      (rw (n_is, all_marks, sym as_many) (trits-all ls))
      ∙ form_value k is_form d ws ls (each 2 ls)

  -- and where the marks are kept one by one
  pub all_many :
      nat_le (arity (form_of k)) 64 ≡ false → (s : ℕ) (ms : List Bool) → ms ≡ every →
      opened.Many (record { shape = s; marks = ms }) ≡ wide_of ws k s ls every
  all_many large s ms ms_is =
      ap (λ us. opened.Many (record { shape = s; marks = us })) ms_is
      ∙ many_toward ws k is_form large s ls every

  -- the first value of many places is that of the class
  pub many_twos :
      (d : ℕ) (f : Form) (x : Three) (ts : List ℕ) → f ≡ form_of k → ts ≡ each 2 ls →
      x ≡ value_of_form f ts → x ≡ value_of_class d ws k ls (each 2 ls)
  many_twos d f x ts f_is ts_is e =
      e ∙ ap (λ g. value_of_form g ts) f_is ∙ ap (value_of_form (form_of k)) ts_is
      ∙ form_value k is_form d ws ls (each 2 ls)

-- a form with places that move
module _
    (ws : List ℤ) (k : Class) (s : ℕ) (ls ts : List ℕ) (fit : fits_class ws k ls)
    (one_each : length ts ≡ length ls) (trits : AreTrits ts) (w : PlacesWeight) (moved : List ℕ)
    (weight_is : opened.Places w ≡ wide_of ws k s ls (in_coarse ts)) (moved_is : moved ≡ picked ls
    ts)
  where
    is_form : k ≡ class.Form (form_of k)
    is_form = (places_weight ws k s ls (in_coarse ts) w weight_is).0

    small : nat_le (arity (form_of k)) 64 ≡ true
    small = (places_weight ws k s ls (in_coarse ts) w weight_is).2

    -- the weight keeps the number of its shape
    pub shape_is : w.shape ≡ s
    shape_is =
        ap (λ (v : PlacesWeight). v.shape) (places_weight ws k s ls (in_coarse ts) w weight_is).1

    marks_is : w.marks ≡ bits_of (in_coarse ts)
    marks_is =
        ap (λ (v : PlacesWeight). v.marks) (places_weight ws k s ls (in_coarse ts) w weight_is).1

    count : length ts ≡ arity (form_of k)
    count = one_each ∙ as_many ws k is_form ls fit

    part_is : powers moved ≡ bits_of (in_splitter ts)
    part_is =
        ap powers (moved_is ∙ ap (λ xs. picked xs ts)
        (form_fits ws k is_form ls fit ∙ ap (numbers_from 0) (sym count)))
        ∙ powers-picked 0 ts ∙ once (bits_of (in_splitter ts))

    -- the bits of the places that move are a small number
    pub few_moved : powers moved < 2 ^ 64
    few_moved =
        let below : arity (form_of k) ≤ 64 = leb-true (arity (form_of k)) 64 small in
        let many : length (in_splitter ts) ≡ length ts = length-map ts (λ t. t == 2) in
        rw part_is (few_bits (in_splitter ts)
        (omega (arith, many, count, below)))

    -- the places that move are some of those in the block
    pub fewer : powers moved ≤ w.marks
    fewer = rw (part_is, marks_is) (omega (arith, bits_parts ts trits))

    rest_now : w.marks - powers moved ≡ bits_of (in_rest ts)
    rest_now = rw (part_is, marks_is) (omega (arith, bits_parts ts trits))

    -- the weight of the places that stay is that towards the rest
    pub rest_is :
        (r m : ℕ) → r ≡ w.shape → m ≡ w.marks - powers moved →
        opened.Places (record { shape = r; marks = m }) ≡ wide_of ws k s ls (in_rest ts)
    rest_is r m r_is m_is =
        rw (r_is, shape_is, m_is, rest_now) (form_toward ws k is_form small s ls (in_rest ts))

    -- the weight of the places that move is that towards the splitter
    pub part_weight :
        (r m : ℕ) → r ≡ w.shape → m ≡ powers moved →
        opened.Places (record { shape = r; marks = m }) ≡ wide_of ws k s ls (in_splitter ts)
    part_weight r m r_is m_is =
        rw (r_is, shape_is, m_is, part_is) (form_toward ws k is_form small s ls (in_splitter ts))

    -- the value of the places towards both blocks is that of the class
    pub three_is :
        (d m n : ℕ) (f : Form) (x : Three) → f ≡ form_of k → m ≡ w.marks - n → n ≡ powers moved →
        x ≡ value_of_form f (trits_of (arity f) m n) →
        x ≡ value_of_class d ws k ls ts
    three_is d m n f x f_is m_is n_is e =
        e ∙ ap (λ g. value_of_form g (trits_of (arity g) m n)) f_is
        ∙ ap (value_of_form (form_of k))
        (rw (m_is, n_is, rest_now, part_is, sym count) (trits-parts ts trits))
        ∙ form_value k is_form d ws ls ts

    -- the value of the places of an untouched member is that of the class
    pub void_is :
        (d m : ℕ) (f : Form) (x : Three) → f ≡ form_of k → m ≡ w.marks →
        x ≡ value_of_form f (trits_of (arity f) m 0) →
        x ≡ value_of_class d ws k ls (without_splitter ts)
    void_is d m f x f_is m_is e =
        e ∙ ap (λ g. value_of_form g (trits_of (arity g) m 0)) f_is
        ∙ ap (value_of_form (form_of k))
        (rw (m_is, marks_is, sym count) (trits-void ts trits))
        ∙ form_value k is_form d ws ls (without_splitter ts)

-- a form with more places, some of which move
module _
    (ws : List ℤ) (k : Class) (s : ℕ) (ls ts : List ℕ) (fit : fits_class ws k ls)
    (one_each : length ts ≡ length ls) (trits : AreTrits ts) (w : MarksWeight) (moved : List ℕ)
    (weight_is : opened.Many w ≡ wide_of ws k s ls (in_coarse ts)) (moved_is : moved ≡ picked ls ts)
  where
    of_many : k ≡ class.Form (form_of k)
    of_many = (marks_weight ws k s ls (in_coarse ts) w weight_is).0

    large : nat_le (arity (form_of k)) 64 ≡ false
    large = (marks_weight ws k s ls (in_coarse ts) w weight_is).2

    -- the weight keeps the number of its shape
    pub number_is : w.shape ≡ s
    number_is =
        ap (λ (v : MarksWeight). v.shape) (marks_weight ws k s ls (in_coarse ts) w weight_is).1

    marks_are : w.marks ≡ in_coarse ts
    marks_are =
        ap (λ (v : MarksWeight). v.marks) (marks_weight ws k s ls (in_coarse ts) w weight_is).1

    -- a mark for each place
    pub marks_count : length w.marks ≡ arity (form_of k)
    marks_count =
        ap length marks_are ∙ length-map ts (λ t. nat_le 1 t) ∙ one_each
        ∙ as_many ws k of_many ls fit

    pub found_is : trits_from w.marks 0 moved ≡ ts
    found_is =
        told (form_of k) ls ts (record { form = form_of k; marks = w.marks }) moved
        (form_fits ws k of_many ls fit) one_each trits (ap (toward_of_form (form_of k)) marks_are)
        moved_is

    -- a weight of many places is that of the class
    pub many_weight :
        (r : ℕ) (f : ℕ → Bool) (ms : List Bool) → r ≡ w.shape →
        ms ≡ map f (trits_from w.marks 0 moved) →
        opened.Many (record { shape = r; marks = ms }) ≡ wide_of ws k s ls (map f ts)
    many_weight r f ms r_is ms_is =
        rw (r_is, number_is, ms_is, found_is) (many_toward ws k of_many large s ls (map f ts))

    -- a value of many places is that of the class
    pub many_value :
        (d : ℕ) (f : Form) (x : Three) (g : List ℕ → List ℕ) → f ≡ form_of k →
        x ≡ value_of_form f (g (trits_from w.marks 0 moved)) → x ≡ value_of_class d ws k ls (g ts)
    many_value d f x g f_is e =
        e ∙ ap (λ h. value_of_form h (g (trits_from w.marks 0 moved))) f_is
        ∙ ap (λ us. value_of_form (form_of k) (g us)) found_is
        ∙ form_value k of_many d ws ls (g ts)
