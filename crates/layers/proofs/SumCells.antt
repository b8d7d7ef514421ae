-- What the weights of the compact interface tell of a structure with weights.
use Rattle.std.proofs.Common.{◌≡◌, ◌*◌, ◌^◌, ◌≤◌, ℕ, Bool, true, List, [], ◌∷◌, map, refl, ◌∙◌, ap, arith}
use Rattle.std.specs.Prelude.{ℤ, pos, ◌-ℤ◌, unsigned_abs}
use Rattle.std.specs.Int.{w128}
use Rattle.std.proofs.Common.{to_z, of_z}
use Rattle.std.proofs.lemmas.Int.{to_z-of_z, fits_signed_from_abs}
use Rattle.modalities.specs.declared.three.Three.{Three}
use Rattle.weights.specs.Sums.{size_of}
use Rattle.weights.specs.MonoidLaws.{integers_laws, integers_undo}
use Rattle.iface.specs.Trits.{AreTrits, each, picked, in_coarse, in_rest, in_splitter, without_splitter}
use Rattle.monoid_iface.specs.Groups.{total, toward_of_group, value_of_sums, value_of_group}
use Rattle.monoid_iface.proofs.Moved as groups
use Rattle.layers.specs.Nest.{add}
use Rattle.decoding.specs.Laws.{each-map}
use Rattle.layers.specs.declared.weight.SumsWeight.{SumsWeight}
use Rattle.layers.specs.declared.shape.Class.{Class}
use Rattle.layers.specs.declared.shape.Class.TheVariants as class
use Rattle.layers.specs.declared.weight.Opened.TheVariants as opened
use Rattle.layers.specs.Meanings.{weight_at, weights_at, fits_class, over, sums_of, value_of_class, wide_of}
use Rattle.layers.proofs.Cells.{group_of, sums_weight, sums_value, sums_toward, sums_fit, picked-map}

all_true : {A B : Type 0} (f : A → B) (xs : List A)
    → map (λ _. true) (map f xs) ≡ map (λ _. true) xs
all_true f [] = refl
all_true f (x ∷ xs) = ap (λ ys. true ∷ ys) (all_true f xs)

abbrev same : ℤ → ℤ
same x = x

-- a sum in bounds fits
pub kept : (z : ℤ) → unsigned_abs z ≤ 2 ^ 106 → to_z w128 (of_z w128 z) ≡ z
kept z h = to_z-of_z w128 z (fits_signed_from_abs w128 z (omega (arith, h)))

-- weights at the start
module _ (ws : List ℤ) (k : Class) (b : Bool) (is_sums : k ≡ class.Sums b) (ls : List ℕ) where
  -- three times the size of all labels fits 127 bits
  pub small_start : fits_class ws k ls → 3 * size_of (λ x. x) (weights_at ws ls) ≤ 2 ^ 126
  small_start fit =
      let few : size_of (λ x. x) (weights_at ws ls) ≤ 2 ^ 106 = sums_fit ws k b is_sums ls fit in
      omega (arith, few)

  -- the first weight of sums is that of the class
  pub start_weight :
      (s : ℕ) (inside outside : ℤ) → inside ≡ total (pos 0) add (weights_at ws ls) →
      outside ≡ pos 0 →
      opened.Sums (record { scaled = b; outside = outside; inside = inside })
      ≡ wide_of ws k s ls (map (λ _. true) ls)
  start_weight s inside outside p q =
      ap (λ w. opened.Sums (sums_of b w))
      (groups.all_weight same (pos 0) add integers_laws (weights_at ws ls) inside outside p q
      ∙ ap (toward_of_group (pos 0) add (weights_at ws ls)) (all_true (weight_at ws) ls))
      ∙ sums_toward ws k b is_sums s ls (map (λ _. true) ls)

  -- the first value of sums is that of the class
  pub start_value :
      (d n : ℕ) → n ≡ over d b → (inside outside : ℤ) →
      inside ≡ total (pos 0) add (weights_at ws ls) → outside ≡ pos 0 →
      (three : Three) → three ≡ value_of_sums same (pos 0) add n outside outside inside →
      three ≡ value_of_class d ws k ls (each 2 ls)
  start_value d n n_is inside outside p q three three_is =
      groups.all_value same (pos 0) add integers_laws (weights_at ws ls) inside outside p q n
      three three_is
      ∙ ap (value_of_group same (pos 0) add n (weights_at ws ls)) (each-map 2 (weight_at ws) ls)
      ∙ ap (λ m. value_of_group same (pos 0) add m (weights_at ws ls) (each 2 ls)) n_is
      ∙ sums_value k b is_sums d ws ls (each 2 ls)

-- weights that move
module _
    (ws : List ℤ) (k : Class) (s : ℕ) (ls ts : List ℕ) (fit : fits_class ws k ls)
    (trits : AreTrits ts) (w : SumsWeight) (moved : List ℕ)
    (weight_is : opened.Sums w ≡ wide_of ws k s ls (in_coarse ts)) (moved_is : moved ≡ picked ls ts)
  where
    abbrev xs : List ℤ
    xs = weights_at ws ls

    abbrev gone : List ℤ
    gone = weights_at ws moved

    is_sums : k ≡ class.Sums w.scaled
    is_sums = (sums_weight ws k s ls (in_coarse ts) w weight_is).0

    as_group : group_of w ≡ toward_of_group (pos 0) add xs (in_coarse ts)
    as_group = (sums_weight ws k s ls (in_coarse ts) w weight_is).1

    few : size_of same xs ≤ 2 ^ 106
    few = sums_fit ws k w.scaled is_sums ls fit

    gone_is : gone ≡ picked xs ts
    gone_is = ap (weights_at ws) moved_is ∙ picked-map (weight_at ws) ls ts

    abbrev minus : ℤ → ℤ → ℤ
    minus a b = a -ℤ b

    -- three times the size of what moves fits 127 bits
    pub small_gone : 3 * size_of (λ x. x) gone ≤ 2 ^ 126
    small_gone =
        groups.small_moved same (pos 0) add integers_laws minus integers_undo xs ts trits few
        (group_of w) gone as_group gone_is

    -- the sum inside is within its bound
    pub small_inside : unsigned_abs w.inside ≤ 2 ^ 106
    small_inside =
        groups.small_inside same (pos 0) add integers_laws minus integers_undo xs ts trits few
        (group_of w) gone as_group gone_is

    -- the sum outside is within its bound
    pub small_outside : unsigned_abs w.outside ≤ 2 ^ 106
    small_outside =
        groups.small_outside same (pos 0) add integers_laws minus integers_undo xs ts trits few
        (group_of w) gone as_group gone_is

    -- the sum of what moves is within its bound
    pub small_part : unsigned_abs (total (pos 0) add gone) ≤ 2 ^ 106
    small_part =
        groups.small_part same (pos 0) add integers_laws minus integers_undo xs ts trits few
        (group_of w) gone as_group gone_is

    -- the sum of what stays is within its bound
    pub small_rest : unsigned_abs (w.inside -ℤ total (pos 0) add gone) ≤ 2 ^ 106
    small_rest =
        groups.small_rest same (pos 0) add integers_laws minus integers_undo xs ts trits few
        (group_of w) gone as_group gone_is

    -- sums whose part has moved are the weights and values of an update
    pub sums_updated :
        (d n : ℕ) → n ≡ over d w.scaled → (part rest other others : ℤ) →
        part ≡ total (pos 0) add gone → rest ≡ w.inside -ℤ part → other ≡ add w.outside part →
        others ≡ add w.outside rest →
        (three void : Three) → three ≡ value_of_sums same (pos 0) add n w.outside rest part →
        void ≡ value_of_sums same (pos 0) add n w.outside w.inside (pos 0) →
        (opened.Sums (record { scaled = w.scaled; outside = other; inside = rest })
        ≡ wide_of ws k s ls (in_rest ts))
        × (opened.Sums (record { scaled = w.scaled; outside = others; inside = part })
        ≡ wide_of ws k s ls (in_splitter ts))
        × (three ≡ value_of_class d ws k ls ts)
        × (void ≡ value_of_class d ws k ls (without_splitter ts))
    sums_updated d n n_is part rest other others part_e rest_e other_e others_e three void three_e
        void_e =
        let u = groups.updated same (pos 0) add integers_laws minus integers_undo xs ts trits few
        (group_of w) gone as_group gone_is part rest other others part_e rest_e other_e others_e
        n (pos 0) refl three void three_e void_e (record { node = 0 }) in (
          ap (λ v. opened.Sums (sums_of w.scaled v)) u.rest_is
              ∙ sums_toward ws k w.scaled is_sums s ls (in_rest ts),
          ap (λ v. opened.Sums (sums_of w.scaled v)) u.part_is
              ∙ sums_toward ws k w.scaled is_sums s ls (in_splitter ts),
          u.three_is ∙ ap (λ m. value_of_group same (pos 0) add m xs ts) n_is
              ∙ sums_value k w.scaled is_sums d ws ls ts,
          u.void_is ∙ ap (λ m. value_of_group same (pos 0) add m xs (without_splitter ts)) n_is
              ∙ sums_value k w.scaled is_sums d ws ls (without_splitter ts),
        )
