-- Labels of one structure stand on one side of the sum of interfaces, and are read off it.
--     rights-map, lefts-map, all_right, all_left      one side at a time
--     bag_labels, whole_labels, scaled_labels, dist_labels      the labels of a side
--     bag_fit, whole_fit, scaled_fit, dist_fit, places_fit      labels that suit their side
use Rattle.std.proofs.Common.{◌≡◌, ℕ, List, [], ◌∷◌, map, refl, sym, ap, ◌∙◌, subst}
use Rattle.std.specs.Prelude.{ℤ}
use Rattle.iface.specs.declared.side.Side.{Side}
use Rattle.iface.specs.declared.side.Side.TheVariants.{Left, Right}
use Rattle.iface.specs.Sides.{lefts, rights, AllLeft, AllRight}
use Rattle.polynomial_iface.specs.Polys.{numbers_from}
use Rattle.layers.specs.Nest.{AnyLabel, in_bag, in_whole, in_scaled, in_dist, at_place, place_labels}

-- what stands on the right is read off it, and all of it stands there
rights-map :
    {X B : Type 0} (A : Type 0) (h : X → B) (xs : List X) →
    rights {A = A} (map (λ x. Right (h x)) xs) ≡ map h xs
rights-map A h [] = refl
rights-map A h (x ∷ xs) = ap (λ l. h x ∷ l) (rights-map A h xs)

all_right :
    {X B : Type 0} (A : Type 0) (h : X → B) (xs : List X) →
    AllRight {A = A} (map (λ x. Right (h x)) xs)
all_right A h [] = tt
all_right A h (x ∷ xs) = all_right A h xs

-- and the same on the left
lefts-map :
    {X A : Type 0} (B : Type 0) (h : X → A) (xs : List X) →
    lefts {B = B} (map (λ x. Left (h x)) xs) ≡ map h xs
lefts-map B h [] = refl
lefts-map B h (x ∷ xs) = ap (λ l. h x ∷ l) (lefts-map B h xs)

pub all_left :
    {X A : Type 0} (B : Type 0) (h : X → A) (xs : List X) →
    AllLeft {B = B} (map (λ x. Left (h x)) xs)
all_left B h [] = tt
all_left B h (x ∷ xs) = all_left B h xs

map_none : (xs : List ℕ) → map (λ i. i) xs ≡ xs
map_none [] = refl
map_none (x ∷ xs) = ap (λ l. x ∷ l) (map_none xs)

-- the labels behind one, two, three and four sides
abbrev L2 : Type 0
L2 = Side ℤ (Side ℤ (Side ℤ (Side ℤ ℕ)))

abbrev L3 : Type 0
L3 = Side ℤ (Side ℤ (Side ℤ ℕ))

abbrev L4 : Type 0
L4 = Side ℤ (Side ℤ ℕ)

abbrev L5 : Type 0
L5 = Side ℤ ℕ

-- the labels of a structure with weights
module _ {X : Type 0} (f : X → ℤ) (xs : List X) where
  abbrev at5 : X → L5
  at5 x = Left (f x)

  abbrev at4 : X → L4
  at4 x = Left (f x)

  abbrev at3 : X → L3
  at3 x = Left (f x)

  abbrev at2 : X → L2
  at2 x = Left (f x)

  abbrev dist4 : X → L4
  dist4 x = Right (at5 x)

  abbrev dist3 : X → L3
  dist3 x = Right (dist4 x)

  abbrev dist2 : X → L2
  dist2 x = Right (dist3 x)

  abbrev scaled3 : X → L3
  scaled3 x = Right (at4 x)

  abbrev scaled2 : X → L2
  scaled2 x = Right (scaled3 x)

  abbrev whole2 : X → L2
  whole2 x = Right (at3 x)

  abbrev bags : List AnyLabel
  bags = map (λ x. in_bag (f x)) xs

  abbrev wholes : List AnyLabel
  wholes = map (λ x. in_whole (f x)) xs

  abbrev scaleds : List AnyLabel
  scaleds = map (λ x. in_scaled (f x)) xs

  abbrev dists : List AnyLabel
  dists = map (λ x. in_dist (f x)) xs

  bags1 : rights bags ≡ map at2 xs
  bags1 = rights-map (Unit {0}) at2 xs

  pub bag_labels : lefts (rights bags) ≡ map f xs
  bag_labels = ap lefts bags1 ∙ lefts-map L3 f xs

  wholes1 : rights wholes ≡ map whole2 xs
  wholes1 = rights-map (Unit {0}) whole2 xs

  wholes2 : rights (rights wholes) ≡ map at3 xs
  wholes2 = ap rights wholes1 ∙ rights-map ℤ at3 xs

  pub whole_labels : lefts (rights (rights wholes)) ≡ map f xs
  whole_labels = ap lefts wholes2 ∙ lefts-map L4 f xs

  scaleds1 : rights scaleds ≡ map scaled2 xs
  scaleds1 = rights-map (Unit {0}) scaled2 xs

  scaleds2 : rights (rights scaleds) ≡ map scaled3 xs
  scaleds2 = ap rights scaleds1 ∙ rights-map ℤ scaled3 xs

  scaleds3 : rights (rights (rights scaleds)) ≡ map at4 xs
  scaleds3 = ap rights scaleds2 ∙ rights-map ℤ at4 xs

  pub scaled_labels : lefts (rights (rights (rights scaleds))) ≡ map f xs
  scaled_labels = ap lefts scaleds3 ∙ lefts-map L5 f xs

  dists1 : rights dists ≡ map dist2 xs
  dists1 = rights-map (Unit {0}) dist2 xs

  dists2 : rights (rights dists) ≡ map dist3 xs
  dists2 = ap rights dists1 ∙ rights-map ℤ dist3 xs

  dists3 : rights (rights (rights dists)) ≡ map dist4 xs
  dists3 = ap rights dists2 ∙ rights-map ℤ dist4 xs

  dists4 : rights (rights (rights (rights dists))) ≡ map at5 xs
  dists4 = ap rights dists3 ∙ rights-map ℤ at5 xs

  pub dist_labels : lefts (rights (rights (rights (rights dists)))) ≡ map f xs
  dist_labels = ap lefts dists4 ∙ lefts-map ℕ f xs

  -- the labels suit a shape on their side if they do without sides
  module _ (P : List ℤ → Type 0) (fit : P (map f xs)) where
    pub bag_fit : AllRight bags × (AllLeft (rights bags) × P (lefts (rights bags)))
    bag_fit = (
      all_right _ at2 xs,
      (
        subst AllLeft (sym bags1) (all_left _ f xs),
        subst P (sym bag_labels) fit,
      ),
    )

    pub whole_fit :
        AllRight wholes
        × (AllRight (rights wholes)
        × (AllLeft (rights (rights wholes)) × P (lefts (rights (rights wholes)))))
    whole_fit = (
      all_right _ whole2 xs,
      (
        subst AllRight (sym wholes1) (all_right _ at3 xs),
        (
          subst AllLeft (sym wholes2) (all_left _ f xs),
          subst P (sym whole_labels) fit,
        ),
      ),
    )

    pub scaled_fit :
        AllRight scaleds
        × (AllRight (rights scaleds)
        × (AllRight (rights (rights scaleds))
        × (AllLeft (rights (rights (rights scaleds)))
        × P (lefts (rights (rights (rights scaleds)))))))
    scaled_fit = (
      all_right _ scaled2 xs,
      (
        subst AllRight (sym scaleds1) (all_right _ scaled3 xs),
        (
          subst AllRight (sym scaleds2) (all_right _ at4 xs),
          (
            subst AllLeft (sym scaleds3) (all_left _ f xs),
            subst P (sym scaled_labels) fit,
          ),
        ),
      ),
    )

    pub dist_fit :
        AllRight dists
        × (AllRight (rights dists)
        × (AllRight (rights (rights dists))
        × (AllRight (rights (rights (rights dists)))
        × (AllLeft (rights (rights (rights (rights dists))))
        × P (lefts (rights (rights (rights (rights dists)))))))))
    dist_fit = (
      all_right _ dist2 xs,
      (
        subst AllRight (sym dists1) (all_right _ dist3 xs),
        (
          subst AllRight (sym dists2) (all_right _ dist4 xs),
          (
            subst AllRight (sym dists3) (all_right _ at5 xs),
            (
              subst AllLeft (sym dists4) (all_left _ f xs),
              subst P (sym dist_labels) fit,
            ),
          ),
        ),
      ),
    )

-- the labels of a polynomial structure
module _ (k n : ℕ) (same : k ≡ n) where
  abbrev place5 : ℕ → L5
  place5 i = Right i

  abbrev place4 : ℕ → L4
  place4 i = Right (place5 i)

  abbrev place3 : ℕ → L3
  place3 i = Right (place4 i)

  abbrev place2 : ℕ → L2
  place2 i = Right (place3 i)

  abbrev all : List ℕ
  all = numbers_from 0 k

  places1 : rights (place_labels k) ≡ map place2 all
  places1 = rights-map (Unit {0}) place2 all

  places2 : rights (rights (place_labels k)) ≡ map place3 all
  places2 = ap rights places1 ∙ rights-map ℤ place3 all

  places3 : rights (rights (rights (place_labels k))) ≡ map place4 all
  places3 = ap rights places2 ∙ rights-map ℤ place4 all

  places4 : rights (rights (rights (rights (place_labels k)))) ≡ map place5 all
  places4 = ap rights places3 ∙ rights-map ℤ place5 all

  places5 : rights (rights (rights (rights (rights (place_labels k))))) ≡ all
  places5 = ap rights places4 ∙ rights-map ℤ (λ i. i) all ∙ map_none all

  pub places_fit :
      AllRight (place_labels k)
      × (AllRight (rights (place_labels k))
      × (AllRight (rights (rights (place_labels k)))
      × (AllRight (rights (rights (rights (place_labels k))))
      × (AllRight (rights (rights (rights (rights (place_labels k)))))
      × (rights (rights (rights (rights (rights (place_labels k))))) ≡ numbers_from 0 n)))))
  places_fit = (
    all_right _ place2 all,
    (
      subst AllRight (sym places1) (all_right _ place3 all),
      (
        subst AllRight (sym places2) (all_right _ place4 all),
        (
          subst AllRight (sym places3) (all_right _ place5 all),
          (
            subst AllRight (sym places4) (all_right _ (λ i. i) all),
            places5 ∙ ap (numbers_from 0) same,
          ),
        ),
      ),
    ),
  )
