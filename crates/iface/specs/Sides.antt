-- The meanings of the sum of two interfaces, from those of its sides.
--     lefts, rights, AllLeft, AllRight         labels by their side
--     node_of_side, kin_of_sides, fits_on_side, value_of_side, toward_of_side, agree_of_sides
--     left_of, right_of                        a structure of the sum as one of a side
use Rattle.std.specs.Prelude.{ℕ, Bool, List, [], ◌∷◌}
use Rattle.modalities.specs.declared.three.Three.{Three}
use Rattle.iface.specs.declared.side.Side.{Side}
use Rattle.iface.specs.declared.side.Side.TheVariants.{Left, Right}
use Rattle.iface.specs.Structures.{Classed}

-- what stands on the left, in order
abbrev pub lefts : {A B : Type 0} → List (Side A B) → List A
lefts [] = []
lefts (Left a ∷ xs) = a ∷ lefts xs
lefts (Right b ∷ xs) = lefts xs

-- what stands on the right, in order
abbrev pub rights : {A B : Type 0} → List (Side A B) → List B
rights [] = []
rights (Left a ∷ xs) = rights xs
rights (Right b ∷ xs) = b ∷ rights xs

-- all stand on the left
abbrev pub AllLeft : {A B : Type 0} → List (Side A B) → Type 0
AllLeft [] = Unit {0}
AllLeft (Left a ∷ xs) = AllLeft xs
AllLeft (Right b ∷ xs) = ⊥

-- all stand on the right
abbrev pub AllRight : {A B : Type 0} → List (Side A B) → Type 0
AllRight [] = Unit {0}
AllRight (Left a ∷ xs) = ⊥
AllRight (Right b ∷ xs) = AllRight xs

-- the node that the shape has on its side
abbrev pub node_of_side : {A B : Type 0} → (A → ℕ) → (B → ℕ) → Side A B → ℕ
node_of_side f g (Left a) = f a
node_of_side f g (Right b) = g b

-- both stand on one side and are kin there
abbrev pub kin_of_sides :
    {A B : Type 0} → (A → A → Type 0) → (B → B → Type 0) → Side A B → Side A B → Type 0
kin_of_sides f g (Left a) (Left b) = f a b
kin_of_sides f g (Left a) (Right b) = ⊥
kin_of_sides f g (Right a) (Left b) = ⊥
kin_of_sides f g (Right a) (Right b) = g a b

-- the labels stand on the shape's side and suit it there
abbrev pub fits_on_side :
    {A B L M : Type 0} → (A → List L → Type 0) → (B → List M → Type 0) →
    Side A B → List (Side L M) → Type 0
fits_on_side f g (Left a) labels = AllLeft labels × f a (lefts labels)
fits_on_side f g (Right b) labels = AllRight labels × g b (rights labels)

-- the value on the shape's side
abbrev pub value_of_side :
    {A B L M : Type 0} → (A → List L → List ℕ → Three) → (B → List M → List ℕ → Three) →
    Side A B → List (Side L M) → List ℕ → Three
value_of_side f g (Left a) labels trits = f a (lefts labels) trits
value_of_side f g (Right b) labels trits = g b (rights labels) trits

-- the weight on the shape's side
abbrev pub toward_of_side :
    {A B L M V W : Type 0} → (A → List L → List Bool → V) → (B → List M → List Bool → W) →
    Side A B → List (Side L M) → List Bool → Side V W
toward_of_side f g (Left a) labels marks = Left (f a (lefts labels) marks)
toward_of_side f g (Right b) labels marks = Right (g b (rights labels) marks)

-- a structure of the left side
abbrev pub left_of : {A L M : Type 0} → A → List (Side L M) → List ℕ → Classed A L
left_of a labels classes = record { shape = a; labels = lefts labels; classes = classes }

-- a structure of the right side
abbrev pub right_of : {B L M : Type 0} → B → List (Side L M) → List ℕ → Classed B M
right_of b labels classes = record { shape = b; labels = rights labels; classes = classes }

abbrev agree_at :
    {A B L M : Type 0} → (Classed A L → Classed A L → Type 0) →
    (Classed B M → Classed B M → Type 0) → Side A B → List (Side L M) → List ℕ →
    Side A B → List (Side L M) → List ℕ → Type 0
agree_at f g (Left a) ls cs (Left b) ms ds = f (left_of a ls cs) (left_of b ms ds)
agree_at f g (Left a) ls cs (Right b) ms ds = ⊥
agree_at f g (Right a) ls cs (Left b) ms ds = ⊥
agree_at f g (Right a) ls cs (Right b) ms ds = g (right_of a ls cs) (right_of b ms ds)

-- both stand on one side and agree there
abbrev pub agree_of_sides :
    {A B L M : Type 0} → (Classed A L → Classed A L → Type 0) →
    (Classed B M → Classed B M → Type 0) →
    Classed (Side A B) (Side L M) → Classed (Side A B) (Side L M) → Type 0
agree_of_sides f g x y = agree_at f g x.shape x.labels x.classes y.shape y.labels y.classes
