-- Laws of folds over a term.
use Rattle.std.proofs.Common.{◌≡◌, ℕ, zero, suc, ◌+◌, ◌<◌, ◌≤◌, List, [], ◌∷◌, length, map, Option, Some, None, slice_get, Contains, refl, sym, ap, ◌∙◌, subst, arith}
use Rattle.std.proofs.Common.{⊎_elim}
use Rattle.std.proofs.lemmas.Option.{slice_get_cases}
use Rattle.functor_terms.specs.declared.node.Node.TheVariants.{State}
use Rattle.std.specs.List.{AllByRecursion, AllZip}
use Rattle.std.specs.Option.{option_map_or}
use Rattle.functor_terms.specs.declared.node.Node.{Node}
use Rattle.functor_terms.specs.declared.node.Branch.{Branch}
use Rattle.functor_terms.specs.Lists.{Zip3}
use Rattle.functor_terms.specs.Terms.{Nodes, IsTerm, fold_within, fold, node_at, children_at}
use Rattle.functor_terms.proofs.TermLaws.{term-later}

-- what holds of each image
all_images : {X A : Type 0} (P : A → Type 0) (f : X → A) → ((x : X) → P (f x)) → (xs : List X)
    → AllByRecursion P (map f xs)
all_images P f h [] = tt
all_images P f h (x ∷ xs) = (h x, all_images P f h xs)

-- what holds of two images of each
zip_images : {X A B : Type 0} (R : A → B → Type 0) (f : X → A) (g : X → B)
    → ((x : X) → R (f x) (g x)) → (xs : List X) → AllZip R (map f xs) (map g xs)
zip_images R f g h [] = tt
zip_images R f g h (x ∷ xs) = (h x, zip_images R f g h xs)

-- what a step keeps holds of each node
module _ {A : Type 0} (P : A → Type 0) (other : A) (step : Node → List A
    → A) (at_other : P other) (keeps : (m : Node) (xs : List A) → AllByRecursion P xs
    → P (step m xs)) (t : Nodes) where
  pub fold_within-all : (n p : ℕ) → P (fold_within other step t n p)
  fold_within-all zero p = at_other
  fold_within-all (suc n) p = by (fold_within-all n) (slice_get t p)
    where
      by : ((q : ℕ) → P (fold_within other step t n q)) → (b : Option Branch)
          → P (option_map_or (λ b. step b.node (map (fold_within other step t n) b.children)) b
          other)
      by below None = at_other
      by below (Some b) = keeps b.node _ (all_images P (fold_within other step t n) below
          b.children)

  -- what each step keeps holds of every node's fold
  pub fold-all : (p : ℕ) → P (fold other step t p)
  fold-all p = fold_within-all (length t) p

-- what two steps keep holds between two folds
module _ {A B : Type 0} (R : A → B → Type 0) (a : A) (b : B) (f : Node → List A → A) (g : Node
    → List B → B) (at_other : R a b) (keeps : (m : Node) (xs : List A) (ys : List B)
    → AllZip R xs ys → R (f m xs) (g m ys)) (t : Nodes) where
  pub fold_within-related : (n p : ℕ) → R (fold_within a f t n p) (fold_within b g t n p)
  fold_within-related zero p = at_other
  fold_within-related (suc n) p = by (fold_within-related n) (slice_get t p)
    where
      by : ((q : ℕ) → R (fold_within a f t n q) (fold_within b g t n q)) → (o : Option Branch)
          → R (option_map_or (λ e. f e.node (map (fold_within a f t n) e.children)) o a)
          (option_map_or (λ e. g e.node (map (fold_within b g t n) e.children)) o b)
      by below None = at_other
      by below (Some e) = keeps e.node _ _ (zip_images R (fold_within a f t n) (fold_within b g t n)
          below e.children)

  -- two folds whose steps keep a relation are related at each node
  pub fold-related : (p : ℕ) → R (fold a f t p) (fold b g t p)
  fold-related p = fold_within-related (length t) p

-- the first of a list is in it, and so is each of the rest
pub first_in : {X : Type 0} (x : X) (xs : List X) → Contains (x ∷ xs) x
first_in x xs = (0, omega arith, refl)

-- an element of the rest is one of the whole
pub rest_in : {X : Type 0} (x : X) (xs : List X) (y : X) → Contains xs y → Contains (x ∷ xs) y
rest_in x xs y h = let (k, below, same) = h in (suc k, omega (arith, below), same)

-- nothing is found only past the end
slice_get_none : {X : Type 0} (xs : List X) (p : ℕ) → slice_get xs p ≡ None → length xs ≤ p
slice_get_none {X = X} xs p e = ⊎_elim (λ w. absurd (some_none w.0 (sym w.2 ∙ e))) (λ w. w.0)
    (slice_get_cases xs p).1
  where
    some_none : (x : X) → Some x ≡ None → ⊥
    some_none x e = cc

-- equal images of each
map_same : {X A : Type 0} (f g : X → A) (xs : List X) → ((x : X) → Contains xs x → f x ≡ g x)
    → map f xs ≡ map g xs
map_same f g [] h = refl
map_same f g (x ∷ xs) h = λ i. h x (first_in x xs) i ∷ map_same f g xs
    (λ y c. h y (rest_in x xs y c)) i

-- How deep a fold looks doesn't matter, once it reaches the last node.
module _ {A : Type 0} (other : A) (step : Node → List A → A) (t : Nodes) (is : IsTerm t) where
  past : (p : ℕ) → length t ≤ p → slice_get t p ≡ None
  past p h = ⊎_elim (λ w. absurd (omega (arith, w.1))) (λ w. w.1) (slice_get_cases t p).1

  children_of : (p : ℕ) (b : Branch) → slice_get t p ≡ Some b → (q : ℕ) → Contains b.children q
      → (p < q) × (q < length t)
  children_of p b e q c = term-later t is p q
      (subst (λ o. Contains (option_map_or (λ b. b.children) o []) q) (sym e) c)

  at : (ℕ → A) → Option Branch → A
  at below b = option_map_or (λ b. step b.node (map below b.children)) b other

  same_at : (f g : ℕ → A) (p : ℕ) → ((q : ℕ) → p < q → q < length t → f q ≡ g q)
      → (o : Option Branch) → slice_get t p ≡ o → at f o ≡ at g o
  unfolding at
  same_at f g p h None e = refl
  same_at f g p h (Some b) e = ap (step b.node)
      (map_same f g b.children (λ q c. let w = children_of p b e q c in h q w.0 w.1))

  pub fold_within-deep : (n m p : ℕ) → length t ≤ n + p → length t ≤ m + p
      → fold_within other step t n p ≡ fold_within other step t m p
  unfolding at
  fold_within-deep zero zero p a b = refl
  fold_within-deep zero (suc m) p a b = sym (ap (at (fold_within other step t m))
      (past p (omega arith)))
  fold_within-deep (suc n) zero p a b = ap (at (fold_within other step t n)) (past p (omega arith))
  fold_within-deep (suc n) (suc m) p a b =
      same_at (fold_within other step t n) (fold_within other step t m) p
      (λ q later last. fold_within-deep n m q (omega arith) (omega arith)) (slice_get t p) refl

  -- a node gives what the step says of its children
  pub fold-at : (p : ℕ) → p < length t
      → fold other step t p ≡ step (node_at t p) (map (fold other step t) (children_at t p))
  unfolding at
  fold-at p h = fold_within-deep (length t) (suc (length t)) p (omega arith) (omega arith)
      ∙ by (slice_get t p) refl
    where
      by : (o : Option Branch) → slice_get t p ≡ o
          → at (fold other step t) (slice_get t p) ≡ step (node_at t p)
          (map (fold other step t) (children_at t p))
      by None e = absurd (omega (arith, slice_get_none t p e))
      by (Some b) e = ap (at (fold other step t)) e
          ∙ sym (λ i. step (option_map_or (λ b. b.node) (e i) State)
          (map (fold other step t) (option_map_or (λ b. b.children) (e i) [])))

zip3_images : {X A B C : Type 0} (R : A → B → C → Type 0) (f : X → A) (g : X → B) (h : X → C)
    → ((x : X) → R (f x) (g x) (h x)) → (xs : List X) → Zip3 R (map f xs) (map g xs) (map h xs)
zip3_images R f g h k [] = tt
zip3_images R f g h k (x ∷ xs) = (k x, zip3_images R f g h k xs)

-- what three steps keep holds between three folds
module _ {A B C : Type 0} (R : A → B → C → Type 0) (a : A) (b : B) (c : C) (f : Node → List A
    → A) (g : Node → List B → B) (h : Node → List C → C) (at_other : R a b c)
    (keeps : (m : Node) (xs : List A) (ys : List B) (zs : List C) → Zip3 R xs ys zs
    → R (f m xs) (g m ys) (h m zs)) (t : Nodes) where
  pub fold_within-related3 : (n p : ℕ)
      → R (fold_within a f t n p) (fold_within b g t n p) (fold_within c h t n p)
  fold_within-related3 zero p = at_other
  fold_within-related3 (suc n) p = by (fold_within-related3 n) (slice_get t p)
    where
      by : ((q : ℕ) → R (fold_within a f t n q) (fold_within b g t n q) (fold_within c h t n q))
          → (o : Option Branch)
          → R (option_map_or (λ e. f e.node (map (fold_within a f t n) e.children)) o a)
          (option_map_or (λ e. g e.node (map (fold_within b g t n) e.children)) o b)
          (option_map_or (λ e. h e.node (map (fold_within c h t n) e.children)) o c)
      by below None = at_other
      by below (Some e) = keeps e.node _ _ _ (zip3_images R (fold_within a f t n)
          (fold_within b g t n) (fold_within c h t n) below e.children)

  -- three folds whose steps keep a relation are related at each node
  pub fold-related3 : (p : ℕ) → R (fold a f t p) (fold b g t p) (fold c h t p)
  fold-related3 p = fold_within-related3 (length t) p
