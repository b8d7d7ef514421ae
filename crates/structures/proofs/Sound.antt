-- Structures that fit, with state numbers and weights slice_get_within their bounds: so are their children.
use Rattle.std.proofs.Common.{◌≡◌, ℕ, zero, suc, ◌+◌, ◌<◌, ◌≤◌, ◌^◌, Bool, true, false, not, cond, List, [], ◌∷◌, ◌++◌, length, map, drop, Some, slice_get, Contains, refl, sym, ap, ◌∙◌, subst, true≢false, ⊎_elim, inl, inr, arith, append_assoc, length-append}
use Rattle.std.specs.Prelude.{◌⊎◌, filter, unwrap_or}
use Rattle.std.specs.List.{list_all, AllZip}
use Rattle.std.proofs.lemmas.Option.{slice_get_past, slice_get_cases, same_Some, none-some}
use Rattle.functor_terms.specs.declared.node.Node.{Node}
use Rattle.functor_terms.specs.declared.node.Node.TheVariants.{State}
use Rattle.functor_terms.specs.Terms.{Nodes, IsTerm, node_at, children_at, fold_within}
use Rattle.functor_terms.proofs.Folds.{fold-at}
use Rattle.functor_terms.proofs.TermLaws.{term-later}
use Rattle.std.specs.Option.{option_map_or}
use Rattle.typing.specs.declared.value.Value.{Value, Value-F, out-Value}
use Rattle.typing.specs.Values.{state, states_below, state_in, parts, inner, entries}
use Rattle.typing.specs.Fits.{Check, fits, fits_level, fits_step, no_check}
use Rattle.typing.specs.Bounds.{is_within}
use Rattle.typing.specs.Layers.{Place, child_places, children_of, leaves_of, layers_in, is_state, is_state_at, added, over_within}
use Rattle.typing.proofs.MapLaws.{state_within, parts_below, inner_below, entries_below}
use Rattle.structures.specs.Walk.{targets_of, LeadsTo}
use Rattle.structures.proofs.Leaves.{leaves-children}
use Rattle.structures.proofs.Bounded.{parts_within, inner_within, entries_within}
use Rattle.structures.proofs.GoodChildren.{IsGood, children_good}

-- lists
pub kept_at : {X : Type 0} (xs ys : List X) (i : ℕ) (x : X) → slice_get xs i ≡ Some x
    → slice_get (xs ++ ys) i ≡ Some x
kept_at [] ys i x e = absurd (none-some x e)
kept_at (z ∷ xs) ys zero x e = e
kept_at (z ∷ xs) ys (suc i) x e = kept_at xs ys i x e

-- an element of two lists is one of the first or of the second
pub either_at : {X : Type 0} (xs ys : List X) (i : ℕ) (x : X) → slice_get (xs ++ ys) i ≡ Some x
    → (slice_get xs i ≡ Some x) ⊎ ((k : ℕ) × (slice_get ys k ≡ Some x))
either_at [] ys i x e = inr (i, e)
either_at (z ∷ xs) ys zero x e = inl e
either_at (z ∷ xs) ys (suc i) x e = either_at xs ys i x e

-- an element within the first list is one of the first
pub first_part : {X : Type 0} (xs ys : List X) (i : ℕ) (x : X) → i < length xs
    → slice_get (xs ++ ys) i ≡ Some x → slice_get xs i ≡ Some x
first_part [] ys i x h e = absurd (omega arith)
first_part (z ∷ xs) ys zero x h e = e
first_part (z ∷ xs) ys (suc i) x h e = first_part xs ys i x (omega arith) e

at_end : {X : Type 0} (xs : List X) (x : X) (ys : List X)
    → slice_get (xs ++ x ∷ ys) (length xs) ≡ Some x
at_end [] x ys = refl
at_end (z ∷ xs) x ys = at_end xs x ys

filtered_at : {X : Type 0} (p : X → Bool) (xs : List X) (i : ℕ) (x : X)
    → slice_get (filter p xs) i ≡ Some x → (j : ℕ) × (slice_get xs j ≡ Some x) × (p x ≡ true)
filtered_at p [] i x e = absurd (none-some x e)
filtered_at {X = X} p (y ∷ ys) i x e = by (p y) refl i e (filtered_at p ys)
  where
    by : (b : Bool) → p y ≡ b → (i : ℕ) → slice_get (cond b (y ∷ filter p ys) (filter p ys)) i
        ≡ Some x → ((i : ℕ) (x : X) → slice_get (filter p ys) i ≡ Some x
        → (j : ℕ) × (slice_get ys j ≡ Some x) × (p x ≡ true))
        → (j : ℕ) × (slice_get (y ∷ ys) j ≡ Some x) × (p x ≡ true)
    by true q zero e later = (0, e, ap p (sym (same_Some y x e)) ∙ q)
    by true q (suc i) e later = let (j, at, passes) = later i x e in (suc j, at, passes)
    by false q i e later = let (j, at, passes) = later i x e in (suc j, at, passes)

-- what is in the layers of some places is at no State node
pub layer_at :
    (t : Nodes) (xs : List Place) (i : ℕ) (x : Place) → slice_get (layers_in t xs) i ≡ Some x →
    is_state_at t x ≡ false
layer_at t xs i x e = by (is_state_at t x) (filtered_at (λ y. not (is_state_at t y)) xs i x e).2
  where
    by : (b : Bool) → not b ≡ true → b ≡ false
    by true h = absurd (true≢false (sym h))
    by false h = refl

map_same : {X A : Type 0} (f g : X → A) (xs : List X) → ((i : ℕ) (x : X) → slice_get xs i ≡ Some x
    → f x ≡ g x) → map f xs ≡ map g xs
map_same f g [] h = refl
map_same f g (x ∷ xs) h = λ k. h 0 x refl k ∷ map_same f g xs (λ i y e. h (suc i) y e) k

-- what is left of two lists behind a place in the first
pub drop-append : {X : Type 0} (xs ys : List X) (i : ℕ) → i ≤ length xs
    → drop i (xs ++ ys) ≡ drop i xs ++ ys
drop-append [] ys zero h = refl
drop-append [] ys (suc i) h = absurd (omega arith)
drop-append (x ∷ xs) ys zero h = refl
drop-append (x ∷ xs) ys (suc i) h = drop-append xs ys i (omega arith)

-- a sum over two lists is that of both together
pub added-append : (f : Place → ℕ) (xs ys : List Place)
    → added (map f (xs ++ ys)) ≡ added (map f xs) + added (map f ys)
added-append f [] ys = omega arith
added-append f (x ∷ xs) ys = omega (arith, added-append f xs ys)

-- a node is State, or not
pub true_state : (m : Node) → is_state m ≡ true → m ≡ State
true_state State h = refl
true_state m h = absurd (true≢false (sym h))

state_or : (m : Node) → (m ≡ State) ⊎ (m ≡ State → ⊥)
state_or m = by (is_state m) refl
  where
    by : (b : Bool) → is_state m ≡ b → (m ≡ State) ⊎ (m ≡ State → ⊥)
    by true h = inl (true_state m h)
    by false h = inr (λ e. true≢false (sym (ap is_state e) ∙ h))

-- what passes at a node shows that there is one
fold-past :
    {A : Type 0} (other : A) (step : Node → List A → A) (t : Nodes) (n p : ℕ) → length t ≤ p →
    fold_within other step t n p ≡ other
fold-past other step t zero p h = refl
fold-past other step t (suc n) p h =
    ap (λ o. option_map_or (λ b. step b.node (map (fold_within other step t n) b.children)) o other)
    (slice_get_past t p h)

-- what fits, fits at a node of the term
pub fits_inside : (t : Nodes) (p : ℕ) (v : Value) → fits t p v ≡ true → p < length t
fits_inside t p v h =
    ⊎_elim (λ w. w.1)
    (λ w. absurd (true≢false
    (sym h ∙ ap (λ (f : Check). f v) (fold-past no_check fits_step t (length t) p w.0))))
    (slice_get_cases t p).1

module _ (t : Nodes) (is : IsTerm t) (n : ℕ) where
  -- a structure that fits, with state numbers below n
  pub record IsSound (x : Place) : Type 0 where
    pub fit : fits t x.0 x.1 ≡ true
    pub below : states_below n x.1 ≡ true
    pub within : is_within (2 ^ 106) x.1 ≡ true

  fits-at : (p : ℕ) (u : Value) → p < length t
      → fits t p u ≡ fits_step (node_at t p) (map (fits t) (children_at t p)) u
  fits-at p u h = ap (λ (f : Check). f u) (fold-at no_check fits_step t is p h)

  kid_good : (B : Value → Bool) (x : Place) → list_all B (parts x.1) ≡ true → B (inner x.1) ≡ true
      → list_all (λ e. B e.0) (entries x.1) ≡ true → IsSound x → (node_at t x.0 ≡ State → ⊥)
      → (i : ℕ) (z : Place) → slice_get (children_of t x) i ≡ Some z
      → IsGood (fits t) B (children_at t x.0) z
  kid_good B x in_parts in_inner in_entries sound other = children_good (fits t) B
      (children_at t x.0) x.0 x.1 in_parts in_inner in_entries (node_at t x.0) other
      (sym (fits-at x.0 x.1 (fits_inside t x.0 x.1 sound.fit)) ∙ sound.fit)

  -- a child is at a child node, and is sound
  child_good : (x : Place) → IsSound x → (node_at t x.0 ≡ State → ⊥) → (i : ℕ) (z : Place)
      → slice_get (children_of t x) i ≡ Some z → Contains (children_at t x.0) z.0 × IsSound z
  child_good x sound other i z at =
      let good = kid_good (states_below n) x (parts_below n x.1 sound.below)
      (inner_below n x.1 sound.below) (entries_below n x.1 sound.below) sound other i z at in
      let small = kid_good (is_within (2 ^ 106)) x (parts_within (2 ^ 106) x.1 sound.within)
      (inner_within (2 ^ 106) x.1 sound.within) (entries_within (2 ^ 106) x.1 sound.within)
      sound other i z at in
      (good.node, record { fit = good.fit; below = good.below; within = small.below })

  -- the child of a State structure is itself
  state_kids : (x : Place) → node_at t x.0 ≡ State → children_of t x ≡ x ∷ []
  state_kids x e = ap (λ m. child_places m (children_at t x.0) x.0 x.1) e

  as_child : (x z : Place) (i : ℕ) → slice_get (leaves_of t x) i ≡ Some z
      → slice_get (children_of t x) i ≡ Some z
  as_child x z i at = ap (λ l. slice_get l i) (sym (leaves-children t x)) ∙ at

  -- a child of what is sound is sound
  pub kid_sound : (x : Place) → IsSound x → (i : ℕ) (z : Place)
      → slice_get (leaves_of t x) i ≡ Some z → IsSound z
  kid_sound x sound i z at = ⊎_elim
      (λ e. itself i (ap (λ l. slice_get l i) (sym (state_kids x e)) ∙ as_child x z i at))
      (λ other. (child_good x sound other i z (as_child x z i at)).1)
      (state_or (node_at t x.0))
    where
      itself : (i : ℕ) → slice_get (x ∷ []) i ≡ Some z → IsSound z
      itself zero e = subst IsSound (same_Some x z e) sound
      itself (suc i) e = absurd (none-some z e)

  -- a layer below what is sound stands later in the term, and is sound
  pub layer_later : (x : Place) → IsSound x → (i : ℕ) (z : Place)
      → slice_get (layers_in t (leaves_of t x)) i ≡ Some z
      → (x.0 < z.0) × (z.0 < length t) × IsSound z
  layer_later x sound i z at =
      let (j, at_leaf, layer) = filtered_at (λ y. not (is_state_at t y)) (leaves_of t x) i z at in
      let at_j = as_child x z j at_leaf in
      ⊎_elim
      (λ e. absurd (state_no_layer j e (ap (λ l. slice_get l j) (sym (state_kids x e))
      ∙ at_j) layer))
      (λ other. let (contained, good) = child_good x sound other j z at_j in
      let later = term-later t is x.0 z.0 contained in (later.0, later.1, good))
      (state_or (node_at t x.0))
    where
      state_no_layer : (j : ℕ) → node_at t x.0 ≡ State → slice_get (x ∷ []) j ≡ Some z
          → not (is_state_at t z) ≡ true → ⊥
      state_no_layer zero e at l = true≢false (sym l
          ∙ ap (λ (y : Place). not (is_state_at t y)) (sym (same_Some x z at))
          ∙ ap (λ m. not (is_state m)) e)
      state_no_layer (suc j) e at l = none-some z at

  -- what is folded over the layers does not depend on how deep one looks
  module _ {A : Type 0} (other : A) (step : Place → List A → A) where
    deep : (k m : ℕ) (x : Place) → IsSound x → x.0 < length t → length t ≤ k + x.0
        → length t ≤ m + x.0 → over_within other step (leaves_of t) t k x ≡ over_within other step
        (leaves_of t) t m x
    deep zero m x sound inside a b = absurd (omega arith)
    deep (suc k) zero x sound inside a b = absurd (omega arith)
    deep (suc k) (suc m) x sound inside a b =
        ap (step x) (map_same (over_within other step (leaves_of t) t k)
        (over_within other step (leaves_of t) t m) (layers_in t (leaves_of t x))
        (λ i z at. let (later, last, good) = layer_later x sound i z at in
        deep k m z good last (omega arith) (omega arith)))

    -- a fold over places, one place after the other
    pub over-at : (x : Place) → IsSound x → over_within other step (leaves_of t) t (length t) x
        ≡ step x (map (over_within other step (leaves_of t) t (length t))
        (layers_in t (leaves_of t x)))
    over-at x sound = deep (length t) (suc (length t)) x sound (fits_inside t x.0 x.1 sound.fit)
        (omega arith) (omega arith)

  -- where the children lead
  state_known : (x : Place) → IsSound x → node_at t x.0 ≡ State → (i : ℕ) × (state x.1 ≡ Some i)
  state_known x sound e = by (out-Value x.1)
      (sym (ap (λ m. fits_step m (map (fits t) (children_at t x.0)) x.1) e)
      ∙ sym (fits-at x.0 x.1 (fits_inside t x.0 x.1 sound.fit)) ∙ sound.fit)
    where
      by : (y : Value-F Value) → fits_level State (map (fits t) (children_at t x.0)) y ≡ true
          → (i : ℕ) × (state_in y ≡ Some i)
      by (Value-F.State i) h = (i, refl)
      by (Value-F.Label i) h = absurd (true≢false (sym h))
      by (Value-F.Tuple vs) h = absurd (true≢false (sym h))
      by (Value-F.Set vs) h = absurd (true≢false (sym h))
      by (Value-F.Inj k u) h = absurd (true≢false (sym h))
      by (Value-F.Weights es) h = absurd (true≢false (sym h))

  abbrev Leads : List Place → Place → ℕ → Type 0
  Leads places z k = LeadsTo (node_at t z.0) n places z k

  leads_kept : (places more : List Place) (m : Node) (z : Place) (k : ℕ) → LeadsTo m n places z k
      → LeadsTo m n (places ++ more) z k
  leads_kept places more State z k h = h
  leads_kept places more m z k h = kept_at places more k z h

  -- what leads to places leads to them where there are more
  pub all_kept : (places more kids : List Place) (ks : List ℕ) → AllZip (Leads places) kids ks
      → AllZip (Leads (places ++ more)) kids ks
  all_kept places more [] [] h = tt
  all_kept places more [] (k ∷ ks) h = absurd h
  all_kept places more (z ∷ zs) [] h = absurd h
  all_kept places more (z ∷ zs) (k ∷ ks) h = (
    leads_kept places more (node_at t z.0) z k h.0,
    all_kept places more zs ks h.1,
  )

  -- children lead to the places that they get
  pub kids_lead : (places kids : List Place) → ((i : ℕ) (z : Place) → slice_get kids i ≡ Some z
      → IsSound z) → AllZip (Leads (places ++ layers_in t kids)) kids (targets_of t (length places)
      kids)
  kids_lead places [] good = tt
  kids_lead places (z ∷ zs) good = by (λ ps. kids_lead ps zs (λ j y at. good (suc j) y at))
      (node_at t z.0) refl
    where
      by : ((ps : List Place)
          → AllZip (Leads (ps ++ layers_in t zs)) zs (targets_of t (length ps) zs)) → (m : Node)
          → node_at t z.0 ≡ m → AllZip (Leads (places ++ layers_in t (z ∷ zs))) (z ∷ zs)
          (targets_of t (length places) (z ∷ zs))
      by later State e =
          let (i, is_i) = state_known z (good 0 z refl) e in
          let target : ℕ = unwrap_or (state z.1) 0 in
          let same : target ≡ i = ap (λ o. unwrap_or o 0) is_i in
          let lead : LeadsTo State n (places ++ layers_in t zs) z target =
          (i, is_i, state_within n z.1 (good 0 z refl).below i is_i, same) in
          let flat : AllZip (Leads (places ++ layers_in t zs)) (z ∷ zs)
          (target ∷ targets_of t (length places) zs) =
          (subst (λ m. LeadsTo m n (places ++ layers_in t zs) z target) (sym e) lead, later places)
          in
          subst (λ b. AllZip (Leads (places ++ cond (not b) (z ∷ layers_in t zs) (layers_in t zs)))
          (z ∷ zs) (cond b (target ∷ targets_of t (length places) zs)
          (length places ∷ targets_of t (length places + 1) zs))) (sym (ap is_state e)) flat
      by later m e = layer (ap is_state e) (subst (λ m. LeadsTo m n (places ++ z ∷ layers_in t zs) z
          (length places)) (sym e) (at_end places z (layers_in t zs)))
        where
          layer : is_state_at t z ≡ false → Leads (places ++ z ∷ layers_in t zs) z (length places)
              → AllZip (Leads (places ++ layers_in t (z ∷ zs))) (z ∷ zs)
              (targets_of t (length places) (z ∷ zs))
          layer f lead =
              let more : length (places ++ z ∷ []) ≡ length places + 1 =
              omega (arith, length-append places (z ∷ [])) in
              let rest : AllZip (Leads (places ++ z ∷ layers_in t zs)) zs
              (targets_of t (length places + 1) zs) =
              subst (λ k. AllZip (Leads (places ++ z ∷ layers_in t zs)) zs (targets_of t k zs)) more
              (subst (λ l. AllZip (Leads l) zs (targets_of t (length (places ++ z ∷ [])) zs))
              (append_assoc places (z ∷ []) (layers_in t zs)) (later (places ++ z ∷ []))) in
              subst (λ b. AllZip (Leads (places ++ cond (not b) (z ∷ layers_in t zs)
              (layers_in t zs))) (z ∷ zs)
              (cond b (unwrap_or (state z.1) 0 ∷ targets_of t (length places) zs)
              (length places ∷ targets_of t (length places + 1) zs))) (sym f) (lead, rest)
