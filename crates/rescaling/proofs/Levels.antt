-- What rescaling makes of one level of a value; it keeps the states, which may be relabelled before
-- or after.
use Rattle.std.proofs.Common.{◌≡◌, ℕ, ◌-◌, Bool, true, false, ◌&&◌, List, [], ◌∷◌, map, refl, sym, ap, ◌∙◌}
use Rattle.std.specs.Prelude.{ℤ, ◌==◌, if◌then◌else◌}
use Rattle.std.specs.List.{list_all, AllByRecursion}
use Rattle.std.proofs.lemmas.List.Folds.{list_all-map}
use Rattle.functor_terms.specs.declared.node.Node.{Node}
use Rattle.functor_terms.specs.declared.node.Node.TheVariants.{State, Constant, Naturals, Product, Sum, Power, Powerset, Bag, Distribution, Integers, Rationals}
use Rattle.functor_terms.specs.Terms.{Nodes}
use Rattle.functor_terms.proofs.Folds.{fold-all}
use Rattle.typing.specs.declared.value.Value.{Value, Value-F, out-Value}
use Rattle.typing.specs.declared.value.Value.TheViews.{outs-State, outs-Label, outs-Tuple, outs-Inj, outs-Set, outs-Weights}
use Rattle.typing.specs.Values.{relabelled, states_below}
use Rattle.typing.proofs.MapLaws.{mapped, out_map, below_out, layer_below}
use Rattle.typing.proofs.NormalLaws.{same_value}
use Rattle.rescaling.specs.Rescaled.{Rescale, no_rescale, rescale_at, rescaled_places, rescaled_parts, rescaled_weight, rescaled_entries, rescaled_level, rescaled_step, rescaled}

-- one level after the rescaling
abbrev pub remade : ℕ → Node → List Rescale → Value-F Value → Value-F Value
remade k m rs (Value-F.State i) = Value-F.State i
remade k m rs (Value-F.Label n) = Value-F.Label n
remade k m rs (Value-F.Tuple vs) = Value-F.Tuple (rescaled_parts m rs vs)
remade k m rs (Value-F.Inj j v) = Value-F.Inj j (rescale_at rs j v)
remade k m rs (Value-F.Set vs) = Value-F.Set (map (rescale_at rs 0) vs)
remade k m rs (Value-F.Weights es) = Value-F.Weights (rescaled_entries k m (rescale_at rs 0) es)

-- a rescaled layer seen from outside
pub level_out :
    (k : ℕ) (m : Node) (rs : List Rescale) (x : Value-F Value) →
    out-Value (rescaled_level k m rs x) ≡ remade k m rs x
level_out k m rs (Value-F.State i) = outs-State i
level_out k m rs (Value-F.Label n) = outs-Label n
level_out k m rs (Value-F.Tuple vs) = outs-Tuple (rescaled_parts m rs vs)
level_out k m rs (Value-F.Inj j v) = outs-Inj j (rescale_at rs j v)
level_out k m rs (Value-F.Set vs) = outs-Set (map (rescale_at rs 0) vs)
level_out k m rs (Value-F.Weights es) = outs-Weights (rescaled_entries k m (rescale_at rs 0) es)

-- the parts of a tuple are rescaled in one of two ways
abbrev pub by_child : List Rescale → List Value → List Value
by_child rs vs = map (rescale_at rs 0) vs

-- what holds of both ways to rescale parts holds of that of the node
pub either_parts :
    (P : (List Rescale → List Value → List Value) → Type 0) →
    P rescaled_places → P by_child → (m : Node) → P (rescaled_parts m)
either_parts P places child Product = places
either_parts P places child State = child
either_parts P places child (Constant labels) = child
either_parts P places child Naturals = child
either_parts P places child Sum = child
either_parts P places child (Power labels) = child
either_parts P places child Powerset = child
either_parts P places child Bag = child
either_parts P places child Distribution = child
either_parts P places child Integers = child
either_parts P places child Rationals = child

-- what each of some rescalings keeps, the k-th keeps
pub at_keeps :
    (P : Rescale → Type 0) → P no_rescale → (rs : List Rescale) → AllByRecursion P rs → (k : ℕ) →
    P (rescale_at rs k)
at_keeps P none [] all k = none
at_keeps P none (r ∷ rs) all k = by (k == 0) (at_keeps P none rs all.1 (k - 1))
  where
    by : (b : Bool) → P (rescale_at rs (k - 1)) → P (if b then r else rescale_at rs (k - 1))
    by true later = all.0
    by false later = later

-- tests that agree on each element
pub all_same :
    {X : Type 0} (p q : X → Bool) (xs : List X) → ((x : X) → p x ≡ q x) →
    list_all p xs ≡ list_all q xs
all_same p q [] h = refl
all_same p q (x ∷ xs) h = λ i. h x i && all_same p q xs h i

map_same : {X Y : Type 0} (f g : X → Y) (xs : List X) → ((x : X) → f x ≡ g x) → map f xs ≡ map g xs
map_same f g [] h = refl
map_same f g (x ∷ xs) h = λ i. h x i ∷ map_same f g xs h i

map_map :
    {X Y Z : Type 0} (g : Y → Z) (f : X → Y) (xs : List X) →
    map g (map f xs) ≡ map (λ x. g (f x)) xs
map_map g f [] = refl
map_map g f (x ∷ xs) = ap (λ l. g (f x) ∷ l) (map_map g f xs)

-- ---- states

module _ (n : ℕ) where
  -- the states stay below n, or not
  record KeepsStates (r : Rescale) : Type 0 where
    pub states : (v : Value) → states_below n (r v) ≡ states_below n v

  none_states : KeepsStates no_rescale
  none_states = record { states = λ v. refl }

  abbrev HasParts : (List Rescale → List Value → List Value) → Type 0
  HasParts f =
      (rs : List Rescale) → AllByRecursion KeepsStates rs → (vs : List Value) →
      list_all (states_below n) (f rs vs) ≡ list_all (states_below n) vs

  places_states : HasParts rescaled_places
  places_states [] all vs = refl
  places_states (r ∷ rs) all [] = refl
  places_states (r ∷ rs) all (v ∷ vs) = λ i. all.0.states v i && places_states rs all.1 vs i

  child_states : HasParts by_child
  child_states rs all vs =
      list_all-map (states_below n) (rescale_at rs 0) vs
      ∙ all_same (λ v. states_below n (rescale_at rs 0 v)) (states_below n) vs
      (at_keeps KeepsStates none_states rs all 0).states

  entries_states :
      (k : ℕ) (m : Node) (r : Rescale) → KeepsStates r → (es : List (Value × ℤ)) →
      layer_below n (Value-F.Weights (rescaled_entries k m r es))
      ≡ layer_below n (Value-F.Weights es)
  entries_states k m r keeps [] = refl
  entries_states k m r keeps (e ∷ es) =
      λ i. keeps.states e.0 i && entries_states k m r keeps es i

  level_states :
      (k : ℕ) (m : Node) (rs : List Rescale) → AllByRecursion KeepsStates rs → (x : Value-F Value) →
      layer_below n (remade k m rs x) ≡ layer_below n x
  level_states k m rs all (Value-F.State i) = refl
  level_states k m rs all (Value-F.Label j) = refl
  level_states k m rs all (Value-F.Tuple vs) =
      list_all-map (λ b. b) (states_below n) (rescaled_parts m rs vs)
      ∙ either_parts HasParts places_states child_states m rs all vs
      ∙ sym (list_all-map (λ b. b) (states_below n) vs)
  level_states k m rs all (Value-F.Inj j v) = (at_keeps KeepsStates none_states rs all j).states v
  level_states k m rs all (Value-F.Set vs) =
      list_all-map (λ b. b) (states_below n) (by_child rs vs)
      ∙ child_states rs all vs
      ∙ sym (list_all-map (λ b. b) (states_below n) vs)
  level_states k m rs all (Value-F.Weights es) =
      entries_states k m (rescale_at rs 0) (at_keeps KeepsStates none_states rs all 0) es

  step_states :
      (k : ℕ) (m : Node) (rs : List Rescale) → AllByRecursion KeepsStates rs →
      KeepsStates (rescaled_step k m rs)
  step_states k m rs all = record {
    states = λ v.
        below_out n (rescaled_step k m rs v)
        ∙ ap (layer_below n) (level_out k m rs (out-Value v))
        ∙ level_states k m rs all (out-Value v)
        ∙ sym (below_out n v);
  }

  -- rescaling keeps the states
  pub rescaled-states :
      (k : ℕ) (t : Nodes) (p : ℕ) (v : Value) → states_below n (rescaled k t p v) ≡ states_below n v
  rescaled-states k t p =
      (fold-all KeepsStates no_rescale (rescaled_step k) none_states (step_states k) t p).states

-- ---- relabelled states

module _ (b : List ℕ) where
  -- states may be relabelled before or after
  record Commutes (r : Rescale) : Type 0 where
    pub commutes : (v : Value) → relabelled b (r v) ≡ r (relabelled b v)

  none_commutes : Commutes no_rescale
  none_commutes = record { commutes = λ v. refl }

  abbrev PartsCommute : (List Rescale → List Value → List Value) → Type 0
  PartsCommute f =
      (rs : List Rescale) → AllByRecursion Commutes rs → (vs : List Value) →
      map (relabelled b) (f rs vs) ≡ f rs (map (relabelled b) vs)

  places_commute : PartsCommute rescaled_places
  places_commute [] all vs = refl
  places_commute (r ∷ rs) all [] = refl
  places_commute (r ∷ rs) all (v ∷ vs) =
      λ i. all.0.commutes v i ∷ places_commute rs all.1 vs i

  child_commutes : PartsCommute by_child
  child_commutes rs all vs =
      map_map (relabelled b) (rescale_at rs 0) vs
      ∙ map_same (λ v. relabelled b (rescale_at rs 0 v)) (λ v. rescale_at rs 0 (relabelled b v)) vs
      (at_keeps Commutes none_commutes rs all 0).commutes
      ∙ sym (map_map (rescale_at rs 0) (relabelled b) vs)

  abbrev moved : List (Value × ℤ) → List (Value × ℤ)
  moved es = map (λ e. (relabelled b e.0, e.1)) es

  entries_commute :
      (k : ℕ) (m : Node) (r : Rescale) → Commutes r → (es : List (Value × ℤ)) →
      moved (rescaled_entries k m r es) ≡ rescaled_entries k m r (moved es)
  entries_commute k m r keeps [] = refl
  entries_commute k m r keeps (e ∷ es) =
      λ i. (keeps.commutes e.0 i, rescaled_weight k m e.1) ∷ entries_commute k m r keeps es i

  level_commutes :
      (k : ℕ) (m : Node) (rs : List Rescale) → AllByRecursion Commutes rs → (x : Value-F Value) →
      mapped b (remade k m rs x) ≡ remade k m rs (mapped b x)
  level_commutes k m rs all (Value-F.State i) = refl
  level_commutes k m rs all (Value-F.Label n) = refl
  level_commutes k m rs all (Value-F.Tuple vs) =
      ap Value-F.Tuple (either_parts PartsCommute places_commute child_commutes m rs all vs)
  level_commutes k m rs all (Value-F.Inj j v) =
      ap (Value-F.Inj j) ((at_keeps Commutes none_commutes rs all j).commutes v)
  level_commutes k m rs all (Value-F.Set vs) = ap Value-F.Set (child_commutes rs all vs)
  level_commutes k m rs all (Value-F.Weights es) =
      ap Value-F.Weights
      (entries_commute k m (rescale_at rs 0) (at_keeps Commutes none_commutes rs all 0) es)

  step_commutes :
      (k : ℕ) (m : Node) (rs : List Rescale) → AllByRecursion Commutes rs →
      Commutes (rescaled_step k m rs)
  step_commutes k m rs all = record {
    commutes = λ v.
        same_value (relabelled b (rescaled_step k m rs v)) (rescaled_step k m rs (relabelled b v))
        (out_map b (rescaled_step k m rs v)
        ∙ ap (mapped b) (level_out k m rs (out-Value v))
        ∙ level_commutes k m rs all (out-Value v)
        ∙ ap (remade k m rs) (sym (out_map b v))
        ∙ sym (level_out k m rs (out-Value (relabelled b v))));
  }

  -- rescaling and relabelling may change places
  pub rescaled-commutes :
      (k : ℕ) (t : Nodes) (p : ℕ) (v : Value) →
      relabelled b (rescaled k t p v) ≡ rescaled k t p (relabelled b v)
  rescaled-commutes k t p =
      (fold-all Commutes no_rescale (rescaled_step k) none_commutes (step_commutes k) t p).commutes
