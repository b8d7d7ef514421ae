-- Values that are rescaled to one value are one value.
use Rattle.std.proofs.Common.{◌≡◌, ℕ, ◌≤◌, List, [], ◌∷◌, map, refl, sym, ap, ◌∙◌}
use Rattle.std.specs.Prelude.{ℤ}
use Rattle.std.specs.List.{AllByRecursion}
use Rattle.functor_terms.specs.declared.node.Node.{Node}
use Rattle.functor_terms.specs.Terms.{Nodes}
use Rattle.functor_terms.proofs.Folds.{fold-all}
use Rattle.typing.specs.declared.value.Value.{Value, Value-F, out-Value}
use Rattle.typing.proofs.NormalLaws.{same_value}
use Rattle.rescaling.specs.Rescaled.{Rescale, no_rescale, rescale_at, rescaled_places, rescaled_parts, rescaled_weight, rescaled_entries, rescaled_step, rescaled}
use Rattle.rescaling.proofs.Numbers.{weight-keeps}
use Rattle.rescaling.proofs.Levels.{remade, level_out, by_child, either_parts, at_keeps}

-- values that are rescaled to one value are one value
record Tells (r : Rescale) : Type 0 where
  pub tells : (u v : Value) → r u ≡ r v → u ≡ v

none_tells : Tells no_rescale
none_tells = record { tells = λ u v e. e }

cons_first : {X : Type 0} (x y : X) (xs ys : List X) → x ∷ xs ≡ y ∷ ys → x ≡ y
cons_first x y xs ys e = cc

cons_rest : {X : Type 0} (x y : X) (xs ys : List X) → x ∷ xs ≡ y ∷ ys → xs ≡ ys
cons_rest x y xs ys e = cc

nil_cons : {X : Type 0} (y : X) (ys : List X) → [] ≡ y ∷ ys → ⊥
nil_cons y ys e = cc

abbrev PartsTell : (List Rescale → List Value → List Value) → Type 0
PartsTell f =
    (rs : List Rescale) → AllByRecursion Tells rs → (us vs : List Value) → f rs us ≡ f rs vs →
    us ≡ vs

places_tell : PartsTell rescaled_places
places_tell [] all us vs e = e
places_tell (r ∷ rs) all [] [] e = refl
places_tell (r ∷ rs) all [] (v ∷ vs) e = absurd (nil_cons (r v) (rescaled_places rs vs) e)
places_tell (r ∷ rs) all (u ∷ us) [] e = absurd (nil_cons (r u) (rescaled_places rs us) (sym e))
places_tell (r ∷ rs) all (u ∷ us) (v ∷ vs) e =
    let here = cons_first (r u) (r v) (rescaled_places rs us) (rescaled_places rs vs) e in
    let later = cons_rest (r u) (r v) (rescaled_places rs us) (rescaled_places rs vs) e in
    λ i. all.0.tells u v here i ∷ places_tell rs all.1 us vs later i

map_tells :
    {X Y : Type 0} (f : X → Y) → ((x y : X) → f x ≡ f y → x ≡ y) → (xs ys : List X) →
    map f xs ≡ map f ys → xs ≡ ys
map_tells f h [] [] e = refl
map_tells f h [] (y ∷ ys) e = absurd (nil_cons (f y) (map f ys) e)
map_tells f h (x ∷ xs) [] e = absurd (nil_cons (f x) (map f xs) (sym e))
map_tells f h (x ∷ xs) (y ∷ ys) e =
    let here = cons_first (f x) (f y) (map f xs) (map f ys) e in
    let later = cons_rest (f x) (f y) (map f xs) (map f ys) e in
    λ i. h x y here i ∷ map_tells f h xs ys later i

child_tells : PartsTell by_child
child_tells rs all us vs e =
    map_tells (rescale_at rs 0) (at_keeps Tells none_tells rs all 0).tells us vs e

module _ (k : ℕ) (some : 1 ≤ k) where
  entry_tells :
      (m : Node) (r : Rescale) → Tells r → (d e : Value × ℤ) →
      ◌≡◌ {A = Value × ℤ} (r d.0, rescaled_weight k m d.1) (r e.0, rescaled_weight k m e.1) → d ≡ e
  entry_tells m r keeps d e same =
      let value = keeps.tells d.0 e.0 (ap (λ (x : Value × ℤ). x.0) same) in
      let weight = (weight-keeps k m some).tells d.1 e.1 (ap (λ (x : Value × ℤ). x.1) same) in
      λ i. (value i, weight i)

  inj_tells :
      (m : Node) (rs : List Rescale) → AllByRecursion Tells rs → (j h : ℕ) (u v : Value) →
      ◌≡◌ {A = Value-F Value} (Value-F.Inj j (rescale_at rs j u))
      (Value-F.Inj h (rescale_at rs h v)) →
      ◌≡◌ {A = Value-F Value} (Value-F.Inj j u) (Value-F.Inj h v)
  inj_tells m rs all j h u v e =
      let index : j ≡ h = cc in
      let same : rescale_at rs j u ≡ rescale_at rs h v = cc in
      let value : u ≡ v =
      (at_keeps Tells none_tells rs all j).tells u v
      (same ∙ ap (λ o. rescale_at rs o v) (sym index)) in
      λ i. Value-F.Inj (index i) (value i)

  level_tells :
      (m : Node) (rs : List Rescale) → AllByRecursion Tells rs → (x y : Value-F Value) →
      remade k m rs x ≡ remade k m rs y → x ≡ y
  level_tells m rs all (Value-F.State i) (Value-F.State h) e = e
  level_tells m rs all (Value-F.State i) (Value-F.Label o) e = cc
  level_tells m rs all (Value-F.State i) (Value-F.Tuple vs) e = cc
  level_tells m rs all (Value-F.State i) (Value-F.Inj h v) e = cc
  level_tells m rs all (Value-F.State i) (Value-F.Set vs) e = cc
  level_tells m rs all (Value-F.State i) (Value-F.Weights vs) e = cc
  level_tells m rs all (Value-F.Label n) (Value-F.State h) e = cc
  level_tells m rs all (Value-F.Label n) (Value-F.Label o) e = e
  level_tells m rs all (Value-F.Label n) (Value-F.Tuple vs) e = cc
  level_tells m rs all (Value-F.Label n) (Value-F.Inj h v) e = cc
  level_tells m rs all (Value-F.Label n) (Value-F.Set vs) e = cc
  level_tells m rs all (Value-F.Label n) (Value-F.Weights vs) e = cc
  level_tells m rs all (Value-F.Tuple us) (Value-F.State h) e = cc
  level_tells m rs all (Value-F.Tuple us) (Value-F.Label o) e = cc
  level_tells m rs all (Value-F.Tuple us) (Value-F.Tuple vs) e =
      let same : rescaled_parts m rs us ≡ rescaled_parts m rs vs = cc in
      ap Value-F.Tuple (either_parts PartsTell places_tell child_tells m rs all us vs same)
  level_tells m rs all (Value-F.Tuple us) (Value-F.Inj h v) e = cc
  level_tells m rs all (Value-F.Tuple us) (Value-F.Set vs) e = cc
  level_tells m rs all (Value-F.Tuple us) (Value-F.Weights vs) e = cc
  level_tells m rs all (Value-F.Inj j u) (Value-F.State h) e = cc
  level_tells m rs all (Value-F.Inj j u) (Value-F.Label o) e = cc
  level_tells m rs all (Value-F.Inj j u) (Value-F.Tuple vs) e = cc
  level_tells m rs all (Value-F.Inj j u) (Value-F.Inj h v) e =
      inj_tells m rs all j h u v e
  level_tells m rs all (Value-F.Inj j u) (Value-F.Set vs) e = cc
  level_tells m rs all (Value-F.Inj j u) (Value-F.Weights vs) e = cc
  level_tells m rs all (Value-F.Set us) (Value-F.State h) e = cc
  level_tells m rs all (Value-F.Set us) (Value-F.Label o) e = cc
  level_tells m rs all (Value-F.Set us) (Value-F.Tuple vs) e = cc
  level_tells m rs all (Value-F.Set us) (Value-F.Inj h v) e = cc
  level_tells m rs all (Value-F.Set us) (Value-F.Set vs) e =
      let same : by_child rs us ≡ by_child rs vs = cc in
      ap Value-F.Set (child_tells rs all us vs same)
  level_tells m rs all (Value-F.Set us) (Value-F.Weights vs) e = cc
  level_tells m rs all (Value-F.Weights us) (Value-F.State h) e = cc
  level_tells m rs all (Value-F.Weights us) (Value-F.Label o) e = cc
  level_tells m rs all (Value-F.Weights us) (Value-F.Tuple vs) e = cc
  level_tells m rs all (Value-F.Weights us) (Value-F.Inj h v) e = cc
  level_tells m rs all (Value-F.Weights us) (Value-F.Set vs) e = cc
  level_tells m rs all (Value-F.Weights us) (Value-F.Weights vs) e =
      let r : Rescale = rescale_at rs 0 in
      let same : rescaled_entries k m r us ≡ rescaled_entries k m r vs = cc in
      ap Value-F.Weights
      (map_tells (λ e. (rescale_at rs 0 e.0, rescaled_weight k m e.1))
      (entry_tells m (rescale_at rs 0) (at_keeps Tells none_tells rs all 0)) us vs same)

  step_tells :
      (m : Node) (rs : List Rescale) → AllByRecursion Tells rs → Tells (rescaled_step k m rs)
  step_tells m rs all = record {
    tells = λ u v e.
        same_value u v
        (level_tells m rs all (out-Value u) (out-Value v)
        (sym (level_out k m rs (out-Value u)) ∙ ap out-Value e ∙ level_out k m rs (out-Value v)));
  }

  -- rescaling tells values apart
  pub rescaled-tells :
      (t : Nodes) (p : ℕ) (u v : Value) → rescaled k t p u ≡ rescaled k t p v → u ≡ v
  rescaled-tells t p =
      (fold-all Tells no_rescale (rescaled_step k) none_tells step_tells t p).tells
