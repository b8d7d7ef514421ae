-- Rescaling by the kind of node alone: on values that fit a node it is rescaling, and what it makes
-- has the parts that the node looks at.
use Rattle.std.proofs.Common.{◌≡◌, ℕ, ◌-◌, Bool, true, false, List, [], ◌∷◌, length, refl, sym, ap, ◌∙◌, true≢false}
use Rattle.std.specs.Prelude.{ℤ, ◌==◌, if◌then◌else◌}
use Rattle.std.specs.List.{list_all}
use Rattle.std.proofs.lemmas.Bool.{and_parts}
use Rattle.functor_terms.specs.declared.node.Node.{Node}
use Rattle.functor_terms.specs.declared.node.Node.TheVariants.{State, Constant, Naturals, Product, Sum, Power, Powerset, Bag, Distribution, Integers, Rationals}
use Rattle.functor_terms.specs.Lists.{Zip3}
use Rattle.functor_terms.specs.Terms.{Nodes, fold, label_count}
use Rattle.functor_terms.proofs.Folds.{fold-related3}
use Rattle.typing.specs.declared.value.Value.{Value, Value-F, out-Value}
use Rattle.typing.specs.declared.value.Value.TheVariants as value
use Rattle.typing.specs.declared.value.Value.TheViews.{outs-State, outs-Label, outs-Tuple, outs-Inj, outs-Set, outs-Weights}
use Rattle.typing.specs.Values.{index, index_in, inner, inner_in, parts, parts_in, entries, entries_in}
use Rattle.typing.specs.Fits.{Check, no_check, check_at, each_fits, fits_level, fits_step, fits}
use Rattle.typing.proofs.NormalLaws.{same_value}
use Rattle.rescaling.specs.Rescaled.{Rescale, no_rescale, rescale_at, rescaled_places, rescaled_weight, rescaled_entries, rescaled_level, rescaled_step, rescaled}
use Rattle.rescaling.proofs.Levels.{by_child}

-- what a node makes of the parts that it looks at
abbrev pub formed_step : ℕ → Node → List Rescale → Rescale
formed_step k State rs v = v
formed_step k (Constant labels) rs v = v
formed_step k Naturals rs v = v
formed_step k Product rs v = value.Tuple (rescaled_places rs (parts v))
formed_step k Sum rs v = value.Inj (index v) (rescale_at rs (index v) (inner v))
formed_step k (Power labels) rs v = value.Tuple (by_child rs (parts v))
formed_step k Powerset rs v = value.Set (by_child rs (parts v))
formed_step k Bag rs v =
    value.Weights (rescaled_entries k Bag (rescale_at rs 0) (entries v))
formed_step k Distribution rs v =
    value.Weights (rescaled_entries k Distribution (rescale_at rs 0) (entries v))
formed_step k Integers rs v =
    value.Weights (rescaled_entries k Integers (rescale_at rs 0) (entries v))
formed_step k Rationals rs v =
    value.Weights (rescaled_entries k Rationals (rescale_at rs 0) (entries v))

-- the same at node p of a term
abbrev pub formed : ℕ → Nodes → ℕ → Rescale
formed k t p = fold no_rescale (formed_step k) t p

-- ---- the parts of what is made

-- the parts of a tuple
pub tuple_parts : (vs : List Value) → parts (value.Tuple vs) ≡ vs
tuple_parts vs = ap parts_in (outs-Tuple vs)

-- the members of a set
pub set_parts : (vs : List Value) → parts (value.Set vs) ≡ vs
set_parts vs = ap parts_in (outs-Set vs)

-- the index of an injection
pub inj_index : (j : ℕ) (v : Value) → index (value.Inj j v) ≡ j
inj_index j v = ap index_in (outs-Inj j v)

-- the value in an injection
pub inj_inner : (j : ℕ) (v : Value) → inner (value.Inj j v) ≡ v
inj_inner j v = ap (inner_in (value.Inj j v)) (outs-Inj j v)

-- the entries of weights
pub weights_entries : (es : List (Value × ℤ)) → entries (value.Weights es) ≡ es
weights_entries es = ap entries_in (outs-Weights es)

-- ---- values that fit

-- values that pass the check are rescaled alike
record Agrees (f : Check) (r n : Rescale) : Type 0 where
  pub same : (v : Value) → f v ≡ true → r v ≡ n v

none_agrees : Agrees no_check no_rescale no_rescale
none_agrees = record { same = λ v h. refl }

at_agrees :
    (fs : List Check) (rs ns : List Rescale) (k : ℕ) → Zip3 Agrees fs rs ns →
    Agrees (check_at fs k) (rescale_at rs k) (rescale_at ns k)
at_agrees [] [] [] k z = none_agrees
at_agrees [] [] (n ∷ ns) k z = absurd z
at_agrees [] (r ∷ rs) ns k z = absurd z
at_agrees (f ∷ fs) [] ns k z = absurd z
at_agrees (f ∷ fs) (r ∷ rs) [] k z = absurd z
at_agrees (f ∷ fs) (r ∷ rs) (n ∷ ns) k z = by (k == 0) (at_agrees fs rs ns (k - 1) z.1)
  where
    by :
        (b : Bool) →
        Agrees (check_at fs (k - 1)) (rescale_at rs (k - 1)) (rescale_at ns (k - 1)) →
        Agrees (if b then f else check_at fs (k - 1)) (if b then r else rescale_at rs (k - 1))
        (if b then n else rescale_at ns (k - 1))
    by true later = z.0
    by false later = later

places_agree :
    (fs : List Check) (rs ns : List Rescale) → Zip3 Agrees fs rs ns → (vs : List Value) →
    each_fits fs vs ≡ true → rescaled_places rs vs ≡ rescaled_places ns vs
places_agree [] [] [] z vs h = refl
places_agree [] [] (n ∷ ns) z vs h = absurd z
places_agree [] (r ∷ rs) ns z vs h = absurd z
places_agree (f ∷ fs) [] ns z vs h = absurd z
places_agree (f ∷ fs) (r ∷ rs) [] z vs h = absurd z
places_agree (f ∷ fs) (r ∷ rs) (n ∷ ns) z [] h = refl
places_agree (f ∷ fs) (r ∷ rs) (n ∷ ns) z (v ∷ vs) h =
    let p = and_parts (f v) (each_fits fs vs) h in
    λ i. z.0.same v p.0 i ∷ places_agree fs rs ns z.1 vs p.1 i

module _ (k : ℕ) (fs : List Check) (rs ns : List Rescale) (z : Zip3 Agrees fs rs ns) where
  child_agrees :
      (vs : List Value) → list_all (check_at fs 0) vs ≡ true → by_child rs vs ≡ by_child ns vs
  child_agrees [] h = refl
  child_agrees (v ∷ vs) h =
      let p = and_parts (check_at fs 0 v) (list_all (check_at fs 0) vs) h in
      λ i. (at_agrees fs rs ns 0 z).same v p.0 i ∷ child_agrees vs p.1 i

  entries_agree :
      (m : Node) (es : List (Value × ℤ)) → list_all (λ e. check_at fs 0 e.0) es ≡ true →
      rescaled_entries k m (rescale_at rs 0) es ≡ rescaled_entries k m (rescale_at ns 0) es
  entries_agree m [] h = refl
  entries_agree m (e ∷ es) h =
      let p = and_parts (check_at fs 0 e.0) (list_all (λ e. check_at fs 0 e.0) es) h in
      λ i. ((at_agrees fs rs ns 0 z).same e.0 p.0 i, rescaled_weight k m e.1)
      ∷ entries_agree m es p.1 i

  -- each form of value, at each kind of node
  state_agrees :
      (m : Node) (v : Value) (i : ℕ) → out-Value v ≡ Value-F.State i →
      fits_level m fs (Value-F.State i) ≡ true → value.State i ≡ formed_step k m ns v
  state_agrees State v i o h = same_value (value.State i) v (outs-State i ∙ sym o)
  state_agrees (Constant labels) v i o h = absurd (true≢false (sym h))
  state_agrees Naturals v i o h = absurd (true≢false (sym h))
  state_agrees Product v i o h = absurd (true≢false (sym h))
  state_agrees Sum v i o h = absurd (true≢false (sym h))
  state_agrees (Power labels) v i o h = absurd (true≢false (sym h))
  state_agrees Powerset v i o h = absurd (true≢false (sym h))
  state_agrees Bag v i o h = absurd (true≢false (sym h))
  state_agrees Distribution v i o h = absurd (true≢false (sym h))
  state_agrees Integers v i o h = absurd (true≢false (sym h))
  state_agrees Rationals v i o h = absurd (true≢false (sym h))

  label_agrees :
      (m : Node) (v : Value) (n : ℕ) → out-Value v ≡ Value-F.Label n →
      fits_level m fs (Value-F.Label n) ≡ true → value.Label n ≡ formed_step k m ns v
  label_agrees (Constant labels) v n o h = same_value (value.Label n) v (outs-Label n ∙ sym o)
  label_agrees Naturals v n o h = same_value (value.Label n) v (outs-Label n ∙ sym o)
  label_agrees State v n o h = absurd (true≢false (sym h))
  label_agrees Product v n o h = absurd (true≢false (sym h))
  label_agrees Sum v n o h = absurd (true≢false (sym h))
  label_agrees (Power labels) v n o h = absurd (true≢false (sym h))
  label_agrees Powerset v n o h = absurd (true≢false (sym h))
  label_agrees Bag v n o h = absurd (true≢false (sym h))
  label_agrees Distribution v n o h = absurd (true≢false (sym h))
  label_agrees Integers v n o h = absurd (true≢false (sym h))
  label_agrees Rationals v n o h = absurd (true≢false (sym h))

  tuple_agrees :
      (m : Node) (v : Value) (vs : List Value) → out-Value v ≡ Value-F.Tuple vs →
      fits_level m fs (Value-F.Tuple vs) ≡ true →
      rescaled_level k m rs (Value-F.Tuple vs) ≡ formed_step k m ns v
  tuple_agrees Product v vs o h =
      ap value.Tuple
      (places_agree fs rs ns z vs h ∙ ap (λ x. rescaled_places ns (parts_in x)) (sym o))
  tuple_agrees (Power labels) v vs o h =
      let p = and_parts (length vs == label_count labels) (list_all (check_at fs 0) vs) h in
      ap value.Tuple (child_agrees vs p.1 ∙ ap (λ x. by_child ns (parts_in x)) (sym o))
  tuple_agrees State v vs o h = absurd (true≢false (sym h))
  tuple_agrees (Constant labels) v vs o h = absurd (true≢false (sym h))
  tuple_agrees Naturals v vs o h = absurd (true≢false (sym h))
  tuple_agrees Sum v vs o h = absurd (true≢false (sym h))
  tuple_agrees Powerset v vs o h = absurd (true≢false (sym h))
  tuple_agrees Bag v vs o h = absurd (true≢false (sym h))
  tuple_agrees Distribution v vs o h = absurd (true≢false (sym h))
  tuple_agrees Integers v vs o h = absurd (true≢false (sym h))
  tuple_agrees Rationals v vs o h = absurd (true≢false (sym h))

  inj_agrees :
      (m : Node) (v : Value) (j : ℕ) (w : Value) → out-Value v ≡ Value-F.Inj j w →
      fits_level m fs (Value-F.Inj j w) ≡ true →
      value.Inj j (rescale_at rs j w) ≡ formed_step k m ns v
  inj_agrees Sum v j w o h =
      ap (value.Inj j) ((at_agrees fs rs ns j z).same w h)
      ∙ ap (λ x. value.Inj (index_in x) (rescale_at ns (index_in x) (inner_in v x))) (sym o)
  inj_agrees State v j w o h = absurd (true≢false (sym h))
  inj_agrees (Constant labels) v j w o h = absurd (true≢false (sym h))
  inj_agrees Naturals v j w o h = absurd (true≢false (sym h))
  inj_agrees Product v j w o h = absurd (true≢false (sym h))
  inj_agrees (Power labels) v j w o h = absurd (true≢false (sym h))
  inj_agrees Powerset v j w o h = absurd (true≢false (sym h))
  inj_agrees Bag v j w o h = absurd (true≢false (sym h))
  inj_agrees Distribution v j w o h = absurd (true≢false (sym h))
  inj_agrees Integers v j w o h = absurd (true≢false (sym h))
  inj_agrees Rationals v j w o h = absurd (true≢false (sym h))

  set_agrees :
      (m : Node) (v : Value) (vs : List Value) → out-Value v ≡ Value-F.Set vs →
      fits_level m fs (Value-F.Set vs) ≡ true →
      value.Set (by_child rs vs) ≡ formed_step k m ns v
  set_agrees Powerset v vs o h =
      ap value.Set (child_agrees vs h ∙ ap (λ x. by_child ns (parts_in x)) (sym o))
  set_agrees State v vs o h = absurd (true≢false (sym h))
  set_agrees (Constant labels) v vs o h = absurd (true≢false (sym h))
  set_agrees Naturals v vs o h = absurd (true≢false (sym h))
  set_agrees Product v vs o h = absurd (true≢false (sym h))
  set_agrees Sum v vs o h = absurd (true≢false (sym h))
  set_agrees (Power labels) v vs o h = absurd (true≢false (sym h))
  set_agrees Bag v vs o h = absurd (true≢false (sym h))
  set_agrees Distribution v vs o h = absurd (true≢false (sym h))
  set_agrees Integers v vs o h = absurd (true≢false (sym h))
  set_agrees Rationals v vs o h = absurd (true≢false (sym h))

  -- a node of weights
  weighed_agrees :
      (m : Node) (v : Value) (es : List (Value × ℤ)) → out-Value v ≡ Value-F.Weights es →
      list_all (λ e. check_at fs 0 e.0) es ≡ true →
      value.Weights (rescaled_entries k m (rescale_at rs 0) es)
      ≡ value.Weights (rescaled_entries k m (rescale_at ns 0) (entries v))
  weighed_agrees m v es o h =
      ap value.Weights
      (entries_agree m es h
      ∙ ap (λ x. rescaled_entries k m (rescale_at ns 0) (entries_in x)) (sym o))

  weights_agree :
      (m : Node) (v : Value) (es : List (Value × ℤ)) → out-Value v ≡ Value-F.Weights es →
      fits_level m fs (Value-F.Weights es) ≡ true →
      rescaled_level k m rs (Value-F.Weights es) ≡ formed_step k m ns v
  weights_agree Bag v es o h = weighed_agrees Bag v es o h
  weights_agree Distribution v es o h = weighed_agrees Distribution v es o h
  weights_agree Integers v es o h = weighed_agrees Integers v es o h
  weights_agree Rationals v es o h = weighed_agrees Rationals v es o h
  weights_agree State v es o h = absurd (true≢false (sym h))
  weights_agree (Constant labels) v es o h = absurd (true≢false (sym h))
  weights_agree Naturals v es o h = absurd (true≢false (sym h))
  weights_agree Product v es o h = absurd (true≢false (sym h))
  weights_agree Sum v es o h = absurd (true≢false (sym h))
  weights_agree (Power labels) v es o h = absurd (true≢false (sym h))
  weights_agree Powerset v es o h = absurd (true≢false (sym h))

  level_agrees :
      (m : Node) (v : Value) (x : Value-F Value) → out-Value v ≡ x → fits_level m fs x ≡ true →
      rescaled_level k m rs x ≡ formed_step k m ns v
  level_agrees m v (Value-F.State i) o h = state_agrees m v i o h
  level_agrees m v (Value-F.Label n) o h = label_agrees m v n o h
  level_agrees m v (Value-F.Tuple vs) o h = tuple_agrees m v vs o h
  level_agrees m v (Value-F.Inj j w) o h = inj_agrees m v j w o h
  level_agrees m v (Value-F.Set vs) o h = set_agrees m v vs o h
  level_agrees m v (Value-F.Weights es) o h = weights_agree m v es o h

step_agrees :
    (k : ℕ) (m : Node) (fs : List Check) (rs ns : List Rescale) → Zip3 Agrees fs rs ns →
    Agrees (fits_step m fs) (rescaled_step k m rs) (formed_step k m ns)
step_agrees k m fs rs ns z = record {
  same = λ v h. level_agrees k fs rs ns z m v (out-Value v) refl h;
}

-- a value that fits is rescaled by the kind of node alone
pub rescaled-formed :
    (k : ℕ) (t : Nodes) (p : ℕ) (v : Value) → fits t p v ≡ true → rescaled k t p v ≡ formed k t p v
rescaled-formed k t p =
    (fold-related3 Agrees no_check no_rescale no_rescale fits_step (rescaled_step k)
    (formed_step k) none_agrees (step_agrees k) t p).same
