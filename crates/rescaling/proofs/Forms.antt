-- A value keeps its form when it is rescaled, or the lack of it.
use Rattle.std.proofs.Common.{◌≡◌, ℕ, ◌-◌, Bool, true, false, ◌&&◌, List, [], ◌∷◌, refl, ap, ◌∙◌}
use Rattle.std.specs.Prelude.{ℤ, ◌==◌, if◌then◌else◌}
use Rattle.std.specs.List.{list_all, AllZip}
use Rattle.std.proofs.lemmas.List.{length-map}
use Rattle.std.proofs.lemmas.List.Folds.{list_all-map}
use Rattle.functor_terms.specs.declared.node.Node.{Node}
use Rattle.functor_terms.specs.declared.node.Node.TheVariants.{State, Constant, Naturals, Product, Sum, Power, Powerset, Bag, Distribution, Integers, Rationals}
use Rattle.functor_terms.specs.Terms.{Nodes, label_count}
use Rattle.functor_terms.proofs.Folds.{fold-related}
use Rattle.typing.specs.declared.value.Value.{Value, Value-F, out-Value}
use Rattle.typing.specs.Fits.{Check, no_check, check_at, each_fits, fits_level, fits_step, fits}
use Rattle.rescaling.specs.Rescaled.{Rescale, no_rescale, rescale_at, rescaled_places, rescaled_parts, rescaled_entries, rescaled_step, rescaled}
use Rattle.rescaling.proofs.Levels.{remade, level_out, by_child, all_same}

-- a value keeps its form, or the lack of it
pub record KeepsForm (f : Check) (r : Rescale) : Type 0 where
  pub keeps : (v : Value) → f (r v) ≡ f v

none_form : KeepsForm no_check no_rescale
none_form = record { keeps = λ v. refl }

at_form :
    (fs : List Check) (rs : List Rescale) (k : ℕ) → AllZip KeepsForm fs rs →
    KeepsForm (check_at fs k) (rescale_at rs k)
at_form [] [] k z = none_form
at_form [] (r ∷ rs) k z = absurd z
at_form (f ∷ fs) [] k z = absurd z
at_form (f ∷ fs) (r ∷ rs) k z = by (k == 0) (at_form fs rs (k - 1) z.1)
  where
    by :
        (b : Bool) → KeepsForm (check_at fs (k - 1)) (rescale_at rs (k - 1)) →
        KeepsForm (if b then f else check_at fs (k - 1)) (if b then r else rescale_at rs (k - 1))
    by true later = z.0
    by false later = later

places_form :
    (fs : List Check) (rs : List Rescale) → AllZip KeepsForm fs rs → (vs : List Value) →
    each_fits fs (rescaled_places rs vs) ≡ each_fits fs vs
places_form [] [] z vs = refl
places_form [] (r ∷ rs) z vs = absurd z
places_form (f ∷ fs) [] z vs = absurd z
places_form (f ∷ fs) (r ∷ rs) z [] = refl
places_form (f ∷ fs) (r ∷ rs) z (v ∷ vs) = λ i. z.0.keeps v i && places_form fs rs z.1 vs i

module _ (k : ℕ) (fs : List Check) (rs : List Rescale) (z : AllZip KeepsForm fs rs) where
  child_form :
      (vs : List Value) → list_all (check_at fs 0) (by_child rs vs) ≡ list_all (check_at fs 0) vs
  child_form vs =
      list_all-map (check_at fs 0) (rescale_at rs 0) vs
      ∙ all_same (λ v. check_at fs 0 (rescale_at rs 0 v)) (check_at fs 0) vs
      (at_form fs rs 0 z).keeps

  entries_form :
      (m : Node) (es : List (Value × ℤ)) →
      list_all (λ e. check_at fs 0 e.0) (rescaled_entries k m (rescale_at rs 0) es)
      ≡ list_all (λ e. check_at fs 0 e.0) es
  entries_form m [] = refl
  entries_form m (e ∷ es) = λ i. (at_form fs rs 0 z).keeps e.0 i && entries_form m es i

  tuple_form :
      (m : Node) (vs : List Value) →
      fits_level m fs (Value-F.Tuple (rescaled_parts m rs vs)) ≡ fits_level m fs (Value-F.Tuple vs)
  tuple_form Product vs = places_form fs rs z vs
  tuple_form (Power labels) vs =
      λ i. (length-map vs (rescale_at rs 0) i == label_count labels) && child_form vs i
  tuple_form State vs = refl
  tuple_form (Constant labels) vs = refl
  tuple_form Naturals vs = refl
  tuple_form Sum vs = refl
  tuple_form Powerset vs = refl
  tuple_form Bag vs = refl
  tuple_form Distribution vs = refl
  tuple_form Integers vs = refl
  tuple_form Rationals vs = refl

  inj_form :
      (m : Node) (j : ℕ) (v : Value) →
      fits_level m fs (Value-F.Inj j (rescale_at rs j v)) ≡ fits_level m fs (Value-F.Inj j v)
  inj_form Sum j v = (at_form fs rs j z).keeps v
  inj_form State j v = refl
  inj_form (Constant labels) j v = refl
  inj_form Naturals j v = refl
  inj_form Product j v = refl
  inj_form (Power labels) j v = refl
  inj_form Powerset j v = refl
  inj_form Bag j v = refl
  inj_form Distribution j v = refl
  inj_form Integers j v = refl
  inj_form Rationals j v = refl

  set_form :
      (m : Node) (vs : List Value) →
      fits_level m fs (Value-F.Set (by_child rs vs)) ≡ fits_level m fs (Value-F.Set vs)
  set_form Powerset vs = child_form vs
  set_form State vs = refl
  set_form (Constant labels) vs = refl
  set_form Naturals vs = refl
  set_form Product vs = refl
  set_form Sum vs = refl
  set_form (Power labels) vs = refl
  set_form Bag vs = refl
  set_form Distribution vs = refl
  set_form Integers vs = refl
  set_form Rationals vs = refl

  weights_form :
      (m : Node) (es : List (Value × ℤ)) →
      fits_level m fs (Value-F.Weights (rescaled_entries k m (rescale_at rs 0) es))
      ≡ fits_level m fs (Value-F.Weights es)
  weights_form Bag es = entries_form Bag es
  weights_form Distribution es = entries_form Distribution es
  weights_form Integers es = entries_form Integers es
  weights_form Rationals es = entries_form Rationals es
  weights_form State es = refl
  weights_form (Constant labels) es = refl
  weights_form Naturals es = refl
  weights_form Product es = refl
  weights_form Sum es = refl
  weights_form (Power labels) es = refl
  weights_form Powerset es = refl

  level_form :
      (m : Node) (x : Value-F Value) → fits_level m fs (remade k m rs x) ≡ fits_level m fs x
  level_form m (Value-F.State i) = refl
  level_form m (Value-F.Label n) = refl
  level_form m (Value-F.Tuple vs) = tuple_form m vs
  level_form m (Value-F.Inj j v) = inj_form m j v
  level_form m (Value-F.Set vs) = set_form m vs
  level_form m (Value-F.Weights es) = weights_form m es

step_form :
    (k : ℕ) (m : Node) (fs : List Check) (rs : List Rescale) → AllZip KeepsForm fs rs →
    KeepsForm (fits_step m fs) (rescaled_step k m rs)
step_form k m fs rs z = record {
  keeps = λ v.
      ap (fits_level m fs) (level_out k m rs (out-Value v)) ∙ level_form k fs rs z m (out-Value v);
}

-- a rescaled value fits where the value does
pub rescaled-fits :
    (k : ℕ) (t : Nodes) (p : ℕ) (v : Value) → fits t p (rescaled k t p v) ≡ fits t p v
rescaled-fits k t p =
    (fold-related KeepsForm no_check no_rescale fits_step (rescaled_step k) none_form (step_form k)
    t p).keeps
