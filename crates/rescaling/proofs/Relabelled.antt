-- A value fits a node exactly where it does with its states relabelled.
use Rattle.std.proofs.Common.{◌≡◌, ℕ, ◌-◌, Bool, true, false, ◌&&◌, List, [], ◌∷◌, map, refl, ap, ◌∙◌}
use Rattle.std.specs.Prelude.{ℤ, ◌==◌, if◌then◌else◌}
use Rattle.std.specs.List.{list_all, AllByRecursion}
use Rattle.std.proofs.lemmas.List.{length-map}
use Rattle.std.proofs.lemmas.List.Folds.{list_all-map}
use Rattle.functor_terms.specs.declared.node.Node.{Node}
use Rattle.functor_terms.specs.declared.node.Node.TheVariants.{State, Constant, Naturals, Product, Sum, Power, Powerset, Bag, Distribution, Integers, Rationals}
use Rattle.functor_terms.specs.Terms.{Nodes, label_count}
use Rattle.functor_terms.proofs.Folds.{fold-all}
use Rattle.typing.specs.declared.value.Value.{Value, Value-F, out-Value}
use Rattle.typing.specs.Values.{relabelled}
use Rattle.typing.specs.Fits.{Check, no_check, check_at, each_fits, fits_level, fits_step, fits}
use Rattle.typing.proofs.MapLaws.{mapped, out_map}
use Rattle.rescaling.proofs.Forms.{KeepsForm}
use Rattle.rescaling.proofs.Levels.{all_same}

module _ (b : List ℕ) where
  -- the check says the same of a value whose states are relabelled
  abbrev Stays : Check → Type 0
  Stays f = KeepsForm f (relabelled b)

  none_stays : Stays no_check
  none_stays = record { keeps = λ v. refl }

  at_stays : (fs : List Check) (k : ℕ) → AllByRecursion Stays fs → Stays (check_at fs k)
  at_stays [] k all = none_stays
  at_stays (f ∷ fs) k all = by (k == 0) (at_stays fs (k - 1) all.1)
    where
      by : (o : Bool) → Stays (check_at fs (k - 1)) → Stays (if o then f else check_at fs (k - 1))
      by true later = all.0
      by false later = later

  places_stay :
      (fs : List Check) → AllByRecursion Stays fs → (vs : List Value) →
      each_fits fs (map (relabelled b) vs) ≡ each_fits fs vs
  places_stay [] all [] = refl
  places_stay [] all (v ∷ vs) = refl
  places_stay (f ∷ fs) all [] = refl
  places_stay (f ∷ fs) all (v ∷ vs) = λ i. all.0.keeps v i && places_stay fs all.1 vs i

  module _ (fs : List Check) (all : AllByRecursion Stays fs) where
    child_stays :
        (vs : List Value) →
        list_all (check_at fs 0) (map (relabelled b) vs) ≡ list_all (check_at fs 0) vs
    child_stays vs =
        list_all-map (check_at fs 0) (relabelled b) vs
        ∙ all_same (λ v. check_at fs 0 (relabelled b v)) (check_at fs 0) vs
        (at_stays fs 0 all).keeps

    abbrev onto : List (Value × ℤ) → List (Value × ℤ)
    onto es = map (λ e. (relabelled b e.0, e.1)) es

    entries_stay :
        (es : List (Value × ℤ)) →
        list_all (λ e. check_at fs 0 e.0) (onto es) ≡ list_all (λ e. check_at fs 0 e.0) es
    entries_stay [] = refl
    entries_stay (e ∷ es) = λ i. (at_stays fs 0 all).keeps e.0 i && entries_stay es i

    tuple_stays :
        (m : Node) (vs : List Value) →
        fits_level m fs (Value-F.Tuple (map (relabelled b) vs)) ≡ fits_level m fs (Value-F.Tuple vs)
    tuple_stays Product vs = places_stay fs all vs
    tuple_stays (Power labels) vs =
        λ i. (length-map vs (relabelled b) i == label_count labels) && child_stays vs i
    tuple_stays State vs = refl
    tuple_stays (Constant labels) vs = refl
    tuple_stays Naturals vs = refl
    tuple_stays Sum vs = refl
    tuple_stays Powerset vs = refl
    tuple_stays Bag vs = refl
    tuple_stays Distribution vs = refl
    tuple_stays Integers vs = refl
    tuple_stays Rationals vs = refl

    inj_stays :
        (m : Node) (j : ℕ) (v : Value) →
        fits_level m fs (Value-F.Inj j (relabelled b v)) ≡ fits_level m fs (Value-F.Inj j v)
    inj_stays Sum j v = (at_stays fs j all).keeps v
    inj_stays State j v = refl
    inj_stays (Constant labels) j v = refl
    inj_stays Naturals j v = refl
    inj_stays Product j v = refl
    inj_stays (Power labels) j v = refl
    inj_stays Powerset j v = refl
    inj_stays Bag j v = refl
    inj_stays Distribution j v = refl
    inj_stays Integers j v = refl
    inj_stays Rationals j v = refl

    set_stays :
        (m : Node) (vs : List Value) →
        fits_level m fs (Value-F.Set (map (relabelled b) vs)) ≡ fits_level m fs (Value-F.Set vs)
    set_stays Powerset vs = child_stays vs
    set_stays State vs = refl
    set_stays (Constant labels) vs = refl
    set_stays Naturals vs = refl
    set_stays Product vs = refl
    set_stays Sum vs = refl
    set_stays (Power labels) vs = refl
    set_stays Bag vs = refl
    set_stays Distribution vs = refl
    set_stays Integers vs = refl
    set_stays Rationals vs = refl

    weights_stay :
        (m : Node) (es : List (Value × ℤ)) →
        fits_level m fs (Value-F.Weights (onto es))
        ≡ fits_level m fs (Value-F.Weights es)
    weights_stay Bag es = entries_stay es
    weights_stay Distribution es = entries_stay es
    weights_stay Integers es = entries_stay es
    weights_stay Rationals es = entries_stay es
    weights_stay State es = refl
    weights_stay (Constant labels) es = refl
    weights_stay Naturals es = refl
    weights_stay Product es = refl
    weights_stay Sum es = refl
    weights_stay (Power labels) es = refl
    weights_stay Powerset es = refl

    state_stays :
        (m : Node) (i j : ℕ) →
        fits_level m fs (Value-F.State i) ≡ fits_level m fs (Value-F.State j)
    state_stays State i j = refl
    state_stays (Constant labels) i j = refl
    state_stays Naturals i j = refl
    state_stays Product i j = refl
    state_stays Sum i j = refl
    state_stays (Power labels) i j = refl
    state_stays Powerset i j = refl
    state_stays Bag i j = refl
    state_stays Distribution i j = refl
    state_stays Integers i j = refl
    state_stays Rationals i j = refl

    level_stays :
        (m : Node) (x : Value-F Value) → fits_level m fs (mapped b x) ≡ fits_level m fs x
    level_stays m (Value-F.State i) = state_stays m _ _
    level_stays m (Value-F.Label n) = refl
    level_stays m (Value-F.Tuple vs) = tuple_stays m vs
    level_stays m (Value-F.Inj j v) = inj_stays m j v
    level_stays m (Value-F.Set vs) = set_stays m vs
    level_stays m (Value-F.Weights es) = weights_stay m es

  step_stays : (m : Node) (fs : List Check) → AllByRecursion Stays fs → Stays (fits_step m fs)
  step_stays m fs all = record {
    keeps = λ v. ap (fits_level m fs) (out_map b v) ∙ level_stays fs all m (out-Value v);
  }

  -- which states a value has is no matter of its form
  pub relabelled-fits : (t : Nodes) (p : ℕ) (v : Value) → fits t p (relabelled b v) ≡ fits t p v
  relabelled-fits t p = (fold-all Stays no_check fits_step none_stays step_stays t p).keeps
