-- Weights in what a tree denotes are not below 0 at bags and distributions, also once it is scaled.
use Rattle.std.proofs.Common.{◌≡◌, ℕ, zero, suc, ◌-◌, ◌*◌, ◌/◌, Bool, true, false, not, ◌&&◌, List, [], ◌∷◌, length, map, Option, Some, None, slice_get, refl, sym, ap, ◌∙◌, subst, true≢false, arith}
use Rattle.std.specs.Prelude.{◌==◌, if◌then◌else◌, nat_lt, Ok, ℤ, pos, negsuc, ◌*ℤ◌, int_lt}
use Rattle.std.specs.Option.{option_map_or}
use Rattle.std.specs.List.{AllByRecursion, list_all}
use Rattle.std.specs.Ordering.{int_eq}
use Rattle.std.proofs.lemmas.Bool.{and_parts, and_from}
use Rattle.std.proofs.lemmas.Bool.Decides.{nat_tests}
use Rattle.file_cut.specs.declared.tree.Tree.{Tree}
use Rattle.functor_terms.specs.declared.node.Node.{Node}
use Rattle.functor_terms.specs.declared.node.Node.TheVariants.{State, Constant, Naturals, Product, Sum, Power, Powerset, Bag, Distribution, Integers, Rationals}
use Rattle.functor_terms.specs.declared.node.Branch.{Branch}
use Rattle.functor_terms.specs.declared.node.LabelSet.{LabelSet}
use Rattle.functor_terms.specs.Terms.{Nodes, fold_within, fold}
use Rattle.typing.specs.declared.kind.TypeKind.TheVariants.{WrongShape}
use Rattle.typing.specs.declared.value.Value.{Value}
use Rattle.typing.specs.declared.value.Value.TheVariants as value
use Rattle.typing.specs.declared.value.Value.TheViews.{outs-Tuple, outs-Inj, outs-Set, outs-Weights}
use Rattle.typing.specs.Values.{index, index_in, inner, inner_in, parts, parts_in, entries, entries_in}
use Rattle.typing.specs.Bounds.{are_any, are_from_zero, joint_weight, each_holds, entries_hold, sums_step, any_weights, sums_hold}
use Rattle.typing.specs.Fits.{Check, no_check, check_at}
use Rattle.fitting.specs.declared.fitted.Fitted.{Fitted}
use Rattle.fitting.specs.declared.fitted.Fitted.TheViews as shown
use Rattle.fitting.specs.declared.fitted.Weight.{Weight}
use Rattle.fitting.specs.declared.fitted.Weight.TheVariants as weight
use Rattle.fitting.specs.Fitting.{Fit, made, no_fit, fit_at, places, is_from_zero, has_fractions, product_fit, sum_fit, power_fit, set_fit, weights_fit, fit_step, fitting}
use Rattle.fitting.specs.Scaling.{Scale, no_scale, scale_at, scaled_weight, scaled_places, scaled_entries, scaled_level, scaled_step, scaled}
use Rattle.fitting.proofs.Inversions.{err_ok, found-ok, made-ok}
use Rattle.fitting.proofs.Shapes.{product-ok, sum-ok, power-ok, set-ok, weights-ok}
use Rattle.fitting.proofs.FitNumerals.{IsRead, weight-read}
use Rattle.fitting.proofs.FitSound.{places-suc, scaled-suc}

-- four lists, place by place
abbrev Zip4 :
    {A B C D : Type 0} → (A → B → C → D → Type 0) → List A → List B → List C → List D → Type 0
Zip4 R [] [] [] [] = Unit {0}
Zip4 R (x ∷ xs) (y ∷ ys) (z ∷ zs) (w ∷ ws) = R x y z w × Zip4 R xs ys zs ws
Zip4 R _ _ _ _ = ⊥

module _ {X A B C D : Type 0} (R : A → B → C → D → Type 0)
    (f : X → A) (g : X → B) (h : X → C) (i : X → D) (k : (x : X) → R (f x) (g x) (h x) (i x)) where
  zip4_images : (xs : List X) → Zip4 R (map f xs) (map g xs) (map h xs) (map i xs)
  zip4_images [] = tt
  zip4_images (x ∷ xs) = (k x, zip4_images xs)

-- what four steps keep holds between four folds
module _ {A B C D : Type 0} (R : A → B → C → D → Type 0) (a : A) (b : B) (c : C) (d : D)
    (f : Node → List A → A) (g : Node → List B → B) (h : Node → List C → C) (i : Node → List D → D)
    (at_other : R a b c d)
    (keeps : (m : Node) (xs : List A) (ys : List B) (zs : List C) (ws : List D)
    → Zip4 R xs ys zs ws → R (f m xs) (g m ys) (h m zs) (i m ws)) (t : Nodes) where
  abbrev IsKept : ℕ → ℕ → Type 0
  IsKept n p =
      R (fold_within a f t n p) (fold_within b g t n p) (fold_within c h t n p)
      (fold_within d i t n p)

  abbrev taken : {X : Type 0} → X → (Node → List X → X) → ℕ → Option Branch → X
  taken other step n o =
      option_map_or (λ y. step y.node (map (fold_within other step t n) y.children)) o other

  within-related4 : (n p : ℕ) → IsKept n p
  within-related4 zero p = at_other
  within-related4 (suc n) p = by (within-related4 n) (slice_get t p)
    where
      by :
          ((q : ℕ) → IsKept n q) → (o : Option Branch)
          → R (taken a f n o) (taken b g n o) (taken c h n o) (taken d i n o)
      by below None = at_other
      by below (Some y) =
          keeps y.node _ _ _ _
          (zip4_images R (fold_within a f t n) (fold_within b g t n) (fold_within c h t n)
          (fold_within d i t n) below y.children)

  fold-related4 : (p : ℕ) → R (fold a f t p) (fold b g t p) (fold c h t p) (fold d i t p)
  fold-related4 p = within-related4 (length t) p

natural_times : (z : ℤ) (k : ℕ) → int_lt z (pos 0) ≡ false
    → not (int_lt (z *ℤ pos k) (pos 0)) ≡ true
natural_times (pos n) k h = let e : nat_lt (n * k) 0 ≡ false = grind (arith, nat_tests) in ap not e
natural_times (negsuc n) k h = absurd (true≢false h)

-- l is the denominator
module _ (l : ℕ) where
  -- a scaled weight is not below 0, where those that are read are not
  weight_natural : (m : Node) (c : Weight) → is_from_zero m ≡ true → IsRead m c
      → not (int_lt (scaled_weight l m c) (pos 0)) ≡ true
  weight_natural m weight.OverBound h r = let e : nat_lt 0 0 ≡ false = grind (arith, nat_tests) in
      ap not e
  weight_natural m (weight.Fraction n) h r = by (has_fractions m) (r.natural h n refl)
    where
      by : (b : Bool) → int_lt n.p (pos 0) ≡ false
          → not (int_lt (if b then n.p *ℤ pos (l / n.q) else n.p) (pos 0)) ≡ true
      by true k = natural_times n.p (l / n.q) k
      by false k = ap not k

  -- where the sums of what is scaled hold, they do so with weights from 0 on
  record IsKeptBy (g : Fit) (s : Scale) (y z : Check) : Type 0 where
    pub kept : (u : Tree) (f : Fitted) → g u ≡ Ok f → y (s f) ≡ true → z (s f) ≡ true

  abbrev AllKept : List Fit → List Scale → List Check → List Check → Type 0
  AllKept = Zip4 IsKeptBy

  none_kept : (y z : Check) → IsKeptBy no_fit no_scale y z
  none_kept y z = record { kept = λ u f e. absurd (err_ok WrongShape f e) }

  at_kept :
      (gs : List Fit) (ss : List Scale) (ys zs : List Check) (k : ℕ) → AllKept gs ss ys zs
      → IsKeptBy (fit_at gs k) (scale_at ss k) (check_at ys k) (check_at zs k)
  at_kept [] [] [] [] k all = none_kept no_check no_check
  at_kept [] [] [] (z ∷ zs) k all = absurd all
  at_kept [] [] (y ∷ ys) zs k all = absurd all
  at_kept [] (s ∷ ss) ys zs k all = absurd all
  at_kept (g ∷ gs) [] ys zs k all = absurd all
  at_kept (g ∷ gs) (s ∷ ss) [] zs k all = absurd all
  at_kept (g ∷ gs) (s ∷ ss) (y ∷ ys) [] k all = absurd all
  at_kept (g ∷ gs) (s ∷ ss) (y ∷ ys) (z ∷ zs) k all =
      by (k == 0) (at_kept gs ss ys zs (k - 1) all.1)
    where
      by :
          (o : Bool)
          → IsKeptBy (fit_at gs (k - 1)) (scale_at ss (k - 1)) (check_at ys (k - 1))
          (check_at zs (k - 1))
          → IsKeptBy (if o then g else fit_at gs (k - 1)) (if o then s else scale_at ss (k - 1))
          (if o then y else check_at ys (k - 1)) (if o then z else check_at zs (k - 1))
      by true later = all.0
      by false later = later

  -- parts, each at its own place
  places_kept :
      (gs : List Fit) (ss : List Scale) (ys zs : List Check) → AllKept gs ss ys zs
      → (us : List Tree) (fs : List Fitted) → length us ≡ length gs → places gs 0 us ≡ Ok fs
      → each_holds ys (scaled_places ss 0 fs) ≡ true → each_holds zs (scaled_places ss 0 fs) ≡ true
  places_kept [] [] [] [] all us fs same e h = refl
  places_kept [] [] [] (z ∷ zs) all us fs same e h = absurd all
  places_kept [] [] (y ∷ ys) zs all us fs same e h = absurd all
  places_kept [] (s ∷ ss) ys zs all us fs same e h = absurd all
  places_kept (g ∷ gs) [] ys zs all us fs same e h = absurd all
  places_kept (g ∷ gs) (s ∷ ss) [] zs all us fs same e h = absurd all
  places_kept (g ∷ gs) (s ∷ ss) (y ∷ ys) [] all us fs same e h = absurd all
  places_kept (g ∷ gs) (s ∷ ss) (y ∷ ys) (z ∷ zs) all [] fs same e h = absurd (omega arith)
  places_kept (g ∷ gs) (s ∷ ss) (y ∷ ys) (z ∷ zs) all (u ∷ us) fs same e h =
      let (f, e1, f1) = found-ok (g u) (λ v. made (λ vs. v ∷ vs) (places (g ∷ gs) 1 us)) fs e in
      let (hs, e2, is) = made-ok (λ (vs : List Fitted). f ∷ vs) (places (g ∷ gs) 1 us) fs f1 in
      let tail : List Value = scaled_places ss 0 hs in
      let first : scaled_places (s ∷ ss) 0 fs ≡ s f ∷ tail =
      ap (scaled_places (s ∷ ss) 0) (sym is) ∙ ap (λ vs. s f ∷ vs) (scaled-suc l 0 s ss 0 hs) in
      let p = and_parts (y (s f)) (each_holds ys tail) (ap (each_holds (y ∷ ys)) (sym first) ∙ h) in
      ap (each_holds (z ∷ zs)) first
      ∙ and_from (z (s f)) (each_holds zs tail) (all.0.kept u f e1 p.0)
      (places_kept gs ss ys zs all.1 us hs (omega arith)
      (sym (places-suc l 0 g gs 0 us) ∙ e2) p.1)

  module _ (gs : List Fit) (ss : List Scale) (ys zs : List Check) (all : AllKept gs ss ys zs) where
    abbrev IsGood : Fitted → Type 0
    IsGood f = check_at ys 0 (scale_at ss 0 f) ≡ true → check_at zs 0 (scale_at ss 0 f) ≡ true

    first : (u : Tree) (f : Fitted) → fit_at gs 0 u ≡ Ok f → IsGood f
    first = (at_kept gs ss ys zs 0 all).kept

    list_kept :
        (fs : List Fitted) → AllByRecursion IsGood fs
        → list_all (check_at ys 0) (map (scale_at ss 0) fs) ≡ true
        → list_all (check_at zs 0) (map (scale_at ss 0) fs) ≡ true
    list_kept [] good h = refl
    list_kept (f ∷ fs) good h =
        let v : Value = scale_at ss 0 f in
        let p = and_parts (check_at ys 0 v) (list_all (check_at ys 0) (map (scale_at ss 0) fs)) h in
        and_from (check_at zs 0 v) (list_all (check_at zs 0) (map (scale_at ss 0) fs))
        (good.0 p.0) (list_kept fs good.1 p.1)

    abbrev weighed : Node → List (Fitted × Weight) → List (Value × ℤ)
    weighed m es = scaled_entries l m (scale_at ss 0) es

    entries_kept :
        (m : Node) (es : List (Fitted × Weight))
        → AllByRecursion (λ w. IsGood w.0 × IsRead m w.1) es
        → entries_hold (check_at ys 0) (weighed m es) ≡ true
        → entries_hold (check_at zs 0) (weighed m es) ≡ true
    entries_kept m [] good h = refl
    entries_kept m (e ∷ es) good h =
        let v : Value = scale_at ss 0 e.0 in
        let p = and_parts (check_at ys 0 v) (entries_hold (check_at ys 0) (weighed m es)) h in
        and_from (check_at zs 0 v) (entries_hold (check_at zs 0) (weighed m es))
        (good.0.0 p.0) (entries_kept m es good.1 p.1)

    natural :
        (m : Node) → is_from_zero m ≡ true → (es : List (Fitted × Weight))
        → AllByRecursion (λ w. IsGood w.0 × IsRead m w.1) es → are_from_zero (weighed m es) ≡ true
    natural m h [] good = refl
    natural m h (e ∷ es) good =
        and_from (not (int_lt (scaled_weight l m e.1) (pos 0))) (are_from_zero (weighed m es))
        (weight_natural m e.1 h good.0.1) (natural m h es good.1)

    abbrev Step : Node → Fitted → Type 0
    Step m f =
        sums_step are_any l m ys (scaled_step l m ss f) ≡ true
        → sums_step are_from_zero l m zs (scaled_step l m ss f) ≡ true

    abbrev on_value : (m : Node) → Value → Type 0
    on_value m v = sums_step are_any l m ys v ≡ true → sums_step are_from_zero l m zs v ≡ true

    product_kept : (u : Tree) (f : Fitted) → product_fit gs u ≡ Ok f → Step Product f
    product_kept u f e =
        let w = product-ok gs u f e in
        let vs : List Value = scaled_places ss 0 w.values in
        let is : scaled_step l Product ss f ≡ value.Tuple vs =
        ap (scaled_step l Product ss) (sym w.is)
        ∙ ap (scaled_level l Product ss) (shown.outs-Tuple w.values) in
        let shows : parts (value.Tuple vs) ≡ vs = ap parts_in (outs-Tuple vs) in
        subst (on_value Product) (sym is)
        (λ h. ap (each_holds zs) shows
        ∙ places_kept gs ss ys zs all w.trees w.values w.count w.read
        (ap (each_holds ys) (sym shows) ∙ h))

    sum_kept : (u : Tree) (f : Fitted) → sum_fit gs u ≡ Ok f → Step Sum f
    sum_kept u f e =
        let w = sum-ok gs u f e in
        let k : ℕ = w.index in
        let v : Value = scale_at ss k w.value in
        let is : scaled_step l Sum ss f ≡ value.Inj k v =
        ap (scaled_step l Sum ss) (sym w.is)
        ∙ ap (scaled_level l Sum ss) (shown.outs-Inj k w.value) in
        let which : index (value.Inj k v) ≡ k = ap index_in (outs-Inj k v) in
        let what : inner (value.Inj k v) ≡ v = ap (inner_in (value.Inj k v)) (outs-Inj k v) in
        subst (on_value Sum) (sym is)
        (λ h. (λ i. check_at zs (which i) (what i))
        ∙ (at_kept gs ss ys zs k all).kept w.tree w.value w.read
        (sym (λ i. check_at ys (which i) (what i)) ∙ h))

    power_kept : (labels : LabelSet) (u : Tree) (f : Fitted) → power_fit labels gs u ≡ Ok f
        → Step (Power labels) f
    power_kept labels u f e =
        let w = power-ok gs IsGood first labels u f e in
        let vs : List Value = map (scale_at ss 0) w.values in
        let is : scaled_step l (Power labels) ss f ≡ value.Tuple vs =
        ap (scaled_step l (Power labels) ss) (sym w.is)
        ∙ ap (scaled_level l (Power labels) ss) (shown.outs-Tuple w.values) in
        let shows : parts (value.Tuple vs) ≡ vs = ap parts_in (outs-Tuple vs) in
        subst (on_value (Power labels)) (sym is)
        (λ h. ap (list_all (check_at zs 0)) shows
        ∙ list_kept w.values w.all (ap (list_all (check_at ys 0)) (sym shows) ∙ h))

    set_kept : (u : Tree) (f : Fitted) → set_fit gs u ≡ Ok f → Step Powerset f
    set_kept u f e =
        let w = set-ok gs IsGood first u f e in
        let vs : List Value = map (scale_at ss 0) w.values in
        let is : scaled_step l Powerset ss f ≡ value.Set vs =
        ap (scaled_step l Powerset ss) (sym w.is)
        ∙ ap (scaled_level l Powerset ss) (shown.outs-Set w.values) in
        let shows : parts (value.Set vs) ≡ vs = ap parts_in (outs-Set vs) in
        subst (on_value Powerset) (sym is)
        (λ h. ap (list_all (check_at zs 0)) shows
        ∙ list_kept w.values w.all (ap (list_all (check_at ys 0)) (sym shows) ∙ h))

    -- what a weight node asks of entries
    abbrev on_entries : Node → List (Value × ℤ) → Type 0
    on_entries m es =
        entries_hold (check_at ys 0) es ≡ true → entries_hold (check_at zs 0) es ≡ true

    weighted :
        (m : Node)
        → ((es : List (Fitted × Weight)) → AllByRecursion (λ w. IsGood w.0 × IsRead m w.1) es
        → (v : Value) → entries v ≡ weighed m es → on_value m v)
        → (u : Tree) (f : Fitted) → weights_fit m gs u ≡ Ok f → Step m f
    weighted m asks u f e =
        let w = weights-ok gs IsGood first m (IsRead m) (weight-read m) u f e in
        let vs : List (Value × ℤ) = weighed m w.pairs in
        let is : scaled_step l m ss f ≡ value.Weights vs =
        ap (scaled_step l m ss) (sym w.is)
        ∙ ap (scaled_level l m ss) (shown.outs-Weights w.pairs) in
        subst (on_value m) (sym is)
        (asks w.pairs w.all (value.Weights vs) (ap entries_in (outs-Weights vs)))

    bag_kept :
        (es : List (Fitted × Weight)) → AllByRecursion (λ w. IsGood w.0 × IsRead Bag w.1) es
        → (v : Value) → entries v ≡ weighed Bag es → on_value Bag v
    bag_kept es good v shows h =
        and_from (are_from_zero (entries v)) (entries_hold (check_at zs 0) (entries v))
        (ap are_from_zero shows ∙ natural Bag refl es good)
        (ap (entries_hold (check_at zs 0)) shows
        ∙ entries_kept Bag es good (ap (entries_hold (check_at ys 0)) (sym shows) ∙ h))

    distribution_kept :
        (es : List (Fitted × Weight)) → AllByRecursion
        (λ w. IsGood w.0 × IsRead Distribution w.1) es
        → (v : Value) → entries v ≡ weighed Distribution es → on_value Distribution v
    distribution_kept es good v shows h =
        let sums : Bool = int_eq (joint_weight Distribution (entries v)) (pos l) in
        let p = and_parts sums (entries_hold (check_at ys 0) (entries v)) h in
        and_from (are_from_zero (entries v) && sums) (entries_hold (check_at zs 0) (entries v))
        (and_from (are_from_zero (entries v)) sums
        (ap are_from_zero shows ∙ natural Distribution refl es good) p.0)
        (ap (entries_hold (check_at zs 0)) shows
        ∙ entries_kept Distribution es good (ap (entries_hold (check_at ys 0)) (sym shows) ∙ p.1))

    others_kept :
        (m : Node) (es : List (Fitted × Weight))
        → AllByRecursion (λ w. IsGood w.0 × IsRead m w.1) es
        → (v : Value) → entries v ≡ weighed m es → on_entries m (entries v)
    others_kept m es good v shows h =
        ap (entries_hold (check_at zs 0)) shows
        ∙ entries_kept m es good (ap (entries_hold (check_at ys 0)) (sym shows) ∙ h)

  step_kept :
      (names : List (List ℕ)) (m : Node) (gs : List Fit) (ss : List Scale) (ys zs : List Check)
      → AllKept gs ss ys zs
      → IsKeptBy (fit_step names m gs) (scaled_step l m ss) (sums_step are_any l m ys)
      (sums_step are_from_zero l m zs)
  step_kept names State gs ss ys zs all = record { kept = λ u f e h. refl }
  step_kept names (Constant labels) gs ss ys zs all = record { kept = λ u f e h. refl }
  step_kept names Naturals gs ss ys zs all = record { kept = λ u f e h. refl }
  step_kept names Product gs ss ys zs all = record { kept = product_kept gs ss ys zs all }
  step_kept names Sum gs ss ys zs all = record { kept = sum_kept gs ss ys zs all }
  step_kept names (Power labels) gs ss ys zs all =
      record { kept = power_kept gs ss ys zs all labels }
  step_kept names Powerset gs ss ys zs all = record { kept = set_kept gs ss ys zs all }
  step_kept names Bag gs ss ys zs all =
      record { kept = weighted gs ss ys zs all Bag (bag_kept gs ss ys zs all) }
  step_kept names Distribution gs ss ys zs all =
      record { kept = weighted gs ss ys zs all Distribution (distribution_kept gs ss ys zs all) }
  step_kept names Integers gs ss ys zs all =
      record { kept = weighted gs ss ys zs all Integers (others_kept gs ss ys zs all Integers) }
  step_kept names Rationals gs ss ys zs all =
      record { kept = weighted gs ss ys zs all Rationals (others_kept gs ss ys zs all Rationals) }

-- where the distributions in the value of a fitted tree have their sums, no weight of a bag or a
-- distribution in it is below 0
pub fitting-weights :
    (l : ℕ) (t : Nodes) (names : List (List ℕ)) (p : ℕ) (u : Tree) (f : Fitted)
    → fitting t names p u ≡ Ok f → sums_hold are_any l t p (scaled l t p f) ≡ true
    → sums_hold are_from_zero l t p (scaled l t p f) ≡ true
fitting-weights l t names p =
    (fold-related4 (IsKeptBy l) no_fit no_scale any_weights any_weights (fit_step names)
    (scaled_step l) (sums_step are_any l) (sums_step are_from_zero l)
    (none_kept l any_weights any_weights) (step_kept l names) t p).kept
