-- A row that is made by the rows of cited formulas has the truths of its formula.
--
-- AllCited               == so it is of each formula that one cites
-- trits_are              == the trits of a structure's edges are those of its children
-- row_tells              == the truth by rows is the truth
-- row_read               == a row that is read
-- evaluating_start       == before the first formula
-- evaluating_step        == one more row, and those that are used no more are dropped
-- table_step             == one more row of a table
-- state_truth            == the newest row has the truths at states
use Rattle.std.proofs.Common.{◌≡◌, ◌+◌, ◌-◌, ◌<◌, ◌≤◌, ℕ, zero, suc, Bool, true, false, not, ◌&&◌, List, [], ◌∷◌, ◌++◌, length, map, Option, Some, slice_get, get_or, refl, sym, ◌∙◌, ap, subst, inl, inr, arith, length-append}
use Rattle.std.specs.Prelude.{slice_index, ◌==◌, if◌then◌else◌}
use Rattle.std.specs.List.{AllZip}
use Rattle.std.specs.Option.{option_map_or}
use Rattle.std.proofs.lemmas.Bool.{cases_lt}
use Rattle.functor_terms.specs.declared.node.Node.{Node}
use Rattle.functor_terms.specs.declared.node.Node.TheVariants.{State, Constant, Naturals, Product, Sum, Power, Powerset, Bag, Distribution, Integers, Rationals}
use Rattle.functor_terms.specs.Terms.{Nodes, node_at}
use Rattle.typing.specs.declared.value.Value.{Value}
use Rattle.typing.specs.Contents.{Content}
use Rattle.typing.specs.Layers.{Place, children_of, is_state, is_state_at, root_at, kids}
use Rattle.typing.proofs.StableLaws.{element}
use Rattle.edge_store.specs.Edges.{chosen}
use Rattle.structures.specs.Structures.{Occurrence, StandsFor, LeadsBy, numbers_below, occurrences_from, sources_from}
use Rattle.structures.proofs.Leaves.{leaves-children}
use Rattle.structures.proofs.WalkEnds.{number_at, occurrence_at, place_of}
use Rattle.formulas.specs.declared.formula.Formula.{Formula}
use Rattle.formulas.specs.declared.formula.Formula.TheVariants.{True, Not, And, At}
use Rattle.formulas.specs.Formulas.{CitesBelow, IsDag}
use Rattle.formulas.specs.Truth.{Layers, is_value, trit, holds_by, holds}
use Rattle.formulas.proofs.TruthLaws.{holds-by_cases}
use Rattle.formula_checker.specs.LayerValues.{layer_value}
use Rattle.satisfaction.specs.Satisfaction.{layers_of, holds_at}
use Rattle.evaluation.specs.Truths.{truth_at, row_at, truth_in}
use Rattle.evaluation.specs.Uses.{IsUsedAt, AreLastUses, KeepsRows}
use Rattle.evaluation.specs.Rows.{AreLaidOut, trits_of, truth_by, Tells, IsEvaluating}

-- so it is of each formula that one cites
abbrev pub AllCited : (ℕ → Type 0) → Formula → Type 0
AllCited P True = Unit {0}
AllCited P (Not i) = P i
AllCited P (And i j) = P i × P j
AllCited P (At node value i j) = P i × P j

-- what is known of the formulas that are used up to k at least
cited_known :
    (P : ℕ → Type 0) (last_uses : List ℕ) (k : ℕ) (f : Formula) → CitesBelow k f →
    IsUsedAt last_uses k f → ((j : ℕ) → j < k → k ≤ slice_index last_uses j → P j) →
    AllCited P f
cited_known P last_uses k True below used known = tt
cited_known P last_uses k (Not i) below used known = known i below used
cited_known P last_uses k (And i j) below used known =
    (known i below.0 used.0, known j below.1 used.1)
cited_known P last_uses k (At node value i j) below used known =
    (known i below.0 used.0, known j below.1 used.1)

-- elements by a key, of a map
chosen-map :
    {X Y : Type 0} (f : X → Y) (k : ℕ) (keys : List ℕ) (xs : List X) →
    chosen k keys (map f xs) ≡ map f (chosen k keys xs)
chosen-map f k [] xs = refl
chosen-map f k (key ∷ keys) [] = refl
chosen-map {X = X} {Y = Y} f k (key ∷ keys) (x ∷ xs) = by (key == k) (chosen-map f k keys xs)
  where
    by :
        (b : Bool) → chosen k keys (map f xs) ≡ map f (chosen k keys xs) →
        (if b then f x ∷ chosen k keys (map f xs) else chosen k keys (map f xs))
        ≡ map f (if b then x ∷ chosen k keys xs else chosen k keys xs)
    by true e = ap (λ l. f x ∷ l) e
    by false e = e

module _
    (t : Nodes) (d : ℕ) (values : List Value) (places : List Place) (firsts targets : List ℕ)
    (laid : AreLaidOut t values places firsts targets) where
  abbrev sources : List ℕ
  sources = sources_from t 0 places

  abbrev system : List Occurrence
  system = occurrences_from 0 places sources targets

  abbrev roots : List ℕ
  roots = numbers_below (length values)

  abbrev w : Layers Place
  w = layers_of t d values

  -- what a number stands for is its place
  stands_at :
      (y p : ℕ) (v : Value) → StandsFor system y p v → slice_get places y ≡ Some (p, v)
  stands_at y p v (o, at, node_is, value_is) =
      let (x, at_x, is_x) = place_of sources targets 0 places y o at in
      let first : x.0 ≡ p = ap (λ (q : Occurrence). q.node) is_x ∙ node_is in
      let second : x.1 ≡ v = ap (λ (q : Occurrence). q.value) is_x ∙ value_is in
      at_x ∙ (λ i. Some (first i, second i))

  -- state i has the root structure i
  root_place :
      (i : ℕ) (v : Value) → i < length values → slice_get values i ≡ Some v →
      slice_get places i ≡ Some (0, v)
  root_place i v h at =
      let zeroth : 0 + i ≡ i = omega arith in
      subst (λ k. slice_get places k ≡ Some (0, v)) (number_at 0 (length values) i h ∙ zeroth)
      (stands_at (slice_index roots i) 0 v (laid.structures.sorting.rooted i v at))

  module _
      (f : ℕ → ℕ) (g : Place → ℕ)
      (same : (y : ℕ) (p : Place) → slice_get places y ≡ Some p → f y ≡ g p) where
    -- an edge and the child to which it leads have one trit
    leads :
        (m : Node) (place : Place) (y : ℕ) → LeadsBy system roots m place y →
        f y ≡ g (if is_state m then root_at values place else place)
    leads State place y (i, e, below, ri) =
        let (v, at) =
        element values i (subst (λ n. i < n) laid.structures.sorting.one_root below) in
        let root : root_at values place ≡ (0, v) =
        ap (λ (o : Option ℕ). option_map_or (λ j. option_map_or (λ u. (0, u)) (slice_get values j)
        place) o place) e
        ∙ ap (λ (o : Option Value). option_map_or (λ u. (0, u)) o place) at in
        ap f (sym ri)
        ∙ same (slice_index roots i) (0, v)
        (stands_at (slice_index roots i) 0 v (laid.structures.sorting.rooted i v at))
        ∙ ap g (sym root)
    leads (Constant labels) place y h = same y place (stands_at y place.0 place.1 h)
    leads Naturals place y h = same y place (stands_at y place.0 place.1 h)
    leads Product place y h = same y place (stands_at y place.0 place.1 h)
    leads Sum place y h = same y place (stands_at y place.0 place.1 h)
    leads (Power labels) place y h = same y place (stands_at y place.0 place.1 h)
    leads Powerset place y h = same y place (stands_at y place.0 place.1 h)
    leads Bag place y h = same y place (stands_at y place.0 place.1 h)
    leads Distribution place y h = same y place (stands_at y place.0 place.1 h)
    leads Integers place y h = same y place (stands_at y place.0 place.1 h)
    leads Rationals place y h = same y place (stands_at y place.0 place.1 h)

    -- so have all edges of a structure and its children
    all_lead :
        (ps : List Place) (ys : List ℕ) →
        AllZip (λ place y. LeadsBy system roots (node_at t place.0) place y) ps ys →
        map f ys ≡ map g (map (λ y. if is_state_at t y then root_at values y else y) ps)
    all_lead [] [] h = refl
    all_lead [] (y ∷ ys) h = absurd h
    all_lead (place ∷ ps) [] h = absurd h
    all_lead (place ∷ ps) (y ∷ ys) h =
        λ i. leads (node_at t place.0) place y h.0 i ∷ all_lead ps ys h.1 i

    -- the trits of a structure's edges are those of its children
    pub trits_are :
        (x : ℕ) (p : Place) → slice_get places x ≡ Some p →
        chosen x sources (map f targets) ≡ map g (kids t values p)
    trits_are x p at =
        let zeroth : 0 + x ≡ x = omega arith in
        let linked = laid.structures.sorting.linked x _ (occurrence_at sources targets 0 places x p
        at) in
        chosen-map f x sources targets ∙ ap (λ k. map f (chosen k sources targets)) (sym zeroth)
        ∙ all_lead (children_of t p) (chosen (0 + x) sources targets)
        (subst (λ (ps : List Place).
        AllZip (λ place y. LeadsBy system roots (node_at t place.0) place y) ps
        (chosen (0 + x) sources targets)) (leaves-children t p) linked)

  module _ (dag : List Formula) (ordered : IsDag dag) (rows : List (List Bool)) where
    -- the row of a formula has its truths
    abbrev IsTold : ℕ → Type 0
    IsTold j = Tells w dag places j (row_at rows j)

    -- the truth by rows is the one that goes by cases
    by_cases :
        (f : Formula) → AllCited IsTold f → (x : ℕ) (p : Place) → slice_get places x ≡ Some p →
        truth_by t d sources rows (trits_of rows targets f) f x p
        ≡ holds_by w (holds w dag) f p
    by_cases True told x p at = refl
    by_cases (Not i) told x p at = ap not (told x p at)
    by_cases (And i j) told x p at = λ n. told.0 x p at n && told.1 x p at n
    by_cases (At node value i j) told x p at =
        ap (λ trits. (p.0 == node) && is_value (layer_value d (node_at t p.0) p.1 trits) value)
        (trits_are (λ y. trit (truth_in rows i y) (truth_in rows j y))
        (λ q. trit (holds w dag i q) (holds w dag j q))
        (λ y q e n. trit (told.0 y q e n) (told.1 y q e n)) x p at)

    pub row_tells :
        (k : ℕ) (f : Formula) → slice_get dag k ≡ Some f → AllCited IsTold f →
        (x : ℕ) (p : Place) → slice_get places x ≡ Some p →
        truth_by t d sources rows (trits_of rows targets f) f x p ≡ holds w dag k p
    row_tells k f e told x p at =
        by_cases f told x p at ∙ sym (holds-by_cases w dag ordered k f e p)

-- a row that is read
pub row_read :
    (rows : List (List Bool)) (i : ℕ) (row : List Bool) → i < length rows →
    row ≡ get_or rows i row → row ≡ row_at rows i
row_read [] i row h e = absurd (omega arith)
row_read (r ∷ rows) zero row h e = e
row_read (r ∷ rows) (suc i) row h e = row_read rows i row (omega arith) e

row_before :
    (rows : List (List Bool)) (row : List Bool) (j : ℕ) → j < length rows →
    row_at (rows ++ row ∷ []) j ≡ row_at rows j
row_before [] row j h = absurd (omega arith)
row_before (r ∷ rows) row zero h = refl
row_before (r ∷ rows) row (suc j) h = row_before rows row j (omega arith)

row_last :
    (rows : List (List Bool)) (row : List Bool) →
    row_at (rows ++ row ∷ []) (length rows) ≡ row
row_last [] row = refl
row_last (r ∷ rows) row = row_last rows row

module _
    (content : Content) (dag : List Formula) (places : List Place)
    (firsts targets last_uses : List ℕ) where
  abbrev IsAt : List (List Bool) → Type 0
  IsAt rows = IsEvaluating content dag places firsts targets last_uses rows

  abbrev layers : Layers Place
  layers = layers_of content.term content.denominator content.values

  -- rows have the truths of formula j
  abbrev IsToldIn : List (List Bool) → ℕ → Type 0
  IsToldIn rows j = Tells layers dag places j (row_at rows j)

  -- before the first formula
  pub evaluating_start :
      AreLaidOut content.term content.values places firsts targets → 1 ≤ content.denominator →
      IsDag dag → AreLastUses dag (length dag) last_uses → IsAt []
  evaluating_start laid positive ordered uses = record {
    laid_out = laid;
    positive = positive;
    ordered = ordered;
    uses = uses;
    within = omega arith;
    told = λ j h. absurd (omega (arith, h));
  }

  -- one more row, and those that are used no more are dropped
  pub evaluating_step :
      (rows new : List (List Bool)) (row : List Bool) (f : Formula) → IsAt rows →
      length rows < length dag → slice_get dag (length rows) ≡ Some f →
      ((x : ℕ) (p : Place) → slice_get places x ≡ Some p →
      truth_at row x
      ≡ truth_by content.term content.denominator (sources_from content.term 0 places) rows
      (trits_of rows targets f) f x p) →
      KeepsRows last_uses (length rows) (rows ++ row ∷ []) new →
      (length new ≡ length rows + 1) × IsAt new
  evaluating_step rows new row f at less is made keeps = (
    count,
    record {
      laid_out = at.laid_out;
      positive = at.positive;
      ordered = at.ordered;
      uses = at.uses;
      within = omega (arith, count, less);
      told = told_now;
    },
  )
    where
      k : ℕ
      k = length rows

      count : length new ≡ k + 1
      count = keeps.one_each ∙ length-append rows (row ∷ [])

      cited : AllCited (IsToldIn rows) f
      cited =
          cited_known (IsToldIn rows) last_uses k f (at.ordered k f is)
          (at.uses.cited k f less is) at.told

      newest : Tells layers dag places k row
      newest x p e =
          made x p e
          ∙ row_tells content.term content.denominator content.values places firsts targets
          at.laid_out dag at.ordered rows k f is cited x p e

      told_now :
          (j : ℕ) → j < length new → length new ≤ slice_index last_uses j → IsToldIn new j
      told_now j h used = elim (cases_lt j k) [
        | inl before ↦
            subst (Tells layers dag places j)
            (sym (keeps.kept j (omega (arith, used, count)) ∙ row_before rows row j before))
            (at.told j before (omega (arith, used, count)))
        | inr not_before ↦ (
            let same : k ≡ j = omega (arith, not_before, h, count) in
            let there : row_at new j ≡ row =
            keeps.kept j (omega (arith, used, count))
            ∙ ap (row_at (rows ++ row ∷ [])) (sym same) ∙ row_last rows row in
            subst (Tells layers dag places j) (sym there)
            (subst (λ n. Tells layers dag places n row) same newest))
      ]

  -- the newest row has the truths at states
  pub state_truth :
      (rows : List (List Bool)) → IsAt rows → 0 < length rows → (x : ℕ) →
      x < length content.values →
      truth_at (row_at rows (length rows - 1)) x ≡ holds_at content dag (length rows - 1) x
  state_truth rows at some x h =
      let j : ℕ = length rows - 1 in
      let (v, is) = element content.values x h in
      at.told j (omega (arith, some))
      (omega (arith, at.uses.newest j (omega (arith, some, at.within)), some)) x (0, v)
      (root_place content.term content.denominator content.values places firsts targets
      at.laid_out x v h is)
      ∙ sym (ap (λ o. option_map_or (λ u. holds layers dag j (0, u)) o false) is)

-- one more row of a table of truths
pub table_step :
    (content : Content) (dag : List Formula) (rows : List (List Bool)) (row : List Bool) (k : ℕ) →
    length rows ≡ k →
    ((f x : ℕ) → f < k → x < length content.values →
    truth_in rows f x ≡ holds_at content dag f x) →
    ((x : ℕ) → x < length content.values → truth_at row x ≡ holds_at content dag k x) →
    (f x : ℕ) → f < k + 1 → x < length content.values →
    truth_in (rows ++ row ∷ []) f x ≡ holds_at content dag f x
table_step content dag rows row k len known newest f x h hx = elim (cases_lt f k) [
  | inl before ↦
      ap (λ r. truth_at r x) (row_before rows row f (omega (arith, before, len)))
      ∙ known f x before hx
  | inr not_before ↦ (
      let same : k ≡ f = omega (arith, not_before, h) in
      let there : row_at (rows ++ row ∷ []) f ≡ row =
      ap (row_at (rows ++ row ∷ [])) (sym (len ∙ same)) ∙ row_last rows row in
      ap (λ r. truth_at r x) there ∙ newest x hx ∙ ap (λ n. holds_at content dag n x) same)
]
