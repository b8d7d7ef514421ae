-- What the walk has found when it has come to the end.
use Rattle.std.proofs.Common.{◌≡◌, ℕ, zero, suc, ◌+◌, ◌<◌, ◌≤◌, ◌^◌, true, List, [], ◌∷◌, length, map, drop, Some, slice_get, refl, sym, ap, ◌∙◌, subst, arith, All, AllPairs}
use Rattle.std.specs.Prelude.{slice_index}
use Rattle.std.specs.List.{AllZip}
use Rattle.std.proofs.lemmas.Option.{same_Some, none-some, slice_get_within}
use Rattle.std.proofs.lemmas.List.{take_all}
use Rattle.functor_terms.specs.declared.node.Node.{Node}
use Rattle.functor_terms.specs.declared.node.Node.TheVariants.{State}
use Rattle.functor_terms.specs.Terms.{Nodes, node_at}
use Rattle.typing.specs.declared.value.Value.{Value}
use Rattle.typing.specs.Fits.{fits}
use Rattle.typing.specs.Bounds.{is_within}
use Rattle.typing.specs.Layers.{Place, leaves_of, added, sorted_in, edges_in}
use Rattle.edge_store.specs.Edges.{chosen}
use Rattle.structures.specs.Structures.{Occurrence, StandsFor, LeadsBy, IsLayer, IsSorting, numbers_on, numbers_below, occurrences_from, sources_from, AreStructures}
use Rattle.structures.specs.Walk.{LeadsTo, IsWalked}
use Rattle.structures.proofs.Chosen.{sources_ascend, sources_inside, all_of}

-- as many numbers as asked for
pub length-numbers : (first n : ℕ) → length (numbers_on first n) ≡ n
length-numbers first zero = refl
length-numbers first (suc n) = ap suc (length-numbers (first + 1) n)

-- the i-th number behind the first
pub number_at : (first n i : ℕ) → i < n → slice_index (numbers_on first n) i ≡ first + i
number_at first zero i h = absurd (omega arith)
number_at first (suc n) zero h = omega arith
number_at first (suc n) (suc i) h =
    let next : first + 1 + i ≡ first + suc i = omega arith in
    number_at (first + 1) n i (omega arith) ∙ next

-- what stands in the occurrences at a place
module _ (sources targets : List ℕ) where
  abbrev here : ℕ → Place → Occurrence
  here k x = record { node = x.0; value = x.1; targets = chosen k sources targets }

  -- the occurrence that a place is made into
  pub occurrence_at :
      (first : ℕ) (places : List Place) (y : ℕ) (x : Place) → slice_get places y ≡ Some x →
      slice_get (occurrences_from first places sources targets) y ≡ Some (here (first + y) x)
  occurrence_at first [] y x e = absurd (none-some x e)
  occurrence_at first (z ∷ zs) zero x e =
      let start : first ≡ first + 0 = omega arith in
      (λ k. Some (here (start k) (same_Some z x e k)))
  occurrence_at first (z ∷ zs) (suc y) x e =
      let next : first + 1 + y ≡ first + suc y = omega arith in
      occurrence_at (first + 1) zs y x e ∙ ap (λ k. Some (here k x)) next

  -- the place that an occurrence was made of
  pub place_of :
      (first : ℕ) (places : List Place) (y : ℕ) (o : Occurrence) →
      slice_get (occurrences_from first places sources targets) y ≡ Some o →
      (x : Place) × (slice_get places y ≡ Some x) × (here (first + y) x ≡ o)
  place_of first [] y o e = absurd (none-some o e)
  place_of first (z ∷ zs) zero o e =
      let start : first + 0 ≡ first = omega arith in
      (z, refl, ap (λ k. here k z) start ∙ same_Some _ o e)
  place_of first (z ∷ zs) (suc y) o e =
      let next : first + suc y ≡ first + 1 + y = omega arith in
      let (x, at_x, is_x) = place_of (first + 1) zs y o e in
      (x, at_x, ap (λ k. here k x) next ∙ is_x)

all_dropped : {X : Type 0} (xs : List X) → drop (length xs) xs ≡ []
all_dropped [] = refl
all_dropped (x ∷ xs) = all_dropped xs

module _
    (t : Nodes) (values : List Value) (places : List Place) (sources targets : List ℕ)
    (walked : IsWalked t values places sources targets (length places)) where
  abbrev system : List Occurrence
  system = occurrences_from 0 places sources targets

  abbrev numbers : List ℕ
  numbers = numbers_below (length values)

  stands : (y : ℕ) (x : Place) → slice_get places y ≡ Some x → StandsFor system y x.0 x.1
  stands y x e = (_, occurrence_at sources targets 0 places y x e, refl, refl)

  number_is : (i : ℕ) → i < length values → slice_index numbers i ≡ i
  number_is i h =
      let zeroth : 0 + i ≡ i = omega arith in number_at 0 (length values) i h ∙ zeroth

  lead_by :
      (m : Node) (x : Place) (y : ℕ) → LeadsTo m (length values) places x y →
      LeadsBy system numbers m x y
  lead_by State x y (i, is_i, in_i, same) = (
    i,
    is_i,
    subst (λ k. i < k) (sym (length-numbers 0 (length values))) in_i,
    number_is i in_i ∙ sym same,
  )
  lead_by m x y h = stands y x h

  all_by :
      (xs : List Place) (ys : List ℕ) →
      AllZip (λ z k. LeadsTo (node_at t z.0) (length values) places z k) xs ys →
      AllZip (λ z k. LeadsBy system numbers (node_at t z.0) z k) xs ys
  all_by [] [] h = tt
  all_by [] (y ∷ ys) h = absurd h
  all_by (x ∷ xs) [] h = absurd h
  all_by (x ∷ xs) (y ∷ ys) h = (lead_by (node_at t x.0) x y h.0, all_by xs ys h.1)

  linked_now :
      (y : ℕ) (x : Place) → slice_get places y ≡ Some x →
      AllZip (λ z k. LeadsTo (node_at t z.0) (length values) places z k) (leaves_of t x)
      (chosen (0 + y) sources targets)
  linked_now y x e =
      let zeroth : y ≡ 0 + y = omega arith in
      subst
      (λ k. AllZip (λ z k. LeadsTo (node_at t z.0) (length values) places z k) (leaves_of t x)
      (chosen k sources targets)) zeroth
      (walked.linked y x (slice_get_within places y x e) e)

  walked_sorting : IsSorting t values system numbers
  walked_sorting = record {
    one_root = length-numbers 0 (length values);
    rooted = λ i v e.
        subst (λ k. StandsFor system k 0 v) (sym (number_is i (slice_get_within values i v e)))
        (stands i (0, v) (walked.rooted i v e));
    linked = λ y o e.
        let (x, at_x, is_x) = place_of sources targets 0 places y o e in
        subst
        (λ (o : Occurrence). AllZip (λ z k. LeadsBy system numbers (node_at t z.0) z k)
        (leaves_of t (o.node, o.value)) o.targets) is_x
        (all_by (leaves_of t x) (chosen (0 + y) sources targets) (linked_now y x at_x));
    fit = λ y o e.
        let (x, at_x, is_x) = place_of sources targets 0 places y o e in
        subst (λ (o : Occurrence). fits t o.node o.value ≡ true) is_x (walked.fit y x at_x).0;
    within = λ y o e.
        let (x, at_x, is_x) = place_of sources targets 0 places y o e in
        subst (λ (o : Occurrence). is_within (2 ^ 106) o.value ≡ true) is_x
        (walked.fit y x at_x).2;
    at_layers = λ y o e.
        let (x, at_x, is_x) = place_of sources targets 0 places y o e in
        subst (λ (o : Occurrence). IsLayer t o.node) is_x (walked.at_layers y x at_x);
  }

  walked_sources : sources ≡ sources_from t 0 places
  walked_sources =
      walked.by_source
      ∙ ap (λ l. sources_from t 0 l) (take_all (length places) places (omega arith))

  -- once all places are walked they are the structures
  pub walked_end :
      length places < 2 ^ 26 → length targets < 2 ^ 26 →
      AreStructures t values places sources targets
  walked_end few few_edges = record {
    sorting = walked_sorting;
    by_source = walked_sources;
    one_each = walked.one_each;
    ascending = subst (λ l. AllPairs (λ a b. a ≤ b) l) (sym walked_sources)
        (sources_ascend t places);
    sources_in = subst (λ l. All (λ s. s < length places) l) (sym walked_sources)
        (sources_inside t places);
    targets_in = all_of (λ s. s < length places) targets walked.inside;
    sorted = omega (
      arith,
      walked.counted,
      ap (λ l. added (map (sorted_in t) l)) (all_dropped places),
    );
    edges = omega (
      arith,
      walked.edged,
      ap (λ l. added (map (edges_in t) l)) (all_dropped places),
    );
    few = few;
    few_edges = few_edges;
  }
