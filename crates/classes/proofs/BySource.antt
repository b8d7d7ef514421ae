-- Edges summed state by state.
use Rattle.std.proofs.Common.{◌≡◌, ℕ, suc, ◌+◌, ◌<◌, ◌≤◌, ◌==◌, true, false, Bool, cond, List, [], ◌∷◌, length, sum_by, All, refl, ⊎_elim, arith}
use Rattle.std.proofs.lemmas.Bool.{cases_lt}
use Rattle.std.proofs.lemmas.List.Sums.{sum_by-cons}
use Rattle.std.proofs.lemmas.Bool.Decides.{nat_tests}
use Rattle.edge_store.specs.declared.edge.Edge.{Edge}
use Rattle.edge_store.specs.Edges.{sources_of, labels_from, targets_from}
use Rattle.sorted_systems.specs.Systems.{Sorted, system_from}

module _ (Shape Label : Type 0) (f : ℕ → ℕ) where
  -- what a state has at its targets
  abbrev pub at_targets : Sorted Shape Label → ℕ
  at_targets a = sum_by f a.targets

  -- what the states with these shapes have at their targets
  abbrev pub over_states : ℕ → List Shape → List (Edge Label) → ℕ
  over_states first shapes edges = sum_by at_targets (system_from first shapes edges)

  -- one edge more, at a number
  own : (e : Edge Label) (edges : List (Edge Label)) (x : ℕ) →
      sum_by f (targets_from (e ∷ edges) x)
      ≡ cond (e.source == x) (f e.target) 0 + sum_by f (targets_from edges x)
  own e edges x = go (e.source == x)
    where
      go : (b : Bool) →
          sum_by f (cond b (e.target ∷ targets_from edges x) (targets_from edges x))
          ≡ cond b (f e.target) 0 + sum_by f (targets_from edges x)
      go true = sum_by-cons f e.target (targets_from edges x)
      go false =
          let same :
          sum_by f (targets_from edges x) ≡ 0 + sum_by f (targets_from edges x) =
          omega arith in
          same

  -- the first state and the others
  split : (first : ℕ) (s : Shape) (shapes : List Shape) (edges : List (Edge Label)) →
      over_states first (s ∷ shapes) edges
      ≡ sum_by f (targets_from edges first) + over_states (first + 1) shapes edges
  split first s shapes edges =
      sum_by-cons at_targets
      (record {
        shape = s;
        labels = labels_from edges first;
        targets = targets_from edges first;
      }) (system_from (first + 1) shapes edges)

  none : (first : ℕ) (shapes : List Shape) → over_states first shapes [] ≡ 0
  none first [] = refl
  none first (s ∷ shapes) =
      let rest = none (first + 1) shapes in
      let here : sum_by f (targets_from {Label = Label} [] first) ≡ 0 = refl in
      let all = split first s shapes [] in
      omega (arith, rest, here, all)

  -- an edge from a state before the first
  past : (e : Edge Label) (edges : List (Edge Label)) (first : ℕ) (shapes : List Shape) →
      e.source < first →
      over_states first shapes (e ∷ edges) ≡ over_states first shapes edges
  past e edges first [] h = refl
  past e edges first (s ∷ shapes) h =
      let rest = past e edges (first + 1) shapes (omega arith) in
      let here = own e edges first in
      let no : cond (e.source == first) (f e.target) 0 ≡ 0 = grind (arith, nat_tests) in
      let one = split first s shapes (e ∷ edges) in
      let two = split first s shapes edges in
      omega (arith, rest, here, no, one, two)

  -- an edge from one of the states
  inside : (e : Edge Label) (edges : List (Edge Label)) (first : ℕ) (shapes : List Shape) →
      first ≤ e.source → e.source < first + length shapes →
      over_states first shapes (e ∷ edges) ≡ f e.target + over_states first shapes edges
  inside e edges first [] h l = absurd (omega arith)
  inside e edges first (s ∷ shapes) h l =
      let here = own e edges first in
      let one = split first s shapes (e ∷ edges) in
      let two = split first s shapes edges in
      ⊎_elim
      (λ (before : first < e.source).
      let rest = inside e edges (first + 1) shapes (omega arith) (omega arith) in
      let no : cond (e.source == first) (f e.target) 0 ≡ 0 = grind (arith, nat_tests) in
      omega (arith, rest, here, no, one, two))
      (λ (now : e.source ≤ first).
      let rest = past e edges (first + 1) shapes (omega arith) in
      let yes : cond (e.source == first) (f e.target) 0 ≡ f e.target =
      grind (arith, nat_tests) in
      omega (arith, rest, here, yes, one, two))
      (cases_lt first e.source)

  -- the sum over all edges is that over all states
  pub by_source : (shapes : List Shape) (edges : List (Edge Label)) →
      All (λ s. s < length shapes) (sources_of edges) →
      over_states 0 shapes edges ≡ sum_by (λ (e : Edge Label). f e.target) edges
  by_source shapes [] all = none 0 shapes
  by_source shapes (e ∷ edges) all =
      let rest = by_source shapes edges (λ i d h. all (suc i) d (omega arith)) in
      let low : e.source < length shapes = all 0 0 (omega arith) in
      let here = inside e edges 0 shapes (omega arith) (omega arith) in
      let one = sum_by-cons (λ (a : Edge Label). f a.target) e edges in
      omega (arith, rest, here, one)
