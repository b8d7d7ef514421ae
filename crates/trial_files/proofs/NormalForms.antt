-- Every value that may be relabelled has a normal form, and so has every fitted tree.
use Rattle.std.proofs.Common.{◌≡◌, ℕ, zero, suc, ◌+◌, ◌<◌, ◌≤◌, ◌^◌, true, false, List, [], ◌∷◌, map, length, get_or, Ok, Some, slice_get, refl, sym, ap, ◌∙◌, arith, true≢false}
use Rattle.std.specs.Prelude.{ℤ, slice_index, EachIndex}
use Rattle.std.specs.List.{list_all, AllZip}
use Rattle.std.proofs.lemmas.Bool.{and_parts, ltb-true}
use Rattle.std.proofs.lemmas.Option.{slice_get-get_or}
use Rattle.file_cut.specs.declared.tree.Tree.{Tree}
use Rattle.functor_terms.specs.declared.node.Node.{Node}
use Rattle.functor_terms.specs.declared.node.Node.TheVariants.{Product}
use Rattle.functor_terms.specs.Lists.{Zip3}
use Rattle.functor_terms.specs.Terms.{Nodes, IsTerm, node_at, children_at}
use Rattle.typing.specs.declared.value.Value.{Value, Value-F, out-Value}
use Rattle.typing.specs.declared.value.Value.TheVariants as value
use Rattle.typing.specs.declared.value.Value.TheViews.{outs-State, outs-Label, outs-Tuple, outs-Inj, outs-Set, outs-Weights}
use Rattle.typing.specs.Fits.{fits}
use Rattle.typing.specs.NormalForms.{is_ready, each_ready, child_check, child_form, IsRelabelledAt, IsRelabelledChild, IsRelabelledEntry}
use Rattle.typing.proofs.NormalLaws.{same_value}
use Rattle.typing.proofs.OrderLaws.{child-total}
use Rattle.typing.proofs.OwnLabels.{count_from, count_at}
use Rattle.typing.proofs.ReadyLaws.{ready_check, ready_level, ready_from}
use Rattle.typing.proofs.RelabelSteps.{at_state, at_label, inner_ready, at_inner, places_are_ready, at_places, parts_ready, at_parts, members_ready, at_members, entries_are_ready, at_entries, child_ready, child_relabelled}
use Rattle.typing.proofs.TermFacts.{are_later, children_later, later_first, later_rest, child_later, child_exists}
use Rattle.fitting.specs.declared.fitted.Fitted.{Fitted}
use Rattle.fitting.specs.Fitting.{fitting}
use Rattle.fitting.specs.Scaling.{over_bound, lists_within, scaled, IsFitted}
use Rattle.fitting.proofs.ScaleSound.{scaled-fits, scaled-below, scaled-bounded, form-equal}
use Rattle.structure_parser.specs.Reads.{IsNormalForm}
use Rattle.trial_files.proofs.Sorting.{set-exists, totals-exist}

module _ (t : Nodes) (is : IsTerm t) (b : List ℕ) where
  -- a normal form of a value at a node
  abbrev HasForm : ℕ → Value → Type 0
  HasForm p v = (r : Value) × IsRelabelledAt t b p v r

  -- each value at a later node that may be relabelled has one
  abbrev LaterHave : ℕ → Type 0
  LaterHave p =
      (q : ℕ) → p < q → q < length t → (v : Value) → is_ready (length b) (fits t q) v ≡ true
      → HasForm q v

  module _ (p : ℕ) (later : LaterHave p) where
    child_form_of : (k : ℕ) (v : Value) → is_ready (length b) (child_check t p k) v ≡ true
        → (r : Value) × IsRelabelledChild t b p k v r
    child_form_of k v ready =
        let qs : List ℕ = children_at t p in
        let there : k < length qs =
        child_exists t qs k v (ready_check (length b) (child_check t p k) v ready) in
        let q : ℕ = get_or qs k 0 in
        let at : slice_get qs k ≡ Some q = slice_get-get_or qs k 0 there in
        let range = child_later t is p k q at in
        let made = later q range.0 range.1 v (child_ready t p k q (length b) v at ready) in
        (made.0, child_relabelled t b p k q v made.0 at made.1)

    each_form : (vs : List Value) → list_all (is_ready (length b) (child_check t p 0)) vs ≡ true
        → (rs : List Value) × AllZip (IsRelabelledChild t b p 0) vs rs
    each_form [] ready = ([], tt)
    each_form (v ∷ vs) ready =
        let w = and_parts (is_ready (length b) (child_check t p 0) v)
        (list_all (is_ready (length b) (child_check t p 0)) vs) ready in
        let one = child_form_of 0 v w.0 in
        let rest = each_form vs w.1 in
        (one.0 ∷ rest.0, (one.1, rest.1))

    entry_forms : (vs : List (Value × ℤ))
        → list_all (λ w. is_ready (length b) (child_check t p 0) w.0) vs ≡ true
        → (rs : List (Value × ℤ)) × AllZip (IsRelabelledEntry t b p) vs rs
    entry_forms [] ready = ([], tt)
    entry_forms (v ∷ vs) ready =
        let w = and_parts (is_ready (length b) (child_check t p 0) v.0)
        (list_all (λ (w : Value × ℤ). is_ready (length b) (child_check t p 0) w.0) vs) ready in
        let one = child_form_of 0 v.0 w.0 in
        let rest = entry_forms vs w.1 in
        ((one.0, v.1) ∷ rest.0, ((one.1, refl), rest.1))

    place_forms : (qs : List ℕ) → are_later (length t) p qs ≡ true → (vs : List Value)
        → each_ready (length b) (map (fits t) qs) vs ≡ true
        → (rs : List Value) × Zip3 (IsRelabelledAt t b) qs vs rs
    place_forms [] after [] ready = ([], tt)
    place_forms [] after (v ∷ vs) ready = absurd (true≢false (sym ready))
    place_forms (q ∷ qs) after [] ready = absurd (true≢false (sym ready))
    place_forms (q ∷ qs) after (v ∷ vs) ready =
        let range = later_first (length t) p q qs after in
        let w = and_parts (is_ready (length b) (fits t q) v)
        (each_ready (length b) (map (fits t) qs) vs) ready in
        let one = later q range.0 range.1 v w.0 in
        let rest = place_forms qs (later_rest (length t) p q qs after) vs w.1 in
        (one.0 ∷ rest.0, (one.1, rest.1))

    module _ (h : p < length t) (v : Value) (ready : is_ready (length b) (fits t p) v ≡ true) where
      parts_form : (m : Node) → m ≡ node_at t p → (m ≡ Product → ⊥) → (vs : List Value)
          → v ≡ value.Tuple vs → HasForm p v
      parts_form m e other vs q =
          let rs = each_form vs (parts_ready t is p h m e b v ready vs q other) in
          (value.Tuple rs.0, at_parts t is p h m e b v ready vs rs.0 q other rs.1)

      tuple_form : (m : Node) → m ≡ node_at t p → (vs : List Value) → v ≡ value.Tuple vs
          → HasForm p v
      tuple_form Product e vs q =
          let rs = place_forms (children_at t p) (children_later t is p) vs
          (places_are_ready t is p h Product e b v ready vs q refl) in
          (value.Tuple rs.0, at_places t is p h Product e b v ready vs rs.0 q refl rs.1)
      tuple_form m e vs q = parts_form m e (λ k. cc) vs q

      form_at_node : HasForm p v
      form_at_node = by (out-Value v) refl
        where
          by : (x : Value-F Value) → out-Value v ≡ x → HasForm p v
          by (Value-F.State i) o =
              let inside : i < length b =
              ltb-true i (length b)
              (ready_level (length b) (fits t p) v (Value-F.State i) o ready).below in (
                value.State (slice_index b i),
                at_state t is p h (node_at t p) refl b v ready i
                    (same_value v (value.State i) (o ∙ sym (outs-State i))) inside,
              )
          by (Value-F.Label k) o = (
            value.Label k,
            at_label t is p h (node_at t p) refl b v ready k
                (same_value v (value.Label k) (o ∙ sym (outs-Label k))),
          )
          by (Value-F.Tuple vs) o =
              tuple_form (node_at t p) refl vs
              (same_value v (value.Tuple vs) (o ∙ sym (outs-Tuple vs)))
          by (Value-F.Inj k w) o =
              let q : v ≡ value.Inj k w = same_value v (value.Inj k w) (o ∙ sym (outs-Inj k w)) in
              let s = child_form_of k w (inner_ready t is p h (node_at t p) refl b v ready k w q) in
              (value.Inj k s.0, at_inner t is p h (node_at t p) refl b v ready k w s.0 q s.1)
          by (Value-F.Set vs) o =
              let q : v ≡ value.Set vs = same_value v (value.Set vs) (o ∙ sym (outs-Set vs)) in
              let us = each_form vs (members_ready t is p h (node_at t p) refl b v ready vs q) in
              let rs = set-exists (child_form t p 0).compare (child-total t (children_at t p) 0)
              us.0 in (
                value.Set rs.0,
                at_members t is p h (node_at t p) refl b v ready vs us.0 rs.0 q us.1 rs.1,
              )
          by (Value-F.Weights vs) o =
              let q : v ≡ value.Weights vs =
              same_value v (value.Weights vs) (o ∙ sym (outs-Weights vs)) in
              let us = entry_forms vs (entries_are_ready t is p h (node_at t p) refl b v ready vs
              q) in
              let rs = totals-exist (child_form t p 0).compare (child-total t (children_at t p) 0)
              us.0 in (
                value.Weights rs.0,
                at_entries t is p h (node_at t p) refl b v ready vs us.0 rs.0 q us.1 rs.1,
              )

  -- nodes go up, so there is one at each node
  form_exists : (n p : ℕ) → length t ≤ n + p → p < length t → (v : Value)
      → is_ready (length b) (fits t p) v ≡ true → HasForm p v
  form_exists zero p le h v ready = absurd (omega (arith, le, h))
  form_exists (suc n) p le h v ready =
      form_at_node p
      (λ q less below w known. form_exists n q (omega (arith, le, less)) below w known) h v ready

-- ---- fitted trees

count_length : (k m : ℕ) → length (count_from k m) ≡ m
count_length k zero = refl
count_length k (suc m) = ap suc (count_length (suc k) m)

some_node : (t : Nodes) (v : Value) → fits t 0 v ≡ true → 0 < length t
some_node [] v h = absurd (true≢false (sym h))
some_node (x ∷ t) v h = omega arith

-- what a tree denotes has a normal form over a denominator
pub normal-form : (l : ℕ) → l ≤ 2 ^ 40 → (t : Nodes) → IsTerm t → (names : List (List ℕ))
    (u : Tree) (f : Fitted) → fitting t names 0 u ≡ Ok f → over_bound f ≡ false
    → lists_within (2 ^ 26) f ≡ true → (v : Value) × IsNormalForm l t f v
normal-form l bounded t is names u f read over small =
    let n : ℕ = length names in
    let own : List ℕ = count_from 0 n in
    let count : length own ≡ n = count_length 0 n in
    let itself : EachIndex own (λ i. slice_index own i ≡ i) =
    λ i h. count_at 0 n i (omega (arith, count, h)) ∙ none_plus i in
    let fit : IsFitted t (length own) f = (names, u, sym count, read) in
    let v : Value = scaled l t 0 f in
    let fitted = scaled-fits l bounded t own itself f fit over small in
    let ready = ready_from (length own) (fits t 0) v fitted
    (scaled-below l bounded t own itself f fit over small)
    (scaled-bounded l bounded t own itself f fit over small) in
    let r = form_exists t is own (length t) 0 (omega arith) (some_node t v fitted) v ready in (
      r.0,
      record {
        fitting = r.1.fitting;
        normal = r.1.normal;
        equal = form-equal l bounded t own itself f fit over small r.0 r.1;
      },
    )
  where
    none_plus : (i : ℕ) → 0 + i ≡ i
    none_plus i = omega arith
