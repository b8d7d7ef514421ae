-- What the text of a value spells at each kind of node: a tree that denotes the value.
use Rattle.std.proofs.Common.{◌≡◌, ℕ, ◌^◌, ◌<◌, true, List, [], ◌∷◌, ◌++◌, length, map, Some, None, refl, sym, ap, ◌∙◌, subst, arith, true≢false}
use Rattle.std.specs.Prelude.{◌==◌, nat_lt, nat_le, Ok, decimal}
use Rattle.std.specs.Option.{option_map_or}
use Rattle.std.specs.Int.{◌∣◌}
use Rattle.std.specs.List.{list_all, AllByRecursion, flat_map}
use Rattle.std.proofs.lemmas.Bool.{and_parts, eqb-true, ltb-true, leb-true}
use Rattle.file_cut.specs.Trees.{entry}
use Rattle.file_cut.specs.declared.tree.Tree.{Tree}
use Rattle.file_cut.specs.declared.tree.Tree.TheVariants as tree
use Rattle.file_cut.specs.declared.tree.Tree.TheViews as trees
use Rattle.file_cut.specs.declared.tree.Entry.{out-roll-Entry}
use Rattle.functor_terms.specs.declared.node.Node.TheVariants.{State, Constant, Naturals, Power}
use Rattle.functor_terms.specs.declared.node.LabelSet.{LabelSet}
use Rattle.functor_terms.specs.Terms.{AreLabels, label_count, label_number}
use Rattle.functor_terms.specs.Words.{place_of, AreNames}
use Rattle.weights.specs.Numerals.{is_digits, number_of}
use Rattle.typing.specs.declared.kind.TypeKind.TheVariants.{UnknownState, NotALabel, WrongShape}
use Rattle.typing.specs.declared.value.Value.{Value, Value-F, out-Value}
use Rattle.typing.specs.declared.value.Value.TheVariants as value
use Rattle.typing.specs.declared.value.Value.TheViews.{outs-State, outs-Label}
use Rattle.typing.specs.Values.{state, state_in, label, label_in, parts, parts_in, states_below}
use Rattle.typing.specs.Fits.{Check, check_at, fits_level, fits_step}
use Rattle.typing.specs.Bounds.{is_within, weights_step}
use Rattle.typing.proofs.MapLaws.{state_within}
use Rattle.typing.proofs.NormalLaws.{same_value, state_shape}
use Rattle.fitting.specs.declared.fitted.Fitted.{Fitted, Fitted-F, out-Fitted, map-Fitted}
use Rattle.fitting.specs.declared.fitted.Fitted.TheVariants as fitted
use Rattle.fitting.specs.declared.fitted.Fitted.TheViews as shown
use Rattle.fitting.specs.declared.fitted.Weight.{Weight}
use Rattle.fitting.specs.Levels.{word, word_in, held, weight_tree}
use Rattle.fitting.specs.Fitting.{Fit, needs, demands}
use Rattle.fitting.specs.Scaling.{Scale, scaled_level, scaled_step, denominators, denominators_step, denominator_of}
use Rattle.structure_writer.specs.Text.{Write, word_at, label_word, write_step}
use Rattle.structure_writer.specs.Spelled.{free_step, DividesAll}
use Rattle.structure_writer.proofs.Marks.{IsTextOf, word-text}
use Rattle.structure_writer.proofs.Labels.{word-is, label-is}
use Rattle.structure_writer.proofs.Numbers.{decimal-is, decimal-name}
use Rattle.weights.specs.FractionTextLaws.{decimal_is_digits}
use Rattle.fitting.proofs.JoinLaws.{denominators_out}

-- ---- entries and their trees

-- an entry without a colon
pub alone_held : (u : Tree) → held (entry u None) ≡ u
alone_held u = ap (λ e. e.first) (out-roll-Entry (record { first = u; second = None }))

-- an element without a weight has no tree of one
pub alone_weight : (u : Tree) → weight_tree (entry u None) ≡ None
alone_weight u = ap (λ e. e.second) (out-roll-Entry (record { first = u; second = None }))

-- an entry with a colon
pub paired_held : (u w : Tree) → held (entry u (Some w)) ≡ u
paired_held u w = ap (λ e. e.first) (out-roll-Entry (record { first = u; second = Some w }))

-- an element's weight is its tree
pub paired_weight : (u w : Tree) → weight_tree (entry u (Some w)) ≡ Some w
paired_weight u w = ap (λ e. e.second) (out-roll-Entry (record { first = u; second = Some w }))

-- the word of a tree that is one
pub word_word : (w : List ℕ) → word (tree.Word w) ≡ Some w
word_word w = ap word_in (trees.outs-Word w)

-- ---- denominators

module _ (l : ℕ) where
  abbrev pub Divides : ℕ → Type 0
  Divides q = q ∣ l

  both_divide : (ps qs : List ℕ) → AllByRecursion Divides ps → AllByRecursion Divides qs
      → AllByRecursion Divides (ps ++ qs)
  both_divide [] qs a b = b
  both_divide (p ∷ ps) qs a b = (a.0, both_divide ps qs a.1 b)

  -- what divides for each of a list divides for all
  pub all_divide : (fs : List Fitted) → AllByRecursion (DividesAll l) fs
      → AllByRecursion Divides (flat_map (λ q. q) (map denominators fs))
  all_divide [] h = tt
  all_divide (f ∷ fs) h =
      both_divide (denominators f) (flat_map (λ q. q) (map denominators fs)) h.0
      (all_divide fs h.1)

  -- what is said of an entry's denominators
  abbrev pub EntryDivides : Fitted × Weight → Type 0
  EntryDivides e = DividesAll l e.0 × AllByRecursion Divides (denominator_of e.1)

  abbrev pub numbers : List (Fitted × Weight) → List (List ℕ × Weight)
  numbers es = map (λ e. (denominators e.0, e.1)) es

  abbrev pub with_weight : List ℕ × Weight → List ℕ
  with_weight e = e.0 ++ denominator_of e.1

  -- entries that divide, divide together
  pub entries_divide : (es : List (Fitted × Weight)) → AllByRecursion EntryDivides es
      → AllByRecursion Divides (flat_map with_weight (numbers es))
  entries_divide [] h = tt
  entries_divide (e ∷ es) h =
      both_divide (denominators e.0 ++ denominator_of e.1)
      (flat_map with_weight (numbers es))
      (both_divide (denominators e.0) (denominator_of e.1) h.0.0 h.0.1) (entries_divide es h.1)

  -- a tree whose layer divides, divides
  pub divides_of : (f : Fitted) (x : Fitted-F Fitted) → out-Fitted f ≡ x
      → AllByRecursion Divides (denominators_step (map-Fitted Fitted (List ℕ) denominators x))
      → DividesAll l f
  divides_of f x e h =
      subst (λ (qs : List ℕ). AllByRecursion Divides qs) (sym (denominators_out f x e)) h

-- ---- shapes

constant_shape : (labels : LabelSet) (fs : List Check) (x : Value-F Value)
    → fits_level (Constant labels) fs x ≡ true
    → (k : ℕ) × (x ≡ Value-F.Label k) × (nat_lt k (label_count labels) ≡ true)
constant_shape labels fs (Value-F.State i) h = absurd (true≢false (sym h))
constant_shape labels fs (Value-F.Label n) h = (n, refl, h)
constant_shape labels fs (Value-F.Tuple vs) h = absurd (true≢false (sym h))
constant_shape labels fs (Value-F.Inj k v) h = absurd (true≢false (sym h))
constant_shape labels fs (Value-F.Set vs) h = absurd (true≢false (sym h))
constant_shape labels fs (Value-F.Weights es) h = absurd (true≢false (sym h))

naturals_shape : (fs : List Check) (x : Value-F Value) → fits_level Naturals fs x ≡ true
    → (k : ℕ) × (x ≡ Value-F.Label k) × (nat_le k (2 ^ 40) ≡ true)
naturals_shape fs (Value-F.State i) h = absurd (true≢false (sym h))
naturals_shape fs (Value-F.Label n) h = (n, refl, h)
naturals_shape fs (Value-F.Tuple vs) h = absurd (true≢false (sym h))
naturals_shape fs (Value-F.Inj k v) h = absurd (true≢false (sym h))
naturals_shape fs (Value-F.Set vs) h = absurd (true≢false (sym h))
naturals_shape fs (Value-F.Weights es) h = absurd (true≢false (sym h))

-- a power that fits has a part for each label
pub power_count : (labels : LabelSet) (fs : List Check) (v : Value)
    → fits_level (Power labels) fs (out-Value v) ≡ true
    → length (parts v) ≡ label_count labels
power_count labels fs v h = by (out-Value v) h
  where
    by : (x : Value-F Value) → fits_level (Power labels) fs x ≡ true
        → length (parts_in x) ≡ label_count labels
    by (Value-F.State i) h = absurd (true≢false (sym h))
    by (Value-F.Label n) h = absurd (true≢false (sym h))
    by (Value-F.Tuple vs) h =
        eqb-true (length vs) (label_count labels)
        (and_parts (length vs == label_count labels) (list_all (check_at fs 0) vs) h).0
    by (Value-F.Inj k v) h = absurd (true≢false (sym h))
    by (Value-F.Set vs) h = absurd (true≢false (sym h))
    by (Value-F.Weights es) h = absurd (true≢false (sym h))

-- ---- what a text of a value spells

-- the text of a value spells a tree with at most n open, which denotes the value over the
-- denominator l
pub record IsWritten (l n : ℕ) (w : Write) (g : Fit) (s : Scale) (v : Value) : Type 0 where
  pub tree : Tree
  pub fitted : Fitted
  pub text : List ℕ
  pub is : w v ≡ text
  pub piece : IsTextOf n text tree
  pub read : g tree ≡ Ok fitted
  pub back : s fitted ≡ v
  pub divides : DividesAll l fitted

-- the value passes the tests at its node, and those of its states and of its bounds
pub record IsTested (names : List (List ℕ)) (x y : Check) (v : Value) : Type 0 where
  pub fitting : x v ≡ true
  pub weighted : y v ≡ true
  pub below : states_below (length names) v ≡ true
  pub within : is_within (2 ^ 106) v ≡ true

-- values that pass the tests are written
abbrev pub Writes : ℕ → List (List ℕ) → ℕ → Write → Fit → Scale → Check → Check → Type 0
Writes l names n w g s x y = (v : Value) → IsTested names x y v → IsWritten l n w g s v

-- l is the common denominator, and the states have these names
module _ (l : ℕ) (names : List (List ℕ)) (are : AreNames names) where
  -- ---- leaves

  -- a state is written and read back
  pub state_written : (n : ℕ) (ws : List Write) (gs : List Fit) (ss : List Scale)
      (xs ys : List Check)
      → Writes l names n (write_step l names State ws) (free_step names State gs)
      (scaled_step l State ss) (fits_step State xs) (weights_step l State ys)
  state_written n ws gs ss xs ys v t =
      let (i, o) = state_shape xs (out-Value v) t.fitting in
      let at : state v ≡ Some i = ap state_in o in
      let named = word-is names are i (state_within (length names) v t.below i at) in
      let w : List ℕ = word_at names i in
      record {
        tree = tree.Word w;
        fitted = fitted.State i;
        text = w;
        is = ap (λ o. option_map_or (word_at names) o []) at;
        piece = word-text n w named.0;
        read =
            ap (λ o. needs o WrongShape
            (λ w. needs (place_of w names) UnknownState (λ i. Ok (fitted.State i)))) (word_word w)
            ∙ ap (λ o. needs o UnknownState (λ i. Ok (fitted.State i))) named.1;
        back =
            ap (scaled_level l State ss) (shown.outs-State i)
            ∙ sym (same_value v (value.State i) (o ∙ sym (outs-State i)));
        divides = divides_of l (fitted.State i) (Fitted-F.State i) (shown.outs-State i) tt;
      }

  -- a label is written and read back
  pub label_written : (n : ℕ) (labels : LabelSet) → AreLabels labels → (ws : List Write)
      (gs : List Fit) (ss : List Scale) (xs ys : List Check)
      → Writes l names n (write_step l names (Constant labels) ws)
      (free_step names (Constant labels) gs)
      (scaled_step l (Constant labels) ss) (fits_step (Constant labels) xs)
      (weights_step l (Constant labels) ys)
  label_written n labels good ws gs ss xs ys v t =
      let (k, o, low) = constant_shape labels xs (out-Value v) t.fitting in
      let at : label v ≡ k = ap label_in o in
      let named = label-is labels good k (ltb-true k (label_count labels) low) in
      let w : List ℕ = label_word labels k in
      record {
        tree = tree.Word w;
        fitted = fitted.Label k;
        text = w;
        is = ap (label_word labels) at;
        piece = word-text n w named.0;
        read =
            ap (λ o. needs o WrongShape
            (λ w. needs (label_number labels w) NotALabel (λ k. Ok (fitted.Label k)))) (word_word w)
            ∙ ap (λ o. needs o NotALabel (λ k. Ok (fitted.Label k))) named.1;
        back =
            ap (scaled_level l (Constant labels) ss) (shown.outs-Label k)
            ∙ sym (same_value v (value.Label k) (o ∙ sym (outs-Label k)));
        divides = divides_of l (fitted.Label k) (Fitted-F.Label k) (shown.outs-Label k) tt;
      }

  -- a number is written and read back
  pub number_written : (n : ℕ) (ws : List Write) (gs : List Fit) (ss : List Scale)
      (xs ys : List Check)
      → Writes l names n (write_step l names Naturals ws) (free_step names Naturals gs)
      (scaled_step l Naturals ss) (fits_step Naturals xs) (weights_step l Naturals ys)
  number_written n ws gs ss xs ys v t =
      let (k, o, low) = naturals_shape xs (out-Value v) t.fitting in
      let few : k < 10 ^ 64 = omega (arith, leb-true k (2 ^ 40) low) in
      let at : label v ≡ k = ap label_in o in
      let w : List ℕ = decimal k in
      record {
        tree = tree.Word w;
        fitted = fitted.Label k;
        text = w;
        is = ap decimal at;
        piece = word-text n w (decimal-name k few);
        read =
            ap (λ o. needs o WrongShape
            (λ w. demands (is_digits w) NotALabel (Ok (fitted.Label (number_of w)))))
            (word_word w)
            ∙ ap (λ b. demands b NotALabel (Ok (fitted.Label (number_of w))))
            (decimal_is_digits k few)
            ∙ ap (λ j. Ok (fitted.Label j)) (decimal-is k few).number;
        back =
            ap (scaled_level l Naturals ss) (shown.outs-Label k)
            ∙ sym (same_value v (value.Label k) (o ∙ sym (outs-Label k)));
        divides = divides_of l (fitted.Label k) (Fitted-F.Label k) (shown.outs-Label k) tt;
      }
