-- Coalgebras with the same fractions have one canonical text.
use Rattle.std.proofs.Common.{◌≡◌, ℕ, zero, suc, ◌+◌, ◌-◌, ◌≤◌, Bool, true, false, List, [], ◌∷◌, ◌++◌, length, map, refl, sym, ap, ◌∙◌, arith, codes, decimal, subst}
use Rattle.std.specs.Prelude.{ℤ, pos, ◌*◌, ◌*ℤ◌, ◌==◌, if◌then◌else◌, IsTrue}
use Rattle.std.specs.List.{list_all}
use Rattle.std.proofs.lemmas.Bool.{and_parts}
use Rattle.functor_terms.specs.declared.node.Node.{Node}
use Rattle.functor_terms.specs.declared.node.Node.TheVariants.{State, Constant, Naturals, Product, Sum, Power, Powerset, Bag, Distribution, Integers, Rationals}
use Rattle.functor_terms.specs.declared.node.LabelSet.{LabelSet}
use Rattle.functor_terms.specs.Lists.{Zip3}
use Rattle.functor_terms.specs.Terms.{Nodes}
use Rattle.functor_terms.specs.Text.{text_of_term}
use Rattle.functor_terms.proofs.Folds.{fold-related3}
use Rattle.weights.specs.Fractions.{lowest_terms}
use Rattle.typing.specs.declared.value.Value.{Value}
use Rattle.typing.specs.declared.value.Value.TheVariants as value
use Rattle.typing.specs.Contents.{Content}
use Rattle.typing.specs.Values.{index, inner, parts, entries}
use Rattle.typing.specs.Fits.{fits}
use Rattle.rescaling.specs.Rescaled.{Rescale, no_rescale, rescale_at, rescaled_places, rescaled_weight, rescaled_entries, rescaled, SameFractions}
use Rattle.rescaling.specs.Laws.{LowestTermsStay}
use Rattle.rescaling.proofs.Levels.{by_child}
use Rattle.rescaling.proofs.ByNode.{formed_step, rescaled-formed, tuple_parts, set_parts, inj_index, inj_inner, weights_entries}
use Rattle.structure_writer.specs.Text.{Write, no_write, write_at, label_word, denominator_at, weight_text, ratio_text, listed, paired, part_texts, keyed_texts, entry_text, entry_texts, in_parentheses, in_braces, part_text, weights_text, write_step, text_at, state_line, state_lines, canonical}

-- what is formed is written by one as the value is by the other
abbrev Same : Rescale → Write → Write → Type 0
Same f w other = (v : Value) → w (f v) ≡ other v

-- how the k-th of some nodes are written
at_same : (fs : List Rescale) (ws others : List Write) → Zip3 Same fs ws others → (k : ℕ)
    → Same (rescale_at fs k) (write_at ws k) (write_at others k)
at_same [] [] [] z k v = refl
at_same [] [] (o ∷ os) z k v = absurd z
at_same [] (w ∷ ws) os z k v = absurd z
at_same (f ∷ fs) [] os z k v = absurd z
at_same (f ∷ fs) (w ∷ ws) [] z k v = absurd z
at_same (f ∷ fs) (w ∷ ws) (o ∷ os) z k v = by (k == 0) (at_same fs ws os z.1 (k - 1) v)
  where
    by :
        (b : Bool) →
        write_at ws (k - 1) (rescale_at fs (k - 1) v) ≡ write_at os (k - 1) v →
        (if b then w else write_at ws (k - 1)) ((if b then f else rescale_at fs (k - 1)) v)
        ≡ (if b then o else write_at os (k - 1)) v
    by true later = z.0 v
    by false later = later

-- the place behind another
write_behind : (w : Write) (ws : List Write) (k : ℕ) → write_at (w ∷ ws) (k + 1) ≡ write_at ws k
write_behind w ws k =
    ap (λ b. if b then w else write_at ws (k + 1 - 1)) (let e : ((k + 1) == 0) ≡ false =
    grind arith in e)
    ∙ ap (write_at ws) (let e : k + 1 - 1 ≡ k = omega arith in e)

texts_behind : (w : Write) (ws : List Write) (k : ℕ) (vs : List Value)
    → part_texts (w ∷ ws) (k + 1) vs ≡ part_texts ws k vs
texts_behind w ws k [] = refl
texts_behind w ws k (v ∷ vs) =
    λ i. write_behind w ws k i v ∷ texts_behind w ws (k + 1) vs i

places_same : (fs : List Rescale) (ws others : List Write) → Zip3 Same fs ws others
    → (vs : List Value) → part_texts ws 0 (rescaled_places fs vs) ≡ part_texts others 0 vs
places_same [] [] [] z vs = refl
places_same [] [] (o ∷ os) z vs = absurd z
places_same [] (w ∷ ws) os z vs = absurd z
places_same (f ∷ fs) [] os z vs = absurd z
places_same (f ∷ fs) (w ∷ ws) [] z vs = absurd z
places_same (f ∷ fs) (w ∷ ws) (o ∷ os) z [] = refl
places_same (f ∷ fs) (w ∷ ws) (o ∷ os) z (v ∷ vs) =
    ap (λ text. text ∷ part_texts (w ∷ ws) 1 (rescaled_places fs vs)) (z.0 v)
    ∙ ap (λ texts. o v ∷ texts)
    (texts_behind w ws 0 (rescaled_places fs vs) ∙ places_same fs ws os z.1 vs
    ∙ sym (texts_behind o os 0 vs))

module _ (f : Rescale) (w other : Write) (same : Same f w other) where
  keyed_same : (labels : LabelSet) (k : ℕ) (vs : List Value)
      → keyed_texts labels w k (map f vs) ≡ keyed_texts labels other k vs
  keyed_same labels k [] = refl
  keyed_same labels k (v ∷ vs) =
      λ i. paired (label_word labels k) (same v i) ∷ keyed_same labels (k + 1) vs i

  each_same : (vs : List Value) → map w (map f vs) ≡ map other vs
  each_same [] = refl
  each_same (v ∷ vs) = λ i. same v i ∷ each_same vs i

-- a weight is written over the multiple as over the denominator
weight_same : LowestTermsStay → (k l : ℕ) → 1 ≤ k → 1 ≤ l → (m : Node) (x : ℤ)
    → weight_text (k * l) m (rescaled_weight k m x) ≡ weight_text l m x
weight_same stay k l hk hl Distribution x =
    ap (λ n. ratio_text (lowest_terms (x *ℤ pos k) n)) (let e : k * l ≡ l * k = omega arith in e)
    ∙ ap ratio_text (stay x l k hl hk)
weight_same stay k l hk hl Rationals x =
    ap (λ n. ratio_text (lowest_terms (x *ℤ pos k) n)) (let e : k * l ≡ l * k = omega arith in e)
    ∙ ap ratio_text (stay x l k hl hk)
weight_same stay k l hk hl State x = refl
weight_same stay k l hk hl (Constant labels) x = refl
weight_same stay k l hk hl Naturals x = refl
weight_same stay k l hk hl Product x = refl
weight_same stay k l hk hl Sum x = refl
weight_same stay k l hk hl (Power labels) x = refl
weight_same stay k l hk hl Powerset x = refl
weight_same stay k l hk hl Bag x = refl
weight_same stay k l hk hl Integers x = refl

module _ (stay : LowestTermsStay) (k l : ℕ) (hk : 1 ≤ k) (hl : 1 ≤ l) (names : List (List ℕ))
  where
    entries_same : (m : Node) (f : Rescale) (w other : Write) → Same f w other
        → (es : List (Value × ℤ))
        → entry_texts (k * l) m w (rescaled_entries k m f es) ≡ entry_texts l m other es
    entries_same m f w other same [] = refl
    entries_same m f w other same (e ∷ es) =
        λ i. paired (same e.0 i) (weight_same stay k l hk hl m e.1 i)
        ∷ entries_same m f w other same es i

    weights_same : (m : Node) (fs : List Rescale) (ws others : List Write)
        → Zip3 Same fs ws others → (v : Value)
        → weights_text (k * l) m ws
        (value.Weights (rescaled_entries k m (rescale_at fs 0) (entries v)))
        ≡ weights_text l m others v
    weights_same m fs ws others z v =
        ap (λ es. in_braces (listed (entry_texts (k * l) m (write_at ws 0) es)))
        (weights_entries (rescaled_entries k m (rescale_at fs 0) (entries v)))
        ∙ ap (λ texts. in_braces (listed texts))
        (entries_same m (rescale_at fs 0) (write_at ws 0) (write_at others 0)
        (at_same fs ws others z 0) (entries v))

    -- one node
    step_same : (m : Node) (fs : List Rescale) (ws others : List Write) → Zip3 Same fs ws others
        → Same (formed_step k m fs) (write_step (k * l) names m ws) (write_step l names m others)
    step_same State fs ws others z v = refl
    step_same (Constant labels) fs ws others z v = refl
    step_same Naturals fs ws others z v = refl
    step_same Product fs ws others z v =
        ap (λ vs. in_parentheses (listed (part_texts ws 0 vs)))
        (tuple_parts (rescaled_places fs (parts v)))
        ∙ ap (λ texts. in_parentheses (listed texts)) (places_same fs ws others z (parts v))
    step_same Sum fs ws others z v =
        ap (λ u. part_text (index (value.Inj (index v) u0))
        (write_at ws (index (value.Inj (index v) u0)) u))
        (inj_inner (index v) u0)
        ∙ ap (λ j. part_text j (write_at ws j u0)) (inj_index (index v) u0)
        ∙ ap (part_text (index v)) (at_same fs ws others z (index v) (inner v))
      where
        u0 : Value
        u0 = rescale_at fs (index v) (inner v)
    step_same (Power labels) fs ws others z v =
        ap (λ vs. in_braces (listed (keyed_texts labels (write_at ws 0) 0 vs)))
        (tuple_parts (by_child fs (parts v)))
        ∙ ap (λ texts. in_braces (listed texts))
        (keyed_same (rescale_at fs 0) (write_at ws 0) (write_at others 0)
        (at_same fs ws others z 0) labels 0 (parts v))
    step_same Powerset fs ws others z v =
        ap (λ vs. in_braces (listed (map (write_at ws 0) vs))) (set_parts (by_child fs (parts v)))
        ∙ ap (λ texts. in_braces (listed texts))
        (each_same (rescale_at fs 0) (write_at ws 0) (write_at others 0)
        (at_same fs ws others z 0) (parts v))
    step_same Bag fs ws others z v = weights_same Bag fs ws others z v
    step_same Distribution fs ws others z v = weights_same Distribution fs ws others z v
    step_same Integers fs ws others z v = weights_same Integers fs ws others z v
    step_same Rationals fs ws others z v = weights_same Rationals fs ws others z v

    -- a value that fits
    value_same : (t : Nodes) (v : Value) → fits t 0 v ≡ true
        → text_at (k * l) names t 0 (rescaled k t 0 v) ≡ text_at l names t 0 v
    value_same t v fit =
        ap (text_at (k * l) names t 0) (rescaled-formed k t 0 v fit)
        ∙ fold-related3 Same no_rescale no_write no_write (formed_step k)
        (write_step (k * l) names) (write_step l names) (λ u. refl) step_same t 0 v

    lines_same : (t : Nodes) (heads : List (List ℕ)) (vs : List Value)
        → list_all (fits t 0) vs ≡ true
        → state_lines (text_at (k * l) names t 0) heads (map (rescaled k t 0) vs)
        ≡ state_lines (text_at l names t 0) heads vs
    lines_same t [] vs fit = refl
    lines_same t (head ∷ heads) [] fit = refl
    lines_same t (head ∷ heads) (v ∷ vs) fit =
        let p = and_parts (fits t 0 v) (list_all (fits t 0) vs) fit in
        λ i. state_line head (value_same t v p.0 i) ++ lines_same t heads vs p.1 i

-- the text of these parts
abbrev text_with : Nodes → List (List ℕ) → ℕ → List Value → List ℕ
text_with t names l vs =
    (text_of_term t ++ codes "\n") ++ state_lines (text_at l names t 0) names vs

-- neither factor of a number from 1 on is 0
factors : (n k l : ℕ) → 1 ≤ n → n ≡ k * l → (1 ≤ k) × (1 ≤ l)
factors n zero l h e = absurd (omega (arith, h, e))
factors n (suc k) zero h e = absurd (omega (arith, h, e))
factors n (suc k) (suc l) h e = (omega arith, omega arith)

-- coalgebras with the same fractions have one text
pub same-text : LowestTermsStay → (d e : Content) → SameFractions d e → 1 ≤ d.denominator
    → IsTrue (list_all (fits e.term 0) e.values) → canonical e ≡ canonical d
same-text stay d e same positive fit =
    let h = factors d.denominator same.factor e.denominator positive same.same_denominator in
    let fit' : list_all (fits d.term 0) e.values ≡ true =
    subst (λ t. list_all (fits t 0) e.values ≡ true) same.same_term fit in
    ap (λ t. text_with t e.names e.denominator e.values) same.same_term
    ∙ ap (λ names. text_with d.term names e.denominator e.values) same.same_names
    ∙ ap (λ lines. (text_of_term d.term ++ codes "\n") ++ lines)
    (sym (lines_same stay same.factor e.denominator h.0 h.1 d.names d.term d.names e.values fit'))
    ∙ ap (λ l. text_with d.term d.names l (map (rescaled same.factor d.term 0) e.values))
    (sym same.same_denominator)
    ∙ ap (λ vs. text_with d.term d.names d.denominator vs) (sym same.same_values)
