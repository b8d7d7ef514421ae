-- The text of a value is written node by node.
use Rattle.std.proofs.Common.{◌≡◌, ℕ, zero, suc, ◌+◌, ◌-◌, ◌<◌, ◌≤◌, List, [], ◌∷◌, ◌++◌, length, map, take, Some, None, slice_get, refl, sym, ap, ◌∙◌, arith, append_assoc, append-nil, ◌⊎◌, inl, inr}
use Rattle.std.specs.Prelude.{if◌then◌else◌, codes}
use Rattle.std.proofs.lemmas.List.{take_all}
use Rattle.std.proofs.lemmas.Option.{none-some, same_Some}
use Rattle.functor_terms.specs.declared.node.Node.{Node}
use Rattle.functor_terms.specs.declared.node.Node.TheVariants.{Bag, Distribution, Integers, Rationals}
use Rattle.functor_terms.specs.declared.node.LabelSet.{LabelSet}
use Rattle.functor_terms.specs.Terms.{Nodes, IsTerm, node_at}
use Rattle.functor_terms.proofs.Folds.{fold-at}
use Rattle.typing.specs.declared.value.Value.{Value}
use Rattle.structure_writer.specs.Text.{Write, no_write, write_at, label_word, listed, paired, part_texts, keyed_texts, weights_text, write_step, text_at, child_texts, state_line, state_lines}
use Rattle.typing.proofs.TermFacts.{not_zero}

write_at-suc : (w : Write) (ws : List Write) (k : ℕ) → write_at (w ∷ ws) (suc k) ≡ write_at ws k
write_at-suc w ws k = ap (λ b. if b then w else write_at ws (suc k - 1)) (not_zero k)
    ∙ ap (write_at ws) (let e : suc k - 1 ≡ k = omega arith in e)

module _ {A : Type 0} (g : A → Write) where
  -- how those at the k-th of some nodes are written
  pub write_found : (qs : List A) (k : ℕ) (q : A) → slice_get qs k ≡ Some q
      → write_at (map g qs) k ≡ g q
  write_found [] k q e = absurd (none-some q e)
  write_found (r ∷ qs) zero q e = ap g (same_Some r q e)
  write_found (r ∷ qs) (suc k) q e = write_at-suc (g r) (map g qs) k ∙ write_found qs k q e

  pub write_none : (qs : List A) (k : ℕ) → slice_get qs k ≡ None
      → write_at (map g qs) k ≡ no_write
  write_none [] k e = refl
  write_none (r ∷ qs) zero e = absurd (none-some r (sym e))
  write_none (r ∷ qs) (suc k) e = write_at-suc (g r) (map g qs) k ∙ write_none qs k e

-- the places behind the first
pub parts-suc : (w : Write) (ws : List Write) (k : ℕ) (vs : List Value)
    → part_texts (w ∷ ws) (suc k) vs ≡ part_texts ws k vs
parts-suc w ws k [] = refl
parts-suc w ws k (v ∷ vs) =
    let next : part_texts (w ∷ ws) (suc k + 1) vs ≡ part_texts ws (k + 1) vs =
    ap (λ j. part_texts (w ∷ ws) j vs) (let e : suc k + 1 ≡ suc (k + 1) = omega arith in e)
    ∙ parts-suc w ws (k + 1) vs in
    λ i. write_at-suc w ws k i v ∷ next i

-- a value is written as the step at its node says
pub text-step : (l : ℕ) (names : List (List ℕ)) (t : Nodes) → IsTerm t → (p : ℕ) → p < length t
    → (m : Node) → m ≡ node_at t p → (v : Value)
    → write_step l names m (child_texts l names t p) v ≡ text_at l names t p v
text-step l names t is p h m e v =
    ap (λ n. write_step l names n (child_texts l names t p) v) e
    ∙ sym (ap (λ (w : Write). w v) (fold-at no_write (write_step l names) t is p h))

-- what is put at a node of this kind is the text of the value
pub put-step : (l : ℕ) (names : List (List ℕ)) (t : Nodes) → IsTerm t → (p : ℕ) → p < length t
    → (m : Node) → m ≡ node_at t p → (kind : Node) → m ≡ kind → (v : Value)
    → (old piece new : List ℕ) → new ≡ old ++ piece
    → piece ≡ write_step l names kind (child_texts l names t p) v
    → new ≡ old ++ text_at l names t p v
put-step l names t is p h m e kind same v old piece new put made =
    put ∙ ap (λ text. old ++ text) (made
    ∙ ap (λ n. write_step l names n (child_texts l names t p) v) (sym same)
    ∙ text-step l names t is p h m e v)

-- the four kinds of node with weights write one list
pub weights-step : (l : ℕ) (names : List (List ℕ)) (m : Node) (ws : List Write) (v : Value)
    → ((m ≡ Bag) ⊎ ((m ≡ Distribution) ⊎ ((m ≡ Integers) ⊎ (m ≡ Rationals))))
    → weights_text l m ws v ≡ write_step l names m ws v
weights-step l names m ws v is = by is
  where
    at : (kind : Node) → weights_text l kind ws v ≡ write_step l names kind ws v → m ≡ kind
        → weights_text l m ws v ≡ write_step l names m ws v
    at kind same e = ap (λ n. weights_text l n ws v) e ∙ same
        ∙ sym (ap (λ n. write_step l names n ws v) e)

    by : ((m ≡ Bag) ⊎ ((m ≡ Distribution) ⊎ ((m ≡ Integers) ⊎ (m ≡ Rationals))))
        → weights_text l m ws v ≡ write_step l names m ws v
    by (inl e) = at Bag refl e
    by (inr (inl e)) = at Distribution refl e
    by (inr (inr (inl e))) = at Integers refl e
    by (inr (inr (inr e))) = at Rationals refl e

-- the text of the part at a place
part-text : (ws : List Write) (k : ℕ) (vs : List Value) (i : ℕ) (v : Value)
    → slice_get vs i ≡ Some v → slice_get (part_texts ws k vs) i ≡ Some (write_at ws (k + i) v)
part-text ws k [] i v e = absurd (none-some v e)
part-text ws k (u ∷ vs) zero v e =
    let same : k ≡ k + zero = omega arith in
    λ i. Some (write_at ws (same i) (same_Some u v e i))
part-text ws k (u ∷ vs) (suc i) v e =
    let same : k + 1 + i ≡ k + suc i = omega arith in
    part-text ws (k + 1) vs i v e ∙ ap (λ j. Some (write_at ws j v)) same

-- the entry of the label at a place
keyed-text : (labels : LabelSet) (w : Write) (k : ℕ) (vs : List Value) (i : ℕ) (v : Value)
    → slice_get vs i ≡ Some v
    → slice_get (keyed_texts labels w k vs) i ≡ Some (paired (label_word labels (k + i)) (w v))
keyed-text labels w k [] i v e = absurd (none-some v e)
keyed-text labels w k (u ∷ vs) zero v e =
    let same : k ≡ k + zero = omega arith in
    λ i. Some (paired (label_word labels (same i)) (w (same_Some u v e i)))
keyed-text labels w k (u ∷ vs) (suc i) v e =
    let same : k + 1 + i ≡ k + suc i = omega arith in
    keyed-text labels w (k + 1) vs i v e
    ∙ ap (λ j. Some (paired (label_word labels j) (w v))) same

-- the same of all parts and of all labels
pub first-text : (ws : List Write) (vs : List Value) (i : ℕ) (v : Value)
    → slice_get vs i ≡ Some v → slice_get (part_texts ws 0 vs) i ≡ Some (write_at ws i v)
first-text ws vs i v e =
    let same : 0 + i ≡ i = omega arith in
    part-text ws 0 vs i v e ∙ ap (λ j. Some (write_at ws j v)) same

pub first-keyed : (labels : LabelSet) (w : Write) (vs : List Value) (i : ℕ) (v : Value)
    → slice_get vs i ≡ Some v
    → slice_get (keyed_texts labels w 0 vs) i ≡ Some (paired (label_word labels i) (w v))
first-keyed labels w vs i v e =
    let same : 0 + i ≡ i = omega arith in
    keyed-text labels w 0 vs i v e ∙ ap (λ j. Some (paired (label_word labels j) (w v))) same

-- there are as many texts as parts
pub parts-length : (ws : List Write) (k : ℕ) (vs : List Value)
    → length (part_texts ws k vs) ≡ length vs
parts-length ws k [] = refl
parts-length ws k (v ∷ vs) = ap suc (parts-length ws (k + 1) vs)

pub keyed-length : (labels : LabelSet) (w : Write) (k : ℕ) (vs : List Value)
    → length (keyed_texts labels w k vs) ≡ length vs
keyed-length labels w k [] = refl
keyed-length labels w k (v ∷ vs) = ap suc (keyed-length labels w (k + 1) vs)

pub map-length : {X : Type 0} (f : X → List ℕ) (xs : List X) → length (map f xs) ≡ length xs
map-length f [] = refl
map-length f (x ∷ xs) = ap suc (map-length f xs)

-- an entry in three pieces
pub put-pair : (old first second one two new : List ℕ) → one ≡ old ++ first
    → two ≡ one ++ codes ": " → new ≡ two ++ second → new ≡ old ++ paired first second
put-pair old first second one two new a b c =
    c ∙ ap (λ text. text ++ second) (b ∙ ap (λ text. text ++ codes ": ") a)
    ∙ append_assoc (old ++ first) (codes ": ") second
    ∙ append_assoc old first (codes ": " ++ second)

-- texts between two brackets
pub put-closed : (opening closing old begun kept new : List ℕ) (texts : List (List ℕ)) (n k : ℕ)
    → length texts ≡ n → n ≤ k → begun ≡ old ++ opening → kept ≡ begun ++ listed (take k texts)
    → new ≡ kept ++ closing → new ≡ old ++ (opening ++ (listed texts ++ closing))
put-closed opening closing old begun kept new texts n k long all first is closed =
    let whole : take k texts ≡ texts = take_all k texts (omega (arith, long, all)) in
    closed ∙ ap (λ text. text ++ closing) (is ∙ (λ i. first i ++ listed (whole i)))
    ∙ append_assoc (old ++ opening) (listed texts) closing
    ∙ append_assoc old opening (listed texts ++ closing)

-- the lines of one state more
pub lines-more : (w : Write) (names : List (List ℕ)) (vs : List Value) (i : ℕ) (name : List ℕ)
    (v : Value) → slice_get names i ≡ Some name → slice_get vs i ≡ Some v
    → state_lines w (take (suc i) names) (take (suc i) vs)
    ≡ state_lines w (take i names) (take i vs) ++ state_line name (w v)
lines-more w [] vs i name v a b = absurd (none-some name a)
lines-more w (n ∷ names) [] i name v a b = absurd (none-some v b)
lines-more w (n ∷ names) (u ∷ vs) zero name v a b =
    append-nil (state_line n (w u))
    ∙ (λ i. state_line (same_Some n name a i) (w (same_Some u v b i)))
lines-more w (n ∷ names) (u ∷ vs) (suc i) name v a b =
    ap (λ rest. state_line n (w u) ++ rest) (lines-more w names vs i name v a b)
    ∙ sym (append_assoc (state_line n (w u)) (state_lines w (take i names) (take i vs))
    (state_line name (w v)))

-- a text with the line of one state more
pub put-line : (w : Write) (names : List (List ℕ)) (vs : List Value) (i : ℕ) (name : List ℕ)
    (v : Value) (first old new : List ℕ) → slice_get names i ≡ Some name
    → slice_get vs i ≡ Some v → old ≡ first ++ state_lines w (take i names) (take i vs)
    → new ≡ old ++ state_line name (w v)
    → new ≡ first ++ state_lines w (take (i + 1) names) (take (i + 1) vs)
put-line w names vs i name v first old new a b is put =
    let next : suc i ≡ i + 1 = omega arith in
    put ∙ ap (λ text. text ++ state_line name (w v)) is
    ∙ append_assoc first (state_lines w (take i names) (take i vs)) (state_line name (w v))
    ∙ ap (λ text. first ++ text) (sym (lines-more w names vs i name v a b)
    ∙ ap (λ n. state_lines w (take n names) (take n vs)) next)
