-- What a tree denotes is no larger than its text has tokens.
use Rattle.std.proofs.Common.{◌≡◌, ℕ, zero, suc, ◌+◌, ◌-◌, ◌≤◌, Bool, true, false, cond, List, [], ◌∷◌, length, map, Option, slice_get, refl, sym, ap, ◌∙◌, subst, arith}
use Rattle.std.specs.Prelude.{Some, None, Ok, ◌==◌, if◌then◌else◌, slice_set, replicate}
use Rattle.std.specs.Option.{option_map_or}
use Rattle.std.specs.List.{list_all}
use Rattle.std.proofs.lemmas.Bool.Decides.{nat_tests}
use Rattle.std.proofs.lemmas.Option.{none-some, same_Some}
use Rattle.file_cut.specs.declared.tree.Tree.{Tree}
use Rattle.file_cut.specs.declared.tree.Entry.{Entry}
use Rattle.functor_terms.specs.declared.node.Node.{Node}
use Rattle.functor_terms.specs.declared.node.Node.TheVariants.{State, Constant, Naturals, Product, Sum, Power, Powerset, Bag, Distribution, Integers, Rationals}
use Rattle.functor_terms.specs.declared.node.Branch.{Branch}
use Rattle.functor_terms.specs.declared.node.LabelSet.{LabelSet}
use Rattle.functor_terms.specs.Terms.{Nodes, fold_within, label_count, label_number, number_below}
use Rattle.typing.specs.declared.value.Value.{Value, Value-F, out-Value}
use Rattle.typing.specs.declared.value.Value.TheViews.{outs-Tuple, outs-Inj, outs-Set, outs-Weights}
use Rattle.typing.specs.Values as typed
use Rattle.typing.specs.declared.kind.TypeKind.TheVariants.{WrongShape, WrongCount, NotALabel, RepeatedKey, MissingKey, BadIndex}
use Rattle.fitting.specs.declared.fitted.Fitted.{Fitted, out-Fitted}
use Rattle.fitting.specs.declared.fitted.Fitted.TheVariants as fitted
use Rattle.fitting.specs.declared.fitted.Fitted.TheViews as shown
use Rattle.fitting.specs.declared.fitted.Weight.{Weight}
use Rattle.fitting.specs.Levels.{parts, branch, entries, held, key, weight_tree}
use Rattle.fitting.specs.Fitting.{Found, Fit, needs, demands, found, made, no_fit, fit_at, each, places, product_fit, sum_fit, power_fit, power_of, is_keyed, is_free, filled, all_held, empty_slots, Slots, set_fit, set_of, is_alone, weights_fit, weights_of, has_weight, entry_fit, weight_fit, fit_step, fitting}
use Rattle.fitting.specs.Scaling.{Scale, no_scale, scale_at, scaled_places, scaled_parts, scaled_entries, scaled_level, scaled_step, scaled}
use Rattle.fitting.proofs.Inversions.{ok_same, err_ok, needs-ok, demands-ok, found-ok, made-ok}
use Rattle.file_sizes.proofs.Sizes.{Size, no_size, size_at, sum_each, sum_of, size_step, size_within, size}
use Rattle.file_sizes.proofs.TreeSizes.{IsInside, IsEntryInside, HaveShares, inside_opened}

-- what is read of a tree is no larger than its tokens
pub record IsSmall (g : Fit) (s : Scale) (m : Size) : Type 0 where
  pub small : (n : ℕ) (u : Tree) (f : Fitted) → IsInside n u → g u ≡ Ok f → m (s f) ≤ n

none_small : (m : Size) → IsSmall no_fit no_scale m
none_small m = record { small = λ n u f i e. absurd (err_ok WrongShape f e) }

-- lists of what is read by one reading
module _ (g : Fit) (s : Scale) (m : Size) (all : IsSmall g s m) where
  set_sum :
      (n : ℕ) (es : List Entry) (fs : List Fitted) → HaveShares IsEntryInside n es →
      each (λ e. g (held e)) es ≡ Ok fs → sum_of m (map s fs) ≤ n
  set_sum n [] fs i e =
      subst (λ (l : List Fitted). sum_of m (map s l) ≤ n) (ok_same [] fs e) (omega arith)
  set_sum n (x ∷ es) fs (k, rest, bound, here, later) e =
      let (f, e1, f1) =
      found-ok (g (held x)) (λ y. made (λ ys. y ∷ ys) (each (λ e. g (held e)) es)) fs e in
      let (hs, e2, is) =
      made-ok (λ (zs : List Fitted). f ∷ zs) (each (λ e. g (held e)) es) fs f1 in
      let one = all.small k (held x) f here.first e1 in
      let more = set_sum rest es hs later e2 in
      subst (λ (l : List Fitted). sum_of m (map s l) ≤ n) is (omega (arith, bound, one, more))

  -- the values of a weight list
  abbrev valued : List (Fitted × Weight) → List Value
  valued es = map (λ e. s e.0) es

  weights_sum :
      (node : Node) (n : ℕ) (es : List Entry) (fs : List (Fitted × Weight)) →
      HaveShares IsEntryInside n es → each (entry_fit node g) es ≡ Ok fs →
      sum_of m (valued fs) ≤ n
  weights_sum node n [] fs i e =
      subst (λ (l : List (Fitted × Weight)). sum_of m (valued l) ≤ n) (ok_same [] fs e)
      (omega arith)
  weights_sum node n (x ∷ es) fs (k, rest, bound, here, later) e =
      let (w, e1, f1) =
      found-ok (entry_fit node g x) (λ y. made (λ ys. y ∷ ys) (each (entry_fit node g) es))
      fs e in
      let (hs, e2, is) =
      made-ok (λ (zs : List (Fitted × Weight)). w ∷ zs) (each (entry_fit node g) es) fs f1 in
      let (f, e3, f3) =
      found-ok (g (held x))
      (λ v. made (λ w. (v, w)) (weight_fit node (weight_tree x))) w e1 in
      let (c, e4, same) =
      made-ok (λ (c : Weight). (f, c)) (weight_fit node (weight_tree x)) w f3 in
      let one : m (s w.0) ≤ k =
      subst (λ (c : Fitted × Weight). m (s c.0) ≤ k) same
      (all.small k (held x) f here.first e3) in
      let more = weights_sum node rest es hs later e2 in
      subst (λ (l : List (Fitted × Weight)). sum_of m (valued l) ≤ n) is
      (omega (arith, bound, one, more))

  -- what the slots of a power hold
  abbrev slot_sum : Slots → ℕ
  slot_sum [] = 0
  slot_sum (None ∷ slots) = slot_sum slots
  slot_sum (Some v ∷ slots) = m (s v) + slot_sum slots

  put_sum : (slots : Slots) (k : ℕ) (v : Fitted) →
      slot_sum (slice_set slots k (Some v)) ≤ slot_sum slots + m (s v)
  put_sum [] k v = omega arith
  put_sum (None ∷ slots) zero v = omega arith
  put_sum (Some w ∷ slots) zero v = omega arith
  put_sum (None ∷ slots) (suc k) v = put_sum slots k v
  put_sum (Some w ∷ slots) (suc k) v = let rest = put_sum slots k v in omega (arith, rest)

  filled_sum :
      (labels : LabelSet) (n : ℕ) (es : List Entry) (slots out : Slots) →
      HaveShares IsEntryInside n es → filled labels g slots es ≡ Ok out →
      slot_sum out ≤ slot_sum slots + n
  filled_sum labels n [] slots out i e =
      subst (λ (l : Slots). slot_sum l ≤ slot_sum slots + n) (ok_same slots out e) (omega arith)
  filled_sum labels n (x ∷ es) slots out (j, rest, bound, here, later) e =
      let go : ℕ → Fitted → Found Slots = λ k v.
      filled labels g (slice_set slots k (Some v)) es in
      let at : Tree → ℕ → Found Slots = λ u k.
      demands (is_free slots k) RepeatedKey (found (g u) (go k)) in
      let labelled : List ℕ → Tree → Found Slots = λ w u.
      needs (label_number labels w) NotALabel (at u) in
      let (w, e1, f1) =
      needs-ok (key x) WrongShape (λ w. needs (weight_tree x) WrongShape (labelled w)) out e in
      let (u, e2, f2) = needs-ok (weight_tree x) WrongShape (labelled w) out f1 in
      let (k, e3, f3) = needs-ok (label_number labels w) NotALabel (at u) out f2 in
      let (e4, f4) =
      demands-ok (is_free slots k) RepeatedKey (found (g u) (go k)) out f3 in
      let (v, e5, f5) = found-ok (g u) (go k) out f4 in
      let one = all.small j u v (here.second u e2) e5 in
      let more = filled_sum labels rest es (slice_set slots k (Some v)) out later f5 in
      let put = put_sum slots k v in
      omega (arith, bound, one, more, put)

  held_sum : (slots : Slots) (vs : List Fitted) → all_held slots ≡ Some vs →
      sum_of m (map s vs) ≡ slot_sum slots
  held_sum [] vs e =
      sym (ap (λ (l : List Fitted). sum_of m (map s l)) (same_Some [] vs e))
  held_sum (None ∷ slots) vs e = absurd (none-some vs e)
  held_sum (Some v ∷ slots) vs e = by (all_held slots) (λ us q. held_sum slots us q) e
    where
      by : (o : Option (List Fitted)) →
          ((us : List Fitted) → o ≡ Some us → sum_of m (map s us) ≡ slot_sum slots) →
          option_map_or (λ us. Some (v ∷ us)) o None ≡ Some vs →
          sum_of m (map s vs) ≡ m (s v) + slot_sum slots
      by None rest e = absurd (none-some vs e)
      by (Some us) rest e =
          sym (ap (λ (l : List Fitted). sum_of m (map s l)) (same_Some (v ∷ us) vs e))
          ∙ ap (λ k. m (s v) + k) (rest us refl)

  none_held : (n : ℕ) → slot_sum (replicate n None) ≡ 0
  none_held zero = refl
  none_held (suc n) = none_held n

-- parts from place k on, each by the size of its own place
abbrev sum_from : List Size → ℕ → List Value → ℕ
sum_from ms k [] = 0
sum_from ms k (v ∷ vs) = size_at ms k v + sum_from ms (k + 1) vs

next_size : (m : Size) (ms : List Size) (k : ℕ) (v : Value) →
    size_at (m ∷ ms) (k + 1) v ≡ size_at ms k v
next_size m ms k v =
    let no : (k + 1 == 0) ≡ false = grind (arith, nat_tests) in
    let back : k + 1 - 1 ≡ k = omega arith in
    ap (λ b. (if b then m else size_at ms (k + 1 - 1)) v) no ∙ ap (λ j. size_at ms j v) back

next_sum : (m : Size) (ms : List Size) (k : ℕ) (vs : List Value) →
    sum_from (m ∷ ms) (k + 1) vs ≡ sum_from ms k vs
next_sum m ms k [] = refl
next_sum m ms k (v ∷ vs) =
    let here = next_size m ms k v in
    let rest = next_sum m ms (k + 1) vs in
    omega (arith, here, rest)

each_from : (ms : List Size) (vs : List Value) → sum_each ms vs ≤ sum_from ms 0 vs
each_from [] vs = omega arith
each_from (m ∷ ms) [] = omega arith
each_from (m ∷ ms) (v ∷ vs) =
    let rest = each_from ms vs in
    let next : sum_from (m ∷ ms) (0 + 1) vs ≡ sum_from ms 0 vs = next_sum m ms 0 vs in
    omega (arith, rest, next)

-- at each node q, what is read by G and scaled by S is small by M; fractions are over l
module _
    (l : ℕ) (names : List (List ℕ)) (G : ℕ → Fit) (S : ℕ → Scale) (M : ℕ → Size)
    (all : (q : ℕ) → IsSmall (G q) (S q) (M q)) (qs : List ℕ) where
  at_small : (rs : List ℕ) (k : ℕ) →
      IsSmall (fit_at (map G rs) k) (scale_at (map S rs) k) (size_at (map M rs) k)
  at_small [] k = none_small (λ v. 0)
  at_small (r ∷ rs) k = by (k == 0) (at_small rs (k - 1))
    where
      by : (b : Bool) →
          IsSmall (fit_at (map G rs) (k - 1)) (scale_at (map S rs) (k - 1))
          (size_at (map M rs) (k - 1)) →
          IsSmall (cond b (G r) (fit_at (map G rs) (k - 1)))
          (cond b (S r) (scale_at (map S rs) (k - 1)))
          (λ v. (cond b (M r) (size_at (map M rs) (k - 1))) v)
      by true later = all r
      by false later = later

  abbrev gs : List Fit
  gs = map G qs

  abbrev ss : List Scale
  ss = map S qs

  abbrev ms : List Size
  ms = map M qs

  first : IsSmall (fit_at gs 0) (scale_at ss 0) (size_at ms 0)
  first = at_small qs 0

  places_sum :
      (n k : ℕ) (us : List Tree) (fs : List Fitted) → HaveShares IsInside n us →
      places gs k us ≡ Ok fs → sum_from ms k (scaled_places ss k fs) ≤ n
  places_sum n k [] fs i e =
      subst (λ (h : List Fitted). sum_from ms k (scaled_places ss k h) ≤ n) (ok_same [] fs e)
      (omega arith)
  places_sum n k (u ∷ us) fs (j, rest, bound, here, later) e =
      let (f, e1, f1) =
      found-ok (fit_at gs k u) (λ v. made (λ vs. v ∷ vs) (places gs (k + 1) us)) fs e in
      let (hs, e2, is) = made-ok (λ (vs : List Fitted). f ∷ vs) (places gs (k + 1) us) fs f1 in
      let one = (at_small qs k).small j u f here e1 in
      let more = places_sum rest (k + 1) us hs later e2 in
      subst (λ (h : List Fitted). sum_from ms k (scaled_places ss k h) ≤ n) is
      (omega (arith, bound, one, more))

  -- the size of what is scaled, by what is fitted
  abbrev sized : Node → Fitted → ℕ
  sized m f = size_step 1 m ms (scaled_step l m ss f)

  tuple_out : (m : Node) (fs : List Fitted) (f : Fitted) → fitted.Tuple fs ≡ f →
      out-Value (scaled_step l m ss f) ≡ Value-F.Tuple (scaled_parts m ss fs)
  tuple_out m fs f is =
      ap out-Value (ap (scaled_level l m ss) (ap out-Fitted (sym is) ∙ shown.outs-Tuple fs))
      ∙ outs-Tuple (scaled_parts m ss fs)

  set_out : (m : Node) (fs : List Fitted) (f : Fitted) → fitted.Set fs ≡ f →
      out-Value (scaled_step l m ss f) ≡ Value-F.Set (map (scale_at ss 0) fs)
  set_out m fs f is =
      ap out-Value (ap (scaled_level l m ss) (ap out-Fitted (sym is) ∙ shown.outs-Set fs))
      ∙ outs-Set (map (scale_at ss 0) fs)

  inj_out : (m : Node) (k : ℕ) (h f : Fitted) → fitted.Inj k h ≡ f →
      out-Value (scaled_step l m ss f) ≡ Value-F.Inj k (scale_at ss k h)
  inj_out m k h f is =
      ap out-Value (ap (scaled_level l m ss) (ap out-Fitted (sym is) ∙ shown.outs-Inj k h))
      ∙ outs-Inj k (scale_at ss k h)

  weights_out : (m : Node) (es : List (Fitted × Weight)) (f : Fitted) → fitted.Weights es ≡ f →
      out-Value (scaled_step l m ss f) ≡ Value-F.Weights (scaled_entries l m (scale_at ss 0) es)
  weights_out m es f is =
      ap out-Value (ap (scaled_level l m ss) (ap out-Fitted (sym is) ∙ shown.outs-Weights es))
      ∙ outs-Weights (scaled_entries l m (scale_at ss 0) es)

  product_small : (n : ℕ) (u : Tree) (f : Fitted) → IsInside n u → product_fit gs u ≡ Ok f →
      sized Product f ≤ n
  product_small n u f i e =
      let counted : List Tree → Found Fitted = λ us.
      demands (length us == length gs) WrongCount (made fitted.Tuple (places gs 0 us)) in
      let (us, e1, f1) = needs-ok (parts u) WrongShape counted f e in
      let (e2, f2) =
      demands-ok (length us == length gs) WrongCount
      (made fitted.Tuple (places gs 0 us)) f f1 in
      let (fs, e3, is) = made-ok fitted.Tuple (places gs 0 us) f f2 in
      let (k, bound, shares) = (inside_opened n u i).of_parts us e1 in
      let here = places_sum k 0 us fs shares e3 in
      let more = each_from ms (scaled_places ss 0 fs) in
      let out : sized Product f ≡ 1 + sum_each ms (scaled_places ss 0 fs) =
      ap (λ o. 1 + sum_each ms (typed.parts_in o)) (tuple_out Product fs f is) in
      omega (arith, bound, here, more, out)

  sum_out : (w : Value) (k : ℕ) (x : Value) → out-Value w ≡ Value-F.Inj k x →
      size_step 1 Sum ms w ≡ 1 + size_at ms k x
  sum_out w k x e =
      ap (λ (o : Value-F Value). 1 + size_at ms (typed.index_in o) (typed.inner_in w o)) e

  sum_small : (n : ℕ) (u : Tree) (f : Fitted) → IsInside n u → sum_fit gs u ≡ Ok f →
      sized Sum f ≤ n
  sum_small n u f i e =
      let placed : List ℕ × Tree → ℕ → Found Fitted =
      λ b k. made (fitted.Inj k) (fit_at gs k b.1) in
      let (b, e1, f1) =
      needs-ok (branch u) WrongShape
      (λ b. needs (number_below (length gs) b.0) BadIndex (placed b)) f e in
      let (k, e2, f2) = needs-ok (number_below (length gs) b.0) BadIndex (placed b) f f1 in
      let (h, e3, is) = made-ok (fitted.Inj k) (fit_at gs k b.1) f f2 in
      let (j, bound, inside) = (inside_opened n u i).of_branch b e1 in
      let here = (at_small qs k).small j b.1 h inside e3 in
      let out = sum_out (scaled_step l Sum ss f) k (scale_at ss k h) (inj_out Sum k h f is) in
      omega (arith, bound, here, out)

  power_small : (labels : LabelSet) (n : ℕ) (u : Tree) (f : Fitted) → IsInside n u →
      power_fit labels gs u ≡ Ok f → sized (Power labels) f ≤ n
  power_small labels n u f i e =
      let (es, e1, f1) = needs-ok (entries u) WrongShape (power_of labels (fit_at gs 0)) f e in
      let full : Slots → Found Fitted = λ slots.
      needs (all_held slots) MissingKey (λ vs. Ok (fitted.Tuple vs)) in
      let read : Found Slots = filled labels (fit_at gs 0) (empty_slots labels) es in
      let (e2, f2) = demands-ok (list_all is_keyed es) WrongShape (found read full) f f1 in
      let (slots, e3, f3) = found-ok read full f f2 in
      let (fs, e4, f4) = needs-ok (all_held slots) MissingKey (λ vs. Ok (fitted.Tuple vs)) f f3 in
      let is = ok_same (fitted.Tuple fs) f f4 in
      let (k, bound, shares) = (inside_opened n u i).of_entries es e1 in
      let here = filled_sum (fit_at gs 0) (scale_at ss 0) (size_at ms 0) first labels k es
      (empty_slots labels) slots shares e3 in
      let none = none_held (fit_at gs 0) (scale_at ss 0) (size_at ms 0) first
      (label_count labels) in
      let held = held_sum (fit_at gs 0) (scale_at ss 0) (size_at ms 0) first slots fs e4 in
      let out : sized (Power labels) f ≡ 1 + sum_of (size_at ms 0) (map (scale_at ss 0) fs) =
      ap (λ o. 1 + sum_of (size_at ms 0) (typed.parts_in o))
      (tuple_out (Power labels) fs f is) in
      omega (arith, bound, here, none, held, out)

  set_small : (n : ℕ) (u : Tree) (f : Fitted) → IsInside n u → set_fit gs u ≡ Ok f →
      sized Powerset f ≤ n
  set_small n u f i e =
      let (es, e1, f1) = needs-ok (entries u) WrongShape (set_of (fit_at gs 0)) f e in
      let read : Found (List Fitted) = each (λ e. fit_at gs 0 (held e)) es in
      let (e2, f2) = demands-ok (list_all is_alone es) WrongShape (made fitted.Set read) f f1 in
      let (fs, e3, is) = made-ok fitted.Set read f f2 in
      let (k, bound, shares) = (inside_opened n u i).of_entries es e1 in
      let here = set_sum (fit_at gs 0) (scale_at ss 0) (size_at ms 0) first k es fs shares e3 in
      let out : sized Powerset f ≡ 1 + sum_of (size_at ms 0) (map (scale_at ss 0) fs) =
      ap (λ o. 1 + sum_of (size_at ms 0) (typed.parts_in o)) (set_out Powerset fs f is) in
      omega (arith, bound, here, out)

  firsts_of : (m : Node) (es : List (Fitted × Weight)) →
      map (λ e. e.0) (scaled_entries l m (scale_at ss 0) es) ≡ map (λ e. scale_at ss 0 e.0) es
  firsts_of m [] = refl
  firsts_of m (e ∷ es) = ap (λ vs. scale_at ss 0 e.0 ∷ vs) (firsts_of m es)

  -- the size at a node with weights
  abbrev weighed_size : Value → ℕ
  weighed_size v = 1 + sum_of (size_at ms 0) (map (λ e. e.0) (typed.entries v))

  weights_small : (m : Node) (n : ℕ) (u : Tree) (f : Fitted) → IsInside n u →
      weights_fit m gs u ≡ Ok f → weighed_size (scaled_step l m ss f) ≤ n
  weights_small m n u f i e =
      let (es, e1, f1) = needs-ok (entries u) WrongShape (weights_of m (fit_at gs 0)) f e in
      let read : Found (List (Fitted × Weight)) = each (entry_fit m (fit_at gs 0)) es in
      let (e2, f2) =
      demands-ok (list_all (has_weight m) es) WrongShape (made fitted.Weights read) f f1 in
      let (fs, e3, is) = made-ok fitted.Weights read f f2 in
      let (k, bound, shares) = (inside_opened n u i).of_entries es e1 in
      let here = weights_sum (fit_at gs 0) (scale_at ss 0) (size_at ms 0) first m k es fs
      shares e3 in
      let out : weighed_size (scaled_step l m ss f)
      ≡ 1 + sum_of (size_at ms 0) (map (λ e. e.0) (scaled_entries l m (scale_at ss 0) fs)) =
      ap (λ o. 1 + sum_of (size_at ms 0) (map (λ e. e.0) (typed.entries_in o)))
      (weights_out m fs f is) in
      let same = ap (sum_of (size_at ms 0)) (firsts_of m fs) in
      omega (arith, bound, here, out, same)

  leaf_small : (n : ℕ) (u : Tree) → IsInside n u → 1 ≤ n
  leaf_small n u i = (inside_opened n u i).some

  step_small : (m : Node) →
      IsSmall (fit_step names m gs) (scaled_step l m ss) (size_step 1 m ms)
  step_small State = record { small = λ n u f i e. leaf_small n u i }
  step_small (Constant labels) = record { small = λ n u f i e. leaf_small n u i }
  step_small Naturals = record { small = λ n u f i e. leaf_small n u i }
  step_small Product = record { small = product_small }
  step_small Sum = record { small = sum_small }
  step_small (Power labels) = record { small = power_small labels }
  step_small Powerset = record { small = set_small }
  step_small Bag = record { small = weights_small Bag }
  step_small Distribution = record { small = weights_small Distribution }
  step_small Integers = record { small = weights_small Integers }
  step_small Rationals = record { small = weights_small Rationals }

module _ (l : ℕ) (t : Nodes) (names : List (List ℕ)) where
  node_small : (n p : ℕ) →
      IsSmall (fold_within no_fit (fit_step names) t n p)
      (fold_within no_scale (scaled_step l) t n p) (size_within 1 t n p)
  node_small zero p = none_small (no_size 1)
  node_small (suc n) p = by (node_small n) (slice_get t p)
    where
      by :
          ((q : ℕ) →
          IsSmall (fold_within no_fit (fit_step names) t n q)
          (fold_within no_scale (scaled_step l) t n q) (size_within 1 t n q)) →
          (o : Option Branch) →
          IsSmall
          (option_map_or (λ b. fit_step names b.node
          (map (fold_within no_fit (fit_step names) t n) b.children)) o no_fit)
          (option_map_or (λ b. scaled_step l b.node
          (map (fold_within no_scale (scaled_step l) t n) b.children)) o no_scale)
          (option_map_or (λ b. size_step 1 b.node (map (size_within 1 t n) b.children)) o
          (no_size 1))
      by below None = none_small (no_size 1)
      by below (Some b) =
          step_small l names (fold_within no_fit (fit_step names) t n)
          (fold_within no_scale (scaled_step l) t n) (size_within 1 t n) below b.children
          b.node

  -- what a tree denotes is no larger than its tokens
  pub fitted_small :
      (p n : ℕ) (u : Tree) (f : Fitted) → IsInside n u → fitting t names p u ≡ Ok f →
      size 1 t p (scaled l t p f) ≤ n
  fitted_small p = (node_small (length t) p).small
