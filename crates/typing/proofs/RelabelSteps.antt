-- The arms of relabelling at one node.
use Rattle.std.proofs.Common.{◌≡◌, ℕ, ◌<◌, ◌≤◌, ◌^◌, true, List, [], ◌∷◌, ◌++◌, map, length, Some, slice_get, append_assoc, append-nil, refl, sym, ap, ◌∙◌, subst, arith, true≢false}
use Rattle.std.specs.Prelude.{ℤ, unsigned_abs, slice_index}
use Rattle.std.specs.List.{list_all, sum_by, AllZip}
use Rattle.functor_terms.specs.declared.node.Node.{Node}
use Rattle.functor_terms.specs.declared.node.Node.TheVariants.{Product}
use Rattle.functor_terms.specs.Terms.{Nodes, IsTerm, node_at, children_at}
use Rattle.functor_terms.specs.Lists.{Zip3}
use Rattle.typing.specs.declared.value.Value.{Value, Value-F, out-Value}
use Rattle.typing.specs.declared.value.Value.TheVariants as value
use Rattle.typing.specs.declared.value.Value.TheViews.{outs-State, outs-Label, outs-Tuple, outs-Inj, outs-Set, outs-Weights}
use Rattle.typing.specs.Values.{relabelled}
use Rattle.typing.specs.Equality.{Test, are_equal}
use Rattle.typing.specs.Fits.{Check, fits_level, fits_step, fits}
use Rattle.typing.specs.Order.{form, Form}
use Rattle.typing.specs.NormalForms.{is_ready, each_ready, child_check, child_form, IsRelabelledAt, IsRelabelledChild, IsRelabelledEntry, IsSetOf, IsTotalOf}
use Rattle.typing.specs.Equality.{the_sum}
use Rattle.typing.proofs.EqualityLaws.{eq-equivalence}
use Rattle.typing.proofs.NormalLaws.{children_canonical, normal_unique}
use Rattle.typing.proofs.RelabelLaws.{node_relabelled, node_fits, state_step, label_step, sum_step, power_step, set_step, weights_step, product_step}
use Rattle.typing.proofs.ReadyLaws.{IsReadyLevel, ready_check, ready_level, set_ready, power_ready, product_ready, sum_ready, weights_ready, weights_bound, bound_kept}
use Rattle.typing.proofs.TermFacts.{form_found, check_found, test_found}

module _ (t : Nodes) (is : IsTerm t) (p : ℕ) (h : p < length t) (m : Node) (e : m ≡ node_at t p)
    (b : List ℕ) (v : Value) (ready : is_ready (length b) (fits t p) v ≡ true) where
  abbrev xs : List Check
  xs = map (fits t) (children_at t p)

  abbrev fs : List Form
  fs = map (form t) (children_at t p)

  step_fits : fits_step m xs v ≡ true
  step_fits = node_fits t is p h m e v (ready_check (length b) (fits t p) v ready)

  level_fits : (x : Value-F Value) → out-Value v ≡ x → fits_level m xs x ≡ true
  level_fits x o = ap (fits_level m xs) (sym o) ∙ step_fits

  level : (x : Value-F Value) → out-Value v ≡ x → IsReadyLevel (length b) x
  level x o = ready_level (length b) (fits t p) v x o ready

  -- a state is relabelled to its label
  pub at_state : (i : ℕ) → v ≡ value.State i → i < length b
      → IsRelabelledAt t b p v (value.State (slice_index b i))
  at_state i q inside = node_relabelled t is p h m e b v (value.State (slice_index b i))
      (state_step b xs fs (map (are_equal t) (children_at t p)) m v i (ap out-Value q
      ∙ outs-State i) step_fits inside)

  -- a label is relabelled to itself
  pub at_label : (n : ℕ) → v ≡ value.Label n → IsRelabelledAt t b p v (value.Label n)
  at_label n q = node_relabelled t is p h m e b v (value.Label n)
      (label_step b xs fs (map (are_equal t) (children_at t p)) m v n (ap out-Value q
      ∙ outs-Label n) step_fits)

  -- the value of an injection is ready for its child
  pub inner_ready : (k : ℕ) (w : Value) → v ≡ value.Inj k w
      → is_ready (length b) (child_check t p k) w ≡ true
  inner_ready k w q = let o = ap out-Value q ∙ outs-Inj k w in
      sum_ready (length b) xs m k w (level_fits (Value-F.Inj k w) o) (level (Value-F.Inj k w) o)

  -- a relabelled value in an injection is the relabelled injection
  pub at_inner : (k : ℕ) (w s : Value) → v ≡ value.Inj k w → IsRelabelledChild t b p k w s
      → IsRelabelledAt t b p v (value.Inj k s)
  at_inner k w s q c = node_relabelled t is p h m e b v (value.Inj k s)
      (sum_step b xs fs (map (are_equal t) (children_at t p)) m v k w s (ap out-Value q
      ∙ outs-Inj k w) step_fits c)

  -- the parts of a product are ready in their places
  pub places_are_ready : (vs : List Value) → v ≡ value.Tuple vs → m ≡ Product
      → each_ready (length b) xs vs ≡ true
  places_are_ready vs q product =
      let o = ap out-Value q ∙ outs-Tuple vs in
      product_ready (length b) xs vs (ap (λ n. fits_level n xs (Value-F.Tuple vs)) (sym product)
      ∙ level_fits (Value-F.Tuple vs) o) (level (Value-F.Tuple vs) o)

  -- relabelled places of a product are the relabelled tuple
  pub at_places : (vs rs : List Value) → v ≡ value.Tuple vs → m ≡ Product
      → Zip3 (IsRelabelledAt t b) (children_at t p) vs rs → IsRelabelledAt t b p v (value.Tuple rs)
  at_places vs rs q product z = node_relabelled t is p h Product (sym product
      ∙ e) b v (value.Tuple rs) (product_step b t (children_at t p) v vs rs (ap out-Value q
      ∙ outs-Tuple vs) z)

  -- the parts of a power are ready
  pub parts_ready : (vs : List Value) → v ≡ value.Tuple vs → (m ≡ Product → ⊥)
      → list_all (is_ready (length b) (child_check t p 0)) vs ≡ true
  parts_ready vs q other = let o = ap out-Value q ∙ outs-Tuple vs in
      power_ready (length b) xs m vs (level_fits (Value-F.Tuple vs) o) other
      (level (Value-F.Tuple vs) o)

  -- relabelled parts of a power are the relabelled tuple
  pub at_parts : (vs rs : List Value) → v ≡ value.Tuple vs → (m ≡ Product → ⊥)
      → AllZip (IsRelabelledChild t b p 0) vs rs → IsRelabelledAt t b p v (value.Tuple rs)
  at_parts vs rs q other z = node_relabelled t is p h m e b v (value.Tuple rs)
      (power_step b xs fs (map (are_equal t) (children_at t p)) m v vs rs (ap out-Value q
      ∙ outs-Tuple vs) step_fits other z)

  -- the members of a set are ready
  pub members_ready : (vs : List Value) → v ≡ value.Set vs
      → list_all (is_ready (length b) (child_check t p 0)) vs ≡ true
  members_ready vs q = let o = ap out-Value q ∙ outs-Set vs in
      set_ready (length b) xs m vs (level_fits (Value-F.Set vs) o) (level (Value-F.Set vs) o)

  -- relabelled members without repeats are the relabelled set
  pub at_members : (vs us rs : List Value) → v ≡ value.Set vs
      → AllZip (IsRelabelledChild t b p 0) vs us → IsSetOf (child_form t p 0).compare us rs
      → IsRelabelledAt t b p v (value.Set rs)
  at_members vs us rs q z s =
      node_relabelled t is p h m e b v (value.Set rs)
      (set_step b xs fs (map (are_equal t) (children_at t p))
      (children_canonical t (children_at t p)) m v vs us rs (ap out-Value q
      ∙ outs-Set vs) step_fits z s)

  -- the elements of weights are ready
  pub entries_are_ready : (vs : List (Value × ℤ)) → v ≡ value.Weights vs
      → list_all (λ w. is_ready (length b) (child_check t p 0) w.0) vs ≡ true
  entries_are_ready vs q = let o = ap out-Value q ∙ outs-Weights vs in
      weights_ready (length b) xs m vs (level_fits (Value-F.Weights vs) o)
      (level (Value-F.Weights vs) o)

  pub entries_bound : (vs us : List (Value × ℤ)) → v ≡ value.Weights vs
      → AllZip (IsRelabelledEntry t b p) vs us → sum_by (λ w. unsigned_abs w.1) us ≤ 2 ^ 126
  entries_bound vs us q z =
      subst (λ n. n ≤ 2 ^ 126) (sym (bound_kept (IsRelabelledEntry t b p) (λ v r c. c.1) vs us z))
      (weights_bound (length b) vs (level (Value-F.Weights vs) (ap out-Value q
      ∙ outs-Weights vs)))

  -- relabelled entries with their sums are the relabelled weights
  pub at_entries : (vs us rs : List (Value × ℤ)) → v ≡ value.Weights vs
      → AllZip (IsRelabelledEntry t b p) vs us → IsTotalOf (child_form t p 0).compare the_sum us rs
      → IsRelabelledAt t b p v (value.Weights rs)
  at_entries vs us rs q z s =
      node_relabelled t is p h m e b v (value.Weights rs)
      (weights_step b xs fs (map (are_equal t) (children_at t p))
      (children_canonical t (children_at t p)) m v vs us rs (ap out-Value q
      ∙ outs-Weights vs) step_fits z s)

-- at the k-th child
pub child_ready : (t : Nodes) (p k q n : ℕ) (v : Value) → slice_get (children_at t p) k ≡ Some q
    → is_ready n (child_check t p k) v ≡ true → is_ready n (fits t q) v ≡ true
child_ready t p k q n v at h = subst (λ (x : Check). is_ready n x v ≡ true)
    (check_found t (children_at t p) k q at) h

-- what is relabelled at the k-th child is relabelled at its node
pub child_relabelled : (t : Nodes) (b : List ℕ) (p k q : ℕ) (v r : Value)
    → slice_get (children_at t p) k ≡ Some q → IsRelabelledAt t b q v r
    → IsRelabelledChild t b p k v r
child_relabelled t b p k q v r at c = record {
  fitting = ap (λ (x : Check). x r) (check_found t (children_at t p) k q at) ∙ c.fitting;
  normal = ap (λ (f : Form). f.is_normal r) (form_found t (children_at t p) k q at) ∙ c.normal;
  equal = ap (λ (x : Test). x r (relabelled b v)) (test_found t (children_at t p) k q at) ∙ c.equal;
  in_range = c.in_range;
}

-- the step of a loop over places
pub places_more : (R : ℕ → Value → Value → Type 0) (q : ℕ) (qs : List ℕ) (v : Value)
    (vs : List Value) (all : List ℕ) (whole new : List Value) (r : Value)
    → ((more : List Value) → Zip3 R (q ∷ qs) (v ∷ vs) more → Zip3 R all whole (new ++ more))
    → R q v r → (more : List Value) → Zip3 R qs vs more
    → Zip3 R all whole ((new ++ r ∷ []) ++ more)
places_more R q qs v vs all whole new r made c more z = subst (λ (l : List Value). Zip3 R all whole
    l) (sym (append_assoc new (r ∷ []) more)) (made (r ∷ more) (c, z))

pub places_done : (R : ℕ → Value → Value → Type 0) (n : ℕ) (t : Nodes) (qs : List ℕ)
    (vs : List Value) (all : List ℕ) (whole new : List Value) → length qs ≡ 0
    → each_ready n (map (fits t) qs) vs ≡ true
    → ((more : List Value) → Zip3 R qs vs more → Zip3 R all whole (new ++ more))
    → Zip3 R all whole new
places_done R n t [] [] all whole new none ready made = subst (λ (l : List Value). Zip3 R all whole
    l) (append-nil new) (made [] tt)
places_done R n t [] (v ∷ vs) all whole new none ready made = absurd (true≢false (sym ready))
places_done R n t (q ∷ qs) vs all whole new none ready made = absurd (omega arith)

-- two normal forms are one value exactly where the relabelled values are equal
pub forms_tell : (t : Nodes) (p : ℕ) (b c : List ℕ) (u v r s : Value) → IsRelabelledAt t b p u r
    → IsRelabelledAt t c p v s
    → ((r ≡ s → are_equal t p (relabelled b u) (relabelled c v) ≡ true)
    × (are_equal t p (relabelled b u) (relabelled c v) ≡ true → r ≡ s))
forms_tell t p b c u v r s x y =
    let is = eq-equivalence t p in
    let bu : Value = relabelled b u in
    let cv : Value = relabelled c v in (
      (λ same. sym (is.congr r bu cv x.equal) ∙ ap (λ w. are_equal t p w cv) same ∙ y.equal),
      (λ same. normal_unique t p r s x.fitting y.fitting x.normal y.normal (is.congr r bu s x.equal
          ∙ is.symm bu s ∙ is.congr s cv bu y.equal ∙ is.symm cv bu ∙ same)),
    )
