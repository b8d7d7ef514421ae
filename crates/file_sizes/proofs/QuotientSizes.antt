-- A quotient is no larger than the coalgebra.
use Rattle.std.proofs.Common.{◌≡◌, ℕ, suc, ◌+◌, ◌-◌, ◌≤◌, Bool, true, false, cond, List, [], ◌∷◌, length, map, Some, slice_get, refl, sym, ap, ◌∙◌, subst, arith}
use Rattle.std.specs.Prelude.{◌==◌, slice_index}
use Rattle.std.proofs.lemmas.Bool.{eqb-true}
use Rattle.functor_terms.specs.Terms.{Nodes}
use Rattle.typing.specs.declared.value.Value.{Value}
use Rattle.typing.specs.Values.{relabelled}
use Rattle.typing.specs.Fits.{fits}
use Rattle.typing.specs.Order.{is_normal}
use Rattle.typing.specs.Equality.{are_equal}
use Rattle.typing.specs.Layers.{Place, children_of, leaves_of, added, roots_of, structures_in, sorted_in, edges_in}
use Rattle.typing.proofs.EqualityLaws.{eq-equivalence}
use Rattle.typing.proofs.StableLaws.{each_of}
use Rattle.structures.proofs.Leaves.{leaves-children}
use Rattle.quotient_writer.specs.Quotient.{picked_from, IsQuotient}
use Rattle.file_sizes.specs.Laws.{IsNoLarger, QuotientsAreNoLarger, QuotientsAreFew}
use Rattle.file_sizes.proofs.Sizes.{size, fewer_structures, fewer_edges}
use Rattle.file_sizes.proofs.Shrinks.{normal_shrinks}
use Rattle.file_sizes.proofs.Relabelled.{size-relabelled}

-- f counts something in a value
module _ (f : Place → ℕ) where
  abbrev summed : List Value → ℕ
  summed vs = added (map f (roots_of vs))

  -- from class n on, each class has no more than each of its states
  record AreLess (n : ℕ) (b : List ℕ) (values vs : List Value) : Type 0 where
    pub less :
        (i : ℕ) (u v : Value) → slice_get values i ≡ Some u → n ≤ slice_index b i →
        slice_get vs (slice_index b i - n) ≡ Some v → f (0, v) ≤ f (0, u)

  -- so all classes together have no more than all states
  picked_less :
      (n : ℕ) (b : List ℕ) (names : List (List ℕ)) (values vs : List Value) →
      length vs ≡ length (picked_from n b names) → length values ≡ length names →
      AreLess n b values vs → summed vs ≤ summed values
  picked_less n [] names values [] e l h = omega arith
  picked_less n [] names values (v ∷ vs) e l h = absurd (omega (arith, e))
  picked_less n (k ∷ b) [] values [] e l h = omega arith
  picked_less n (k ∷ b) [] values (v ∷ vs) e l h = absurd (omega (arith, e))
  picked_less n (k ∷ b) (name ∷ names) [] vs e l h = absurd (omega (arith, l))
  picked_less n (k ∷ b) (name ∷ names) (u ∷ values) vs e l h =
      by (picked_less (suc n) b names values) (picked_less n b names values) (k == n) refl e
    where
      rest : length values ≡ length names
      rest = omega (arith, l)

      first : (v : Value) (ws : List Value) → k ≡ n → AreLess n (k ∷ b) (u ∷ values) (v ∷ ws) →
          f (0, v) ≤ f (0, u)
      first v ws same g =
          let none : k - n ≡ 0 = omega (arith, same) in
          g.less 0 u v refl (omega (arith, same)) (ap (slice_get (v ∷ ws)) none)

      others : (v : Value) (ws : List Value) → AreLess n (k ∷ b) (u ∷ values) (v ∷ ws) →
          AreLess (suc n) b values ws
      others v ws g = record {
        less = λ i x y at_x low at_y.
            let next : slice_index b i - n ≡ suc (slice_index b i - suc n) =
            omega (arith, low) in
            g.less (suc i) x y at_x (omega (arith, low)) (ap (slice_get (v ∷ ws)) next ∙ at_y);
      }

      behind : AreLess n (k ∷ b) (u ∷ values) vs → AreLess n b values vs
      behind g = record { less = λ i x y at_x low at_y. g.less (suc i) x y at_x low at_y }

      begins :
          ((ws : List Value) → length ws ≡ length (picked_from (suc n) b names) →
          length values ≡ length names → AreLess (suc n) b values ws →
          summed ws ≤ summed values) →
          k ≡ n → (ws : List Value) → length ws ≡ suc (length (picked_from (suc n) b names)) →
          AreLess n (k ∷ b) (u ∷ values) ws → summed ws ≤ f (0, u) + summed values
      begins again same [] d g = absurd (omega (arith, d))
      begins again same (v ∷ ws) d g =
          let here = first v ws same g in
          let more = again ws (omega (arith, d)) rest (others v ws g) in
          omega (arith, here, more)

      by :
          ((ws : List Value) → length ws ≡ length (picked_from (suc n) b names) →
          length values ≡ length names → AreLess (suc n) b values ws →
          summed ws ≤ summed values) →
          ((ws : List Value) → length ws ≡ length (picked_from n b names) →
          length values ≡ length names → AreLess n b values ws → summed ws ≤ summed values) →
          (o : Bool) → (k == n) ≡ o →
          length vs
          ≡ length (cond o (name ∷ picked_from (suc n) b names) (picked_from n b names)) →
          summed vs ≤ f (0, u) + summed values
      by again on true q d = begins again (eqb-true k n q) vs d h
      by again on false q d = let more = on vs d rest (behind h) in omega (arith, more)

module _
    (t : Nodes) (names : List (List ℕ)) (values : List Value) (b : List ℕ)
    (one_each : length values ≡ length names) (ns : List (List ℕ)) (vs : List Value)
    (quotient : IsQuotient t names values b ns vs) where
  -- a class is no larger than each of its states
  smaller : (a i : ℕ) (u v : Value) → slice_get values i ≡ Some u →
      slice_get vs (slice_index b i) ≡ Some v → size a t 0 v ≤ size a t 0 u
  smaller a i u v at_u at_v =
      let same : are_equal t 0 v (relabelled b u) ≡ true =
      (eq-equivalence t 0).symm v (relabelled b u) ∙ quotient.equal i u v at_u at_v in
      let less =
      normal_shrinks a t 0 v (relabelled b u)
      (each_of (fits t 0) vs quotient.fitting (slice_index b i) v at_v)
      (each_of (is_normal t 0) vs quotient.normal (slice_index b i) v at_v) same in
      subst (λ k. size a t 0 v ≤ k) (size-relabelled b a t 0 u) less

  many : length vs ≡ length (picked_from 0 b names)
  many = quotient.one_each ∙ ap length quotient.first_names

  class_less :
      (f : Place → ℕ) →
      ((u v : Value) (i : ℕ) → slice_get values i ≡ Some u →
      slice_get vs (slice_index b i) ≡ Some v → f (0, v) ≤ f (0, u)) →
      added (map f (roots_of vs)) ≤ added (map f (roots_of values))
  class_less f h =
      picked_less f 0 b names values vs many one_each
      (record {
        less = λ i u v at_u low at_v.
            let same : slice_index b i - 0 ≡ slice_index b i = omega arith in
            h u v i at_u (sym (ap (slice_get vs) same) ∙ at_v);
      })

  pub no_larger : IsNoLarger t vs values
  no_larger = record {
    structures =
        class_less (structures_in t) (λ u v i at_u at_v.
        fewer_structures t (children_of t) (λ x. refl) (length t) 0 v u
        (smaller 0 i u v at_u at_v));
    sorted =
        class_less (sorted_in t) (λ u v i at_u at_v.
        fewer_structures t (leaves_of t) (leaves-children t) (length t) 0 v u
        (smaller 0 i u v at_u at_v));
    edges =
        class_less (edges_in t) (λ u v i at_u at_v.
        fewer_edges t (leaves_of t) (leaves-children t) (length t) 0 v u
        (smaller 1 i u v at_u at_v));
  }

-- a quotient has no more structures and edges than its source
pub quotient_no_larger : QuotientsAreNoLarger
quotient_no_larger = no_larger

-- a quotient has few structures and edges
pub quotient_few : QuotientsAreFew
quotient_few t names values b one_each ns vs quotient few =
    let less = no_larger t names values b one_each ns vs quotient in
    record {
      structures = (let a = less.structures in let c = few.structures in omega (arith, a, c));
      sorted = (let a = less.sorted in let c = few.sorted in omega (arith, a, c));
      edges = (let a = less.edges in let c = few.edges in omega (arith, a, c));
    }
