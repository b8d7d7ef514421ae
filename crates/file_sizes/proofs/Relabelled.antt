-- A value with its states replaced has the size that it had.
use Rattle.std.proofs.Common.{◌≡◌, ℕ, zero, suc, ◌+◌, ◌-◌, Bool, true, false, cond, List, [], ◌∷◌, map, refl, sym, ap, ◌∙◌}
use Rattle.std.specs.Prelude.{ℤ, ◌==◌}
use Rattle.functor_terms.specs.declared.node.Node.{Node}
use Rattle.functor_terms.specs.declared.node.Node.TheVariants.{State, Constant, Naturals, Product, Sum, Power, Powerset, Bag, Distribution, Integers, Rationals}
use Rattle.functor_terms.specs.Terms.{Nodes, node_at, children_at}
use Rattle.typing.specs.declared.value.Value.{Value}
use Rattle.typing.specs.Values.{index, inner, parts, entries, relabelled}
use Rattle.typing.specs.Layers.{weighed}
use Rattle.typing.proofs.MapLaws.{parts_map, index_map, inner_map, entries_map}
use Rattle.file_sizes.proofs.Sizes.{Size, size_at, sum_each, sum_of, size_step, size_within, size, size-level}

module _ (b : List ℕ) where
  -- the size does not see which states there are
  record IsBlind (s : Size) : Type 0 where
    pub same : (v : Value) → s (relabelled b v) ≡ s v

  module _ (S : ℕ → Size) (blind : (q : ℕ) → IsBlind (S q)) where
    at_same : (qs : List ℕ) (k : ℕ) → IsBlind (size_at (map S qs) k)
    at_same [] k = record { same = λ v. refl }
    at_same (q ∷ qs) k = by (k == 0) (at_same qs (k - 1))
      where
        by :
            (o : Bool) → IsBlind (size_at (map S qs) (k - 1)) →
            IsBlind (λ v. (cond o (S q) (size_at (map S qs) (k - 1))) v)
        by true later = blind q
        by false later = later

    each_same : (qs : List ℕ) (us : List Value) →
        sum_each (map S qs) (map (relabelled b) us) ≡ sum_each (map S qs) us
    each_same [] us = refl
    each_same (q ∷ qs) [] = refl
    each_same (q ∷ qs) (u ∷ us) = λ i. (blind q).same u i + each_same qs us i

    sum_same : (s : Size) → IsBlind s → (us : List Value) →
        sum_of s (map (relabelled b) us) ≡ sum_of s us
    sum_same s h [] = refl
    sum_same s h (u ∷ us) = λ i. h.same u i + sum_same s h us i

    firsts_same : (es : List (Value × ℤ)) →
        map (λ (e : Value × ℤ). e.0) (map (λ (e : Value × ℤ). (relabelled b e.0, e.1)) es)
        ≡ map (relabelled b) (map (λ (e : Value × ℤ). e.0) es)
    firsts_same [] = refl
    firsts_same (e ∷ es) = ap (λ vs. relabelled b e.0 ∷ vs) (firsts_same es)

    weighed_map : (v : Value) → weighed (relabelled b v) ≡ map (relabelled b) (weighed v)
    weighed_map v = ap (λ (es : List (Value × ℤ)). map (λ (e : Value × ℤ). e.0) es)
        (entries_map b v) ∙ firsts_same (entries v)

    parts_same : (qs : List ℕ) (v : Value) →
        1 + sum_of (size_at (map S qs) 0) (parts (relabelled b v))
        ≡ 1 + sum_of (size_at (map S qs) 0) (parts v)
    parts_same qs v =
        ap (λ us. 1 + sum_of (size_at (map S qs) 0) us) (parts_map b v)
        ∙ ap (λ k. 1 + k) (sum_same (size_at (map S qs) 0) (at_same qs 0) (parts v))

    weighed_same : (qs : List ℕ) (v : Value) →
        1 + sum_of (size_at (map S qs) 0) (weighed (relabelled b v))
        ≡ 1 + sum_of (size_at (map S qs) 0) (weighed v)
    weighed_same qs v =
        ap (λ us. 1 + sum_of (size_at (map S qs) 0) us) (weighed_map v)
        ∙ ap (λ k. 1 + k) (sum_same (size_at (map S qs) 0) (at_same qs 0) (weighed v))

    step_same : (a : ℕ) (m : Node) (qs : List ℕ) (v : Value) →
        size_step a m (map S qs) (relabelled b v) ≡ size_step a m (map S qs) v
    step_same a State qs v = refl
    step_same a (Constant labels) qs v = refl
    step_same a Naturals qs v = refl
    step_same a Product qs v =
        ap (λ us. 1 + sum_each (map S qs) us) (parts_map b v)
        ∙ ap (λ k. 1 + k) (each_same qs (parts v))
    step_same a Sum qs v =
        (λ i. 1 + size_at (map S qs) (index_map b v i) (inner_map b v i))
        ∙ ap (λ k. 1 + k) ((at_same qs (index v)).same (inner v))
    step_same a (Power labels) qs v = parts_same qs v
    step_same a Powerset qs v = parts_same qs v
    step_same a Bag qs v = weighed_same qs v
    step_same a Distribution qs v = weighed_same qs v
    step_same a Integers qs v = weighed_same qs v
    step_same a Rationals qs v = weighed_same qs v

  within_same : (a : ℕ) (t : Nodes) (n p : ℕ) → IsBlind (size_within a t n p)
  within_same a t zero p = record { same = λ v. refl }
  within_same a t (suc n) p = record {
    same = λ v.
        size-level a t n p (relabelled b v)
        ∙ step_same (size_within a t n) (within_same a t n) a (node_at t p) (children_at t p) v
        ∙ sym (size-level a t n p v);
  }

-- so of a term
pub size-relabelled : (b : List ℕ) (a : ℕ) (t : Nodes) (p : ℕ) (v : Value) →
    size a t p (relabelled b v) ≡ size a t p v
size-relabelled b a t p = (within_same b a t _ p).same
