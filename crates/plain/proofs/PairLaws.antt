-- The tests of pairs say that a list of labels is stable.
use Rattle.std.proofs.Common.{◌≡◌, ℕ, zero, suc, ◌+◌, Bool, not, cond, true, false, List, [], ◌∷◌, length, map, Some, slice_get, refl, sym, ap, ◌∙◌, subst, arith, true≢false}
use Rattle.std.specs.Prelude.{◌==◌, if◌then◌else◌, slice_index}
use Rattle.std.specs.List.{position_or_len}
use Rattle.std.specs.Option.{option_map}
use Rattle.std.proofs.lemmas.Bool.{and_parts, and_from, eqb-true, eq-eqb}
use Rattle.std.proofs.lemmas.List.{length-map}
use Rattle.std.proofs.lemmas.Option.{slice_get-map, none-some, same_Some}
use Rattle.functor_terms.specs.Terms.{Nodes}
use Rattle.typing.specs.declared.value.Value.{Value}
use Rattle.typing.specs.Values.{relabelled}
use Rattle.typing.specs.Equality.{are_equal}
use Rattle.typing.specs.Stable.{IsStable, first_equal, regrouped}
use Rattle.plain.specs.Pairs.{are_like, all_alike, first_place}
use Rattle.typing.proofs.MapLaws.{mapped_at}

when : (c x : Bool) → c ≡ true → (if c then x else true) ≡ true → x ≡ true
when true x e h = h
when false x e h = absurd (true≢false (sym e))

unless : (c x : Bool) → (c ≡ true → x ≡ true) → (if c then x else true) ≡ true
unless true x f = f refl
unless false x f = refl

module _ (t : Nodes) where
  -- what the test of one value says
  like_at : (n : ℕ) (u : Value) (ls : List ℕ) (vs : List Value) → length ls ≡ length vs
      → are_like t n u ls vs ≡ true → (j : ℕ) (v : Value) → slice_get vs j ≡ Some v
      → n ≡ slice_index ls j → are_equal t 0 u v ≡ true
  like_at n u ls [] c h j v at e = absurd (none-some v at)
  like_at n u [] (w ∷ vs) c h j v at e = absurd (omega (arith, c))
  like_at n u (l ∷ ls) (w ∷ vs) c h zero v at e =
      subst (λ x. are_equal t 0 u x ≡ true) (same_Some w v at)
      (when (n == l) (are_equal t 0 u w) (eq-eqb n l e)
      (and_parts (if n == l then are_equal t 0 u w else true) (are_like t n u ls vs) h).0)
  like_at n u (l ∷ ls) (w ∷ vs) c h (suc j) v at e =
      like_at n u ls vs (omega (arith, c)) (and_parts (if n == l then are_equal t 0 u w else true)
      (are_like t n u ls vs) h).1 j v at e

  like_from : (n : ℕ) (u : Value) (ls : List ℕ) (vs : List Value)
      → ((j : ℕ) (v : Value) → slice_get vs j ≡ Some v → n ≡ slice_index ls j
      → are_equal t 0 u v ≡ true) → are_like t n u ls vs ≡ true
  like_from n u [] vs f = refl
  like_from n u (l ∷ ls) [] f = refl
  like_from n u (l ∷ ls) (w ∷ vs) f =
      and_from (if n == l then are_equal t 0 u w else true) (are_like t n u ls vs)
      (unless (n == l) (are_equal t 0 u w) (λ h. f 0 w refl (eqb-true n l h)))
      (like_from n u ls vs (λ j v at e. f (suc j) v at e))

  -- and what it says of all
  alike_at : (ks : List ℕ) (us : List Value) (bs : List ℕ) (vs : List Value) → length ks ≡ length us
      → length bs ≡ length vs → all_alike t ks us bs vs ≡ true
      → (i j : ℕ) (u v : Value) → slice_get us i ≡ Some u → slice_get vs j ≡ Some v
      → slice_index ks i ≡ slice_index bs j → are_equal t 0 u v ≡ true
  alike_at ks [] bs vs c d h i j u v at at' e = absurd (none-some u at)
  alike_at [] (w ∷ us) bs vs c d h i j u v at at' e = absurd (omega (arith, c))
  alike_at (l ∷ ks) (w ∷ us) bs vs c d h zero j u v at at' e =
      subst (λ x. are_equal t 0 x v ≡ true) (same_Some w u at)
      (like_at l w bs vs d (and_parts (are_like t l w bs vs) (all_alike t ks us bs vs) h).0 j v at'
      e)
  alike_at (l ∷ ks) (w ∷ us) bs vs c d h (suc i) j u v at at' e =
      alike_at ks us bs vs (omega (arith, c)) d (and_parts (are_like t l w bs vs)
      (all_alike t ks us bs vs) h).1 i j u v at at' e

  alike_from : (ks : List ℕ) (us : List Value) (bs : List ℕ) (vs : List Value)
      → ((i j : ℕ) (u v : Value) → slice_get us i ≡ Some u → slice_get vs j ≡ Some v
      → slice_index ks i ≡ slice_index bs j → are_equal t 0 u v ≡ true)
      → all_alike t ks us bs vs ≡ true
  alike_from [] us bs vs f = refl
  alike_from (l ∷ ks) [] bs vs f = refl
  alike_from (l ∷ ks) (w ∷ us) bs vs f =
      and_from (are_like t l w bs vs) (all_alike t ks us bs vs)
      (like_from l w bs vs (λ j v at e. f 0 j w v refl at e))
      (alike_from ks us bs vs (λ i j u v at at' e. f (suc i) j u v at at' e))

module _ (t : Nodes) (values : List Value) (b : List ℕ) where
  -- a list under which equal values are those with equal numbers is stable
  pub stable_from : length b ≡ length values
      → all_alike t b (map (relabelled b) values) b (map (relabelled b) values) ≡ true
      → IsStable t values b
  stable_from c h = record {
    covers = c;
    equal = λ i j u v at at' e. alike_at t b (map (relabelled b) values) b
        (map (relabelled b) values) (c ∙ sym count) (c ∙ sym count) h i j (relabelled b u)
        (relabelled b v)
        (slice_get-map (relabelled b) values i ∙ ap (option_map (relabelled b)) at)
        (slice_get-map (relabelled b) values j ∙ ap (option_map (relabelled b)) at') e;
  }
    where
      count : length (map (relabelled b) values) ≡ length values
      count = rw length-map

  -- equal values have equal numbers where the list is stable
  pub stable_to : IsStable t values b
      → all_alike t b (map (relabelled b) values) b (map (relabelled b) values) ≡ true
  stable_to is = alike_from t b (map (relabelled b) values) b (map (relabelled b) values)
      (λ i j u v at at' e.
      let (x, here, same) = mapped_at (relabelled b) values i u at in
      let (y, there, same') = mapped_at (relabelled b) values j v at' in
      subst (λ w. are_equal t 0 u w ≡ true) same' (subst (λ w. are_equal t 0 w (relabelled b y)
      ≡ true) same (is.equal i j x y here there e)))

  place_mapped : (vs : List Value) (p : Value → Bool) → position_or_len p (map (relabelled b) vs)
      ≡ position_or_len (λ v. p (relabelled b v)) vs
  place_mapped [] p = refl
  place_mapped (v ∷ vs) p = λ i. cond (not (p (relabelled b v))) (1 + place_mapped vs p i) 0

  places_mapped : (us : List Value)
      → map (first_place t (map (relabelled b) values)) (map (relabelled b) us)
      ≡ map (first_equal t values b) us
  places_mapped [] = refl
  places_mapped (u ∷ us) = λ i. place_mapped values (λ v. are_equal t 0 v (relabelled b u)) i
      ∷ places_mapped us i

  -- the first places among the relabelled values are the next labels
  pub next_labels : (new : List Value) (next : List ℕ) → new ≡ map (relabelled b) values
      → next ≡ map (first_place t new) new → next ≡ regrouped t values b
  next_labels new next e h = h ∙ ap (λ (vs : List Value). map (first_place t vs) vs) e
      ∙ places_mapped values
