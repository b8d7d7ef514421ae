-- A system of which no two states have one label is its own quotient.
use Rattle.std.proofs.Common.{◌≡◌, ℕ, zero, suc, ◌+◌, ◌<◌, Bool, true, false, ◌&&◌, List, [], ◌∷◌, ◌++◌, length, slice_get, append_assoc, refl, sym, ap, ◌∙◌, subst, arith}
use Rattle.std.specs.Prelude.{◌==◌, nat_lt, slice_index, if◌then◌else◌}
use Rattle.std.specs.List.{list_all}
use Rattle.std.proofs.lemmas.Bool.{and_parts, ltb-true, eqb-true}
use Rattle.std.proofs.lemmas.List.{length-append, get_or_append_left, get_or-append-add}
use Rattle.std.proofs.lemmas.Option.{same_Some, slice_get_within}
use Rattle.functor_terms.specs.Terms.{Nodes}
use Rattle.typing.specs.declared.value.Value.{Value}
use Rattle.typing.specs.Values.{states_below}
use Rattle.typing.specs.Equality.{are_equal}
use Rattle.typing.proofs.EqualityLaws.{eq-equivalence}
use Rattle.typing.proofs.StableLaws.{each_of}
use Rattle.quotient_writer.specs.Quotient.{numbers_from, picked_from, IsQuotient}
use Rattle.quotient_writer.specs.Laws.{AreLabelled, AreWellFormed, AreApart}
use Rattle.quotient_writer.proofs.Picks.{picked-new}
use Rattle.typing.proofs.OwnLabels.{count_from, count_at, kept}
use Rattle.quotient_writer.proofs.QuotientLaws.{determined}

count-length : (k m : ℕ) → length (count_from k m) ≡ m
count-length k zero = refl
count-length k (suc m) = ap suc (count-length (suc k) m)

count-push : (k m : ℕ) → count_from k m ++ (k + m) ∷ [] ≡ count_from k (suc m)
count-push k zero = ap (λ n. n ∷ []) (let e : k + 0 ≡ k = omega arith in e)
count-push k (suc m) = ap (λ l. k ∷ l) (ap (λ n. count_from (suc k) m ++ n ∷ []) (let e : k + suc m
    ≡ suc k + m = omega arith in e) ∙ count-push (suc k) m)

-- numbered labels of which no two are the same count the states
counts : (n : ℕ) (b : List ℕ) → numbers_from n b ≡ true → AreApart (count_from 0 n ++ b)
    → b ≡ count_from n (length b)
counts n [] h apart = refl
counts n (k ∷ b) h apart = by (k == n) refl h (λ g a. counts (suc n) b g a)
  where
    at_end : slice_index (count_from 0 n ++ k ∷ b) n ≡ k
    at_end = ap (slice_index (count_from 0 n ++ k ∷ b)) (let e : n ≡ length (count_from 0 n) + 0 =
        omega (arith, count-length 0 n) in e) ∙ get_or-append-add (count_from 0 n) (k ∷ b) 0 0

    by : (o : Bool) → (k == n) ≡ o
        → (if o then numbers_from (suc n) b else (nat_lt k n && numbers_from n b)) ≡ true
        → (numbers_from (suc n) b ≡ true → AreApart (count_from 0 (suc n) ++ b)
        → b ≡ count_from (suc n) (length b)) → k ∷ b ≡ count_from n (suc (length b))
    by true e g rest =
        let same : k ≡ n = eqb-true k n e in
        let whole : count_from 0 n ++ k ∷ b ≡ count_from 0 (suc n) ++ b = ap (λ m. count_from 0 n
        ++ m ∷ b) same ∙ sym (append_assoc (count_from 0 n) (n ∷ []) b)
        ∙ ap (λ l. l ++ b) (ap (λ m. count_from 0 n ++ m ∷ []) (let e : n ≡ 0 + n =
        omega arith in e) ∙ count-push 0 n) in
        (λ i. same i ∷ rest g (subst AreApart whole apart) i)
    by false e g rest =
        let p = and_parts (nat_lt k n) (numbers_from n b) g in
        let low : k < n = ltb-true k n p.0 in
        let long : length (count_from 0 n ++ k ∷ b) ≡ n + suc (length b) =
        omega (arith, length-append (count_from 0 n) (k ∷ b), count-length 0 n) in
        let there : slice_index (count_from 0 n ++ k ∷ b) k ≡ k = get_or_append_left
        (count_from 0 n) (k ∷ b) 0 k (omega (arith, low, count-length 0 n))
        ∙ (count_at 0 n k low ∙ omega arith) in
        absurd (omega (
          arith,
          low,
          apart k n (omega (arith, low, long)) (omega (arith, long)) (there
              ∙ sym at_end),
        ))

-- at the first states of a count everything stands
picked-count : {X : Type 0} (n : ℕ) (xs : List X) → picked_from n (count_from n (length xs)) xs ≡ xs
picked-count n [] = refl
picked-count n (x ∷ xs) = picked-new n n (count_from (suc n) (length xs)) x xs refl
    ∙ ap (λ l. x ∷ l) (picked-count (suc n) xs)

module _ (t : Nodes) (names : List (List ℕ)) (values : List Value) (b : List ℕ)
    (l : AreLabelled names values b) (well : AreWellFormed t values) (apart : AreApart b) where
  counted : b ≡ count_from 0 (length b)
  counted = counts 0 b l.numbered apart

  itself : (i : ℕ) → i < length b → slice_index b i ≡ i
  itself i h = ap (λ c. slice_index c i) counted ∙ count_at 0 (length b) i h ∙ omega arith

  own : IsQuotient t names values b names values
  own = record {
    first_names = sym (ap (λ c. picked_from 0 c names) (counted ∙ ap (count_from 0) l.covers)
        ∙ picked-count 0 names);
    one_each = l.one_each;
    fitting = well.fitting;
    normal = well.normal;
    in_range = subst (λ n. list_all (states_below n) values ≡ true) l.one_each well.in_range;
    equal = λ i u v at at'.
        let below : i < length b =
        omega (arith, slice_get_within values i u at, l.one_each, l.covers) in
        let same : u ≡ v = same_Some u v (sym at ∙ ap (slice_get values) (sym (itself i below))
        ∙ at') in
        let inside : states_below (length b) u ≡ true = subst (λ n. states_below n u ≡ true)
        (l.one_each ∙ sym l.covers) (each_of (states_below (length values)) values well.in_range
        i u at) in
        (λ j. are_equal t 0 (kept (length b) b itself u inside j) (sym same j))
        ∙ (eq-equivalence t 0).refl u;
  }

  -- a coalgebra of which no two states are equivalent is its own quotient
  pub own_quotient : (ns : List (List ℕ)) (vs : List Value) → IsQuotient t names values b ns vs
      → (ns ≡ names) × (vs ≡ values)
  own_quotient ns vs q = determined t names values b l.covers l.one_each l.numbered ns names vs
      values q own
