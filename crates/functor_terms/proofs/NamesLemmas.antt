-- Adding a word to a table.
use Rattle.std.proofs.Common.{◌≡◌, ℕ, ◌+◌, ◌<◌, ◌^◌, ◌↔◌, Bool, true, false, not, ◌||◌, List, [], ◌∷◌, ◌++◌, length, map, Option, Some, None, refl, sym, ap, ◌∙◌, subst, true≢false, arith}
use Rattle.std.specs.Prelude.{is_some, IsTrue, if◌then◌else◌, slice_get}
use Rattle.std.proofs.Common.{zero, suc, take}
use Rattle.std.specs.List.{AllByRecursion}
use Rattle.std.proofs.lemmas.Slice.Eq.{bytes_eq-Decides}
use Rattle.std.specs.List.{list_any, IsDistinct}
use Rattle.std.proofs.lemmas.List.{map_push, length_push}
use Rattle.std.proofs.lemmas.Option.{none-some, same_Some}
use Rattle.file_cut.specs.Bytes.{IsName}
use Rattle.functor_terms.specs.Words.{is_same_word, place_of, AreNames}
use Rattle.functor_terms.proofs.WordLemmas.{IsDistinct-map, place-any}
use Rattle.indexmap.specs.IndexSet.{insert_key}

-- no words are names
pub no_names : AreNames []
unfolding IsDistinct
no_names = record { distinct = tt; each = tt; few = omega arith }

-- a test of images is a test of what the function makes
pub list_any-map : {X Y : Type 0} (p : Y → Bool) (f : X → Y) (xs : List X)
    → list_any p (map f xs) ≡ list_any (λ x. p (f x)) xs
list_any-map p f [] = refl
list_any-map p f (x ∷ xs) = ap (λ b. p (f x) || b) (list_any-map p f xs)

-- what holds of each of a list and of one more holds of both together
pub all-push : {X : Type 0} (P : X → Type 0) (xs : List X) (x : X) → AllByRecursion P xs → P x
    → AllByRecursion P (xs ++ x ∷ [])
all-push P [] x all here = (here, tt)
all-push P (y ∷ ys) x all here = (all.0, all-push P ys x all.1 here)

module _ {X : Type 0} (now : X → List ℕ) where
  abbrev same : X → X → Bool
  same x y = is_same_word (now x) (now y)

  inserted : (ks : List X) (k : X) (b : Bool)
      → map now (if b then ks else ks ++ k ∷ []) ≡ (if b then map now ks else map now ks
      ++ now k ∷ [])
  inserted ks k true = refl
  inserted ks k false = map_push now ks k

  grown : (words : List (List ℕ)) (w : List ℕ) (b : Bool) → AreNames words → IsName w
      → length words + 1 < 2 ^ 32 → IsDistinct is_same_word (if b then words else words ++ w ∷ [])
      → AreNames (if b then words else words ++ w ∷ [])
  grown words w true is name room d = is
  grown words w false is name room d = record {
    distinct = d;
    each = all-push IsName words w is.each name;
    few = omega (arith, length_push words w);
  }

  -- the names after a name is added
  pub AreNames-insert_key : (ks new : List X) (k : X) → AreNames (map now ks) → IsName (now k)
      → length (map now ks) + 1 < 2 ^ 32 → new ≡ insert_key same ks k → IsDistinct same new
      → AreNames (map now new)
  AreNames-insert_key ks new k is name room e d =
      let b : Bool = list_any (same k) ks in
      let shape : map now new ≡ (if b then map now ks else map now ks ++ now k ∷ []) = ap (map now)
      e ∙ inserted ks k b in
      subst AreNames (sym shape) (grown (map now ks) (now k) b is name room
      (subst (IsDistinct is_same_word) shape (IsDistinct-map is_same_word now new d)))

  by_none : (o : Option ℕ) (b r : Bool) → is_some o ≡ b → r ≡ not b → (IsTrue r) ↔ (o ≡ None)
  by_none None b r e q = ((λ h. refl), (λ h. q ∙ ap not (sym e)))
  by_none (Some n) b r e q = (
    (λ h. absurd (true≢false (sym h ∙ q ∙ ap not (sym e)))),
    (λ h. absurd (some_none n h)),
  )
    where
      some_none : (n : ℕ) → Some n ≡ None → ⊥
      some_none n h = cc

  -- a name is new exactly where it had no place
  pub added-place_of : (ks : List X) (k : X) (r : Bool) → r ≡ not (list_any (same k) ks)
      → (IsTrue r) ↔ (place_of (now k) (map now ks) ≡ None)
  added-place_of ks k r e = by_none (place_of (now k) (map now ks)) (list_any (same k) ks) r
      (place-any (is_same_word (now k)) (map now ks) ∙ list_any-map (is_same_word (now k)) now ks) e

-- other words are other in both orders
pub apart : (x y : List ℕ) → is_same_word x y ≡ false → is_same_word y x ≡ false
apart x y h = by (is_same_word y x) refl
  where
    by : (b : Bool) → is_same_word y x ≡ b → is_same_word y x ≡ false
    by false e = e
    by true e = absurd (true≢false
        (sym ((bytes_eq-Decides x y).1 (sym ((bytes_eq-Decides y x).0 e))) ∙ h))

-- what holds of each holds of the word at a place
pub all_at : (P : List ℕ → Type 0) (xs : List (List ℕ)) → AllByRecursion P xs → (i : ℕ) (w : List ℕ)
    → slice_get xs i ≡ Some w → P w
all_at P [] all i w e = absurd (none-some w e)
all_at P (x ∷ xs) all zero w e = subst P (same_Some x w e) all.0
all_at P (x ∷ xs) all (suc i) w e = all_at P xs all.1 i w e

-- each word of a table is a name
pub word_is_name : (words : List (List ℕ)) → AreNames words → (i : ℕ) (w : List ℕ)
    → slice_get words i ≡ Some w → IsName w
word_is_name words is i w e = all_at IsName words is.each i w e

-- and stands nowhere before its place
new_in : (words : List (List ℕ)) → IsDistinct is_same_word words → (i : ℕ) (w : List ℕ)
    → slice_get words i ≡ Some w → list_any (is_same_word w) (take i words) ≡ false
unfolding IsDistinct
new_in [] d i w e = absurd (none-some w e)
new_in (x ∷ xs) d zero w e = refl
new_in (x ∷ xs) d (suc i) w e = (λ k. apart x w (all_at (λ y. is_same_word x y ≡ false) xs d.0 i w
    e) k || list_any (is_same_word w) (take i xs)) ∙ new_in xs d.1 i w e

is_none : {X : Type 0} (o : Option X) → is_some o ≡ false → o ≡ None
is_none None h = refl
is_none (Some x) h = absurd (true≢false h)

take-one : (words : List (List ℕ)) (i : ℕ) (w : List ℕ) → slice_get words i ≡ Some w
    → take (suc i) words ≡ take i words ++ w ∷ []
take-one [] i w e = absurd (none-some w e)
take-one (x ∷ xs) zero w e = ap (λ y. y ∷ []) (same_Some x w e)
take-one (x ∷ xs) (suc i) w e = ap (λ l. x ∷ l) (take-one xs i w e)

-- so a copy of the first words grows by the next
pub copied_more : (words copy new : List (List ℕ)) (i : ℕ) (w : List ℕ) (r : Bool) → AreNames words
    → slice_get words i ≡ Some w → copy ≡ take i words → ((IsTrue r) ↔ (place_of w copy ≡ None))
    → new ≡ (if r then copy ++ w ∷ [] else copy) → new ≡ take (i + 1) words
copied_more words copy new i w r names at so_far fresh is =
    let none : place_of w copy ≡ None =
    ap (place_of w) so_far
    ∙ is_none (place_of w (take i words)) (place-any (is_same_word w) (take i words)
    ∙ new_in words names.distinct i w at) in
    let yes : r ≡ true = fresh.1 none in
    let next : suc i ≡ i + 1 = omega arith in
    is ∙ ap (λ b. if b then copy ++ w ∷ [] else copy) yes ∙ ap (λ l. l ++ w ∷ []) so_far
    ∙ sym (take-one words i w at) ∙ ap (λ n. take n words) next
