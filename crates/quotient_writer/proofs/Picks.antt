-- Laws of what is picked at first states.
use Rattle.std.proofs.Common.{◌≡◌, ℕ, zero, suc, ◌+◌, ◌<◌, ◌≤◌, Bool, true, false, ◌&&◌, ◌||◌, List, [], ◌∷◌, ◌++◌, drop, length, Option, Some, None, slice_get, refl, sym, ap, ◌∙◌, subst, true≢false, arith, append_assoc, append-nil, drop_of_length-le}
use Rattle.std.specs.Prelude.{◌==◌, nat_lt, if◌then◌else◌, is_some}
use Rattle.std.specs.List.{list_all, list_any, AllZip, AllByRecursion, IsDistinct}
use Rattle.std.proofs.lemmas.Bool.{and_parts, and_from, eqb-true, lt-ltb, ltb-true, eq-eqb, ne_eqb}
use Rattle.std.proofs.lemmas.Cmp.{nat_eq_equiv}
use Rattle.std.specs.Cmp.Lexicographic.{lists_equiv}
use Rattle.std.proofs.lemmas.Option.{none-some, same_Some}
use Rattle.std.proofs.lemmas.Slice.Zip.{AllZip-long}
use Rattle.functor_terms.specs.Words.{is_same_word, place_of}
use Rattle.functor_terms.proofs.WordLemmas.{place-any}
use Rattle.functor_terms.specs.Terms.{Nodes}
use Rattle.typing.specs.Values.{states_below}
use Rattle.typing.specs.Fits.{fits}
use Rattle.typing.specs.Order.{is_normal}
use Rattle.typing.specs.NormalForms.{IsRelabelledAt}
use Rattle.typing.proofs.RelabelLaws.{right_all}
use Rattle.quotient_writer.specs.Quotient.{numbers_from, picked_from, picked}
use Rattle.typing.specs.declared.value.Value.{Value}

-- no two of the words are the same
abbrev pub AreDistinct : List (List ℕ) → Type 0
AreDistinct = IsDistinct is_same_word

-- an element and what follows it
pub drop_at : {X : Type 0} (xs : List X) (i : ℕ) (x : X) → slice_get xs i ≡ Some x
    → drop i xs ≡ x ∷ drop (i + 1) xs
drop_at [] i x e = absurd (none-some x e)
drop_at (y ∷ xs) zero x e = ap (λ z. z ∷ xs) (same_Some y x e)
drop_at (y ∷ xs) (suc i) x e = drop_at xs i x e
    ∙ ap (λ n. x ∷ drop n (y ∷ xs)) (let e : suc (i + 1) ≡ suc i + 1 = omega arith in e)

-- as many are picked from one list as from another
pub picked-length : {X Y : Type 0} (n : ℕ) (b : List ℕ) (xs : List X) (ys : List Y)
    → length xs ≡ length ys → length (picked_from n b xs) ≡ length (picked_from n b ys)
picked-length n [] xs ys h = refl
picked-length n (k ∷ b) [] [] h = refl
picked-length n (k ∷ b) [] (y ∷ ys) h = absurd (omega arith)
picked-length n (k ∷ b) (x ∷ xs) [] h = absurd (omega arith)
picked-length n (k ∷ b) (x ∷ xs) (y ∷ ys) h = by (k == n) (picked-length (suc n) b xs ys
    (omega arith)) (picked-length n b xs ys (omega arith))
  where
    by : (o : Bool) → length (picked_from (suc n) b xs) ≡ length (picked_from (suc n) b ys)
        → length (picked_from n b xs) ≡ length (picked_from n b ys)
        → length (if o then x ∷ picked_from (suc n) b xs else picked_from n b xs)
        ≡ length (if o then y ∷ picked_from (suc n) b ys else picked_from n b ys)
    by true new old = ap suc new
    by false new old = old

-- each label is below the number of classes
pub numbers_below : {X : Type 0} (n : ℕ) (b : List ℕ) (xs : List X) → length b ≡ length xs
    → numbers_from n b ≡ true → list_all (λ k. nat_lt k (n + length (picked_from n b xs))) b ≡ true
numbers_below n [] xs l h = refl
numbers_below n (k ∷ b) [] l h = absurd (omega arith)
numbers_below n (k ∷ b) (x ∷ xs) l h = by (k == n) refl h (λ g. numbers_below (suc n) b xs
    (omega arith) g) (λ g. numbers_below n b xs (omega arith) g)
  where
    by : (o : Bool) → (k == n) ≡ o
        → (if o then numbers_from (suc n) b else (nat_lt k n && numbers_from n b)) ≡ true
        → (numbers_from (suc n) b ≡ true
        → list_all (λ j. nat_lt j (suc n + length (picked_from (suc n) b xs))) b ≡ true)
        → (numbers_from n b ≡ true → list_all (λ j. nat_lt j (n + length (picked_from n b xs)))
        b ≡ true)
        → list_all (λ j. nat_lt j
        (n + length (if o then x ∷ picked_from (suc n) b xs else picked_from n b xs))) (k ∷ b)
        ≡ true
    by true e h new old =
        let more : suc n + length (picked_from (suc n) b xs) ≡ n
        + length (x ∷ picked_from (suc n) b xs) = omega arith in
        let top : k < n + length (x ∷ picked_from (suc n) b xs) = omega (arith, eqb-true k n e) in
        and_from (nat_lt k (n + length (x ∷ picked_from (suc n) b xs)))
        (list_all (λ j. nat_lt j (n + length (x ∷ picked_from (suc n) b xs))) b)
        (lt-ltb k (n + length (x ∷ picked_from (suc n) b xs)) top)
        (subst (λ m. list_all (λ j. nat_lt j m) b ≡ true) more (new h))
    by false e h new old =
        let p = and_parts (nat_lt k n) (numbers_from n b) h in
        let top : k < n + length (picked_from n b xs) = omega (arith, ltb-true k n p.0) in
        and_from (nat_lt k (n + length (picked_from n b xs)))
        (list_all (λ j. nat_lt j (n + length (picked_from n b xs))) b)
        (lt-ltb k (n + length (picked_from n b xs)) top) (old p.1)

-- one element more is one more
pub length-push : {X : Type 0} (xs : List X) (x : X) → length (xs ++ x ∷ []) ≡ suc (length xs)
length-push [] x = refl
length-push (y ∷ ys) x = ap suc (length-push ys x)

-- the first of a class is picked
pub picked-new : {X : Type 0} (n k : ℕ) (b : List ℕ) (x : X) (xs : List X) → k ≡ n
    → picked_from n (k ∷ b) (x ∷ xs) ≡ x ∷ picked_from (suc n) b xs
picked-new n k b x xs e = ap (λ o. if o then x ∷ picked_from (suc n) b xs else picked_from n b xs)
    (eq-eqb k n e)

-- the step of a loop that picks
pub pick_more : {X : Type 0} (new : List X) (n k : ℕ) (b : List ℕ) (x : X) (xs : List X)
    → n ≡ length new → k ≡ n → new ++ picked_from n (k ∷ b) (x ∷ xs) ≡ (new ++ x ∷ [])
    ++ picked_from (length (new ++ x ∷ [])) b xs
pick_more new n k b x xs l e =
    ap (λ ys. new ++ ys) (picked-new n k b x xs e)
    ∙ sym (append_assoc new (x ∷ []) (picked_from (suc n) b xs))
    ∙ ap (λ m. (new ++ x ∷ []) ++ picked_from m b xs) (ap suc l ∙ sym (length-push new x))

pub pick_none : {X : Type 0} (new : List X) (n k : ℕ) (b : List ℕ) (x : X) (xs : List X)
    → (k ≡ n → ⊥) → picked_from n (k ∷ b) (x ∷ xs) ≡ picked_from n b xs
pick_none new n k b x xs h = ap (λ o. if o then x ∷ picked_from (suc n) b xs else picked_from n b
    xs) (ne_eqb k n h)

-- distinct words
pub apart_without : (xs : List (List ℕ)) (y : List ℕ) (ys : List (List ℕ))
    → AreDistinct (xs ++ y ∷ ys) → AreDistinct (xs ++ ys)
unfolding IsDistinct
apart_without [] y ys h = h.1
apart_without (x ∷ xs) y ys h = (without xs h.0, apart_without xs y ys h.1)
  where
    without : (zs : List (List ℕ)) → AllByRecursion (λ z. is_same_word x z ≡ false) (zs ++ y ∷ ys)
        → AllByRecursion (λ z. is_same_word x z ≡ false) (zs ++ ys)
    without [] a = a.1
    without (z ∷ zs) a = (a.0, without zs a.1)

pub any_same : (xs : List (List ℕ)) (y : List ℕ) (ys : List (List ℕ)) → AreDistinct (xs ++ y ∷ ys)
    → list_any (is_same_word y) xs ≡ false
unfolding IsDistinct
any_same [] y ys h = refl
any_same (x ∷ xs) y ys h = (λ i. ((lists_equiv nat_eq_equiv).symm y x ∙ at xs h.0) i || any_same xs
    y ys h.1 i)
  where
    at : (zs : List (List ℕ)) → AllByRecursion (λ z. is_same_word x z ≡ false) (zs ++ y ∷ ys)
        → is_same_word x y ≡ false
    at [] a = a.0
    at (z ∷ zs) a = at zs a.1

pub not_there : (xs : List (List ℕ)) (y : List ℕ) (ys : List (List ℕ)) → AreDistinct (xs ++ y ∷ ys)
    → place_of y xs ≡ None
not_there xs y ys h = by (place_of y xs) (place-any (is_same_word y) xs ∙ any_same xs y ys h)
  where
    by : (o : Option ℕ) → is_some o ≡ false → o ≡ None
    by None e = refl
    by (Some i) e = absurd (true≢false e)

-- where a loop that picks stands, before place i
module _ (R : Value → Value → Type 0) (b : List ℕ) (names : List (List ℕ)) (values : List Value)
  where
    -- what is picked from the first i states
    pub record IsPicking (i : ℕ) (new_names : List (List ℕ)) (new_values : List Value) : Type 0 where
      pub few : length new_names ≤ i
      pub apart : AreDistinct (new_names ++ drop i names)
      pub named : new_names ++ picked_from (length new_names) (drop i b) (drop i names)
          ≡ picked b names
      pub made : (more : List Value)
          → AllZip R (picked_from (length new_names) (drop i b) (drop i values)) more
          → AllZip R (picked b values) (new_values ++ more)

    -- before the first state nothing is picked
    pub picking_none : AreDistinct names → IsPicking 0 [] []
    picking_none h = record { few = omega arith; apart = h; named = refl; made = λ more z. z }

    module _ (i k : ℕ) (x : List ℕ) (v : Value) (label_at : slice_get b i ≡ Some k)
        (name_at : slice_get names i ≡ Some x) (value_at : slice_get values i ≡ Some v)
        (ns : List (List ℕ)) (vs : List Value) (is : IsPicking i ns vs) where
      -- another of a known class is not picked
      pub picking_old : (k ≡ length ns → ⊥) → IsPicking (i + 1) ns vs
      picking_old h =
          record {
            few = omega (arith, is.few);
            apart = apart_without ns x (drop (i + 1) names)
                (subst (λ (l : List (List ℕ)). AreDistinct (ns ++ l)) (drop_at names i x name_at)
                is.apart);
            named = ap (λ l. ns ++ l)
                (sym ((λ j. picked_from (length ns) (drop_at b i k label_at j)
                (drop_at names i x name_at j))
                ∙ pick_none ns (length ns) k (drop (i + 1) b) x (drop (i + 1) names) h)) ∙ is.named;
            made = λ more z. is.made more (subst (λ (l : List Value). AllZip R l more)
                (sym ((λ j. picked_from (length ns) (drop_at b i k label_at j)
                (drop_at values i v value_at j))
                ∙ pick_none vs (length ns) k (drop (i + 1) b) v (drop (i + 1) values) h)) z);
          }

      -- the name that is picked next is new
      pub name_is_new : place_of x ns ≡ None
      name_is_new = not_there ns x (drop (i + 1) names)
          (subst (λ (l : List (List ℕ)). AreDistinct (ns ++ l)) (drop_at names i x name_at) is.apart)

      -- the first of a class is picked next
      pub picking_new : (r : Value) → k ≡ length ns → R v r
          → IsPicking (i + 1) (ns ++ x ∷ []) (vs ++ r ∷ [])
      picking_new r h c =
          record {
            few = omega (arith, is.few, length-push ns x);
            apart = subst AreDistinct (ap (λ l. ns ++ l) (drop_at names i x name_at)
                ∙ sym (append_assoc ns (x ∷ []) (drop (i + 1) names))) is.apart;
            named = sym (ap (λ l. ns ++ l) (λ j. picked_from (length ns) (drop_at b i k label_at j)
                (drop_at names i x name_at j))
                ∙ pick_more ns (length ns) k (drop (i + 1) b) x (drop (i + 1) names) refl h)
                ∙ is.named;
            made = λ more z. subst (λ (l : List Value). AllZip R (picked b values) l)
                (sym (append_assoc vs (r ∷ []) more)) (is.made (r ∷ more)
                (subst (λ (l : List Value). AllZip R l (r ∷ more))
                (sym ((λ j. picked_from (length ns) (drop_at b i k label_at j)
                (drop_at values i v value_at j))
                ∙ picked-new (length ns) k (drop (i + 1) b) v (drop (i + 1) values) h)) (
                  c,
                  subst (λ (n : ℕ). AllZip R (picked_from n (drop (i + 1) b) (drop (i + 1) values))
                      more) (length-push ns x) z,
                )));
          }

    -- at the end all of the classes are picked
    pub picked_all : (i : ℕ) (ns : List (List ℕ)) (vs : List Value) → length b ≤ i → IsPicking i ns vs
        → (ns ≡ picked b names) × AllZip R (picked b values) vs
    picked_all i ns vs past is =
        let none : drop i b ≡ [] = drop_of_length-le b past in (
          sym (append-nil ns) ∙ ap (λ l. ns ++ picked_from (length ns) l (drop i names)) (sym none)
              ∙ is.named,
          subst (λ (l : List Value). AllZip R (picked b values) l) (append-nil vs)
              (is.made [] (subst (λ (l : List ℕ). AllZip R (picked_from (length ns) l (drop i values))
              []) (sym none) tt)),
        )

-- what holds of each element holds of those that are picked
all_picked : {X : Type 0} (p : X → Bool) (n : ℕ) (b : List ℕ) (xs : List X) → list_all p xs ≡ true
    → list_all p (picked_from n b xs) ≡ true
all_picked p n [] xs h = refl
all_picked p n (k ∷ b) [] h = refl
all_picked p n (k ∷ b) (x ∷ xs) h = let q = and_parts (p x) (list_all p xs) h in
    by (k == n) q.0 (all_picked p (suc n) b xs q.1) (all_picked p n b xs q.1)
  where
    by : (o : Bool) → p x ≡ true → list_all p (picked_from (suc n) b xs) ≡ true
        → list_all p (picked_from n b xs) ≡ true
        → list_all p (if o then x ∷ picked_from (suc n) b xs else picked_from n b xs) ≡ true
    by true here new old = and_from (p x) (list_all p (picked_from (suc n) b xs)) here new
    by false here new old = old

-- what is kept from each to its fellow is kept from one list to the other
zip_kept : {X : Type 0} (R : X → X → Type 0) (p : X → Bool) → ((x y : X) → R x y → p x ≡ true
    → p y ≡ true) → (xs ys : List X) → AllZip R xs ys → list_all p xs ≡ true → list_all p ys ≡ true
zip_kept R p keeps [] [] z h = refl
zip_kept R p keeps [] (y ∷ ys) z h = absurd z
zip_kept R p keeps (x ∷ xs) [] z h = absurd z
zip_kept R p keeps (x ∷ xs) (y ∷ ys) z h = let q = and_parts (p x) (list_all p xs) h in
    and_from (p y) (list_all p ys) (keeps x y z.0 q.0) (zip_kept R p keeps xs ys z.1 q.1)

-- what is known at the end
module _ (t : Nodes) (b : List ℕ) (names : List (List ℕ)) (values : List Value) (covers : length b
    ≡ length names) (one_each : length values ≡ length names) (numbered : numbers_from 0 b ≡ true)
    (ns : List (List ℕ)) (vs : List Value) (done : (ns ≡ picked b names)
    × AllZip (IsRelabelledAt t b 0) (picked b values) vs) where
  -- a value for each name
  pub end-one_each : length vs ≡ length ns
  end-one_each = AllZip-long (IsRelabelledAt t b 0) (picked b values) vs done.1
      ∙ picked-length 0 b values names one_each ∙ sym (ap length done.0)

  -- what is picked fits
  pub end-fitting : list_all (fits t 0) vs ≡ true
  end-fitting = right_all (IsRelabelledAt t b 0) (fits t 0) (picked b values) vs done.1
      (λ v r k. k.fitting)

  -- what is picked is in normal form
  pub end-normal : list_all (is_normal t 0) vs ≡ true
  end-normal = right_all (IsRelabelledAt t b 0) (is_normal t 0) (picked b values) vs done.1
      (λ v r k. k.normal)

  pub numbers-below : list_all (λ k. nat_lt k (length ns)) b ≡ true
  numbers-below = subst (λ (n : ℕ). list_all (λ k. nat_lt k n) b ≡ true)
      (let e : 0 + length (picked b names) ≡ length ns = omega (arith, ap length done.0) in
      e) (numbers_below 0 b names covers numbered)

  -- the states in what is picked are below their number
  pub end-in_range : list_all (states_below (length ns)) vs ≡ true
  end-in_range = right_all (IsRelabelledAt t b 0) (states_below (length ns)) (picked b values) vs
      done.1 (λ v r k. k.in_range (length ns) numbers-below)

  -- each value keeps what it is made from keeps
  pub end-kept : (p : Value → Bool) → ((v r : Value) → IsRelabelledAt t b 0 v r → p v ≡ true
      → p r ≡ true) → list_all p values ≡ true → list_all p vs ≡ true
  end-kept p keeps h = zip_kept (IsRelabelledAt t b 0) p keeps (picked b values) vs done.1
      (all_picked p 0 b values h)
