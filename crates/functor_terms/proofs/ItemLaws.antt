-- Items with a sign between each two: they are read exactly where they are spelled.
use Rattle.std.proofs.Common.{◌≡◌, ℕ, zero, suc, ◌≤◌, List, [], ◌∷◌, ◌++◌, length, Option, Some, None, Bool, true, false, refl, sym, ap, ◌∙◌, subst, append_assoc, arith}
use Rattle.std.specs.Prelude.{option_map, option_and_then, if◌then◌else◌}
use Rattle.std.specs.Option.{option_map_or}
use Rattle.std.proofs.lemmas.Option.{some_pair_parts}
use Rattle.functor_terms.specs.declared.sign.Sign.{Sign}
use Rattle.functor_terms.specs.Grammar.{SpellsEach}
use Rattle.functor_terms.specs.Reading.{Reads, behind_sign, ended, others_behind, joined_by, items_from}
use Rattle.functor_terms.proofs.SignTests.{IsTestOf, behind_is, sign_behind}

-- what is read is spelled by the tokens that were passed
pub record Found {A : Type 0} (Spelled : List Sign → A → Type 0) (ts : List Sign) (x : A)
    (rest : List Sign) : Type 0 where
  pub front : List Sign
  pub split : ts ≡ front ++ rest
  pub spelled : Spelled front x

-- what is found is found under another name of the same
pub found_as : {A : Type 0} (Spelled : List Sign → A → Type 0) (ts : List Sign) (x y : A)
    (s r : List Sign) → ◌≡◌ {A = Option (A × List Sign)} (Some (x, s)) (Some (y, r))
    → Found Spelled ts x s → Found Spelled ts y r
found_as Spelled ts x y s r e found = let (here, there) = some_pair_parts x y s r e in
    subst (λ z. Found Spelled ts z r) here (subst (Found Spelled ts x) there found)

-- what is read is spelled
abbrev pub IsSound : {A : Type 0} → Reads A → (List Sign → A → Type 0) → Type 0
IsSound {A} read Spelled = (ts : List Sign) (x : A) (rest : List Sign) → read ts ≡ Some (x, rest)
    → Found Spelled ts x rest

-- what is spelled is read, where what follows may follow
abbrev pub IsComplete : {A : Type 0} → Reads A → (List Sign → A → Type 0) → (List Sign → Type 0)
    → Type 0
IsComplete {A} read Spelled MayFollow = (front : List Sign) (x : A) (rest : List Sign)
    → Spelled front x → MayFollow rest → read (front ++ rest) ≡ Some (x, rest)

-- what was read, and what follows it
pub and_then_of : {A B : Type 0} (f : A → Reads B) (r : Option (A × List Sign)) (y : B)
    (rest : List Sign) → option_and_then (λ p. f p.0 p.1) r ≡ Some (y, rest)
    → (x : A) × (behind : List Sign) × (r ≡ Some (x, behind)) × (f x behind ≡ Some (y, rest))
and_then_of f None y rest e = cc
and_then_of f (Some (x, s)) y rest e = (x, s, refl, e)

-- a value behind a condition
pub if_some : {A : Type 0} (b : Bool) (x y : Option A) (z : A) → y ≡ None
    → (if b then x else y) ≡ Some z → (b ≡ true) × (x ≡ Some z)
if_some true x y z none e = (refl, e)
if_some false x y z none e = cc

-- what is ended was read before the wanted sign
pub ended_of : {A : Type 0} (passes : Sign → Bool) (sign : Sign) (test : IsTestOf passes sign)
    (x y : A) (ts rest : List Sign) → ended passes x ts ≡ Some (y, rest)
    → (x ≡ y) × (ts ≡ sign ∷ rest)
ended_of {A = A} passes sign test x y ts rest e = by (behind_sign passes ts) refl e
  where
    by : (r : Option (List Sign)) → behind_sign passes ts ≡ r
        → ◌≡◌ {A = Option (A × List Sign)} (option_map (λ s. (x, s)) r) (Some (y, rest))
        → (x ≡ y) × (ts ≡ sign ∷ rest)
    by None is e = cc
    by (Some s) is e = let (here, there) = some_pair_parts x y s rest e in
        (here, behind_is passes sign test ts s is ∙ ap (λ l. sign ∷ l) there)

-- the wanted sign ends what was read
pub ended_at : {A : Type 0} (passes : Sign → Bool) (sign : Sign) (test : IsTestOf passes sign)
    (x : A) (rest : List Sign) → ended passes x (sign ∷ rest) ≡ Some (x, rest)
ended_at {A = A} passes sign test x rest =
    ap (λ (r : Option (List Sign)). option_map {T = List Sign} {U = A × List Sign} (λ s. (x, s)) r)
    (sign_behind passes sign test rest)

module _ {A : Type 0} (item : Reads A) (passes : Sign → Bool) (between : Sign)
    (test : IsTestOf passes between) (joins : List A → A → Bool) where
  -- the items before, and more that were read
  pub record FoundItems (Spelled : List Sign → A → Type 0) (Kept : List A → Type 0) (n : ℕ)
      (before : List A) (ts : List Sign) (items : List A) (rest : List Sign) : Type 0 where
    pub more : List A
    pub front : List Sign
    pub items_are : items ≡ before ++ more
    pub split : ts ≡ front ++ rest
    pub each : SpellsEach between Spelled front more
    pub kept : Kept items
    pub count : length more ≤ n

  module _ (Spelled : List Sign → A → Type 0) (sound : IsSound item Spelled)
      (Kept : List A → Type 0) (keeps : (before : List A) (x : A) (ts : List Sign) → Kept before
      → joins before x ≡ true → Spelled ts x → Kept (before ++ x ∷ [])) where
    last_item : (n : ℕ) (before : List A) (ts : List Sign) (x : A) (behind : List Sign)
        (items : List A) (rest : List Sign) → Kept before → joins before x ≡ true
        → Found Spelled ts x behind → ◌≡◌ {A = Option (List A × List Sign)}
        (Some (before ++ x ∷ [], behind)) (Some (items, rest))
        → FoundItems Spelled Kept (suc n) before ts items rest
    last_item n before ts x behind items rest kept joined found e =
        let (here, there) = some_pair_parts (before ++ x ∷ []) items behind rest e in
        record {
          more = x ∷ [];
          front = found.front;
          items_are = sym here;
          split = found.split ∙ ap (λ l. found.front ++ l) there;
          each = found.spelled;
          kept = subst Kept here (keeps before x found.front kept joined found.spelled);
          count = omega arith;
        }

    more_items : (n : ℕ) (before : List A) (ts : List Sign) (x : A) (behind : List Sign)
        (items : List A) (rest : List Sign) → Found Spelled ts x (between ∷ behind)
        → FoundItems Spelled Kept n (before ++ x ∷ []) behind items rest
        → FoundItems Spelled Kept (suc n) before ts items rest
    more_items n before ts x behind items rest found others =
        by others.more others.each others.items_are others.count
      where
        by : (more : List A) → SpellsEach between Spelled others.front more
            → items ≡ (before ++ x ∷ []) ++ more → length more ≤ n
            → FoundItems Spelled Kept (suc n) before ts items rest
        by [] each are count = absurd each
        by (y ∷ ys) each are count = record {
          more = x ∷ y ∷ ys;
          front = found.front ++ between ∷ others.front;
          items_are = are ∙ append_assoc before (x ∷ []) (y ∷ ys);
          split = found.split ∙ ap (λ l. found.front ++ between ∷ l) others.split
              ∙ sym (append_assoc found.front (between ∷ others.front) rest);
          each = (found.front, others.front, refl, found.spelled, each);
          kept = others.kept;
          count = omega (arith, count);
        }

    -- items that are read are spelled
    pub items-sound : (n : ℕ) (before : List A) (ts : List Sign) (items : List A)
        (rest : List Sign) → Kept before → items_from item passes joins n before ts ≡ Some
        (items, rest) → FoundItems Spelled Kept n before ts items rest
    unfolding items_from
    items-sound zero before ts items rest kept e = cc
    items-sound (suc n) before ts items rest kept e = by_item (items-sound n) (item ts) refl e
      where
        by_sign : ((before : List A) (ts : List Sign) (items : List A) (rest : List Sign)
            → Kept before → items_from item passes joins n before ts ≡ Some (items, rest)
            → FoundItems Spelled Kept n before ts items rest)
            → (x : A) (behind : List Sign) → item ts ≡ Some (x, behind) → joins before x ≡ true
            → (r : Option (List Sign)) → behind_sign passes behind ≡ r
            → option_map_or (items_from item passes joins n (before ++ x ∷ [])) r
            (Some (before ++ x ∷ [], behind)) ≡ Some (items, rest)
            → FoundItems Spelled Kept (suc n) before ts items rest
        by_sign below x behind is joined None next e =
            last_item n before ts x behind items rest kept joined (sound ts x behind is) e
        by_sign below x behind is joined (Some others) next e =
            let found = sound ts x behind is in
            let ends : behind ≡ between ∷ others =
            behind_is passes between test behind others next in
            more_items n before ts x others items rest (subst (Found Spelled ts x) ends found)
            (below (before ++ x ∷ []) others items rest
            (keeps before x found.front kept joined found.spelled) e)

        by_join : ((before : List A) (ts : List Sign) (items : List A) (rest : List Sign)
            → Kept before → items_from item passes joins n before ts ≡ Some (items, rest)
            → FoundItems Spelled Kept n before ts items rest)
            → (x : A) (behind : List Sign) → item ts ≡ Some (x, behind) → (b : Bool)
            → joins before x ≡ b
            → (if b then others_behind item passes joins (before ++ x ∷ [])
            (items_from item passes joins n) behind else None) ≡ Some (items, rest)
            → FoundItems Spelled Kept (suc n) before ts items rest
        by_join below x behind is true joined e = by_sign below x behind is joined
            (behind_sign passes behind) refl e
        by_join below x behind is false joined e = cc

        by_item : ((before : List A) (ts : List Sign) (items : List A) (rest : List Sign)
            → Kept before → items_from item passes joins n before ts ≡ Some (items, rest)
            → FoundItems Spelled Kept n before ts items rest)
            → (r : Option (A × List Sign)) → item ts ≡ r
            → option_and_then (λ p. joined_by item passes joins before p.0
            (items_from item passes joins n) p.1) r ≡ Some (items, rest)
            → FoundItems Spelled Kept (suc n) before ts items rest
        by_item below None is e = cc
        by_item below (Some (x, behind)) is e = by_join below x behind is (joins before x) refl e

  -- each item may come behind those before it
  abbrev pub Join : List A → List A → Type 0
  Join before [] = Unit {0}
  Join before (x ∷ xs) = (joins before x ≡ true) × Join (before ++ x ∷ []) xs

  module _ (Spelled : List Sign → A → Type 0) (MayFollow : List Sign → Type 0)
      (complete : IsComplete item Spelled MayFollow) (between_follows : (rest : List Sign)
      → MayFollow (between ∷ rest)) where
    -- items that are spelled are read
    pub items-complete : (n : ℕ) (before : List A) (front : List Sign) (more : List A)
        (rest : List Sign) → SpellsEach between Spelled front more → Join before more
        → MayFollow rest → behind_sign passes rest ≡ None → length more ≤ n
        → items_from item passes joins n before (front ++ rest) ≡ Some
        (before ++ more, rest)
    unfolding items_from
    items-complete n before front [] rest each joined follows ends fits = absurd each
    items-complete zero before front (x ∷ xs) rest each joined follows ends fits =
        absurd (omega (arith, fits))
    items-complete (suc n) before front (x ∷ []) rest each joined follows ends fits =
        ap (option_and_then (λ p. joined_by item passes joins before p.0
        (items_from item passes joins n) p.1)) (complete front x rest each follows)
        ∙ ap (λ b. if b then others_behind item passes joins (before ++ x ∷ [])
        (items_from item passes joins n) rest else None) joined.0
        ∙ ap (λ r. option_map_or (items_from item passes joins n (before ++ x ∷ [])) r
        (Some (before ++ x ∷ [], rest))) ends
    items-complete (suc n) before front (x ∷ y ∷ ys) rest
        (ahead, behind, split, first, others) joined follows ends fits =
        let regrouped : front ++ rest ≡ ahead ++ between ∷ (behind ++ rest) =
        ap (λ l. l ++ rest) split ∙ append_assoc ahead (between ∷ behind) rest in
        ap (option_and_then (λ p. joined_by item passes joins before p.0
        (items_from item passes joins n) p.1)) (ap item regrouped
        ∙ complete ahead x (between ∷ (behind ++ rest)) first
        (between_follows (behind ++ rest)))
        ∙ ap (λ b. if b then others_behind item passes joins (before ++ x ∷ [])
        (items_from item passes joins n) (between ∷ (behind ++ rest)) else None) joined.0
        ∙ ap (λ r. option_map_or (items_from item passes joins n (before ++ x ∷ [])) r
        (Some (before ++ x ∷ [], between ∷ (behind ++ rest))))
        (sign_behind passes between test (behind ++ rest))
        ∙ items-complete n (before ++ x ∷ []) behind (y ∷ ys) rest others joined.1 follows ends
        (omega (arith, fits))
        ∙ ap (λ l. Some (l, rest)) (append_assoc before (x ∷ []) (y ∷ ys))
