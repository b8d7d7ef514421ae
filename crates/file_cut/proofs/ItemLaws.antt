-- Reading items with commas between them is their grammar.
use Rattle.std.proofs.Common.{◌≡◌, ℕ, zero, suc, ◌<◌, ◌≤◌, List, [], ◌∷◌, ◌++◌, length, Option, Some, None, refl, sym, ap, ◌∙◌, subst, append_assoc, arith, length-append}
use Rattle.std.specs.Prelude.{option_and_then}
use Rattle.std.proofs.lemmas.Option.{some_pair_parts}
use Rattle.file_cut.specs.Trees.{SpellsEach}
use Rattle.file_cut.specs.Reading.{Reads, Turn, another, end, wrong, with_first, turned, after_item, items_within, items_at}
use Rattle.file_cut.specs.declared.mark.Mark.{Mark}
use Rattle.file_cut.specs.declared.mark.Mark.TheVariants.{Comma}

-- what is read is spelled by the tokens that were passed, one at least
pub record Found {A : Type 0} (Spelled : List Mark → A → Type 0) (ts : List Mark) (x : A)
    (rest : List Mark) : Type 0 where
  pub front : List Mark
  pub split : ts ≡ front ++ rest
  pub some : 0 < length front
  pub spelled : Spelled front x

-- what is read is spelled by what was passed over
abbrev pub IsSound : {A : Type 0} → Reads A → (List Mark → A → Type 0) → Type 0
IsSound {A} read Spelled = (ts : List Mark) (x : A) (rest : List Mark) → read ts ≡ Some (x, rest)
    → Found Spelled ts x rest

-- what is spelled is read, where what follows may follow
abbrev pub IsComplete : {A : Type 0} → Reads A → (List Mark → A → Type 0) → (List Mark → Type 0)
    → Type 0
IsComplete {A} read Spelled MayFollow = (front : List Mark) (x : A) (rest : List Mark)
    → Spelled front x → MayFollow rest → read (front ++ rest) ≡ Some (x, rest)

-- a bracket ends the items, and nothing else does
pub record Ends (turn : Mark → Turn) (close : Mark) : Type 0 where
  pub comma : turn Comma ≡ another
  pub closes : turn close ≡ end
  pub is_comma : (t : Mark) → turn t ≡ another → t ≡ Comma
  pub is_close : (t : Mark) → turn t ≡ end → t ≡ close

-- the tokens before the bracket spell the items
pub record FoundItems {A : Type 0} (Spelled : List Mark → A → Type 0) (close : Mark)
    (ts : List Mark) (xs : List A) (rest : List Mark) : Type 0 where
  pub inner : List Mark
  pub split : ts ≡ inner ++ close ∷ rest
  pub each : SpellsEach Spelled inner xs

module _ {A : Type 0} (turn : Mark → Turn) (close : Mark) (ends : Ends turn close) (item : Reads A)
    (Spelled : List Mark → A → Type 0) where
  -- one item more in front
  more_items : (ts : List Mark) (x : A) (t : Mark) (behind : List Mark) (xs : List A)
      (rest : List Mark) → Found Spelled ts x (t ∷ behind) → t ≡ Comma
      → FoundItems Spelled close behind xs rest → FoundItems Spelled close ts (x ∷ xs) rest
  more_items ts x t behind [] rest found comma items = absurd items.each
  more_items ts x t behind (y ∷ ys) rest found comma items = record {
    inner = found.front ++ Comma ∷ items.inner;
    split = found.split ∙ (λ i. found.front ++ comma i ∷ items.split i)
        ∙ sym (append_assoc found.front (Comma ∷ items.inner) (close ∷ rest));
    each = (found.front, items.inner, refl, found.spelled, items.each);
  }

  module _ (sound : IsSound item Spelled) where
    -- items that are read are spelled
    pub items-sound : (n : ℕ) (ts : List Mark) (xs : List A) (rest : List Mark)
        → items_within turn item n ts ≡ Some (xs, rest) → FoundItems Spelled close ts xs rest
    unfolding items_within
    items-sound zero ts xs rest e = cc
    items-sound (suc n) ts xs rest e = by_item (items-sound n) (item ts) refl e
      where
        by_rest : ((ts : List Mark) (xs : List A) (rest : List Mark)
            → items_within turn item n ts ≡ Some (xs, rest) → FoundItems Spelled close ts xs rest)
            → (x : A) (t : Mark) (behind : List Mark) → Found Spelled ts x (t ∷ behind) → t ≡ Comma
            → (r : Option (List A × List Mark)) → items_within turn item n behind ≡ r
            → with_first x r ≡ Some (xs, rest) → FoundItems Spelled close ts xs rest
        by_rest below x t behind found comma None same e = cc
        by_rest below x t behind found comma (Some (ys, after)) same e =
            let (here, there) = some_pair_parts (x ∷ ys) xs after rest e in
            subst (λ zs. FoundItems Spelled close ts zs rest) here
            (subst (λ r. FoundItems Spelled close ts (x ∷ ys) r) there
            (more_items ts x t behind ys after found comma (below behind ys after same)))

        by_turn : ((ts : List Mark) (xs : List A) (rest : List Mark)
            → items_within turn item n ts ≡ Some (xs, rest) → FoundItems Spelled close ts xs rest)
            → (x : A) (t : Mark) (behind : List Mark) → Found Spelled ts x (t ∷ behind)
            → (u : Turn) → turn t ≡ u → turned x (items_within turn item n) behind u
            ≡ Some (xs, rest) → FoundItems Spelled close ts xs rest
        by_turn below x t behind found another is e =
            by_rest below x t behind found (ends.is_comma t is)
            (items_within turn item n behind) refl e
        by_turn below x t behind found end is e =
            let (here, there) = some_pair_parts (x ∷ []) xs behind rest e in
            subst (λ zs. FoundItems Spelled close ts zs rest) here (record {
              inner = found.front;
              split = found.split ∙ (λ i. found.front ++ ends.is_close t is i ∷ there i);
              each = found.spelled;
            })
        by_turn below x t behind found wrong is e = cc

        by_item : ((ts : List Mark) (xs : List A) (rest : List Mark)
            → items_within turn item n ts ≡ Some (xs, rest) → FoundItems Spelled close ts xs rest)
            → (r : Option (A × List Mark)) → item ts ≡ r
            → option_and_then (λ p. after_item turn p.0 (items_within turn item n) p.1) r
            ≡ Some (xs, rest) → FoundItems Spelled close ts xs rest
        by_item below None same e = cc
        by_item below (Some (x, [])) same e = cc
        by_item below (Some (x, t ∷ behind)) same e =
            by_turn below x t behind (sound ts x (t ∷ behind) same) (turn t) refl e

  module _ (MayFollow : List Mark → Type 0) (complete : IsComplete item Spelled MayFollow)
      (before_comma : (rest : List Mark) → MayFollow (Comma ∷ rest))
      (before_close : (rest : List Mark) → MayFollow (close ∷ rest)) where
    -- items that are spelled are read
    pub items-complete : (n : ℕ) (inner : List Mark) (xs : List A) (rest : List Mark)
        → SpellsEach Spelled inner xs → length inner < n
        → items_within turn item n (inner ++ close ∷ rest) ≡ Some (xs, rest)
    unfolding items_within
    items-complete zero inner xs rest each fits = absurd (omega arith)
    items-complete (suc n) inner [] rest each fits = absurd each
    items-complete (suc n) inner (x ∷ []) rest each fits =
        ap (option_and_then (λ p. after_item turn p.0 (items_within turn item n) p.1))
        (complete inner x (close ∷ rest) each (before_close rest))
        ∙ ap (turned x (items_within turn item n) rest) ends.closes
    items-complete (suc n) inner (x ∷ y ∷ xs) rest (front, behind, split, first, others) fits =
        let regrouped : inner ++ close ∷ rest ≡ front ++ Comma
        ∷ (behind ++ close ∷ rest) = ap (λ l. l ++ close ∷ rest) split
        ∙ append_assoc front (Comma ∷ behind) (close ∷ rest) in
        let shorter : length behind < n =
        omega (arith, ap length split, length-append front (Comma ∷ behind)) in
        ap (option_and_then (λ p. after_item turn p.0 (items_within turn item n) p.1))
        (ap item regrouped ∙ complete front x (Comma ∷ (behind ++ close ∷ rest)) first
        (before_comma (behind ++ close ∷ rest)))
        ∙ ap (turned x (items_within turn item n) (behind ++ close ∷ rest)) ends.comma
        ∙ ap (with_first x) (items-complete n behind (y ∷ xs) rest others shorter)

-- what is read leaves fewer tokens
abbrev pub IsShorter : {A : Type 0} → Reads A → Type 0
IsShorter {A} read = (ts : List Mark) (x : A) (rest : List Mark) → read ts ≡ Some (x, rest)
    → length rest < length ts

-- what is sound leaves a shorter text
pub sound-shorter : {A : Type 0} (read : Reads A) (Spelled : List Mark → A → Type 0)
    → IsSound read Spelled → IsShorter read
sound-shorter read Spelled sound ts x rest e =
    let found = sound ts x rest e in
    omega (arith, ap length found.split, length-append found.front rest, found.some)

module _ {A : Type 0} (turn : Mark → Turn) (item : Reads A) (shorter : IsShorter item) where
  -- a bound on the turns doesn't matter, once it reaches the number of tokens
  items-enough : (n m : ℕ) (ts : List Mark) → length ts ≤ n → length ts ≤ m
      → items_within turn item n ts ≡ items_within turn item m ts
  unfolding items_within
  items-enough zero zero ts a b = refl
  items-enough zero (suc m) ts a b = by_item (item ts) refl
    where
      by_item : (r : Option (A × List Mark)) → item ts ≡ r
          → None ≡ option_and_then (λ p. after_item turn p.0 (items_within turn item m) p.1) r
      by_item None e = refl
      by_item (Some (x, rest)) e = absurd (omega (arith, shorter ts x rest e))
  items-enough (suc n) zero ts a b = by_item (item ts) refl
    where
      by_item : (r : Option (A × List Mark)) → item ts ≡ r
          → option_and_then (λ p. after_item turn p.0 (items_within turn item n) p.1) r ≡ None
      by_item None e = refl
      by_item (Some (x, rest)) e = absurd (omega (arith, shorter ts x rest e))
  items-enough (suc n) (suc m) ts a b = by_item (items-enough n m) (item ts) refl
    where
      by_turn : (x : A) (behind : List Mark)
          → items_within turn item n behind ≡ items_within turn item m behind → (u : Turn)
          → turned x (items_within turn item n) behind u
          ≡ turned x (items_within turn item m) behind u
      by_turn x behind same another = ap (with_first x) same
      by_turn x behind same end = refl
      by_turn x behind same wrong = refl

      by_item : ((ts : List Mark) → length ts ≤ n → length ts ≤ m
          → items_within turn item n ts ≡ items_within turn item m ts)
          → (r : Option (A × List Mark)) → item ts ≡ r
          → option_and_then (λ p. after_item turn p.0 (items_within turn item n) p.1) r
          ≡ option_and_then (λ p. after_item turn p.0 (items_within turn item m) p.1) r
      by_item below None e = refl
      by_item below (Some (x, [])) e = refl
      by_item below (Some (x, t ∷ behind)) e =
          let less : length (t ∷ behind) < length ts = shorter ts x (t ∷ behind) e in
          by_turn x behind (below behind (omega arith) (omega arith)) (turn t)

  -- an item, and then what comes after it
  pub items_at-step : (ts : List Mark)
      → items_at turn item ts ≡ option_and_then (λ p. after_item turn p.0 (items_at turn item) p.1)
      (item ts)
  unfolding items_at items_within
  items_at-step ts = items-enough (length ts) (suc (length ts)) ts (omega arith) (omega arith)
      ∙ by_item (item ts) refl
    where
      by_turn : (x : A) (behind : List Mark) → length behind ≤ length ts → (u : Turn)
          → turned x (items_within turn item (length ts)) behind u
          ≡ turned x (items_at turn item) behind u
      by_turn x behind fits another =
          ap (with_first x) (items-enough (length ts) (length behind) behind fits (omega arith))
      by_turn x behind fits end = refl
      by_turn x behind fits wrong = refl

      by_item : (r : Option (A × List Mark)) → item ts ≡ r
          → option_and_then (λ p. after_item turn p.0 (items_within turn item (length ts)) p.1) r
          ≡ option_and_then (λ p. after_item turn p.0 (items_at turn item) p.1) r
      by_item None e = refl
      by_item (Some (x, [])) e = refl
      by_item (Some (x, t ∷ behind)) e =
          let less : length (t ∷ behind) < length ts = shorter ts x (t ∷ behind) e in
          by_turn x behind (omega arith) (turn t)
