-- Reading trees is their grammar.
use Rattle.std.proofs.Common.{◌≡◌, ℕ, zero, suc, ◌-◌, ◌<◌, ◌≤◌, List, [], ◌∷◌, ◌++◌, length, Option, Some, None, Bool, true, false, refl, sym, ap, ◌∙◌, subst, append_assoc, append-nil, arith, length-append, inl, inr, ◌⊎◌}
use Rattle.std.specs.Prelude.{option_and_then, if◌then◌else◌}
use Rattle.std.proofs.lemmas.Option.{some_pair_parts, none-some}
use Rattle.file_cut.specs.Bytes.{are_digits}
use Rattle.file_cut.specs.Trees.{SpellsEach, SpellsEntry, SpellsOpen, SpellsWord, SpellsWithin, entry}
use Rattle.file_cut.specs.Trees.SpellsEntry.{alone, paired}
use Rattle.file_cut.specs.Trees.SpellsOpen.{same, tuple, inj, empty, braces}
use Rattle.file_cut.specs.Reading.{Reads, made_of, another, end, in_parens, in_braces, after_item, items_within, items_at, word_at, grouped, tuple_at, inj_at, behind_first, entry_at, braces_at, opened_at, tree_at}
use Rattle.file_cut.proofs.ItemLaws.{Found, IsSound, IsComplete, Ends, items-sound, items-complete, IsShorter, sound-shorter}
use Rattle.file_cut.specs.declared.mark.Mark.{Mark}
use Rattle.file_cut.specs.declared.mark.Mark.TheVariants.{Word, Inj, Open, Close, OpenBrace, CloseBrace, Comma, Colon}
use Rattle.file_cut.specs.declared.tree.Tree.{Tree}
use Rattle.file_cut.specs.declared.tree.Tree.TheVariants as tree
use Rattle.file_cut.specs.declared.tree.Entry.{Entry}

parens_end : Ends in_parens Close
parens_end = record { comma = refl; closes = refl; is_comma = comma_only; is_close = close_only }
  where
    comma_only : (t : Mark) → in_parens t ≡ another → t ≡ Comma
    comma_only Comma e = refl
    comma_only Close e = cc
    comma_only _ e = cc

    close_only : (t : Mark) → in_parens t ≡ end → t ≡ Close
    close_only Comma e = cc
    close_only Close e = refl
    close_only _ e = cc

braces_end : Ends in_braces CloseBrace
braces_end = record { comma = refl; closes = refl; is_comma = comma_only; is_close = close_only }
  where
    comma_only : (t : Mark) → in_braces t ≡ another → t ≡ Comma
    comma_only Comma e = refl
    comma_only CloseBrace e = cc
    comma_only _ e = cc

    close_only : (t : Mark) → in_braces t ≡ end → t ≡ CloseBrace
    close_only Comma e = cc
    close_only CloseBrace e = refl
    close_only _ e = cc

-- found as this value, with this rest
found_as : {A : Type 0} (Spelled : List Mark → A → Type 0) (ts : List Mark) (x y : A)
    (s r : List Mark) → ◌≡◌ {A = Option (A × List Mark)} (Some (x, s)) (Some (y, r))
    → Found Spelled ts x s → Found Spelled ts y r
found_as Spelled ts x y s r e found = let (here, there) = some_pair_parts x y s r e in
    subst (λ z. Found Spelled ts z r) here (subst (Found Spelled ts x) there found)

-- a word
word-sound : IsSound word_at SpellsWord
word-sound [] x rest e = cc
word-sound (Word w ∷ ts) x rest e =
    found_as SpellsWord (Word w ∷ ts) (tree.Word w) x ts rest e
    (record { front = Word w ∷ []; split = refl; some = omega arith; spelled = (w, refl, refl) })
word-sound (_ ∷ ts) x rest e = cc

word-complete : (front : List Mark) (x : Tree) (rest : List Mark) → SpellsWord front x
    → word_at (front ++ rest) ≡ Some (x, rest)
word-complete front x rest (w, is, made) = ap (λ l. word_at (l ++ rest)) is
    ∙ ap (λ t. Some (t, rest)) (sym made)

-- what f of what was read came from
mapped : {A B : Type 0} (f : A → B) (r : Option (A × List Mark)) (y : B) (rest : List Mark)
    → made_of f r ≡ Some (y, rest) → (x : A) × (r ≡ Some (x, rest)) × (f x ≡ y)
mapped f None y rest e = cc
mapped f (Some (x, s)) y rest e = let (here, there) = some_pair_parts (f x) y s rest e in
    (x, ap (λ r. Some (x, r)) there, here)

module _ (inside : Reads Tree) (Inside : List Mark → Tree → Type 0) where
  module _ (sound : IsSound inside Inside) where
    -- entries
    behind-sound : (front : List Mark) (first : Tree) (ts : List Mark) (x : Entry)
        (rest : List Mark) → 0 < length front → Inside front first
        → behind_first inside first ts ≡ Some (x, rest)
        → Found (SpellsEntry Inside) (front ++ ts) x rest
    behind-sound front first (Colon ∷ ts) x rest some spelled e =
        let (second, read, made) = mapped (λ u. entry first (Some u)) (inside ts) x rest e in
        let found = sound ts second rest read in
        record {
          front = front ++ Colon ∷ found.front;
          split = ap (λ l. front ++ Colon ∷ l) found.split
              ∙ sym (append_assoc front (Colon ∷ found.front) rest);
          some = omega (arith, length-append front (Colon ∷ found.front));
          spelled = paired front found.front first second refl spelled found.spelled (sym made);
        }
    behind-sound front first [] x rest some spelled e =
        found_as (SpellsEntry Inside) (front ++ []) (entry first None) x [] rest e
        (record {
          front = front;
          split = refl;
          some = some;
          spelled =
              alone first spelled refl;
        })
    behind-sound front first (t ∷ ts) x rest some spelled e =
        found_as (SpellsEntry Inside) (front ++ t ∷ ts) (entry first None) x (t ∷ ts) rest e
        (record {
          front = front;
          split = refl;
          some = some;
          spelled =
              alone first spelled refl;
        })

    pub entry-sound : IsSound (entry_at inside) (SpellsEntry Inside)
    entry-sound ts x rest e = by_first (inside ts) refl e
      where
        by_first : (r : Option (Tree × List Mark)) → inside ts ≡ r
            → option_and_then (λ p. behind_first inside p.0 p.1) r ≡ Some (x, rest)
            → Found (SpellsEntry Inside) ts x rest
        by_first None is e = cc
        by_first (Some (first, behind)) is e =
            let found = sound ts first behind is in
            subst (λ l. Found (SpellsEntry Inside) l x rest) (sym found.split)
            (behind-sound found.front first behind x rest found.some found.spelled e)

    -- one tree in parentheses, or a tuple
    grouped-sound : (inner : List Mark) (parts : List Tree) → SpellsEach Inside inner parts
        → SpellsOpen Inside (Open ∷ inner ++ Close ∷ []) (grouped parts)
    grouped-sound inner [] each = absurd each
    grouped-sound inner (t ∷ []) each = same inner refl each
    grouped-sound inner (t ∷ u ∷ parts) each =
        tuple inner (t ∷ u ∷ parts) refl (omega arith) each refl

    tuple-sound : (ts : List Mark) (x : Tree) (rest : List Mark)
        → tuple_at inside ts ≡ Some (x, rest) → Found (SpellsOpen Inside) (Open ∷ ts) x rest
    unfolding items_at
    tuple-sound ts x rest e =
        let (parts, read, made) = mapped grouped
        (items_within in_parens inside (length ts) ts) x rest e in
        let found = items-sound in_parens Close parens_end inside Inside sound
        (length ts) ts parts rest read in
        record {
          front = Open ∷ found.inner ++ Close ∷ [];
          split = ap (λ l. Open ∷ l) (found.split
              ∙ sym (append_assoc found.inner (Close ∷ []) rest));
          some = omega arith;
          spelled = subst (SpellsOpen Inside (Open ∷ found.inner ++ Close ∷ [])) made
              (grouped-sound found.inner parts found.each);
        }

    inj-sound : (ts : List Mark) (x : Tree) (rest : List Mark) → inj_at inside ts ≡ Some (x, rest)
        → Found (SpellsOpen Inside) (Inj ∷ ts) x rest
    inj-sound [] x rest e = cc
    inj-sound (Word index ∷ ts) x rest e = by_digits (are_digits index) refl e
      where
        by_digits : (b : Bool) → are_digits index ≡ b
            → (if b then made_of (tree.Inj index) (inside ts) else None) ≡ Some (x, rest)
            → Found (SpellsOpen Inside) (Inj ∷ Word index ∷ ts) x rest
        by_digits false is e = cc
        by_digits true is e =
            let (u, read, made) = mapped (tree.Inj index) (inside ts) x rest e in
            let found = sound ts u rest read in
            record {
              front = Inj ∷ Word index ∷ found.front;
              split = ap (λ l. Inj ∷ Word index ∷ l) found.split;
              some = omega arith;
              spelled = inj index found.front u refl is found.spelled (sym made);
            }
    inj-sound (_ ∷ ts) x rest e = cc

    entries-sound : (ts : List Mark) (x : Tree) (rest : List Mark)
        → made_of tree.Braces (items_at in_braces (entry_at inside) ts) ≡ Some (x, rest)
        → Found (SpellsOpen Inside) (OpenBrace ∷ ts) x rest
    unfolding items_at
    entries-sound ts x rest e =
        let (entries, read, made) = mapped tree.Braces
        (items_within in_braces (entry_at inside) (length ts) ts) x rest e in
        let found = items-sound in_braces CloseBrace braces_end (entry_at inside)
        (SpellsEntry Inside) entry-sound (length ts) ts entries rest read in
        record {
          front = OpenBrace ∷ found.inner ++ CloseBrace ∷ [];
          split = ap (λ l. OpenBrace ∷ l)
              (found.split ∙ sym (append_assoc found.inner (CloseBrace ∷ []) rest));
          some = omega arith;
          spelled = braces found.inner entries refl found.each (sym made);
        }

    braces-sound : (ts : List Mark) (x : Tree) (rest : List Mark)
        → braces_at inside ts ≡ Some (x, rest) → Found (SpellsOpen Inside) (OpenBrace ∷ ts) x rest
    braces-sound [] x rest e = entries-sound [] x rest e
    braces-sound (CloseBrace ∷ ts) x rest e =
        found_as (SpellsOpen Inside) (OpenBrace ∷ CloseBrace ∷ ts) (tree.Braces []) x ts rest e
        (record {
          front = OpenBrace ∷ CloseBrace
              ∷ [];
          split = refl;
          some = omega arith;
          spelled = empty refl refl;
        })
    braces-sound (t ∷ ts) x rest e = entries-sound (t ∷ ts) x rest e

    left : (ts : List Mark) (x : Tree) (rest : List Mark) → Found SpellsWord ts x rest
        → Found (λ ts t. SpellsWord ts t ⊎ SpellsOpen Inside ts t) ts x rest
    left ts x rest found = record
        { front = found.front; split = found.split; some = found.some; spelled = inl found.spelled }

    right : (ts : List Mark) (x : Tree) (rest : List Mark) → Found (SpellsOpen Inside) ts x rest
        → Found (λ ts t. SpellsWord ts t ⊎ SpellsOpen Inside ts t) ts x rest
    right ts x rest found = record
        { front = found.front; split = found.split; some = found.some; spelled = inr found.spelled }

    pub opened-sound : IsSound (opened_at inside) (λ ts t. SpellsWord ts t ⊎ SpellsOpen Inside ts t)
    opened-sound (Open ∷ ts) x rest e = right (Open ∷ ts) x rest (tuple-sound ts x rest e)
    opened-sound (Inj ∷ ts) x rest e = right (Inj ∷ ts) x rest (inj-sound ts x rest e)
    opened-sound (OpenBrace ∷ ts) x rest e =
        right (OpenBrace ∷ ts) x rest (braces-sound ts x rest e)
    opened-sound ts x rest e = left ts x rest (word-sound ts x rest e)

  -- a colon would go on with the entry
  abbrev NoColon : List Mark → Type 0
  NoColon (Colon ∷ ts) = ⊥
  NoColon _ = Unit {0}

  alone-read : (first : Tree) (rest : List Mark) → NoColon rest
      → behind_first inside first rest ≡ Some (entry first None, rest)
  alone-read first [] follows = refl
  alone-read first (Colon ∷ ts) follows = absurd follows
  alone-read first (t ∷ ts) follows = refl

  module _ (complete : IsComplete inside Inside (λ _. Unit {0}))
      (refused : (ts : List Mark) → inside (CloseBrace ∷ ts) ≡ None) where
    entry-complete : IsComplete (entry_at inside) (SpellsEntry Inside) NoColon
    entry-complete front x rest (alone first spelled made) follows =
        ap (option_and_then (λ p. behind_first inside p.0 p.1))
        (complete front first rest spelled tt)
        ∙ alone-read first rest follows ∙ ap (λ e. Some (e, rest)) (sym made)
    entry-complete front x rest (paired before behind first second is before_spelled behind_spelled
        made) follows =
        let regrouped : front ++ rest ≡ before ++ Colon ∷ (behind ++ rest) = ap (λ l. l ++ rest) is
        ∙ append_assoc before (Colon ∷ behind) rest in
        ap (option_and_then (λ p. behind_first inside p.0 p.1))
        (ap inside regrouped ∙ complete before first
        (Colon ∷ (behind ++ rest)) before_spelled tt)
        ∙ ap (made_of (λ u. entry first (Some u))) (complete behind second rest behind_spelled tt)
        ∙ ap (λ e. Some (e, rest)) (sym made)

    grouped-tuple : (parts : List Tree) → 2 ≤ length parts → grouped parts ≡ tree.Tuple parts
    grouped-tuple [] h = absurd (omega arith)
    grouped-tuple (t ∷ []) h = absurd (omega arith)
    grouped-tuple (t ∷ u ∷ parts) h = refl

    tuple-complete : (inner : List Mark) (parts : List Tree) (rest : List Mark)
        → SpellsEach Inside inner parts
        → tuple_at inside (inner ++ Close ∷ rest) ≡ Some (grouped parts, rest)
    unfolding items_at
    tuple-complete inner parts rest each =
        ap (made_of grouped) (items-complete in_parens Close parens_end inside Inside
        (λ _. Unit {0}) complete (λ _. tt) (λ _. tt)
        (length (inner ++ Close ∷ rest)) inner parts rest each
        (omega (arith, length-append inner (Close ∷ rest))))

    inj-complete : (index : List ℕ) (inner : List Mark) (u : Tree) (rest : List Mark)
        → are_digits index ≡ true → Inside inner u
        → inj_at inside (Word index ∷ inner ++ rest) ≡ Some (tree.Inj index u, rest)
    inj-complete index inner u rest digits spelled =
        ap (λ b. if b then made_of (tree.Inj index) (inside (inner ++ rest)) else None) digits
        ∙ ap (made_of (tree.Inj index)) (complete inner u rest spelled tt)

    -- no entry begins with a closing brace
    entries-braces : (ts : List Mark) (entries : List Entry) (rest : List Mark)
        → items_at in_braces (entry_at inside) ts ≡ Some (entries, rest)
        → braces_at inside ts ≡ Some (tree.Braces entries, rest)
    unfolding items_at items_within
    entries-braces [] entries rest e = ap (made_of tree.Braces) e
    entries-braces (CloseBrace ∷ ts) entries rest e =
        absurd (none-some (entries, rest)
        (sym (ap (λ r. option_and_then
        (λ p. after_item in_braces p.0 (items_within in_braces (entry_at inside) (length ts)) p.1)
        (option_and_then (λ p. behind_first inside p.0 p.1) r)) (refused ts)) ∙ e))
    entries-braces (t ∷ ts) entries rest e = ap (made_of tree.Braces) e

    entries-complete : (inner : List Mark) (entries : List Entry) (rest : List Mark)
        → SpellsEach (SpellsEntry Inside) inner entries
        → items_at in_braces (entry_at inside) (inner ++ CloseBrace ∷ rest) ≡ Some (entries, rest)
    unfolding items_at
    entries-complete inner entries rest each =
        items-complete in_braces CloseBrace braces_end (entry_at inside)
        (SpellsEntry Inside) NoColon entry-complete (λ _. tt) (λ _. tt)
        (length (inner ++ CloseBrace ∷ rest)) inner entries rest each
        (omega (arith, length-append inner (CloseBrace ∷ rest)))

    bracketed : (first last : Mark) (front inner rest : List Mark)
        → front ≡ first ∷ inner ++ last ∷ [] → front ++ rest ≡ first ∷ (inner ++ last ∷ rest)
    bracketed first last front inner rest is = ap (λ l. l ++ rest) is
        ∙ ap (λ l. first ∷ l) (append_assoc inner (last ∷ []) rest)

    open-complete : (front : List Mark) (x : Tree) (rest : List Mark) → SpellsOpen Inside front x
        → opened_at inside (front ++ rest) ≡ Some (x, rest)
    open-complete front x rest (same inner is spelled) =
        ap (opened_at inside) (bracketed Open Close front inner rest is)
        ∙ tuple-complete inner (x ∷ []) rest spelled
    open-complete front x rest (tuple inner parts is two each made) =
        ap (opened_at inside) (bracketed Open Close front inner rest is)
        ∙ tuple-complete inner parts rest each
        ∙ ap (λ t. Some (t, rest)) (grouped-tuple parts two ∙ sym made)
    open-complete front x rest (inj index inner u is digits spelled made) =
        ap (λ l. opened_at inside (l ++ rest)) is ∙ inj-complete index inner u rest digits spelled
        ∙ ap (λ t. Some (t, rest)) (sym made)
    open-complete front x rest (empty is made) = ap (λ l. opened_at inside (l ++ rest)) is
        ∙ ap (λ t. Some (t, rest)) (sym made)
    open-complete front x rest (braces inner entries is each made) =
        ap (opened_at inside) (bracketed OpenBrace CloseBrace front inner rest is)
        ∙ entries-braces (inner ++ CloseBrace ∷ rest) entries rest
        (entries-complete inner entries rest each) ∙ ap (λ t. Some (t, rest)) (sym made)

    opened-complete : (front : List Mark) (x : Tree) (rest : List Mark)
        → SpellsWord front x ⊎ SpellsOpen Inside front x
        → opened_at inside (front ++ rest) ≡ Some (x, rest)
    opened-complete front x rest (inl (w, is, made)) = ap (λ l. opened_at inside (l ++ rest)) is
        ∙ ap (λ t. Some (t, rest)) (sym made)
    opened-complete front x rest (inr spelled) = open-complete front x rest spelled

-- what is read from the front is spelled there
pub tree-sound : (n : ℕ) → IsSound (tree_at n) (SpellsWithin n)
unfolding tree_at SpellsWithin
tree-sound zero = word-sound
tree-sound (suc n) = opened-sound (tree_at n) (SpellsWithin n) (tree-sound n)

brace-refused : (n : ℕ) (ts : List Mark) → tree_at n (CloseBrace ∷ ts) ≡ None
unfolding tree_at
brace-refused zero ts = refl
brace-refused (suc n) ts = refl

-- what is spelled in front is read, whatever follows
pub tree-complete : (n : ℕ) (front : List Mark) (x : Tree) (rest : List Mark)
    → SpellsWithin n front x → tree_at n (front ++ rest) ≡ Some (x, rest)
unfolding tree_at SpellsWithin
tree-complete zero front x rest spelled = word-complete front x rest spelled
tree-complete (suc n) front x rest spelled =
    opened-complete (tree_at n) (SpellsWithin n)
    (λ front x rest spelled _. tree-complete n front x rest spelled)
    (brace-refused n) front x rest spelled

-- no tokens spell two trees
pub one_tree : (n : ℕ) (ts : List Mark) (x y : Tree) → SpellsWithin n ts x → SpellsWithin n ts y
    → x ≡ y
one_tree n ts x y a b = (some_pair_parts x y [] []
    (sym (tree-complete n ts x [] a) ∙ tree-complete n ts y [] b)).0

-- a tree leaves fewer marks
pub tree-shorter : (n : ℕ) → IsShorter (tree_at n)
tree-shorter n = sound-shorter (tree_at n) (SpellsWithin n) (tree-sound n)

-- an entry leaves fewer marks
pub entry-shorter : (n : ℕ) → IsShorter (entry_at (tree_at n))
entry-shorter n = sound-shorter (entry_at (tree_at n)) (SpellsEntry (SpellsWithin n))
    (entry-sound (tree_at n) (SpellsWithin n) (tree-sound n))

-- no room is a word alone, and with room for one more a bracket may open
pub tree_at-none : (n : ℕ) (ts : List Mark) → n ≡ 0 → tree_at n ts ≡ word_at ts
unfolding tree_at
tree_at-none n ts e = ap (λ m. tree_at m ts) e

-- with room for one more bracket a tree is what stands behind the first mark
pub tree_at-room : (n : ℕ) (ts : List Mark) → (n ≡ 0 → ⊥)
    → tree_at n ts ≡ opened_at (tree_at (n - 1)) ts
unfolding tree_at
tree_at-room n ts some = let e : n ≡ suc (n - 1) = by n some in ap (λ m. tree_at m ts) e
  where
    by : (n : ℕ) → (n ≡ 0 → ⊥) → n ≡ suc (n - 1)
    by n some = omega arith

-- behind braces that aren't closed at once, entries are read
pub braces_at-none : (n : ℕ) (ts : List Mark) → ts ≡ [] → braces_at (tree_at n) ts ≡ None
unfolding items_at items_within
braces_at-none n ts e = ap (braces_at (tree_at n)) e

-- what the tokens spell is read from them, and nothing is left
whole : (n : ℕ) (ts : List Mark) (t : Tree) → SpellsWithin n ts t → tree_at n ts ≡ Some (t, [])
whole n ts t spelled = ap (tree_at n) (sym (append-nil ts)) ∙ tree-complete n ts t [] spelled

-- a tree with nothing behind it is spelled
pub whole-spelled : (n : ℕ) (ts : List Mark) (t : Tree) (rest : List Mark)
    → tree_at n ts ≡ Some (t, rest) → rest ≡ [] → SpellsWithin n ts t
whole-spelled n ts t rest e none =
    let found = tree-sound n ts t rest e in
    subst (λ l. SpellsWithin n l t)
    (sym (found.split ∙ ap (λ l. found.front ++ l) none ∙ append-nil found.front)) found.spelled

-- where nothing is read, nothing is spelled
pub none-spelled : (n : ℕ) (ts : List Mark) → tree_at n ts ≡ None → (t : Tree)
    → SpellsWithin n ts t → ⊥
none-spelled n ts e t spelled = none-some (t, []) (sym e ∙ whole n ts t spelled)

-- nor where more is left
pub more-spelled : (n : ℕ) (ts : List Mark) (x : Tree) (m : Mark) (others : List Mark)
    → tree_at n ts ≡ Some (x, m ∷ others) → (t : Tree) → SpellsWithin n ts t → ⊥
more-spelled n ts x m others e t spelled = let (here, there) =
    some_pair_parts x t (m ∷ others) [] (sym e ∙ whole n ts t spelled) in cc

-- no tokens are two lines
pub one_line : (n : ℕ) (ts : List Mark) (head other : List ℕ) (x y : Tree)
    → ((rest : List Mark) × (ts ≡ Word head ∷ Colon ∷ rest) × SpellsWithin n rest x)
    → ((rest : List Mark) × (ts ≡ Word other ∷ Colon ∷ rest) × SpellsWithin n rest y)
    → (head ≡ other) × (x ≡ y)
one_line n ts head other x y (rest, is, spelled) (more, was, spells) =
    let both : Word head ∷ Colon ∷ rest ≡ Word other ∷ Colon ∷ more = sym is ∙ was in
    let heads : head ≡ other = cc in
    let rests : rest ≡ more = cc in
    (heads, one_tree n more x y (subst (λ l. SpellsWithin n l x) rests spelled) spells)
