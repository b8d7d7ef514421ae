-- Places of states, as the lines are read.
use Rattle.std.proofs.Common.{◌≡◌, ℕ, ◌+◌, ◌<◌, ◌≤◌, ◌==◌, Bool, true, false, List, [], ◌∷◌, ◌++◌, length, get_or, set, map, take, drop, refl, sym, ap, ◌∙◌, subst, arith, inl, inr}
use Rattle.std.specs.Prelude.{if◌then◌else◌}
use Rattle.std.proofs.lemmas.Bool.{cases_eq, eq-eqb, ne_eqb}
use Rattle.std.proofs.lemmas.List.{take_more, take_all, drop_all, append-nil, map-append, length-map, length-take-le, length-set, get_or-set_same, get_or-set_other}
use Rattle.answer_checker.specs.Blocks.{BlockLine, line_with, times_among, times_in}
use Rattle.formula_text.specs.Reading.{block_seen}
use Rattle.formula_text.specs.declared.answer.BlockLine.{BlockLine as TheBlockLine}
use Rattle.answer_checker.specs.Verdicts.{number_of, block_line, lines_seen}
use Rattle.answer_checker.specs.Steps.{put_again, IsPlaceOf, ArePlaces}
use Rattle.answer_checker.specs.declared.places.Place.{Place}
use Rattle.answer_checker.specs.declared.places.Place.TheVariants.{Nowhere, In, Again}
use Rattle.answer_checker.proofs.Counts.{has_counted, times_among-push, times_in-push, line_of-earlier, line_of-last, line_of-same, list_any-push}

-- a line with no state moves no state
place_begun :
    (lines : List BlockLine) (f i : ℕ) (place : Place) → IsPlaceOf lines i place →
    IsPlaceOf (lines ++ line_with f [] ∷ []) i place
place_begun lines f i Nowhere is =
    let count = times_in-push lines (line_with f []) i in omega (arith, count, is)
place_begun lines f i (In k) is =
    let count = times_in-push lines (line_with f []) i in (
      omega (arith, count, is.0),
      line_of-earlier lines (line_with f [] ∷ []) i (omega (arith, is.0)) ∙ is.1,
    )
place_begun lines f i Again is =
    let count = times_in-push lines (line_with f []) i in omega (arith, count, is)

module _ (lines : List BlockLine) (f : ℕ) (ss : List ℕ) (s : ℕ) where
  -- the lines before and behind the step
  abbrev old_lines : List BlockLine
  old_lines = lines ++ line_with f ss ∷ []

  abbrev new_lines : List BlockLine
  new_lines = lines ++ line_with f (ss ++ s ∷ []) ∷ []

  -- how often a state stands behind the step
  count_more :
      (i : ℕ) → times_in new_lines i ≡ times_in old_lines i + (if s == i then 1 else 0)
  count_more i =
      let before = times_in-push lines (line_with f ss) i in
      let behind = times_in-push lines (line_with f (ss ++ s ∷ [])) i in
      let more = times_among-push ss s i in omega (arith, before, behind, more)

  -- the state itself
  place_again :
      (i : ℕ) (place : Place) → (s == i) ≡ true → IsPlaceOf old_lines i place →
      IsPlaceOf new_lines i (put_again (length lines) place)
  place_again i Nowhere same is =
      let count : times_in new_lines i ≡ times_in old_lines i + 1 =
      count_more i ∙ ap (λ (o : Bool). times_in old_lines i + (if o then 1 else 0)) same in
      let before = times_in-push lines (line_with f ss) i in
      let more : times_among (ss ++ s ∷ []) i ≡ times_among ss i + 1 =
      times_among-push ss s i ∙ ap (λ (o : Bool). times_among ss i + (if o then 1 else 0)) same in (
        omega (arith, count, is),
        line_of-last lines (line_with f (ss ++ s ∷ [])) i (omega (arith, before, is))
            (has_counted (line_with f (ss ++ s ∷ [])) i (omega (arith, more))),
      )
  place_again i (In k) same is =
      let count : times_in new_lines i ≡ times_in old_lines i + 1 =
      count_more i ∙ ap (λ (o : Bool). times_in old_lines i + (if o then 1 else 0)) same in
      omega (arith, count, is.0)
  place_again i Again same is =
      let count : times_in new_lines i ≡ times_in old_lines i + 1 =
      count_more i ∙ ap (λ (o : Bool). times_in old_lines i + (if o then 1 else 0)) same in
      omega (arith, count, is)

  -- another state
  place_still :
      (i : ℕ) (place : Place) → (s == i) ≡ false → IsPlaceOf old_lines i place →
      IsPlaceOf new_lines i place
  place_still i Nowhere other is =
      let count : times_in new_lines i ≡ times_in old_lines i + 0 =
      count_more i ∙ ap (λ (o : Bool). times_in old_lines i + (if o then 1 else 0)) other in
      omega (arith, count, is)
  place_still i (In k) other is =
      let count : times_in new_lines i ≡ times_in old_lines i + 0 =
      count_more i ∙ ap (λ (o : Bool). times_in old_lines i + (if o then 1 else 0)) other in (
        omega (arith, count, is.0),
        line_of-same lines (line_with f (ss ++ s ∷ [])) (line_with f ss) i
            (list_any-push ss s i other) ∙ is.1,
      )
  place_still i Again other is =
      let count : times_in new_lines i ≡ times_in old_lines i + 0 =
      count_more i ∙ ap (λ (o : Bool). times_in old_lines i + (if o then 1 else 0)) other in
      omega (arith, count, is)

  -- a state is put into the last line
  pub put_more :
      (places : List Place) → s < length places → ArePlaces old_lines places →
      ArePlaces new_lines (set places s (put_again (length lines) (get_or places s Nowhere)))
  put_more places inside are i h =
      let p : Place = put_again (length lines) (get_or places s Nowhere) in
      elim (cases_eq i s) [
        | inl same ↦
            subst (IsPlaceOf new_lines i)
            (ap (λ j. put_again (length lines) (get_or places j Nowhere)) same
            ∙ sym (get_or-set_same places s p Nowhere inside)
            ∙ ap (λ j. get_or (set places s p) j Nowhere) (sym same))
            (place_again i (get_or places i Nowhere) (eq-eqb s i (sym same))
            (are i (omega (arith, same))))
        | inr other ↦
            subst (IsPlaceOf new_lines i) (sym (get_or-set_other places s i p Nowhere other))
            (place_still i (get_or places i Nowhere) (ne_eqb s i (λ e. other (sym e)))
            (are i (omega (arith, h, length-set places s p))))
      ]

  -- what is no state moves none
  pub put_none :
      (places : List Place) → length places ≤ s → ArePlaces old_lines places →
      ArePlaces new_lines places
  put_none places past are i h =
      place_still i (get_or places i Nowhere) (ne_eqb s i (λ e. omega (arith, e, past, h)))
      (are i h)

-- a line begins with no state
pub line_begun :
    (lines : List BlockLine) (f : ℕ) (places : List Place) → ArePlaces lines places →
    ArePlaces (lines ++ line_with f [] ∷ []) places
line_begun lines f places are i h = place_begun lines f i (get_or places i Nowhere) (are i h)

-- what is made of what is made
pub map-map :
    {A B C : Type 0} (f : B → C) (g : A → B) (xs : List A)
    → map f (map g xs) ≡ map (λ x. f (g x)) xs
map-map f g [] = refl
map-map f g (x ∷ xs) = ap (λ ys. f (g x) ∷ ys) (map-map f g xs)

-- a slice that was lent is written back
pub written_back :
    (n : ℕ) (new items : List Place) → n ≡ length items → length new ≡ length items →
    take n (new ++ drop (length new) items) ≡ new
written_back n new items count same =
    ap (λ xs. take n (new ++ xs)) (drop_all (length new) items (omega (arith, same)))
    ∙ ap (take n) (append-nil new) ∙ take_all n new (omega (arith, count, same))

module _ (names : List (List ℕ)) (blocks : List TheBlockLine) (i : ℕ) (below : i < length blocks)
  where
    -- so many lines are seen
    pub lines_seen-count : length (lines_seen names (take i blocks)) ≡ i
    lines_seen-count =
        length-map (map block_seen (take i blocks)) (block_line names)
        ∙ length-map (take i blocks) block_seen ∙ length-take-le i blocks (omega (arith, below))

    -- the lines with one more
    pub lines_seen-more :
        (b : TheBlockLine) → get_or blocks i b ≡ b →
        lines_seen names (take (i + 1) blocks)
        ≡ lines_seen names (take i blocks)
        ++ line_with b.formula (map (λ word. number_of names word.now) b.names.items) ∷ []
    lines_seen-more b at =
        ap (lines_seen names) (take_more blocks i b below)
        ∙ ap (λ x. lines_seen names (take i blocks ++ x ∷ [])) at
        ∙ ap (map (block_line names)) (map-append block_seen (take i blocks) (b ∷ []))
        ∙ map-append (block_line names) (map block_seen (take i blocks)) (block_seen b ∷ [])
        ∙ ap (λ ss. lines_seen names (take i blocks) ++ line_with b.formula ss ∷ [])
        (map-map (number_of names) (λ name. name.now) b.names.items)
