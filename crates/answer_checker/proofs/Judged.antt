-- What is found by the numbers of lines is what the rules say of the lines.
use Rattle.std.proofs.Common.{◌≡◌, ℕ, zero, suc, ◌+◌, ◌<◌, ◌==◌, Bool, true, false, List, [], ◌∷◌, length, map, get_or, Some, refl, sym, ap, ◌∙◌, subst, arith, true≢false}
use Rattle.std.specs.Prelude.{slice_get, slice_index}
use Rattle.std.specs.List.{All}
use Rattle.std.proofs.lemmas.Bool.{eq-eqb, ne_eqb}
use Rattle.std.proofs.lemmas.List.Elements.{All-head, All-tail}
use Rattle.std.proofs.lemmas.Option.{same_Some, none-some, slice_get_within, get_or_from_slice_get}
use Rattle.formula_text.specs.Reading.{block_seen}
use Rattle.formula_text.specs.declared.answer.BlockLine.{BlockLine as TheBlockLine}
use Rattle.answer_checker.specs.Blocks.{BlockLine, has_state, times_in, line_of, line_numbers}
use Rattle.answer_checker.specs.Rules.{StandOnce, HoldsExactly, HoldAllExactly, IsFirstWrong, AreLikeFirsts, PassesRules}
use Rattle.typing.specs.Contents.{Content}
use Rattle.answer_checker.specs.Verdicts.{block_line, lines_seen, IsReason}
use Rattle.answer_checker.specs.Steps.{ArePlaces}
use Rattle.answer_checker.specs.declared.places.Place.{Place}
use Rattle.answer_checker.specs.declared.verdict.Reason.{Reason}
use Rattle.answer_checker.specs.declared.verdict.Reason.TheVariants.{Missing, Twice, Unstable, Wrong}
use Rattle.answer_checker.specs.Truths.{IsRightLine, AreRightBefore, IsWrongBy, AreAllRight, IsReasonFound}
use Rattle.answer_checker.specs.Laws.{CiteBelow}
use Rattle.answer_checker.proofs.Counts.{one_line, line_of-has}
use Rattle.answer_checker.proofs.RightAnswers.{no_line, number_is, numbers_count}

-- the formula of a line that is seen
pub seen_formula :
    (names : List (List ℕ)) (blocks : List TheBlockLine) (k : ℕ) (line : BlockLine) →
    slice_get (lines_seen names blocks) k ≡ Some line →
    slice_get (map (λ (b : TheBlockLine). b.formula) blocks) k ≡ Some line.formula
seen_formula names [] k line at = absurd (none-some line at)
seen_formula names (b ∷ blocks) zero line at =
    ap (λ (l : BlockLine). Some l.formula)
    (same_Some (block_line names (block_seen b)) line at)
seen_formula names (b ∷ blocks) (suc k) line at = seen_formula names blocks k line at

-- the line of a formula that is seen
pub seen_line :
    (names : List (List ℕ)) (blocks : List TheBlockLine) (k f : ℕ) →
    slice_get (map (λ (b : TheBlockLine). b.formula) blocks) k ≡ Some f →
    (line : BlockLine) × (slice_get (lines_seen names blocks) k ≡ Some line) × (line.formula ≡ f)
seen_line names [] k f at = absurd (none-some f at)
seen_line names (b ∷ blocks) zero f at =
    (block_line names (block_seen b), refl, same_Some b.formula f at)
seen_line names (b ∷ blocks) (suc k) f at = seen_line names blocks k f at

-- lines that are seen cite formulas that are there
pub seen_below :
    (names : List (List ℕ)) (n : ℕ) (blocks : List TheBlockLine) →
    All (λ (b : TheBlockLine). b.formula < n) blocks → CiteBelow n (lines_seen names blocks)
seen_below names n [] all k line at = absurd (none-some line at)
seen_below names n (b ∷ blocks) all zero line at =
    subst (λ (l : BlockLine). l.formula < n) (same_Some (block_line names (block_seen b)) line at)
    (All-head (λ (b : TheBlockLine). b.formula < n) b blocks all)
seen_below names n (b ∷ blocks) all (suc k) line at =
    seen_below names n blocks (All-tail (λ (b : TheBlockLine). b.formula < n) b blocks all) k line
    at

-- there are as many
pub seen_count :
    (names : List (List ℕ)) (blocks : List TheBlockLine) →
    length (lines_seen names blocks) ≡ length blocks
seen_count names [] = refl
seen_count names (b ∷ blocks) = ap suc (seen_count names blocks)

module _ (n : ℕ) (lines : List BlockLine) (once : StandOnce n lines) where
  -- each state has the number of a line
  pub number_below : (x : ℕ) → x < n → slice_index (line_numbers lines n) x < length lines
  number_below x h =
      let some : 0 < times_in lines x = omega (arith, once x h) in
      subst (λ k. k < length lines) (sym (number_is lines n x h)) (line_of-has lines no_line x
      some).0

  -- a line has the states that have its number
  has_number :
      (x k : ℕ) (line : BlockLine) → x < n → slice_get lines k ≡ Some line →
      has_state line x ≡ (slice_index (line_numbers lines n) x == k)
  has_number x k line h at = by (has_state line x) refl
    where
      some : 0 < times_in lines x
      some = omega (arith, once x h)

      there : get_or lines k no_line ≡ line
      there = get_or_from_slice_get lines k line no_line at

      by : (o : Bool) → has_state line x ≡ o → o ≡ (slice_index (line_numbers lines n) x == k)
      by true has =
          let is = line_of-has lines no_line x some in
          let same : line_of lines x ≡ k =
          one_line lines (line_of lines x) k no_line x (omega (arith, once x h)) is.0
          (slice_get_within lines k line at) is.1
          (ap (λ (l : BlockLine). has_state l x) there ∙ has) in
          sym (eq-eqb (slice_index (line_numbers lines n) x) k (number_is lines n x h ∙ same))
      by false has =
          let is = line_of-has lines no_line x some in
          let apart : slice_index (line_numbers lines n) x ≡ k → ⊥ =
          λ same. true≢false
          (sym is.1
          ∙ ap (λ j. has_state (get_or lines j no_line) x) (sym (number_is lines n x h) ∙ same)
          ∙ ap (λ (l : BlockLine). has_state l x) there ∙ has) in
          sym (ne_eqb (slice_index (line_numbers lines n) x) k apart)

  module _ (told : ℕ → ℕ → Bool) where
    -- a line is right by its number
    right_line :
        (k m : ℕ) (line : BlockLine) → m < n + 1 → slice_get lines k ≡ Some line →
        AreRightBefore told (line_numbers lines n) line.formula k m → HoldsExactly told m line
    right_line k m line low at right x h =
        right x h ∙ sym (has_number x k line (omega (arith, low, h)) at)

    -- the first wrong line by numbers is the first wrong one
    pub wrong_line :
        (k f x : ℕ) (line : BlockLine) → slice_get lines k ≡ Some line → line.formula ≡ f →
        (wrong : IsWrongBy told (line_numbers lines n) f k x) →
        ((j : ℕ) (other : BlockLine) → j < k → slice_get lines j ≡ Some other →
        IsRightLine told (line_numbers lines n) other.formula j) →
        IsFirstWrong told n lines f x
    wrong_line k f x line at is wrong before =
        let in_n : x < n = omega (arith, wrong.state, numbers_count lines n) in
        let by_own = subst
        (λ g. IsWrongBy told (line_numbers lines n) g k x) (sym is)
        wrong in (
          k,
          line,
          is,
          record {
            there = at;
            state = in_n;
            wrong = λ right. by_own.wrong (right ∙ has_number x k line in_n at);
            right_before = right_line k x line (omega (arith, in_n)) at by_own.right_before;
            lines_before = λ j other l at'.
                right_line j n other (omega arith) at'
                (λ y h. before j other l at' y (omega (arith, h, numbers_count lines n)));
          },
        )

    -- lines that are right by their numbers are right
    pub right_lines :
        ((j : ℕ) (other : BlockLine) → slice_get lines j ≡ Some other →
        IsRightLine told (line_numbers lines n) other.formula j) → HoldAllExactly told n lines
    right_lines all j other l at =
        right_line j n other (omega arith) at
        (λ y h. all j other at y (omega (arith, h, numbers_count lines n)))

-- the numbers of the lines, as they are read off the places
pub numbers_are :
    (n : ℕ) (lines : List BlockLine) (places first second : List Place) (numbers : List ℕ) →
    first ≡ places → second ≡ places → length places ≡ n → ArePlaces lines places →
    ((ls : List BlockLine) → ArePlaces ls first → StandOnce (length first) ls) →
    ((ls : List BlockLine) → ArePlaces ls second → StandOnce (length second) ls →
    numbers ≡ line_numbers ls (length second)) →
    StandOnce n lines × (numbers ≡ line_numbers lines n)
numbers_are n lines places first second numbers same same' count are once is =
    let stand : StandOnce n lines =
    subst (λ m. StandOnce m lines) (ap length same ∙ count)
    (once lines (subst (ArePlaces lines) (sym same) are)) in (
      stand,
      is lines (subst (ArePlaces lines) (sym same') are)
          (subst (λ m. StandOnce m lines) (sym (ap length same' ∙ count)) stand)
          ∙ ap (line_numbers lines) (ap length same' ∙ count),
    )

module _ (c : Content) (told : ℕ → ℕ → Bool) (names : List (List ℕ)) (blocks : List TheBlockLine)
    (once : StandOnce (length c.values) (lines_seen names blocks)) (numbers : List ℕ)
    (are : numbers ≡ line_numbers (lines_seen names blocks) (length c.values))
    (like : AreLikeFirsts c.term c.values numbers) where
  -- the states are like the firsts of their blocks
  like_lines :
      AreLikeFirsts c.term c.values (line_numbers (lines_seen names blocks) (length c.values))
  like_lines = subst (AreLikeFirsts c.term c.values) are like

  -- each line is right
  pub rules_pass :
      AreAllRight told numbers (map (λ (b : TheBlockLine). b.formula) blocks) →
      PassesRules c.term c.values told (lines_seen names blocks)
  rules_pass right = record {
    once = once;
    like_firsts = like_lines;
    formulas =
        right_lines (length c.values) (lines_seen names blocks) once told
        (λ j other at. subst (λ ns. IsRightLine told ns other.formula j) are
        (right j other.formula (seen_formula names blocks j other at)));
  }

  -- some line is wrong
  pub reason_found :
      (reason : Reason) →
      IsReasonFound told numbers (map (λ (b : TheBlockLine). b.formula) blocks) reason →
      IsReason c told (lines_seen names blocks) reason
  reason_found (Missing i) h = absurd h
  reason_found (Twice i) h = absurd h
  reason_found (Unstable x y) h = absurd h
  reason_found (Wrong f x) h =
      let (line, at, is) = seen_line names blocks h.line f h.there in (
        once,
        like_lines,
        wrong_line (length c.values) (lines_seen names blocks) once told h.line f x line at is
            (subst (λ ns. IsWrongBy told ns f h.line x) are h.wrong)
            (λ j other l at'. subst (λ ns. IsRightLine told ns other.formula j) are
            (h.lines_before j other.formula l (seen_formula names blocks j other at'))),
      )
