-- How often states stand in block lines, and in which.
use Rattle.std.proofs.Common.{◌≡◌, ℕ, zero, suc, ◌+◌, ◌<◌, ◌≤◌, ◌==◌, Bool, true, false, ◌||◌, List, [], ◌∷◌, ◌++◌, length, get_or, refl, sym, ap, true≢false, arith}
use Rattle.std.specs.Prelude.{if◌then◌else◌}
use Rattle.std.specs.List.{list_any}
use Rattle.answer_checker.specs.Blocks.{BlockLine, has_state, times_among, times_in, line_of}

-- a state that a line has is counted there
pub counted :
    (ss : List ℕ) (i : ℕ) → list_any (λ s. s == i) ss ≡ true → 0 < times_among ss i
counted [] i h = absurd (true≢false (sym h))
counted (s ∷ ss) i h = by (s == i) h (counted ss i)
  where
    by : (o : Bool) → (o || list_any (λ s. s == i) ss) ≡ true →
        (list_any (λ s. s == i) ss ≡ true → 0 < times_among ss i) →
        0 < (if o then 1 else 0) + times_among ss i
    by true h later = omega arith
    by false h later = let more = later h in omega arith

-- and no other
pub uncounted :
    (ss : List ℕ) (i : ℕ) → list_any (λ s. s == i) ss ≡ false → times_among ss i ≡ 0
uncounted [] i h = refl
uncounted (s ∷ ss) i h = by (s == i) h (uncounted ss i)
  where
    by : (o : Bool) → (o || list_any (λ s. s == i) ss) ≡ false →
        (list_any (λ s. s == i) ss ≡ false → times_among ss i ≡ 0) →
        (if o then 1 else 0) + times_among ss i ≡ 0
    by true h later = absurd (true≢false h)
    by false h later = let none = later h in omega arith

-- a state that is counted is one that the line has
pub has_counted : (line : BlockLine) (i : ℕ) → 0 < times_among line.states i
    → has_state line i ≡ true
has_counted line i some = by (has_state line i) refl
  where
    by : (o : Bool) → has_state line i ≡ o → o ≡ true
    by true is = refl
    by false is = let none = uncounted line.states i is in absurd (omega arith)

-- a state that some line has stands in the lines
pub stands :
    (lines : List BlockLine) (k : ℕ) (d : BlockLine) (i : ℕ) → k < length lines →
    has_state (get_or lines k d) i ≡ true → 0 < times_in lines i
stands [] k d i below h = absurd (omega arith)
stands (line ∷ lines) zero d i below h = let some = counted line.states i h in omega arith
stands (line ∷ lines) (suc k) d i below h =
    let some = stands lines k d i (omega arith) h in omega arith

-- a state that stands at most once is in one line
pub one_line :
    (lines : List BlockLine) (k l : ℕ) (d : BlockLine) (i : ℕ) → times_in lines i ≤ 1 →
    k < length lines → l < length lines → has_state (get_or lines k d) i ≡ true →
    has_state (get_or lines l d) i ≡ true → k ≡ l
one_line [] k l d i few hk hl a b = absurd (omega arith)
one_line (line ∷ lines) zero zero d i few hk hl a b = refl
one_line (line ∷ lines) zero (suc l) d i few hk hl a b =
    let here = counted line.states i a in
    let there = stands lines l d i (omega arith) b in absurd (omega arith)
one_line (line ∷ lines) (suc k) zero d i few hk hl a b =
    let here = counted line.states i b in
    let there = stands lines k d i (omega arith) a in absurd (omega arith)
one_line (line ∷ lines) (suc k) (suc l) d i few hk hl a b =
    ap suc (one_line lines k l d i (omega arith) (omega arith) (omega arith) a b)

-- a state that stands in the lines stands in the first line that has it
pub line_of-has :
    (lines : List BlockLine) (d : BlockLine) (i : ℕ) → 0 < times_in lines i →
    (line_of lines i < length lines) × (has_state (get_or lines (line_of lines i) d) i ≡ true)
line_of-has [] d i some = absurd (omega arith)
line_of-has (line ∷ lines) d i some = by (has_state line i) refl (line_of-has lines d i)
  where
    by : (o : Bool) → has_state line i ≡ o →
        (0 < times_in lines i →
        (line_of lines i < length lines) × (has_state (get_or lines (line_of lines i) d) i ≡ true))
        →
        ((if o then 0 else suc (line_of lines i)) < suc (length lines))
        × (has_state (get_or (line ∷ lines) (if o then 0 else suc (line_of lines i)) d) i ≡ true)
    by true is later = (omega arith, is)
    by false is later =
        let none = uncounted line.states i is in
        let rest = later (omega arith) in (omega (arith, rest.0), rest.1)

-- ---- lines put last

-- a state put last among others
pub times_among-push :
    (ss : List ℕ) (s i : ℕ) →
    times_among (ss ++ s ∷ []) i ≡ times_among ss i + (if s == i then 1 else 0)
times_among-push [] s i = omega arith
times_among-push (x ∷ ss) s i = let more = times_among-push ss s i in omega arith

-- a line put last
pub times_in-push :
    (lines : List BlockLine) (line : BlockLine) (i : ℕ) →
    times_in (lines ++ line ∷ []) i ≡ times_in lines i + times_among line.states i
times_in-push [] line i = omega arith
times_in-push (x ∷ lines) line i = let more = times_in-push lines line i in omega arith

-- the line of a state that stands in earlier lines
pub line_of-earlier :
    (lines more : List BlockLine) (i : ℕ) → 0 < times_in lines i →
    line_of (lines ++ more) i ≡ line_of lines i
line_of-earlier [] more i some = absurd (omega arith)
line_of-earlier (x ∷ lines) more i some = by (has_state x i) refl (line_of-earlier lines more i)
  where
    by : (o : Bool) → has_state x i ≡ o →
        (0 < times_in lines i → line_of (lines ++ more) i ≡ line_of lines i) →
        (if o then 0 else suc (line_of (lines ++ more) i))
        ≡ (if o then 0 else suc (line_of lines i))
    by true is later = refl
    by false is later =
        let none = uncounted x.states i is in ap suc (later (omega arith))

-- the line of a state that stands in the last line alone
pub line_of-last :
    (lines : List BlockLine) (line : BlockLine) (i : ℕ) → times_in lines i ≡ 0 →
    has_state line i ≡ true → line_of (lines ++ line ∷ []) i ≡ length lines
line_of-last [] line i none h = ap (λ (o : Bool). if o then 0 else 1) h
line_of-last (x ∷ lines) line i none h =
    by (has_state x i) refl (line_of-last lines line i (omega arith) h)
  where
    by : (o : Bool) → has_state x i ≡ o → line_of (lines ++ line ∷ []) i ≡ length lines →
        (if o then 0 else suc (line_of (lines ++ line ∷ []) i)) ≡ suc (length lines)
    by true is later = let some = counted x.states i is in absurd (omega arith)
    by false is later = ap suc later

-- the line of a state where the last line is another that has it or has it not
pub line_of-same :
    (lines : List BlockLine) (a b : BlockLine) (i : ℕ) → has_state a i ≡ has_state b i →
    line_of (lines ++ a ∷ []) i ≡ line_of (lines ++ b ∷ []) i
line_of-same [] a b i same = ap (λ (o : Bool). if o then 0 else 1) same
line_of-same (x ∷ lines) a b i same =
    ap (λ n. if has_state x i then 0 else suc n) (line_of-same lines a b i same)

-- a line has a state as before where another is put last
pub list_any-push :
    (ss : List ℕ) (s i : ℕ) → (s == i) ≡ false →
    list_any (λ x. x == i) (ss ++ s ∷ []) ≡ list_any (λ x. x == i) ss
list_any-push [] s i other = ap (λ (o : Bool). o || false) other
list_any-push (x ∷ ss) s i other = ap (λ (o : Bool). (x == i) || o) (list_any-push ss s i other)
