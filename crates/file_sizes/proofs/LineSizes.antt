-- The lines of a file are together no longer than the file.
use Rattle.std.proofs.Common.{◌≡◌, ℕ, suc, ◌+◌, ◌≤◌, Bool, true, false, not, cond, List, [], ◌∷◌, length, filter, refl, sym, subst, true≢false, arith}
use Rattle.std.specs.Prelude.{◌==◌}
use Rattle.file_cut.specs.Bytes.{line_feed, carriage_return}
use Rattle.file_cut.specs.Lines.{Numbered, before_first, begun, raw_lines, without_return, is_skipped, numbered, lines_of}

-- the length of all lines together
abbrev raw_length : List (List ℕ) → ℕ
raw_length [] = 0
raw_length (line ∷ lines) = length line + raw_length lines

-- the same of lines with their numbers
abbrev pub text_length : List Numbered → ℕ
text_length [] = 0
text_length (line ∷ lines) = length line.text + text_length lines

before_length : (b : ℕ) (lines : List (List ℕ)) →
    raw_length (before_first b lines) ≡ 1 + raw_length lines
before_length b [] = refl
before_length b (line ∷ lines) = omega arith

raw_few : (bytes : List ℕ) → raw_length (raw_lines bytes) ≤ length bytes
raw_few [] = omega arith
raw_few (b ∷ bytes) = by (b == line_feed) (raw_few bytes)
  where
    by : (feed : Bool) → raw_length (raw_lines bytes) ≤ length bytes →
        raw_length (begun feed b (raw_lines bytes)) ≤ suc (length bytes)
    by true rest = omega (arith, rest)
    by false rest =
        let more = before_length b (raw_lines bytes) in
        omega (arith, rest, more)

trimmed_few : (line : List ℕ) → length (without_return line) ≤ length line
trimmed_few [] = omega arith
trimmed_few (b ∷ []) = by (b == carriage_return)
  where
    by : (end : Bool) → length (cond end [] (b ∷ [])) ≤ 1
    by true = omega arith
    by false = omega arith
trimmed_few (b ∷ c ∷ bytes) = let rest = trimmed_few (c ∷ bytes) in omega (arith, rest)

numbered_few : (n : ℕ) (lines : List (List ℕ)) →
    text_length (numbered n lines) ≤ raw_length lines
numbered_few n [] = omega arith
numbered_few n (line ∷ lines) =
    let here = trimmed_few line in
    let rest = numbered_few (n + 1) lines in
    omega (arith, here, rest)

filter_few : (q : Numbered → Bool) (lines : List Numbered) →
    text_length (filter q lines) ≤ text_length lines
filter_few q [] = omega arith
filter_few q (line ∷ lines) = by (q line) (filter_few q lines)
  where
    by : (b : Bool) → text_length (filter q lines) ≤ text_length lines →
        text_length (cond b (line ∷ filter q lines) (filter q lines))
        ≤ length line.text + text_length lines
    by true rest = omega (arith, rest)
    by false rest = omega (arith, rest)

-- the lines of a file are no longer than its bytes
pub lines_few : (bytes : List ℕ) → text_length (lines_of bytes) ≤ length bytes
lines_few bytes =
    let a = filter_few (λ line. not (is_skipped line.text)) (numbered 1 (raw_lines bytes)) in
    let b = numbered_few 1 (raw_lines bytes) in
    let c = raw_few bytes in
    omega (arith, a, b, c)

some_lines : (x y : Numbered) (xs ys : List Numbered) → x ∷ xs ≡ y ∷ ys → x ≡ y
some_lines x y xs ys e = cc

no_lines : (y : Numbered) (ys : List Numbered) → ◌≡◌ {A = List Numbered} [] (y ∷ ys) → ⊥
no_lines y ys e = cc

-- the first line that passes a test passes it
first_passes : (q : Numbered → Bool) (lines : List Numbered) (y : Numbered) (ys : List Numbered) →
    filter q lines ≡ y ∷ ys → q y ≡ true
first_passes q [] y ys e = absurd (no_lines y ys e)
first_passes q (line ∷ lines) y ys e = by (first_passes q lines y ys) (q line) refl e
  where
    by :
        (filter q lines ≡ y ∷ ys → q y ≡ true) → (b : Bool) → q line ≡ b →
        cond b (line ∷ filter q lines) (filter q lines) ≡ y ∷ ys → q y ≡ true
    by later true k h = subst (λ (z : Numbered). q z ≡ true) (some_lines line y (filter q lines) ys
        h) k
    by later false k h = later h

some_text : (text : List ℕ) → not (is_skipped text) ≡ true → 1 ≤ length text
some_text [] h = absurd (true≢false (sym h))
some_text (b ∷ bytes) h = omega arith

-- the first line that is not skipped has a byte
pub first_line : (bytes : List ℕ) (line : Numbered) (others : List Numbered) →
    lines_of bytes ≡ line ∷ others → 1 ≤ length line.text
first_line bytes line others e =
    some_text line.text
    (first_passes (λ line. not (is_skipped line.text)) (numbered 1 (raw_lines bytes)) line others e)
