-- The first line of a text.
use Rattle.std.proofs.Common.{◌≡◌, ℕ, zero, suc, ◌+◌, ◌<◌, ◌≤◌, List, [], ◌∷◌, ◌++◌, length, take, drop, Bool, true, false, cond, not, refl, sym, ap, ◌∙◌, arith, length-drop}
use Rattle.std.specs.Prelude.{filter, ◌==◌, if◌then◌else◌}
use Rattle.std.specs.List.{prefix_len}
use Rattle.std.proofs.lemmas.List.Sums.{prefix_len-le-length}
use Rattle.std.proofs.lemmas.Bool.Decides.{nat_tests}
use Rattle.file_cut.specs.Bytes.{is_blank, line_feed, carriage_return, number_sign}
use Rattle.file_cut.specs.Lines.{is_no_feed, before_first, begun, raw_lines, without_return, is_skipped, begins_note, numbered, lines_from, numbered_line, IsFirstLine}

-- up to the line feed, or the end
pub raw-first : (text : List ℕ) → 0 < length text
    → raw_lines text ≡ take (prefix_len is_no_feed text) text
    ∷ raw_lines (drop 1 (drop (prefix_len is_no_feed text) text))
raw-first [] some = absurd (omega arith)
raw-first (b ∷ []) some = by (b == line_feed)
  where
    by : (x : Bool) → begun x b [] ≡ take (cond (not x) 1 0) (b ∷ [])
        ∷ raw_lines (drop 1 (drop (cond (not x) 1 0) (b ∷ [])))
    by true = refl
    by false = refl
raw-first (b ∷ c ∷ bytes) some = by (b == line_feed) (raw-first (c ∷ bytes) (omega arith))
  where
    by : (x : Bool) → raw_lines (c ∷ bytes) ≡ take (prefix_len is_no_feed (c ∷ bytes)) (c ∷ bytes)
        ∷ raw_lines (drop 1 (drop (prefix_len is_no_feed (c ∷ bytes)) (c ∷ bytes)))
        → begun x b (raw_lines (c ∷ bytes))
        ≡ take (cond (not x) (1 + prefix_len is_no_feed (c ∷ bytes)) 0) (b ∷ c ∷ bytes)
        ∷ raw_lines (drop 1 (drop (cond (not x) (1 + prefix_len is_no_feed (c ∷ bytes)) 0)
        (b ∷ c ∷ bytes)))
    by true rest = refl
    by false rest =
        let one : suc (prefix_len is_no_feed (c ∷ bytes))
        ≡ 1 + prefix_len is_no_feed (c ∷ bytes) = omega arith in
        ap (before_first b) rest ∙ ap
        (λ m. take m (b ∷ c ∷ bytes) ∷ raw_lines (drop 1 (drop m (b ∷ c ∷ bytes)))) one

-- the last byte is left out where it is a carriage return
pub without_return-push : (front : List ℕ) (b : ℕ)
    → without_return (front ++ b ∷ []) ≡ (if b == carriage_return then front else front ++ b ∷ [])
without_return-push [] b = refl
without_return-push (c ∷ []) b = by (b == carriage_return)
  where
    by : (x : Bool) → c ∷ (if x then [] else b ∷ []) ≡ (if x then c ∷ [] else c ∷ b ∷ [])
    by true = refl
    by false = refl
without_return-push (c ∷ d ∷ front) b = ap (λ l. c ∷ l) (without_return-push (d ∷ front) b)
    ∙ by (b == carriage_return)
  where
    by : (x : Bool) → c ∷ (if x then d ∷ front else (d ∷ front) ++ b ∷ [])
        ≡ (if x then c ∷ d ∷ front else (c ∷ d ∷ front) ++ b ∷ [])
    by true = refl
    by false = refl

-- what stands behind the blanks tells whether a line is skipped
pub skipped-behind : (line : List ℕ)
    → is_skipped line ≡ begins_note (drop (prefix_len is_blank line) line)
skipped-behind [] = refl
skipped-behind (b ∷ bytes) = by (is_blank b) (skipped-behind bytes)
  where
    by : (x : Bool) → is_skipped bytes ≡ begins_note (drop (prefix_len is_blank bytes) bytes)
        → (if x then is_skipped bytes else b == number_sign)
        ≡ begins_note (drop (cond x (1 + prefix_len is_blank bytes) 0) (b ∷ bytes))
    by true rest =
        let one : suc (prefix_len is_blank bytes) ≡ 1 + prefix_len is_blank bytes = omega arith in
        rest ∙ ap (λ m. begins_note (drop m (b ∷ bytes))) one
    by false rest = refl

-- a byte that is no carriage return stays at the front
without_return-behind : (b : ℕ) (bytes : List ℕ) → (b == carriage_return) ≡ false
    → without_return (b ∷ bytes) ≡ b ∷ without_return bytes
without_return-behind b [] other = ap (λ x. if x then [] else b ∷ []) other
without_return-behind b (c ∷ bytes) other = refl

blank-no_return : (b : ℕ) → is_blank b ≡ true → (b == carriage_return) ≡ false
blank-no_return b is = grind (arith, nat_tests)

blank-no_feed : (b : ℕ) → is_blank b ≡ true → is_no_feed b ≡ true
blank-no_feed b is = grind (arith, nat_tests)

-- the line feed stands behind the blanks
pub feed-behind : (text : List ℕ)
    → prefix_len is_no_feed text ≡ prefix_len is_blank text + prefix_len is_no_feed
    (drop (prefix_len is_blank text) text)
feed-behind [] = refl
feed-behind (b ∷ bytes) = by (is_blank b) refl (feed-behind bytes)
  where
    by : (x : Bool) → is_blank b ≡ x
        → prefix_len is_no_feed bytes
        ≡ prefix_len is_blank bytes + prefix_len is_no_feed (drop (prefix_len is_blank bytes) bytes)
        → prefix_len is_no_feed (b ∷ bytes)
        ≡ cond x (1 + prefix_len is_blank bytes) 0 + prefix_len is_no_feed
        (drop (cond x (1 + prefix_len is_blank bytes) 0) (b ∷ bytes))
    by true is rest =
        let one : suc (prefix_len is_blank bytes) ≡ 1 + prefix_len is_blank bytes = omega arith in
        let moved : 1 + prefix_len is_no_feed bytes
        ≡ suc (prefix_len is_blank bytes) + prefix_len is_no_feed
        (drop (prefix_len is_blank bytes) bytes) = omega arith in
        ap (λ x. cond x (1 + prefix_len is_no_feed bytes) 0) (blank-no_feed b is)
        ∙ moved
        ∙ ap (λ m. m + prefix_len is_no_feed (drop m (b ∷ bytes))) one
    by false is rest = omega arith

-- the blanks before a line are its blanks
pub blanks-of_line : (text : List ℕ) (more : ℕ)
    → prefix_len is_blank (without_return (take (prefix_len is_blank text + more) text))
    ≡ prefix_len is_blank text
blanks-of_line [] more = by (0 + more)
  where
    by : (n : ℕ) → prefix_len is_blank (without_return (take n [])) ≡ 0
    by zero = refl
    by (suc n) = refl
blanks-of_line (b ∷ bytes) more = by (is_blank b) refl (blanks-of_line bytes more)
  where
    none : (n : ℕ) → is_blank b ≡ false
        → prefix_len is_blank (without_return (take n (b ∷ bytes))) ≡ 0
    none zero is = refl
    none (suc n) is = one (take n bytes)
      where
        one : (rest : List ℕ) → prefix_len is_blank (without_return (b ∷ rest)) ≡ 0
        one [] = by_return (b == carriage_return)
          where
            by_return : (x : Bool) → prefix_len is_blank (if x then [] else b ∷ []) ≡ 0
            by_return true = refl
            by_return false = ap (λ x. cond x (1 + 0) 0) is
        one (c ∷ rest) = ap (λ x. cond x (1 + prefix_len is_blank (without_return (c ∷ rest))) 0) is

    by : (x : Bool) → is_blank b ≡ x
        → prefix_len is_blank (without_return (take (prefix_len is_blank bytes + more) bytes))
        ≡ prefix_len is_blank bytes
        → prefix_len is_blank (without_return
        (take (cond x (1 + prefix_len is_blank bytes) 0 + more) (b ∷ bytes)))
        ≡ cond x (1 + prefix_len is_blank bytes) 0
    by true is rest =
        let one : 1 + prefix_len is_blank bytes + more
        ≡ suc (prefix_len is_blank bytes + more) = omega arith in
        ap (λ m. prefix_len is_blank (without_return (take m (b ∷ bytes)))) one
        ∙ ap (prefix_len is_blank) (without_return-behind b
        (take (prefix_len is_blank bytes + more) bytes) (blank-no_return b is))
        ∙ ap (λ x. cond x (1 + prefix_len is_blank
        (without_return (take (prefix_len is_blank bytes + more) bytes))) 0) is
        ∙ ap (λ m. 1 + m) rest
    by false is rest = none (0 + more) is

-- the first line, and those behind it
lines-step : (n : ℕ) (text line rest : List ℕ) → IsFirstLine text line rest
    → lines_from n text ≡ (if not (is_skipped line) then numbered_line n line
    ∷ lines_from (n + 1) rest else lines_from (n + 1) rest)
lines-step n text line rest first =
    ap (λ ls. filter (λ l. not (is_skipped l.text)) (numbered n ls)) first.lines
    ∙ ap (λ l. if not (is_skipped l) then numbered_line n l
    ∷ lines_from (n + 1) rest else lines_from (n + 1) rest) (sym first.trimmed)

-- a line that is skipped is passed over
pub lines-skip : (n : ℕ) (text line rest : List ℕ) → IsFirstLine text line rest
    → is_skipped line ≡ true → lines_from n text ≡ lines_from (n + 1) rest
lines-skip n text line rest first is = lines-step n text line rest first
    ∙ ap (λ x. if not x then numbered_line n line
    ∷ lines_from (n + 1) rest else lines_from (n + 1) rest) is

-- a line that is not skipped comes next, with its number
pub lines-take : (n : ℕ) (text line rest : List ℕ) → IsFirstLine text line rest
    → is_skipped line ≡ false → lines_from n text ≡ numbered_line n line ∷ lines_from (n + 1) rest
lines-take n text line rest first is = lines-step n text line rest first
    ∙ ap (λ x. if not x then numbered_line n line
    ∷ lines_from (n + 1) rest else lines_from (n + 1) rest) is

-- what is cut off in front is the first line
pub first_line_is : (text raw behind line rest : List ℕ) (n : ℕ) → 0 < length text
    → n ≡ prefix_len is_no_feed text → raw ≡ take n text → behind ≡ drop n text
    → line ≡ without_return raw → rest ≡ drop 1 behind → IsFirstLine text line rest
first_line_is text raw behind line rest n some len front back trimmed past = record {
  raw = raw;
  lines = raw-first text some ∙ ap (λ m. take m text ∷ raw_lines (drop 1 (drop m text))) (sym len)
      ∙ (λ i. sym front i ∷ raw_lines (drop 1 (sym back i)))
      ∙ ap (λ r. raw ∷ raw_lines r) (sym past);
  trimmed = trimmed;
  shorter = omega (arith, ap length past, ap length back, length-drop 1 behind, length-drop n text);
}

-- a first line that is cut behind its blanks
module _ (text behind raw line : List ℕ) (indent feed : ℕ)
    (blanks : indent ≡ prefix_len is_blank text) (back : behind ≡ drop indent text)
    (end : feed ≡ prefix_len is_no_feed behind) (front : raw ≡ take (indent + feed) text)
    (trimmed : line ≡ without_return raw) where
  -- the line feed stands where the line ends
  pub line-feed : indent + feed ≡ prefix_len is_no_feed text
  line-feed = (λ i. blanks i + (end
      ∙ ap (prefix_len is_no_feed) (back ∙ ap (λ m. drop m text) blanks)) i)
      ∙ sym (feed-behind text)

  line-blanks : prefix_len is_blank line ≡ indent
  line-blanks = ap (prefix_len is_blank)
      (trimmed ∙ ap without_return (front ∙ ap (λ m. take (m + feed) text) blanks))
      ∙ blanks-of_line text feed ∙ sym blanks

  -- the blanks of a line are within it
  pub indent-within : indent ≤ length line
  indent-within = omega (arith, line-blanks, prefix_len-le-length is_blank line)

  -- whether a line is skipped is seen behind its blanks
  pub skipped-written : (written : List ℕ) → written ≡ drop indent line
      → begins_note written ≡ is_skipped line
  skipped-written written is = ap begins_note (is ∙ ap (λ m. drop m line) (sym line-blanks))
      ∙ sym (skipped-behind line)

-- a carriage return at the end is dropped
pub trim-return : (line front : List ℕ) (b : ℕ) → line ≡ front ++ b ∷ [] → b ≡ 13
    → front ≡ without_return line
trim-return line front b is last =
    let e : (b == 13) ≡ true = grind (arith, nat_tests) in
    sym (ap without_return is ∙ without_return-push front b
    ∙ ap (λ x. if x then front else front ++ b ∷ []) e)

-- a line that ends in another byte keeps it
pub trim-none : (line front : List ℕ) (b : ℕ) → line ≡ front ++ b ∷ [] → (b ≡ 13 → ⊥)
    → line ≡ without_return line
trim-none line front b is last =
    let e : (b == 13) ≡ false = grind (arith, nat_tests) in
    is ∙ sym (ap without_return is ∙ without_return-push front b
    ∙ ap (λ x. if x then front else front ++ b ∷ []) e)

filter-few : {A : Type 0} (p : A → Bool) (xs : List A) → length (filter p xs) ≤ length xs
filter-few p [] = omega arith
filter-few p (x ∷ xs) = by (p x) (filter-few p xs)
  where
    by : (b : Bool) → length (filter p xs) ≤ length xs
        → length (cond b (x ∷ filter p xs) (filter p xs)) ≤ suc (length xs)
    by true few = omega arith
    by false few = omega arith

numbered-length : (n : ℕ) (ls : List (List ℕ)) → length (numbered n ls) ≡ length ls
numbered-length n [] = refl
numbered-length n (l ∷ ls) = ap suc (numbered-length (n + 1) ls)

before-length : (b : ℕ) (ls : List (List ℕ)) → length (before_first b ls) ≤ suc (length ls)
before-length b [] = omega arith
before-length b (l ∷ ls) = omega arith

raw-few : (text : List ℕ) → length (raw_lines text) ≤ length text
raw-few [] = omega arith
raw-few (b ∷ bytes) = by (b == line_feed) (raw-few bytes)
  where
    by : (x : Bool) → length (raw_lines bytes) ≤ length bytes
        → length (begun x b (raw_lines bytes)) ≤ suc (length bytes)
    by true few = omega arith
    by false few = omega (arith, before-length b (raw_lines bytes))

-- no text has more lines than bytes
pub lines_few : (n : ℕ) (text : List ℕ) → length (lines_from n text) ≤ length text
lines_few n text = omega (
  arith,
  filter-few (λ l. not (is_skipped l.text))
      (numbered n (raw_lines text)),
  numbered-length n (raw_lines text),
  raw-few text,
)
