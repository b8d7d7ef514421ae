-- No line is longer than its file.
use Rattle.std.proofs.Common.{◌≡◌, ℕ, ◌+◌, ◌≤◌, Bool, true, false, not, cond, List, [], ◌∷◌, length, subst, arith}
use Rattle.std.specs.Prelude.{◌==◌, if◌then◌else◌, filter}
use Rattle.std.specs.List.{AllByRecursion}
use Rattle.file_cut.specs.Bytes.{line_feed, carriage_return}
use Rattle.file_cut.specs.Lines.{Numbered, raw_lines, begun, before_first, without_return, is_skipped, numbered, lines_of}

-- no line has more than n bytes
abbrev Within : ℕ → List (List ℕ) → Type 0
Within n lines = AllByRecursion (λ line. length line ≤ n) lines

-- the same of numbered lines
abbrev pub AreShort : ℕ → List Numbered → Type 0
AreShort n lines = AllByRecursion (λ line. length line.text ≤ n) lines

wider : (m n : ℕ) (lines : List (List ℕ)) → m ≤ n → Within m lines → Within n lines
wider m n [] le all = tt
wider m n (line ∷ lines) le all = (omega (arith, all.0, le), wider m n lines le all.1)

first-short : (n b : ℕ) (lines : List (List ℕ)) → Within n lines →
    Within (n + 1) (before_first b lines)
first-short n b [] all = (omega arith, tt)
first-short n b (line ∷ lines) all =
    (omega (arith, all.0), wider n (n + 1) lines (omega arith) all.1)

begun-short : (feed : Bool) (n b : ℕ) (lines : List (List ℕ)) → Within n lines →
    Within (n + 1) (begun feed b lines)
begun-short true n b lines all = (omega arith, wider n (n + 1) lines (omega arith) all)
begun-short false n b lines all = first-short n b lines all

raw-short : (bytes : List ℕ) → Within (length bytes) (raw_lines bytes)
raw-short [] = tt
raw-short (b ∷ bytes) =
    let next : length bytes + 1 ≡ length (b ∷ bytes) = omega arith in
    subst (λ n. Within n (raw_lines (b ∷ bytes))) next
    (begun-short (b == line_feed) (length bytes) b (raw_lines bytes) (raw-short bytes))

return-short : (line : List ℕ) → length (without_return line) ≤ length line
return-short [] = omega arith
return-short (b ∷ []) = by (b == carriage_return)
  where
    by : (r : Bool) → length (if r then [] else b ∷ []) ≤ 1
    by true = omega arith
    by false = omega arith
return-short (b ∷ c ∷ bytes) = let rest = return-short (c ∷ bytes) in omega (arith, rest)

numbered-short : (m n : ℕ) (lines : List (List ℕ)) → Within m lines →
    AreShort m (numbered n lines)
numbered-short m n [] all = tt
numbered-short m n (line ∷ lines) all = (
  let short = return-short line in omega (arith, short, all.0),
  numbered-short m (n + 1) lines all.1,
)

kept-short : (m : ℕ) (p : Numbered → Bool) (lines : List Numbered) → AreShort m lines →
    AreShort m (filter p lines)
kept-short m p [] all = tt
kept-short m p (line ∷ lines) all = by (p line) (kept-short m p lines all.1)
  where
    by : (b : Bool) → AreShort m (filter p lines) →
        AreShort m (cond b (line ∷ filter p lines) (filter p lines))
    by true rest = (all.0, rest)
    by false rest = rest

-- no line is longer than the file
pub lines-short : (bytes : List ℕ) (m : ℕ) → length bytes ≤ m → AreShort m (lines_of bytes)
lines-short bytes m le =
    kept-short m (λ line. not (is_skipped line.text)) (numbered 1 (raw_lines bytes))
    (numbered-short m 1 (raw_lines bytes)
    (wider (length bytes) m (raw_lines bytes) le (raw-short bytes)))

-- nor is any behind the first
pub rest-short : (bytes : List ℕ) (m : ℕ) (first : Numbered) (rest : List Numbered) →
    length bytes ≤ m → lines_of bytes ≡ first ∷ rest → AreShort m rest
rest-short bytes m first rest le is =
    (subst (λ (l : List Numbered). AreShort m l) is (lines-short bytes m le)).1
