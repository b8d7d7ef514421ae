-- Parts with a space between them, as the lines that they make.
use Rattle.std.proofs.Common.{◌≡◌, ℕ, ◌+◌, ◌<◌, Bool, true, false, not, ◌&&◌, List, [], ◌∷◌, ◌++◌, length, append_assoc, Some, None, inl, inr, refl, ap, sym, ◌∙◌, arith, cond}
use Rattle.std.specs.Prelude.{◌==◌, ◌||◌, if◌then◌else◌, filter}
use Rattle.std.specs.List.{list_all, slice_split, All, AllByRecursion}
use Rattle.std.proofs.lemmas.List.{length-append}
use Rattle.std.proofs.lemmas.List.Elements.{All-head, All-tail}
use Rattle.std.proofs.lemmas.Bool.{and_parts, and_from, lt-ltb, not-true}
use Rattle.std.proofs.lemmas.Bool.Decides.{nat_tests}
use Rattle.file_cut.specs.Bytes.{IsWord, is_blank, is_word_byte, carriage_return}
use Rattle.file_cut.specs.Lines.{Numbered, is_no_feed, begun, raw_lines, without_return, is_skipped, numbered_line, lines_from}
use Rattle.file_cut.proofs.LineLaws.{lines-take, lines-skip}
use Rattle.formula_text.specs.Answers.{Answer, is_some_part, is_word, parts_of, answer_of, count_with, with_answer, answered, tells_no_pair, taken, taken_from}
use Rattle.formula_text.specs.Texts.{line_of_parts, note_line, IsComment}
use Rattle.formula_text.proofs.NumberLaws.{one_piece, first_piece, list_all-weaker}
use Rattle.formula_text.proofs.ValueLaws.{is_graphic, all_joined}

-- ---- parts

-- a byte within a line: no end of it
abbrev is_inside : ℕ → Bool
is_inside b = is_no_feed b && not (b == carriage_return)

-- a byte within a part: no blank either
abbrev pub is_of_part : ℕ → Bool
is_of_part b = is_inside b && not (is_blank b)

-- the part has bytes, and each can stand within it
abbrev pub IsPart : List ℕ → Type 0
IsPart part = (0 < length part) × (list_all is_of_part part ≡ true)

graphic_of_part : (b : ℕ) → is_graphic b ≡ true → is_of_part b ≡ true
graphic_of_part b e = grind (arith, nat_tests)

word_byte_of_part : (b : ℕ) → is_word_byte b ≡ true → is_of_part b ≡ true
word_byte_of_part b e = grind (arith, nat_tests)

of_part_inside : (b : ℕ) → is_of_part b ≡ true → is_inside b ≡ true
of_part_inside b e = (and_parts (is_inside b) (not (is_blank b)) e).0

of_part_no_blank : (b : ℕ) → is_of_part b ≡ true → not (is_blank b) ≡ true
of_part_no_blank b e = (and_parts (is_inside b) (not (is_blank b)) e).1

-- a graphic text that is not empty is a part
pub graphic_part :
    (text : List ℕ) → 0 < length text → list_all is_graphic text ≡ true → IsPart text
graphic_part text some all =
    (some, list_all-weaker is_graphic is_of_part graphic_of_part text all)

-- a word is a part
pub word_part : (word : List ℕ) → IsWord word → IsPart word
word_part word is =
    (is.0, list_all-weaker is_word_byte is_of_part word_byte_of_part word is.1)

-- and so are words
pub word_parts : (words : List (List ℕ)) → All IsWord words → AllByRecursion IsPart words
word_parts [] all = tt
word_parts (w ∷ words) all = (
  word_part w (All-head IsWord w words all),
  word_parts words (All-tail IsWord w words all),
)

-- a word is told as one
pub word_told : (word : List ℕ) → IsWord word → is_word word ≡ true
word_told word is = and_from _ _ (lt-ltb 0 (length word) is.0) is.1

-- and so are words
pub words_told : (words : List (List ℕ)) → All IsWord words → list_all is_word words ≡ true
words_told [] all = refl
words_told (w ∷ words) all =
    and_from _ _ (word_told w (All-head IsWord w words all))
    (words_told words (All-tail IsWord w words all))

-- ---- parts with a space between them

-- parts with a space between them
abbrev pub joined : List (List ℕ) → List ℕ
joined [] = []
joined (part ∷ []) = part
joined (part ∷ next ∷ parts) = part ++ 32 ∷ joined (next ∷ parts)

line_is : (parts : List (List ℕ)) → line_of_parts parts ≡ joined parts ++ 10 ∷ []
line_is [] = refl
line_is (part ∷ []) = refl
line_is (part ∷ next ∷ parts) =
    ap (λ rest. part ++ 32 ∷ rest) (line_is (next ∷ parts))
    ∙ sym (append_assoc part (32 ∷ joined (next ∷ parts)) (10 ∷ []))

-- the pieces between blanks are the parts
pieces_are :
    (part : List ℕ) (parts : List (List ℕ)) → AllByRecursion IsPart (part ∷ parts) →
    slice_split is_blank (joined (part ∷ parts)) ≡ part ∷ parts
pieces_are part [] h =
    one_piece is_blank part
    (list_all-weaker is_of_part (λ b. not (is_blank b)) of_part_no_blank part h.0.1)
pieces_are part (next ∷ parts) h =
    first_piece is_blank part 32 (joined (next ∷ parts))
    (list_all-weaker is_of_part (λ b. not (is_blank b)) of_part_no_blank part h.0.1) refl
    ∙ ap (λ ps. part ∷ ps) (pieces_are next parts h.1)

all_kept :
    (parts : List (List ℕ)) → AllByRecursion IsPart parts → filter is_some_part parts ≡ parts
all_kept [] h = refl
all_kept (part ∷ parts) h =
    (λ i. cond (lt-ltb 0 (length part) h.0.0 i) (part ∷ all_kept parts h.1 i)
    (all_kept parts h.1 i))

parts_are :
    (part : List ℕ) (parts : List (List ℕ)) → AllByRecursion IsPart (part ∷ parts) →
    parts_of (joined (part ∷ parts)) ≡ part ∷ parts
parts_are part parts h =
    ap (filter is_some_part) (pieces_are part parts h) ∙ all_kept (part ∷ parts) h

-- no end of a line stands in it
joined_inside :
    (parts : List (List ℕ)) → AllByRecursion IsPart parts → list_all is_inside (joined parts) ≡ true
joined_inside [] h = refl
joined_inside (part ∷ []) h = list_all-weaker is_of_part is_inside of_part_inside part h.0.1
joined_inside (part ∷ next ∷ parts) h =
    all_joined is_inside part (32 ∷ joined (next ∷ parts))
    (list_all-weaker is_of_part is_inside of_part_inside part h.0.1)
    (joined_inside (next ∷ parts) h.1)

-- ---- lines

inside_no_feed : (b : ℕ) → is_inside b ≡ true → is_no_feed b ≡ true
inside_no_feed b e = (and_parts (is_no_feed b) (not (b == carriage_return)) e).0

raw_feed :
    (line rest : List ℕ) → list_all is_no_feed line ≡ true →
    raw_lines (line ++ 10 ∷ rest) ≡ line ∷ raw_lines rest
raw_feed [] rest h = refl
raw_feed (b ∷ line) rest h =
    let p = and_parts (is_no_feed b) (list_all is_no_feed line) h in
    (λ i. begun (not-true (b == 10) p.0 i) b (raw_feed line rest p.1 i))

no_return : (line : List ℕ) → list_all is_inside line ≡ true → line ≡ without_return line
no_return [] h = refl
no_return (b ∷ []) h =
    let p = and_parts (is_inside b) true h in
    let q = and_parts (is_no_feed b) (not (b == carriage_return)) p.0 in
    sym (ap (λ x. if x then [] else b ∷ []) (not-true (b == carriage_return) q.1))
no_return (b ∷ c ∷ line) h =
    let p = and_parts (is_inside b) (list_all is_inside (c ∷ line)) h in
    ap (λ l. b ∷ l) (no_return (c ∷ line) p.1)

line_first :
    (n : ℕ) (line rest : List ℕ) → list_all is_inside line ≡ true → is_skipped line ≡ false →
    lines_from n (line ++ 10 ∷ rest) ≡ numbered_line n line ∷ lines_from (n + 1) rest
line_first n line rest inside kept =
    lines-take n (line ++ 10 ∷ rest) line rest record {
      raw = line;
      lines = raw_feed line rest (list_all-weaker is_inside is_no_feed inside_no_feed line inside);
      trimmed = no_return line inside;
      shorter = omega (arith, length-append line (10 ∷ rest));
    } kept

-- a comment has no line that is read
pub comment_lines : (n : ℕ) (text : List ℕ) → IsComment text → lines_from n text ≡ []
comment_lines n text (inl none) = ap (lines_from n) none
comment_lines n text (inr (note, inside, is)) =
    ap (lines_from n) is
    ∙ lines-skip n (note_line note) (without_return (35 ∷ note)) [] record {
      raw = 35 ∷ note;
      lines = raw_feed (35 ∷ note) [] inside;
      trimmed = refl;
      shorter = omega arith;
    } (skipped note)
  where
    skipped : (note : List ℕ) → is_skipped (without_return (35 ∷ note)) ≡ true
    skipped [] = refl
    skipped (b ∷ note) = refl

-- ---- what a line says

taken_is :
    (pairs : Bool) (a : Answer) → (pairs || tells_no_pair a) ≡ true →
    taken pairs (Some a) ≡ Some a
taken_is pairs a takes = ap (λ b. if b then Some a else None) takes

-- a line of parts that say something, before the lines behind it
pub line_says :
    (pairs : Bool) (n k : ℕ) (part : List ℕ) (parts : List (List ℕ)) (a : Answer)
    (rest : List ℕ) → AllByRecursion IsPart (part ∷ parts) →
    is_skipped (joined (part ∷ parts)) ≡ false → (pairs || tells_no_pair a) ≡ true →
    answer_of k (part ∷ parts) ≡ Some a →
    taken_from pairs k (lines_from n (line_of_parts (part ∷ parts) ++ rest))
    ≡ with_answer n a (taken_from pairs (count_with k a) (lines_from (n + 1) rest))
line_says pairs n k part parts a rest are kept takes says =
    let line : List ℕ = joined (part ∷ parts) in
    let later : List Numbered = lines_from (n + 1) rest in
    let is : line_of_parts (part ∷ parts) ++ rest ≡ line ++ 10 ∷ rest =
    ap (λ l. l ++ rest) (line_is (part ∷ parts)) ∙ append_assoc line (10 ∷ []) rest in
    let first : lines_from n (line_of_parts (part ∷ parts) ++ rest)
    ≡ numbered_line n line ∷ later =
    ap (lines_from n) is
    ∙ line_first n line rest (joined_inside (part ∷ parts) are) kept in
    let said : taken pairs (answer_of k (parts_of line)) ≡ Some a =
    ap (taken pairs) (ap (answer_of k) (parts_are part parts are) ∙ says)
    ∙ taken_is pairs a takes in
    ap (taken_from pairs k) first
    ∙ ap (answered n (λ b. taken_from pairs (count_with k b) later)) said
