-- The tokens of the pieces of a canonical text.
use Rattle.std.proofs.Common.{◌≡◌, ℕ, zero, suc, ◌+◌, ◌≤◌, Bool, true, false, not, ◌&&◌, List, [], ◌∷◌, ◌++◌, map, length, append-nil, append_assoc, refl, sym, ap, ◌∙◌, arith, inl, inr, Some, None}
use Rattle.std.specs.Prelude.{◌==◌, codes, if◌then◌else◌, IsTrue}
use Rattle.std.specs.List.{list_all, AllZip}
use Rattle.std.proofs.lemmas.Bool.{and_parts, and_from}
use Rattle.std.proofs.lemmas.Bool.Decides.{nat_tests}
use Rattle.std.proofs.lemmas.Slice.Eq.{bytes_eq-Decides}
use Rattle.std.proofs.lemmas.List.Folds.{list_all-append}
use Rattle.file_cut.specs.Bytes.{IsName, is_blank, is_word_byte, inj_word, are_digits, line_feed, carriage_return}
use Rattle.file_cut.specs.Tokens.{Piece, piece, put, begins_with_word, tokens_from, is_inj, sign_of, mark_of, marks}
use Rattle.file_cut.specs.Trees.{SpellsEach, SpellsEntry, SpellsWithin, entry}
use Rattle.file_cut.specs.Trees.SpellsEntry.{alone as alone_entry, paired as paired_entry}
use Rattle.file_cut.specs.Trees.SpellsOpen.{tuple as open_tuple, inj as open_inj, empty as open_empty, braces as open_braces}
use Rattle.file_cut.specs.declared.mark.Mark.{Mark}
use Rattle.file_cut.specs.declared.mark.Mark.TheVariants.{Word, Inj, Colon, Comma, Open, Close, OpenBrace, CloseBrace}
use Rattle.file_cut.specs.declared.tree.Tree.{Tree}
use Rattle.file_cut.specs.declared.tree.Tree.TheVariants as tree
use Rattle.file_cut.specs.declared.tree.Entry.{Entry}
use Rattle.file_cut.proofs.TokenLaws.{blank_ends}
use Rattle.structure_writer.specs.Text.{listed, paired, in_braces, in_parentheses}

-- ---- tokens, wherever the bytes stand

-- the bytes of each token
abbrev texts_of : List Piece → List (List ℕ)
texts_of ps = map (λ p. p.text) ps

same_heads : (x y : List ℕ) (xs ys : List (List ℕ)) → ◌≡◌ {A = List (List ℕ)} (x ∷ xs) (y ∷ ys)
    → (x ≡ y) × (xs ≡ ys)
same_heads x y xs ys e = (cc, cc)

put-texts : (blank goes : Bool) (b m n : ℕ) (ps qs : List Piece) → texts_of ps ≡ texts_of qs
    → texts_of (put blank goes b m ps) ≡ texts_of (put blank goes b n qs)
put-texts true goes b m n ps qs e = e
put-texts false false b m n ps qs e = ap (λ l. (b ∷ []) ∷ l) e
put-texts false true b m n [] [] e = refl
put-texts false true b m n [] (q ∷ qs) e = cc
put-texts false true b m n (p ∷ ps) [] e = cc
put-texts false true b m n (p ∷ ps) (q ∷ qs) e =
    let w = same_heads p.text q.text (texts_of ps) (texts_of qs) e in
    λ i. (b ∷ w.0 i) ∷ w.1 i

moved-texts : (m n : ℕ) (line : List ℕ)
    → texts_of (tokens_from m line) ≡ texts_of (tokens_from n line)
moved-texts m n [] = refl
moved-texts m n (b ∷ line) =
    put-texts (is_blank b) (is_word_byte b && begins_with_word line) b m n
    (tokens_from (m + 1) line) (tokens_from (n + 1) line) (moved-texts (m + 1) (n + 1) line)

-- the marks of bytes of which the first stands at this place
abbrev marks_from : ℕ → List ℕ → List Mark
marks_from at line = map (λ p. mark_of p.text) (tokens_from at line)

marks-texts : (ps : List Piece) → map (λ p. mark_of p.text) ps ≡ map mark_of (texts_of ps)
marks-texts [] = refl
marks-texts (p ∷ ps) = ap (λ l. mark_of p.text ∷ l) (marks-texts ps)

-- they don't depend on the place
moved : (n : ℕ) (line : List ℕ) → marks_from n line ≡ marks line
moved n line =
    marks-texts (tokens_from n line) ∙ ap (map mark_of) (moved-texts n 0 line)
    ∙ sym (marks-texts (tokens_from 0 line))

-- ---- words

-- a word before what goes on with no word is one token
word_first : (at : ℕ) (b : ℕ) (w rest : List ℕ) → is_word_byte b ≡ true
    → list_all is_word_byte w ≡ true → begins_with_word rest ≡ false
    → tokens_from at (b ∷ w ++ rest)
    ≡ piece (b ∷ w) at ∷ tokens_from (at + length (b ∷ w)) rest
word_first at b [] rest word all none =
    λ i. put (blank_ends b word i) (word i && none i) b at (tokens_from (at + 1) rest)
word_first at b (c ∷ w) rest word all none =
    let p = and_parts (is_word_byte c) (list_all is_word_byte w) all in
    let moved : at + 1 + length (c ∷ w) ≡ at + length (b ∷ c ∷ w) = omega arith in
    (λ i. put (blank_ends b word i) (word i && p.0 i) b at
    (word_first (at + 1) c w rest p.0 p.1 none i))
    ∙ ap (λ n. piece (b ∷ c ∷ w) at ∷ tokens_from n rest) moved

no_inj : (w : List ℕ) → (w ≡ inj_word → ⊥) → is_inj w ≡ false
no_inj w h = by (is_inj w) refl
  where
    by : (b : Bool) → is_inj w ≡ b → b ≡ false
    by true e = absurd (h ((bytes_eq-Decides w inj_word).0 e))
    by false e = refl

-- so its mark is that of a word
pub name-marks : (w rest : List ℕ) → IsName w → begins_with_word rest ≡ false
    → marks (w ++ rest) ≡ Word w ∷ marks rest
name-marks [] rest is none = absurd (omega (arith, is.0.0))
name-marks (b ∷ w) rest is none =
    let p = and_parts (is_word_byte b) (list_all is_word_byte w) is.0.1 in
    ap (map (λ p. mark_of p.text)) (word_first 0 b w rest p.0 p.1 none)
    ∙ (λ i. (if p.0 i then (if no_inj (b ∷ w) is.1 i then Inj else Word (b ∷ w)) else sign_of b)
    ∷ marks_from (0 + length (b ∷ w)) rest)
    ∙ ap (λ l. Word (b ∷ w) ∷ l) (moved (0 + length (b ∷ w)) rest)

-- ---- line ends

-- the byte is none of those that end a line
abbrev pub is_plain : ℕ → Bool
is_plain b = not (b == line_feed) && not (b == carriage_return)

word_plain : (b : ℕ) → is_word_byte b ≡ true → is_plain b ≡ true
word_plain b word = grind (arith, nat_tests)

-- a word is plain
pub word-plain : (w : List ℕ) → list_all is_word_byte w ≡ true → list_all is_plain w ≡ true
word-plain [] h = refl
word-plain (b ∷ w) h =
    let p = and_parts (is_word_byte b) (list_all is_word_byte w) h in
    and_from (is_plain b) (list_all is_plain w) (word_plain b p.0) (word-plain w p.1)

-- two plain texts are plain together
pub both-plain : (xs ys : List ℕ) → list_all is_plain xs ≡ true
    → list_all is_plain ys ≡ true → list_all is_plain (xs ++ ys) ≡ true
both-plain xs ys hx hy =
    list_all-append is_plain xs ys
    ∙ and_from (list_all is_plain xs) (list_all is_plain ys) hx hy

-- ---- pieces

-- the bytes are these tokens, before what goes on with no word
abbrev pub Lexes : List ℕ → List Mark → Type 0
Lexes text tokens =
    (rest : List ℕ) → begins_with_word rest ≡ false → marks (text ++ rest) ≡ tokens ++ marks rest

-- the bytes spell this, and end no line
pub record IsPieceOf {A : Type 0} (Inside : List Mark → A → Type 0) (text : List ℕ) (x : A) :
    Type 0 where
  pub tokens : List Mark
  pub lexes : Lexes text tokens
  pub spelled : Inside tokens x
  pub plain : list_all is_plain text ≡ true

-- the bytes spell a tree with at most n brackets and `inj` open
abbrev pub IsTextOf : ℕ → List ℕ → Tree → Type 0
IsTextOf n text u = IsPieceOf (SpellsWithin n) text u

-- a piece, a sign, a blank and another piece
module _ (a b : List ℕ) (s u : List Mark) (first : Lexes a s) (second : Lexes b u) where
  pub comma-lexes : Lexes (a ++ (codes ", " ++ b)) (s ++ Comma ∷ u)
  comma-lexes rest none =
      ap marks (append_assoc a (codes ", " ++ b) rest) ∙ first (codes ", " ++ (b ++ rest)) refl
      ∙ ap (λ l. s ++ Comma ∷ l) (moved 2 (b ++ rest) ∙ second rest none)
      ∙ sym (append_assoc s (Comma ∷ u) (marks rest))

  -- a label and a value are tokens with a colon between them
  pub colon-lexes : Lexes (paired a b) (s ++ Colon ∷ u)
  colon-lexes rest none =
      ap marks (append_assoc a (codes ": " ++ b) rest) ∙ first (codes ": " ++ (b ++ rest)) refl
      ∙ ap (λ l. s ++ Colon ∷ l) (moved 2 (b ++ rest) ∙ second rest none)
      ∙ sym (append_assoc s (Colon ∷ u) (marks rest))

-- a piece in brackets
pub braces-lexes : (a : List ℕ) (s : List Mark) → Lexes a s
    → Lexes (in_braces a) (OpenBrace ∷ s ++ CloseBrace ∷ [])
braces-lexes a s is rest none =
    ap (λ l. marks (123 ∷ l)) (append_assoc a (codes "}") rest)
    ∙ ap (λ l. OpenBrace ∷ l) (moved 1 (a ++ (codes "}" ++ rest)) ∙ is (codes "}" ++ rest) refl
    ∙ ap (λ l. s ++ CloseBrace ∷ l) (moved 1 rest)
    ∙ sym (append_assoc s (CloseBrace ∷ []) (marks rest)))

pub parens-lexes : (a : List ℕ) (s : List Mark) → Lexes a s
    → Lexes (in_parentheses a) (Open ∷ s ++ Close ∷ [])
parens-lexes a s is rest none =
    ap (λ l. marks (40 ∷ l)) (append_assoc a (codes ")") rest)
    ∙ ap (λ l. Open ∷ l) (moved 1 (a ++ (codes ")" ++ rest)) ∙ is (codes ")" ++ rest) refl
    ∙ ap (λ l. s ++ Close ∷ l) (moved 1 rest)
    ∙ sym (append_assoc s (Close ∷ []) (marks rest)))

-- a part of a sum
pub inj-lexes : (k a : List ℕ) (s : List Mark) → IsName k → Lexes a s
    → Lexes (codes "inj " ++ (k ++ (codes " " ++ a))) (Inj ∷ Word k ∷ s)
inj-lexes k a s name is rest none =
    ap (λ l. marks (codes "inj " ++ l)) (append_assoc k (codes " " ++ a) rest)
    ∙ ap (λ l. Inj ∷ l) (moved 4 (k ++ (codes " " ++ (a ++ rest)))
    ∙ name-marks k (codes " " ++ (a ++ rest)) name refl
    ∙ ap (λ l. Word k ∷ l) (moved 1 (a ++ rest) ∙ is rest none))

-- ---- trees

-- a word
pub word-text : (n : ℕ) (w : List ℕ) → IsName w → IsTextOf n w (tree.Word w)
unfolding SpellsWithin
word-text zero w is = record {
  tokens = Word w ∷ [];
  lexes = λ rest none. name-marks w rest is none;
  spelled = (w, refl, refl);
  plain = word-plain w is.0.1;
}
word-text (suc n) w is = record {
  tokens = Word w ∷ [];
  lexes = λ rest none. name-marks w rest is none;
  spelled = inl (w, refl, refl);
  plain = word-plain w is.0.1;
}

-- an entry with a colon, and one without
pub paired-piece : (Inside : List Mark → Tree → Type 0) (a b : List ℕ) (u w : Tree)
    → IsPieceOf Inside a u → IsPieceOf Inside b w
    → IsPieceOf (SpellsEntry Inside) (paired a b) (entry u (Some w))
paired-piece Inside a b u w first second = record {
  tokens = first.tokens ++ Colon ∷ second.tokens;
  lexes = colon-lexes a b first.tokens second.tokens first.lexes second.lexes;
  spelled = paired_entry first.tokens second.tokens u w refl first.spelled second.spelled refl;
  plain = both-plain a (codes ": " ++ b) first.plain second.plain;
}

-- an element without a weight is an entry
pub alone-piece : (Inside : List Mark → Tree → Type 0) (a : List ℕ) (u : Tree)
    → IsPieceOf Inside a u → IsPieceOf (SpellsEntry Inside) a (entry u None)
alone-piece Inside a u is = record {
  tokens = is.tokens;
  lexes = is.lexes;
  spelled = alone_entry u is.spelled refl;
  plain = is.plain;
}

-- pieces with commas between them
pub listed-piece : {A : Type 0} (Inside : List Mark → A → Type 0) (text : List ℕ)
    (texts : List (List ℕ)) (x : A) (xs : List A) → IsPieceOf Inside text x
    → AllZip (IsPieceOf Inside) texts xs
    → IsPieceOf (SpellsEach Inside) (listed (text ∷ texts)) (x ∷ xs)
listed-piece Inside text [] x [] is all = record {
  tokens = is.tokens;
  lexes = λ rest none.
      ap (λ l. marks (l ++ rest)) (append-nil text) ∙ is.lexes rest none;
  spelled = is.spelled;
  plain = ap (list_all is_plain) (append-nil text) ∙ is.plain;
}
listed-piece Inside text [] x (y ∷ ys) is all = absurd all
listed-piece Inside text (t ∷ texts) x [] is all = absurd all
listed-piece Inside text (t ∷ texts) x (y ∷ ys) is all =
    let rest = listed-piece Inside t texts y ys all.0 all.1 in
    record {
      tokens = is.tokens ++ Comma ∷ rest.tokens;
      lexes =
          comma-lexes text (listed (t ∷ texts)) is.tokens rest.tokens is.lexes rest.lexes;
      spelled = (is.tokens, rest.tokens, refl, is.spelled, rest.spelled);
      plain = both-plain text (codes ", " ++ listed (t ∷ texts)) is.plain rest.plain;
    }

-- entries in braces
pub braces-text : (n : ℕ) (texts : List (List ℕ)) (es : List Entry)
    → AllZip (IsPieceOf (SpellsEntry (SpellsWithin n))) texts es
    → IsTextOf (suc n) (in_braces (listed texts)) (tree.Braces es)
unfolding SpellsWithin
braces-text n [] [] all = record {
  tokens = OpenBrace ∷ CloseBrace ∷ [];
  lexes = λ rest none. ap (λ l. OpenBrace ∷ CloseBrace ∷ l) (moved 2 rest);
  spelled = inr (open_empty refl refl);
  plain = refl;
}
braces-text n [] (e ∷ es) all = absurd all
braces-text n (t ∷ texts) [] all = absurd all
braces-text n (t ∷ texts) (e ∷ es) all =
    let inside = listed-piece (SpellsEntry (SpellsWithin n)) t texts e es all.0 all.1 in
    record {
      tokens = OpenBrace ∷ inside.tokens ++ CloseBrace ∷ [];
      lexes = braces-lexes (listed (t ∷ texts)) inside.tokens inside.lexes;
      spelled = inr (open_braces inside.tokens (e ∷ es) refl inside.spelled refl);
      plain = both-plain (listed (t ∷ texts)) (codes "}") inside.plain refl;
    }

-- parts in parentheses
pub tuple-text : (n : ℕ) (texts : List (List ℕ)) (us : List Tree) → 2 ≤ length us
    → AllZip (IsTextOf n) texts us
    → IsTextOf (suc n) (in_parentheses (listed texts)) (tree.Tuple us)
unfolding SpellsWithin
tuple-text n [] [] two all = absurd (omega (arith, two))
tuple-text n [] (u ∷ us) two all = absurd all
tuple-text n (t ∷ texts) [] two all = absurd all
tuple-text n (t ∷ texts) (u ∷ us) two all =
    let inside = listed-piece (SpellsWithin n) t texts u us all.0 all.1 in
    record {
      tokens = Open ∷ inside.tokens ++ Close ∷ [];
      lexes = parens-lexes (listed (t ∷ texts)) inside.tokens inside.lexes;
      spelled = inr (open_tuple inside.tokens (u ∷ us) refl two inside.spelled refl);
      plain = both-plain (listed (t ∷ texts)) (codes ")") inside.plain refl;
    }

-- a part of a sum, of which the index is digits
pub inj-text : (n : ℕ) (k text : List ℕ) (u : Tree) → IsName k → IsTrue (are_digits k)
    → IsTextOf n text u
    → IsTextOf (suc n) (codes "inj " ++ (k ++ (codes " " ++ text))) (tree.Inj k u)
unfolding SpellsWithin
inj-text n k text u name digits is = record {
  tokens = Inj ∷ Word k ∷ is.tokens;
  lexes = inj-lexes k text is.tokens name is.lexes;
  spelled = inr (open_inj k is.tokens u refl digits is.spelled refl);
  plain = both-plain k (codes " " ++ text) (word-plain k name.0.1) is.plain;
}
