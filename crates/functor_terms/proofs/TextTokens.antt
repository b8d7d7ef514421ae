-- The tokens of the pieces of canonical texts.
use Rattle.std.proofs.Common.{◌≡◌, ℕ, ◌<◌, ◌≤◌, List, [], ◌∷◌, ◌++◌, length, true, false, ◌&&◌, refl, sym, ap, ◌∙◌, subst, append_assoc, append-nil, arith}
use Rattle.std.specs.Prelude.{codes, decimal, ◌==◌, if◌then◌else◌}
use Rattle.std.specs.Char.{is_ascii_digit}
use Rattle.std.specs.List.{AllByRecursion, list_all, flat_map, join_by}
use Rattle.std.specs.Str.Parse.{AllDigits, digits_value}
use Rattle.std.proofs.lemmas.Bool.Decides.{nat_tests}
use Rattle.std.proofs.lemmas.Fmt.{decimal_is_IsNumeral}
use Rattle.std.proofs.lemmas.Str.Parse.{digit_at}
use Rattle.std.proofs.lemmas.Bool.{and_parts}
use Rattle.file_cut.specs.Bytes.{is_word_byte, IsName}
use Rattle.file_cut.proofs.TokenLaws.{blank_ends}
use Rattle.functor_terms.specs.declared.node.LabelSet.{LabelSet}
use Rattle.functor_terms.specs.declared.node.LabelSet.TheVariants.{Listed, Below}
use Rattle.functor_terms.specs.declared.sign.Sign.{Sign}
use Rattle.functor_terms.specs.declared.sign.Sign.TheVariants.{Open, Close, Times, Comma, OpenBrace, CloseBrace, Digits, Word, Stray}
use Rattle.functor_terms.specs.Terms.{AreLabels}
use Rattle.functor_terms.specs.Signs.{outside, inside, second, begins, digit_before, letter_before, sign_of, sign_outside, sign_inside, signs_at, cross_first, cross_second, brace, brace_end, comma, Place}
use Rattle.functor_terms.specs.Grammar.{SpellsEach, SpellsWord, SpellsLabels}
use Rattle.functor_terms.specs.Grammar.SpellsLabels.{below, listed}
use Rattle.functor_terms.specs.Text.{label_text, enclosed}
use Rattle.functor_terms.proofs.FirstSign.{digit-no-blank}

-- outside braces the bytes are these tokens, where no digit follows
abbrev pub Lexes : List ℕ → List Sign → Type 0
Lexes bytes tokens = (rest : List ℕ) → begins is_ascii_digit rest ≡ false
    → signs_at outside (bytes ++ rest) ≡ tokens ++ signs_at outside rest

-- one text behind another that no digit begins
pub lexes-append : (a b : List ℕ) (s u : List Sign) → Lexes a s → Lexes b u
    → ((rest : List ℕ) → begins is_ascii_digit (b ++ rest) ≡ false) → Lexes (a ++ b) (s ++ u)
lexes-append a b s u first second_is starts rest ends =
    ap (signs_at outside) (append_assoc a b rest) ∙ first (b ++ rest) (starts rest)
    ∙ ap (λ l. s ++ l) (second_is rest ends) ∙ sym (append_assoc s u (signs_at outside rest))

-- a text in parentheses
pub lexes-enclosed : (text : List ℕ) (tokens : List Sign) → Lexes text tokens
    → Lexes (enclosed text) (Open ∷ tokens ++ Close ∷ [])
unfolding signs_at
lexes-enclosed text tokens is rest ends =
    ap (λ l. Open ∷ signs_at outside l) (append_assoc text (codes ")") rest)
    ∙ ap (λ l. Open ∷ l) (is (codes ")" ++ rest) refl ∙ sym
    (append_assoc tokens (Close ∷ []) (signs_at outside rest)))

digit-step : (b : ℕ) (bytes : List ℕ) (behind : Place → List Sign) → is_ascii_digit b ≡ true
    → sign_outside b bytes behind ≡ (if begins is_ascii_digit bytes then digit_before b
    (behind outside) else Digits (b ∷ []) ∷ behind outside)
digit-step b bytes behind digit = λ i.
    if digit-no-blank b digit i then behind outside
    else (if digit i then (if begins is_ascii_digit bytes then digit_before b
    (behind outside) else Digits (b ∷ []) ∷ behind outside)
    else (if (b == cross_first) && begins (λ c. c == cross_second) bytes then Times ∷ behind second
    else (if b == brace then OpenBrace ∷ behind inside
    else sign_of b ∷ behind outside)))

-- digits alone are one token of digits
pub lexes-digits : (b : ℕ) (digits : List ℕ) → is_ascii_digit b ≡ true
    → list_all is_ascii_digit digits ≡ true → Lexes (b ∷ digits) (Digits (b ∷ digits) ∷ [])
unfolding signs_at
lexes-digits b [] digit all rest ends =
    digit-step b rest (λ place. signs_at place rest) digit
    ∙ ap (λ x. if x then digit_before b (signs_at outside rest) else Digits
    (b ∷ []) ∷ signs_at outside rest) ends
lexes-digits b (c ∷ digits) digit all rest ends =
    let (here, others) = and_parts (is_ascii_digit c) (list_all is_ascii_digit digits) all in
    digit-step b (c ∷ (digits ++ rest)) (λ place. signs_at place (c ∷ (digits ++ rest))) digit
    ∙ ap (λ x. if x then digit_before b (signs_at outside (c ∷ (digits ++ rest))) else Digits
    (b ∷ []) ∷ signs_at outside (c ∷ (digits ++ rest))) here
    ∙ ap (digit_before b) (lexes-digits c digits here others rest ends)

all_digits : (ds : List ℕ) → AllDigits 10 ds → list_all is_ascii_digit ds ≡ true
all_digits [] all = refl
all_digits (c ∷ cs) all =
    let range = digit_at (c ∷ cs) 0 all (omega arith) in
    let here : is_ascii_digit c ≡ true = grind (arith, nat_tests) in
    λ i. here i && all_digits cs all.1 i

-- Words in braces.
word-step : (b : ℕ) (bytes : List ℕ) (behind : Place → List Sign) → is_word_byte b ≡ true
    → sign_inside b bytes behind ≡ (if begins is_word_byte bytes then letter_before b
    (behind inside) else Word (b ∷ []) ∷ behind inside)
word-step b bytes behind word = λ i.
    if blank_ends b word i then behind inside
    else (if word i then (if begins is_word_byte bytes then letter_before b
    (behind inside) else Word (b ∷ []) ∷ behind inside)
    else (if b == comma then Comma ∷ behind inside
    else (if b == brace_end then CloseBrace ∷ behind outside
    else Stray ∷ behind inside)))

-- letters up to another byte are one token of a word
pub lexes-word : (b : ℕ) (word rest : List ℕ) → is_word_byte b ≡ true
    → list_all is_word_byte word ≡ true → begins is_word_byte rest ≡ false
    → signs_at inside (b ∷ (word ++ rest)) ≡ Word (b ∷ word) ∷ signs_at inside rest
unfolding signs_at
lexes-word b [] rest here all ends =
    word-step b rest (λ place. signs_at place rest) here
    ∙ ap (λ x. if x then letter_before b (signs_at inside rest) else Word
    (b ∷ []) ∷ signs_at inside rest) ends
lexes-word b (c ∷ word) rest byte all ends =
    let (here, others) = and_parts (is_word_byte c) (list_all is_word_byte word) all in
    word-step b (c ∷ (word ++ rest)) (λ place. signs_at place (c ∷ (word ++ rest))) byte
    ∙ ap (λ x. if x then letter_before b (signs_at inside (c ∷ (word ++ rest))) else Word
    (b ∷ []) ∷ signs_at inside (c ∷ (word ++ rest))) here
    ∙ ap (letter_before b) (lexes-word c word rest here others ends)

-- the tokens of words with commas between them
abbrev pub word_tokens : List (List ℕ) → List Sign
word_tokens [] = []
word_tokens (word ∷ []) = Word word ∷ []
word_tokens (word ∷ next ∷ words) = Word word ∷ Comma ∷ word_tokens (next ∷ words)

word_tokens-spell : (word : List ℕ) (words : List (List ℕ))
    → SpellsEach Comma SpellsWord (word_tokens (word ∷ words)) (word ∷ words)
word_tokens-spell word [] = refl
word_tokens-spell word (next ∷ words) = (
  Word word ∷ [],
  word_tokens (next ∷ words),
  refl,
  refl,
  word_tokens-spell next words,
)

lexes-name : (word rest : List ℕ) → IsName word → begins is_word_byte rest ≡ false
    → signs_at inside (word ++ rest) ≡ Word word ∷ signs_at inside rest
lexes-name [] rest name ends = absurd (omega (arith, name.0.0))
lexes-name (b ∷ word) rest name ends = let (here, others) =
    and_parts (is_word_byte b) (list_all is_word_byte word) name.0.1 in
    lexes-word b word rest here others ends

lexes-words : (word : List ℕ) (words : List (List ℕ)) (rest : List ℕ)
    → AllByRecursion IsName (word ∷ words)
    → signs_at inside (join_by (λ word. word) (codes ",") (word ∷ words) ++ (codes "}" ++ rest))
    ≡ word_tokens (word ∷ words) ++ CloseBrace ∷ signs_at outside rest
unfolding signs_at
lexes-words word [] rest names = ap (λ l. signs_at inside (l ++ (codes "}" ++ rest)))
    (append-nil word) ∙ lexes-name word (codes "}" ++ rest) names.0 refl
lexes-words word (next ∷ words) rest names =
    let regrouped : (word ++ ((codes "," ++ next) ++ flat_map
    (λ word. codes "," ++ word) words)) ++ (codes "}" ++ rest)
    ≡ word ++ (codes "," ++ (join_by (λ word. word) (codes ",") (next ∷ words) ++
    (codes "}" ++ rest))) =
    append_assoc word ((codes "," ++ next) ++ flat_map (λ word. codes "," ++ word) words)
    (codes "}" ++ rest) in
    ap (signs_at inside) regrouped
    ∙ lexes-name word (codes "," ++ (join_by (λ word. word) (codes ",") (next ∷ words) ++
    (codes "}" ++ rest))) names.0 refl
    ∙ ap (λ l. Word word ∷ Comma ∷ l) (lexes-words next words rest names.1)

-- Labels.
pub record LabelTokens (labels : LabelSet) : Type 0 where
  pub tokens : List Sign
  pub lexes : Lexes (label_text labels) tokens
  pub spelled : SpellsLabels tokens labels

below-tokens : (n : ℕ) (digits : List ℕ) → digits ≡ decimal n
    → (0 < length digits) × AllDigits 10 digits → digits_value 10 digits ≡ n → AreLabels (Below n)
    → LabelTokens (Below n)
below-tokens n [] is numeral value are = absurd (omega (arith, numeral.0))
below-tokens n (b ∷ digits) is numeral value are =
    let (here, others) = and_parts (is_ascii_digit b) (list_all is_ascii_digit digits)
    (all_digits (b ∷ digits) numeral.1) in
    record {
      tokens = Digits (b ∷ digits) ∷ [];
      lexes = subst (λ l. Lexes l (Digits (b ∷ digits) ∷ [])) is
          (lexes-digits b digits here others);
      spelled = below (b ∷ digits) refl (ap Below (sym value)) are;
    }

listed-tokens : (words : List (List ℕ)) → AreLabels (Listed words) → LabelTokens (Listed words)
unfolding signs_at
listed-tokens [] are = absurd (omega (arith, are.1))
listed-tokens (word ∷ words) are = record {
  tokens = OpenBrace ∷ word_tokens (word ∷ words) ++ CloseBrace ∷ [];
  lexes = λ rest ends.
      ap (λ l. OpenBrace ∷ signs_at inside l) (append_assoc
      (join_by (λ word. word) (codes ",") (word ∷ words)) (codes "}") rest)
      ∙ ap (λ l. OpenBrace ∷ l) (lexes-words word words rest are.0.each
      ∙ sym (append_assoc (word_tokens (word ∷ words)) (CloseBrace ∷ [])
      (signs_at outside rest)));
  spelled = listed (word_tokens (word ∷ words)) (word ∷ words) refl
      (word_tokens-spell word words) refl are;
}

-- the text of labels spells them
pub labels-shown : (labels : LabelSet) → AreLabels labels → LabelTokens labels
labels-shown (Below n) are =
    let few : n ≤ 65536 = are.1 in
    let (numeral, value) = decimal_is_IsNumeral n (omega (arith, few)) in
    below-tokens n (decimal n) refl numeral value are
labels-shown (Listed words) are = listed-tokens words are
