-- Functor lines are cut into their tokens, and into no others.
use Rattle.std.proofs.Common.{◌≡◌, ℕ, zero, suc, ◌+◌, ◌<◌, ◌≤◌, inl, inr, List, [], ◌∷◌, ◌++◌, length, take, drop, take-append-drop, Bool, true, false, cond, refl, sym, ap, ◌∙◌, subst, append-nil, length-drop, arith}
use Rattle.std.specs.Prelude.{◌&&◌, ◌||◌, ◌==◌, codes, if◌then◌else◌}
use Rattle.std.specs.Char.{is_ascii_digit}
use Rattle.std.specs.List.{prefix_len, list_all, list_any}
use Rattle.std.proofs.lemmas.Bool.{eqb-true, and_parts}
use Rattle.file_cut.specs.Bytes.{is_blank, is_word_byte}
use Rattle.functor_terms.specs.declared.sign.Sign.{Sign}
use Rattle.functor_terms.specs.declared.sign.Sign.TheVariants.{X, P, B, D, N, Z, Q, Plus, Times, Caret, Open, Close, OpenBrace, CloseBrace, Comma, Digits, Word, Stray}
use Rattle.functor_terms.specs.Signs.{outside, inside, signs_at, place_in, begins, sign_of, cross_first, cross_second, brace, brace_end, comma}
use Rattle.functor_terms.specs.Cut.{IsTokenOf, within, IsCutInto, TextsAreCut, OneCut, sign_bytes}
use Rattle.functor_terms.proofs.FirstSign.{skip, signs-digits, signs-word, front-cross, front-brace, front-sign, front-comma, front-end, front-stray}
use Rattle.functor_terms.proofs.TextTokens.{lexes-digits, lexes-word}

-- what is none of a list is not its first, and none of the others
none-of : (b s : ℕ) (l : List ℕ) → list_any (λ t. b == t) (s ∷ l) ≡ false
    → ((b == s) ≡ false) × (list_any (λ t. b == t) l ≡ false)
none-of b s l e = by (b == s) e
  where
    by : (x : Bool) → (x || list_any (λ t. b == t) l) ≡ false
        → (x ≡ false) × (list_any (λ t. b == t) l ≡ false)
    by true e = cc
    by false e = (refl, e)

-- a byte that is none of the signs is a stray
stray-sign : (b : ℕ) → list_any (λ s. b == s) sign_bytes ≡ false → sign_of b ≡ Stray
stray-sign b e =
    let (n1, e1) = none-of b 88 (codes "PBDNZQx*+^(){") e in
    let (n2, e2) = none-of b 80 (codes "BDNZQx*+^(){") e1 in
    let (n3, e3) = none-of b 66 (codes "DNZQx*+^(){") e2 in
    let (n4, e4) = none-of b 68 (codes "NZQx*+^(){") e3 in
    let (n5, e5) = none-of b 78 (codes "ZQx*+^(){") e4 in
    let (n6, e6) = none-of b 90 (codes "Qx*+^(){") e5 in
    let (n7, e7) = none-of b 81 (codes "x*+^(){") e6 in
    let (n8, e8) = none-of b 120 (codes "*+^(){") e7 in
    let (n9, e9) = none-of b 42 (codes "+^(){") e8 in
    let (n10, e10) = none-of b 43 (codes "^(){") e9 in
    let (n11, e11) = none-of b 94 (codes "(){") e10 in
    let (n12, e12) = none-of b 40 (codes "){") e11 in
    let (n13, e13) = none-of b 41 (codes "{") e12 in
    rw (n1, n2, n3, n4, n5, n6, n7, n8, n9, n10, n11, n12, n13) refl

-- a stray is no brace
stray-brace : (b : ℕ) → list_any (λ s. b == s) sign_bytes ≡ false → (b == brace) ≡ false
stray-brace b e = last (codes "XPBDNZQx*+^()") e
  where
    last : (l : List ℕ) → list_any (λ s. b == s) (l ++ codes "{") ≡ false → (b == brace) ≡ false
    last [] e = (none-of b brace [] e).0
    last (s ∷ l) e = last l (none-of b s (l ++ codes "{") e).1

-- The tokens of what a token's bytes begin.
token-first : (braces : Bool) (sign : Sign) (bytes rest : List ℕ)
    → IsTokenOf braces sign bytes rest
    → signs_at (place_in braces) (bytes ++ rest)
    ≡ sign ∷ signs_at (place_in (within braces sign)) rest
unfolding signs_at
token-first false X bytes rest e = ap (λ l. signs_at outside (l ++ rest)) e
token-first false P bytes rest e = ap (λ l. signs_at outside (l ++ rest)) e
token-first false B bytes rest e = ap (λ l. signs_at outside (l ++ rest)) e
token-first false D bytes rest e = ap (λ l. signs_at outside (l ++ rest)) e
token-first false N bytes rest e = ap (λ l. signs_at outside (l ++ rest)) e
token-first false Z bytes rest e = ap (λ l. signs_at outside (l ++ rest)) e
token-first false Q bytes rest e = ap (λ l. signs_at outside (l ++ rest)) e
token-first false Plus bytes rest e = ap (λ l. signs_at outside (l ++ rest)) e
token-first false Times bytes rest (inl e) = ap (λ l. signs_at outside (l ++ rest)) e
token-first false Times bytes rest (inr (inl e)) = ap (λ l. signs_at outside (l ++ rest)) e
token-first false Times bytes rest (inr (inr e)) = ap (λ l. signs_at outside (l ++ rest)) e
token-first false Caret bytes rest e = ap (λ l. signs_at outside (l ++ rest)) e
token-first false Open bytes rest e = ap (λ l. signs_at outside (l ++ rest)) e
token-first false Close bytes rest e = ap (λ l. signs_at outside (l ++ rest)) e
token-first false OpenBrace bytes rest e = ap (λ l. signs_at outside (l ++ rest)) e
token-first false (Digits []) bytes rest e = absurd (omega (arith, e.1))
token-first false (Digits (b ∷ digits)) bytes rest e =
    let (here, others) = and_parts (is_ascii_digit b) (list_all is_ascii_digit digits) e.2 in
    ap (λ l. signs_at outside (l ++ rest)) e.0 ∙ lexes-digits b digits here others rest e.3
token-first false Stray bytes rest (b, e, stray) =
    ap (λ l. signs_at outside (l ++ rest)) e
    ∙ front-sign (b ∷ rest) rest b refl stray.no_blank stray.no_digit stray.no_cross
    (stray-brace b stray.no_sign)
    ∙ ap (λ s. s ∷ signs_at outside rest) (stray-sign b stray.no_sign)
token-first true (Word []) bytes rest e = absurd (omega (arith, e.1.0))
token-first true (Word (b ∷ word)) bytes rest e =
    let (here, others) = and_parts (is_word_byte b) (list_all is_word_byte word) e.1.1 in
    ap (λ l. signs_at inside (l ++ rest)) e.0 ∙ lexes-word b word rest here others e.2
token-first true Comma bytes rest e = ap (λ l. signs_at inside (l ++ rest)) e
token-first true CloseBrace bytes rest e = ap (λ l. signs_at inside (l ++ rest)) e
token-first true Stray bytes rest (b, e, stray) =
    let (n1, e1) = none-of b comma (codes "}") stray.no_sign in
    let (n2, e2) = none-of b brace_end [] e1 in
    ap (λ l. signs_at inside (l ++ rest)) e
    ∙ front-stray (b ∷ rest) rest b refl stray.no_blank stray.no_letter n1 n2
token-first _ _ bytes rest e = absurd e

-- blanks at the front are left out
skip-all : (braces : Bool) (blanks rest : List ℕ) → list_all is_blank blanks ≡ true
    → signs_at (place_in braces) (blanks ++ rest) ≡ signs_at (place_in braces) rest
skip-all braces [] rest e = refl
skip-all braces (b ∷ blanks) rest e =
    let (here, others) = and_parts (is_blank b) (list_all is_blank blanks) e in
    skip braces b (blanks ++ rest) here ∙ skip-all braces blanks rest others

-- what the text is cut into are its tokens
cut-once : (tokens : List Sign) (braces : Bool) (text : List ℕ) → IsCutInto braces text tokens
    → tokens ≡ signs_at (place_in braces) text
unfolding signs_at
cut-once [] true text e = sym (ap (signs_at inside) (sym (append-nil text))
    ∙ skip-all true text [] e)
cut-once [] false text e = sym (ap (signs_at outside) (sym (append-nil text))
    ∙ skip-all false text [] e)
cut-once (sign ∷ tokens) braces text (blanks, bytes, rest, e, all, token, cut) =
    ap (λ l. sign ∷ l) (cut-once tokens (within braces sign) rest cut)
    ∙ sym (ap (signs_at (place_in braces)) e ∙ skip-all braces blanks (bytes ++ rest) all
    ∙ token-first braces sign bytes rest token)

-- a line is cut in one way
pub one_cut : OneCut
one_cut text tokens cut = cut-once tokens false text cut

-- what a byte outside of braces is by itself: its sign leaves braces closed
record IsByItself (b : ℕ) (rest : List ℕ) (sign : Sign) : Type 0 where
  pub token : IsTokenOf false sign (b ∷ []) rest
  pub closed : within false sign ≡ false

-- one sign more
sign-step : (b n : ℕ) (s t : Sign) (rest : List ℕ)
    → (b ≡ n → IsByItself b rest s) → ((b == n) ≡ false → IsByItself b rest t)
    → IsByItself b rest (if b == n then s else t)
sign-step b n s t rest there past = by (b == n) refl
  where
    by : (x : Bool) → (b == n) ≡ x → IsByItself b rest (if x then s else t)
    by true e = there (eqb-true b n e)
    by false e = past e

-- the sign of a byte that is no blank, no digit and no brace, and begins no `×`, is its token
by_itself : (b : ℕ) (rest : List ℕ) → is_blank b ≡ false → is_ascii_digit b ≡ false
    → ((b == cross_first) && begins (λ c. c == cross_second) rest) ≡ false → (b == brace) ≡ false
    → IsByItself b rest (sign_of b)
by_itself b rest blank digit cross no_brace =
    let is : (n : ℕ) → b ≡ n → b ∷ [] ≡ n ∷ [] = λ n e. ap (λ c. c ∷ []) e in
    sign-step b 88 X _ rest (λ e. record { token = is 88 e; closed = refl }) (λ n1.
    sign-step b 80 P _ rest (λ e. record { token = is 80 e; closed = refl }) (λ n2.
    sign-step b 66 B _ rest (λ e. record { token = is 66 e; closed = refl }) (λ n3.
    sign-step b 68 D _ rest (λ e. record { token = is 68 e; closed = refl }) (λ n4.
    sign-step b 78 N _ rest (λ e. record { token = is 78 e; closed = refl }) (λ n5.
    sign-step b 90 Z _ rest (λ e. record { token = is 90 e; closed = refl }) (λ n6.
    sign-step b 81 Q _ rest (λ e. record { token = is 81 e; closed = refl }) (λ n7.
    sign-step b 120 Times _ rest (λ e. record { token = inl (is 120 e); closed = refl }) (λ n8.
    sign-step b 42 Times _ rest (λ e. record { token = inr (inl (is 42 e)); closed = refl }) (λ n9.
    sign-step b 43 Plus _ rest (λ e. record { token = is 43 e; closed = refl }) (λ n10.
    sign-step b 94 Caret _ rest (λ e. record { token = is 94 e; closed = refl }) (λ n11.
    sign-step b 40 Open _ rest (λ e. record { token = is 40 e; closed = refl }) (λ n12.
    sign-step b 41 Close Stray rest (λ e. record { token = is 41 e; closed = refl }) (λ n13.
    record {
      token = (
        b,
        refl,
        record {
          no_blank = blank;
          no_digit = digit;
          no_sign = rw (n1, n2, n3, n4, n5, n6, n7, n8, n9, n10, n11, n12, n13, no_brace) refl;
          no_cross = cross;
        },
      );
      closed = refl;
    })))))))))))))

-- a token before others
more : (braces : Bool) (sign : Sign) (text bytes rest : List ℕ) (tokens : List Sign)
    → text ≡ bytes ++ rest → IsTokenOf braces sign bytes rest
    → IsCutInto (within braces sign) rest tokens → IsCutInto braces text (sign ∷ tokens)
more braces sign text bytes rest tokens e token cut = ([], bytes, rest, e, refl, token, cut)

-- a blank before all
blank-more : (braces : Bool) (b : ℕ) (text : List ℕ) (tokens : List Sign) → is_blank b ≡ true
    → IsCutInto braces text tokens → IsCutInto braces (b ∷ text) tokens
blank-more braces b text [] here cut = rw (here, cut) refl
blank-more braces b text (sign ∷ tokens) here (blanks, bytes, rest, e, all, token, cut) =
    (b ∷ blanks, bytes, rest, ap (λ l. b ∷ l) e, (rw (here, all) refl), token, cut)

-- behind the bytes that pass stands none that does
passes-end : (p : ℕ → Bool) (l : List ℕ) → begins p (drop (prefix_len p l) l) ≡ false
passes-end p [] = refl
passes-end p (b ∷ l) = by (p b) refl (passes-end p l)
  where
    by : (x : Bool) → p b ≡ x → begins p (drop (prefix_len p l) l) ≡ false
        → begins p (drop (cond x (1 + prefix_len p l) 0) (b ∷ l)) ≡ false
    by true e rest =
        let one : suc (prefix_len p l) ≡ 1 + prefix_len p l = omega arith in
        subst (λ m. begins p (drop m (b ∷ l)) ≡ false) one rest
    by false e rest = e

-- all bytes that are taken pass
passes-all : (p : ℕ → Bool) (l : List ℕ) → list_all p (take (prefix_len p l) l) ≡ true
passes-all p [] = refl
passes-all p (b ∷ l) = by (p b) refl (passes-all p l)
  where
    by : (x : Bool) → p b ≡ x → list_all p (take (prefix_len p l) l) ≡ true
        → list_all p (take (cond x (1 + prefix_len p l) 0) (b ∷ l)) ≡ true
    by true e rest =
        let one : suc (prefix_len p l) ≡ 1 + prefix_len p l = omega arith in
        subst (λ m. list_all p (take m (b ∷ l)) ≡ true) one (rw (e, rest) refl)
    by false e rest = refl

-- a text that is not longer than a number is cut into its tokens
abbrev Cut-below : ℕ → Type 0
Cut-below n = (braces : Bool) (text : List ℕ) → length text ≤ n
    → IsCutInto braces text (signs_at (place_in braces) text)

-- the bytes behind the first that passes are fewer
shorter : (p : ℕ → Bool) (l : List ℕ) (n : ℕ) → length l ≤ n
    → length (drop (prefix_len p l) l) ≤ n
shorter p l n h = let cut = length-drop (prefix_len p l) l in omega (arith, cut, h)

-- a text outside of braces that begins with this byte
cut-outside : (n : ℕ) → Cut-below n → (b : ℕ) (bytes : List ℕ) → length bytes ≤ n
    → is_blank b ≡ false → IsCutInto false (b ∷ bytes) (signs_at outside (b ∷ bytes))
cut-outside n below b bytes h blank = digit (is_ascii_digit b) refl
  where
    braced : (x : Bool) → (b == brace) ≡ x → is_ascii_digit b ≡ false
        → ((b == cross_first) && begins (λ c. c == cross_second) bytes) ≡ false
        → IsCutInto false (b ∷ bytes) (signs_at outside (b ∷ bytes))
    braced true e no_digit no_cross =
        let is = eqb-true b brace e in
        subst (IsCutInto false (b ∷ bytes)) (sym (front-brace (b ∷ bytes) bytes b refl is))
        (more false OpenBrace (b ∷ bytes) (b ∷ []) bytes (signs_at inside bytes) refl
        (ap (λ c. c ∷ []) is) (below true bytes h))
    braced false e no_digit no_cross =
        let own = by_itself b bytes blank no_digit no_cross e in
        subst (IsCutInto false (b ∷ bytes))
        (sym (front-sign (b ∷ bytes) bytes b refl blank no_digit no_cross e))
        (more false (sign_of b) (b ∷ bytes) (b ∷ []) bytes (signs_at outside bytes) refl own.token
        (subst (λ x. IsCutInto x bytes (signs_at outside bytes)) (sym own.closed)
        (below false bytes h)))

    crossed : (l : List ℕ) → bytes ≡ l → (x : Bool)
        → ((b == cross_first) && begins (λ c. c == cross_second) l) ≡ x → is_ascii_digit b ≡ false
        → IsCutInto false (b ∷ bytes) (signs_at outside (b ∷ bytes))
    crossed l is false e no_digit = braced (b == brace) refl no_digit
        (ap (λ l. (b == cross_first) && begins (λ c. c == cross_second) l) is ∙ e)
    crossed [] is true e no_digit =
        let (here, none) = and_parts (b == cross_first) false e in absurd (cc)
    crossed (c ∷ rest) is true e no_digit =
        let (here, next) = and_parts (b == cross_first) (c == cross_second) e in
        let first = eqb-true b cross_first here in
        let second_is = eqb-true c cross_second next in
        let all : bytes ≡ cross_second ∷ rest = is ∙ ap (λ c. c ∷ rest) second_is in
        subst (IsCutInto false (b ∷ bytes))
        (sym (front-cross (b ∷ bytes) bytes rest b refl first all))
        (more false Times (b ∷ bytes) (cross_first ∷ cross_second ∷ []) rest (signs_at outside rest)
        (λ i. first i ∷ all i) (inr (inr refl))
        (below false rest (omega (arith, h, ap length is))))

    digit : (x : Bool) → is_ascii_digit b ≡ x
        → IsCutInto false (b ∷ bytes) (signs_at outside (b ∷ bytes))
    digit false e = crossed bytes refl ((b == cross_first) && begins (λ c. c == cross_second) bytes)
        refl e
    digit true e =
        let k = prefix_len is_ascii_digit bytes in
        let digits : List ℕ = b ∷ take k bytes in
        let all : list_all is_ascii_digit digits ≡ true =
        rw (e, passes-all is_ascii_digit bytes) refl in
        let some : 0 < length digits = omega arith in
        let whole : b ∷ bytes ≡ digits ++ drop k bytes =
        ap (λ l. b ∷ l) (sym (take-append-drop k bytes)) in
        subst (IsCutInto false (b ∷ bytes)) (sym (signs-digits b bytes e))
        (more false (Digits digits) (b ∷ bytes) digits (drop k bytes)
        (signs_at outside (drop k bytes)) whole
        (refl, some, all, passes-end is_ascii_digit bytes)
        (below false (drop k bytes) (shorter is_ascii_digit bytes n h)))

-- the same in braces
cut-inside : (n : ℕ) → Cut-below n → (b : ℕ) (bytes : List ℕ) → length bytes ≤ n
    → is_blank b ≡ false → IsCutInto true (b ∷ bytes) (signs_at inside (b ∷ bytes))
cut-inside n below b bytes h blank = letter (is_word_byte b) refl
  where
    ends : (x : Bool) → (b == brace_end) ≡ x → (b == comma) ≡ false → is_word_byte b ≡ false
        → IsCutInto true (b ∷ bytes) (signs_at inside (b ∷ bytes))
    ends true e no_comma no_letter =
        let is = eqb-true b brace_end e in
        subst (IsCutInto true (b ∷ bytes)) (sym (front-end (b ∷ bytes) bytes b refl is))
        (more true CloseBrace (b ∷ bytes) (b ∷ []) bytes (signs_at outside bytes) refl
        (ap (λ c. c ∷ []) is) (below false bytes h))
    ends false e no_comma no_letter =
        subst (IsCutInto true (b ∷ bytes))
        (sym (front-stray (b ∷ bytes) bytes b refl blank no_letter no_comma e))
        (more true Stray (b ∷ bytes) (b ∷ []) bytes (signs_at inside bytes) refl (
          b,
          refl,
          record {
            no_blank = blank;
            no_letter = no_letter;
            no_sign = rw (no_comma, e) refl;
          },
        ) (below true bytes h))

    parted : (x : Bool) → (b == comma) ≡ x → is_word_byte b ≡ false
        → IsCutInto true (b ∷ bytes) (signs_at inside (b ∷ bytes))
    parted true e no_letter =
        let is = eqb-true b comma e in
        subst (IsCutInto true (b ∷ bytes)) (sym (front-comma (b ∷ bytes) bytes b refl is))
        (more true Comma (b ∷ bytes) (b ∷ []) bytes (signs_at inside bytes) refl
        (ap (λ c. c ∷ []) is) (below true bytes h))
    parted false e no_letter = ends (b == brace_end) refl e no_letter

    letter : (x : Bool) → is_word_byte b ≡ x
        → IsCutInto true (b ∷ bytes) (signs_at inside (b ∷ bytes))
    letter false e = parted (b == comma) refl e
    letter true e =
        let k = prefix_len is_word_byte bytes in
        let word : List ℕ = b ∷ take k bytes in
        let all : list_all is_word_byte word ≡ true =
        rw (e, passes-all is_word_byte bytes) refl in
        let some : 0 < length word = omega arith in
        let whole : b ∷ bytes ≡ word ++ drop k bytes =
        ap (λ l. b ∷ l) (sym (take-append-drop k bytes)) in
        subst (IsCutInto true (b ∷ bytes)) (sym (signs-word b bytes e))
        (more true (Word word) (b ∷ bytes) word (drop k bytes)
        (signs_at inside (drop k bytes)) whole
        (refl, (some, all), passes-end is_word_byte bytes)
        (below true (drop k bytes) (shorter is_word_byte bytes n h)))

-- the same in any place, with blanks
cut-more : (n : ℕ) → Cut-below n → (braces : Bool) (b : ℕ) (bytes : List ℕ) → length bytes ≤ n
    → IsCutInto braces (b ∷ bytes) (signs_at (place_in braces) (b ∷ bytes))
cut-more n below braces b bytes few = by (is_blank b) refl
  where
    placed : (x : Bool) → is_blank b ≡ false
        → IsCutInto x (b ∷ bytes) (signs_at (place_in x) (b ∷ bytes))
    placed true e = cut-inside n below b bytes few e
    placed false e = cut-outside n below b bytes few e

    by : (x : Bool) → is_blank b ≡ x
        → IsCutInto braces (b ∷ bytes) (signs_at (place_in braces) (b ∷ bytes))
    by true e = subst (IsCutInto braces (b ∷ bytes)) (sym (skip braces b bytes e))
        (blank-more braces b bytes (signs_at (place_in braces) bytes) e (below braces bytes few))
    by false e = placed braces e

cut-of : (n : ℕ) → Cut-below n
unfolding signs_at
cut-of n true [] h = refl
cut-of n false [] h = refl
cut-of zero braces (b ∷ bytes) h = absurd (omega (arith, h))
cut-of (suc n) braces (b ∷ bytes) h = cut-more n (cut-of n) braces b bytes (omega (arith, h))

-- what the tokens are cut from is the line
pub texts_are_cut : TextsAreCut
texts_are_cut text = cut-of (length text) false text (omega arith)
