-- Entries and lines, one drawn after the other.
use Rattle.std.proofs.Common.{◌≡◌, ℕ, zero, suc, ◌+◌, ◌-◌, ◌*◌, ◌<◌, ◌≤◌, true, List, [], ◌∷◌, ◌++◌, map, append_assoc, append-nil, sym, ap, ◌∙◌, arith}
use Rattle.std.specs.Prelude.{codes, decimal, nat_lt, if◌then◌else◌}
use Rattle.std.proofs.lemmas.Bool.{lt-ltb}
use Rattle.trial_texts.specs.declared.kind.TrialKind.{TrialKind}
use Rattle.trial_texts.specs.declared.kind.TrialKind.TheVariants.{Chain}
use Rattle.trial_texts.specs.Draws.{next, number, draw, pairs}
use Rattle.trial_texts.specs.Structures.{structure_of, draws_of, structures}
use Rattle.trial_texts.specs.Text.{listed, in_parentheses, in_braces, chance_text, structure_text, line_text, lines_text}

-- draws behind draws
pub number-more : (m n x : ℕ) → number (m + n) x ≡ number n (number m x)
number-more zero n x = ap (λ k. number k x) (zero_more n)
  where
    zero_more : (n : ℕ) → 0 + n ≡ n
    zero_more n = omega arith
number-more (suc m) n x = ap (λ k. number k x) (suc_more m n) ∙ number-more m n (next x)
  where
    suc_more : (m n : ℕ) → suc m + n ≡ suc (m + n)
    suc_more m n = omega arith

left : (n i : ℕ) → i < n → n - i ≡ suc (n - (i + 1))
left n i h = omega arith

twice : (n : ℕ) → 2 * suc n ≡ suc (suc (2 * n))
twice n = omega arith

-- what stands between an entry and n others
abbrev pub between : ℕ → List ℕ
between n = if nat_lt 0 n then codes ", " else []

more_left : (n : ℕ) → nat_lt 0 (suc n) ≡ true
more_left n = lt-ltb 0 (suc n) (omega arith)

-- nothing taken away changes nothing
pub none-less : (n : ℕ) → n - 0 ≡ n
none-less n = omega arith

none_left : (n i : ℕ) → n ≤ i → n - i ≡ 0
none_left n i h = omega arith

module _ (f : ℕ × ℕ → List ℕ) (k m : ℕ) where
  -- the texts of n entries
  abbrev pub entries : ℕ → ℕ → List ℕ
  entries n x = listed (map f (pairs k m n x))

  entry_first : (n x : ℕ) (text : List ℕ)
      → ((text ++ f (draw k 1 x, draw m 2 x)) ++ between n) ++ entries n (number 2 x)
      ≡ text ++ entries (suc n) x
  entry_first zero x text =
      let e : List ℕ = f (draw k 1 x, draw m 2 x) in
      append-nil ((text ++ e) ++ []) ∙ append_assoc text e []
  entry_first (suc n) x text =
      let e : List ℕ = f (draw k 1 x, draw m 2 x) in
      let rest : List ℕ = entries (suc n) (number 2 x) in
      ap (λ b. ((text ++ e) ++ (if b then codes ", " else [])) ++ rest) (more_left n)
      ∙ append_assoc (text ++ e) (codes ", ") rest
      ∙ append_assoc text e (codes ", " ++ rest)

  -- an entry is put before those that are left
  pub entry-more : (n i x y a b : ℕ) (text with_one all : List ℕ) → i < n
      → a ≡ draw k 1 x → b ≡ draw m 2 x → y ≡ number 2 x
      → with_one ≡ text ++ f (a, b) → all ≡ with_one ++ between (n - i - 1)
      → all ++ entries (n - (i + 1)) y ≡ text ++ entries (n - i) x
  entry-more n i x y a b text with_one all h ea eb ey one next_one =
      let less : n - i - 1 ≡ n - (i + 1) = omega arith in
      let r : ℕ = n - (i + 1) in
      ap (λ t. t ++ entries r y) (next_one ∙ ap (λ t. t ++ between (n - i - 1)) one)
      ∙ (λ j. ((text ++ f (ea j, eb j)) ++ between (less j)) ++ entries r (ey j))
      ∙ entry_first r x text ∙ ap (λ j. text ++ entries j x) (sym (left n i h))

  -- where none is left, all is put
  pub entries-done : (n i x : ℕ) (text whole : List ℕ) → n ≤ i
      → text ++ entries (n - i) x ≡ whole → text ≡ whole
  entries-done n i x text whole h e =
      sym (append-nil text) ∙ ap (λ j. text ++ entries j x) (sym (none_left n i h)) ∙ e

-- and two draws are done
pub two-less : (n i x y : ℕ) → i < n → y ≡ number 2 x
    → number (2 * (n - (i + 1))) y ≡ number (2 * (n - i)) x
two-less n i x y h e =
    ap (number (2 * (n - (i + 1)))) e
    ∙ ap (λ j. number j x) (sym (ap (λ j. 2 * j) (left n i h) ∙ twice (n - (i + 1))))

-- with no draw left the seed stays
pub draws-done : (n i x z : ℕ) → n ≤ i → number (2 * (n - i)) x ≡ z → x ≡ z
draws-done n i x z h e = ap (λ j. number (2 * j) x) (sym (none_left n i h)) ∙ e

-- the lines that are left
module _ (kind : TrialKind) (size : ℕ) where
  -- the text of the lines that are left
  abbrev pub lines_left : ℕ → ℕ → List ℕ
  lines_left i x = lines_text i (structures kind size (size - i) x)

  -- one line more of what is left
  pub line-more : (i x y : ℕ) (text one : List ℕ) → i < size
      → y ≡ number (draws_of kind x) x → one ≡ text ++ line_text i (structure_of kind size x)
      → one ++ lines_left (i + 1) y ≡ text ++ lines_left i x
  line-more i x y text one h ey e =
      let rest : List ℕ = lines_left (i + 1) (number (draws_of kind x) x) in
      (λ j. e j ++ lines_left (i + 1) (ey j))
      ∙ append_assoc text (line_text i (structure_of kind size x)) rest
      ∙ ap (λ j. text ++ lines_text i (structures kind size j x)) (sym (left size i h))

  -- where none is left, all is put
  pub lines-done : (i x : ℕ) (text whole : List ℕ) → size ≤ i
      → text ++ lines_left i x ≡ whole → text ≡ whole
  lines-done i x text whole h e =
      sym (append-nil text)
      ∙ ap (λ j. text ++ lines_text i (structures kind size j x)) (sym (none_left size i h)) ∙ e

-- ---- chances

regroup : (before d b : List ℕ)
    → ((before ++ (codes "(" ++ (d ++ codes ", {"))) ++ b) ++ codes "})"
    ≡ before ++ in_parentheses (listed (d ∷ in_braces b ∷ []))
regroup before d b = simp (append_assoc, append-nil)

-- a mark, two targets with their eighths, and what stands around them
pub chances-put : (before marked_text both all : List ℕ) (size x y z a b j : ℕ)
    → marked_text ≡ before ++ (codes "(" ++ (decimal (draw 2 1 x) ++ codes ", {"))
    → y ≡ number 1 x → a ≡ draw size 1 y → b ≡ draw size 2 y → z ≡ number 2 y
    → j ≡ draw 7 1 z
    → both ≡ marked_text ++ listed (chance_text a (1 + j) ∷ chance_text b (8 - (1 + j)) ∷ [])
    → all ≡ both ++ codes "})"
    → all ≡ before ++ structure_text (structure_of Chain size x)
chances-put before marked_text both all size x y z a b j em ey ea eb ez ej e1 e2 =
    let first : a ≡ draw size 2 x = ea ∙ ap (draw size 1) ey in
    let second : b ≡ draw size 3 x = eb ∙ ap (draw size 2) ey in
    let last : j ≡ draw 7 4 x = ej ∙ ap (draw 7 1) (ez ∙ ap (number 2) ey) in
    e2 ∙ ap (λ t. t ++ codes "})") e1
    ∙ (λ i. (em i ++ listed (chance_text (first i) (1 + last i)
    ∷ chance_text (second i) (8 - (1 + last i)) ∷ [])) ++ codes "})")
    ∙ regroup before (decimal (draw 2 1 x)) (listed (chance_text (draw size 2 x) (1 + draw 7 4 x)
    ∷ chance_text (draw size 3 x) (8 - (1 + draw 7 4 x)) ∷ []))
