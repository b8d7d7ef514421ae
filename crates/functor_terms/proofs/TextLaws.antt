-- The canonical text of a term spells it, and opens fewer parentheses than the term has levels.
use Rattle.std.proofs.Common.{◌≡◌, ℕ, zero, suc, ◌+◌, ◌<◌, ◌≤◌, ◌-◌, ◌⊎◌, List, [], ◌∷◌, ◌++◌, length, map, Some, Bool, true, false, refl, sym, ap, ◌∙◌, subst, append_assoc, append-nil, arith, inl, inr}
use Rattle.std.specs.Prelude.{codes, nat_le, ◌==◌, if◌then◌else◌, IsTrue}
use Rattle.std.specs.Char.{is_ascii_digit}
use Rattle.std.specs.List.{AllByRecursion, flat_map, join_by}
use Rattle.std.proofs.lemmas.Bool.Decides.{nat_tests}
use Rattle.functor_terms.specs.declared.node.LabelSet.{LabelSet}
use Rattle.functor_terms.specs.declared.node.Node.{Node}
use Rattle.functor_terms.specs.declared.node.Node.TheVariants.{State, Constant, Naturals, Product, Sum, Power, Powerset, Bag, Distribution, Integers, Rationals}
use Rattle.functor_terms.specs.declared.sign.Sign.{Sign}
use Rattle.functor_terms.specs.declared.sign.Sign.TheVariants.{X, P, B, D, N, Z, Q, Plus, Times, Caret, Open, Close}
use Rattle.functor_terms.specs.Terms.{Part, IsPart, HasLabels, AreLabels, takes, deepest, placed, over}
use Rattle.functor_terms.specs.Signs.{outside, begins, signs, signs_at}
use Rattle.functor_terms.specs.Grammar.{prefix_of, weights_of, letter_of, SpellsEach, SpellsBase, SpellsPrefix, SpellsSum, SpellsInside, open_limit}
use Rattle.functor_terms.specs.Grammar.SpellsBase.{weights, letter, constant, group}
use Rattle.functor_terms.specs.Text.{Shown, shown, prefix_level, power_level, sum_level, level_of, enclosed, within, label_text, node_text, shown_over, shown_at, text_of_term, TextsSpell}
use Rattle.functor_terms.proofs.TermLaws.{IsBlock, part-block, part-tight}
use Rattle.functor_terms.proofs.PartFolds.{fold-over}
use Rattle.functor_terms.proofs.PartLaws.{IsOwnPart, over-own}
use Rattle.functor_terms.proofs.GrammarLaws.{base-none}
use Rattle.functor_terms.proofs.MonotoneLaws.{inside-more, SpellsLevel, level-more, level-up, power-push}
use Rattle.functor_terms.proofs.TextTokens.{Lexes, lexes-append, lexes-enclosed, labels-shown}

-- how a part is shown
abbrev shown_part : Part → Shown
shown_part part = shown_at (placed 0 part.0) 0

blocks : (parts : List Part) → AllByRecursion IsOwnPart parts → AllByRecursion IsBlock parts
blocks [] own = tt
blocks (x ∷ xs) own = (part-block x.1 x own.0, blocks xs own.1)

-- a node is shown over how its parts are shown
shown-node : (node : Node) (parts : List Part) → AllByRecursion IsOwnPart parts
    → shown_part (over node parts) ≡ shown_over node (map shown_part parts)
unfolding shown_at
shown-node node parts own = fold-over (shown prefix_level []) shown_over node parts
    (blocks parts own)

-- the part's own text spells it, in the form of its level, with at most n parentheses open
pub record Good (n : ℕ) (x : Part) : Type 0 where
  pub own : IsOwnPart x
  pub seen : Shown
  pub is : shown_part x ≡ seen
  pub low : seen.level ≤ sum_level
  pub tokens : List Sign
  pub lexes : Lexes seen.text tokens
  pub spelled : SpellsLevel (SpellsInside n) seen.level tokens x

-- and does so with one parenthesis fewer
abbrev Grouped : ℕ → Part → Type 0
Grouped n x = (k : ℕ) × (n ≡ suc k) × Good k x

-- the part's text spells it, and may stand where no text of a higher level may, perhaps in
-- parentheses
abbrev Fine : ℕ → ℕ → Part → Type 0
Fine level n x = Good n x × (((shown_part x).level ≤ level) ⊎ Grouped n x)

-- the text as it stands there spells the part
pub record Stood (level n : ℕ) (x : Part) : Type 0 where
  pub tokens : List Sign
  pub lexes : Lexes (within level (shown_part x)) tokens
  pub spelled : SpellsLevel (SpellsInside n) level tokens x

good-more : (n : ℕ) (x : Part) → Good n x → Good (suc n) x
good-more n x good = record {
  own = good.own;
  seen = good.seen;
  is = good.is;
  low = good.low;
  tokens = good.tokens;
  lexes = good.lexes;
  spelled = level-more (SpellsInside n) (SpellsInside (suc n))
      (inside-more n) good.seen.level good.tokens x good.spelled;
}

fine-grouped : (level n : ℕ) (x : Part) → Grouped n x → Fine level n x
fine-grouped level n x (k, same, good) = (
  subst (λ m. Good m x) (sym same) (good-more k x good),
  inr (k, same, good),
)

fine-up : (low high n : ℕ) (x : Part) → low ≤ high → Fine low n x → Fine high n x
fine-up low high n x le (good, inl below) = (good, inl (omega (arith, le, below)))
fine-up low high n x le (good, inr grouped) = (good, inr grouped)

-- what a grouped part's text spells inside parentheses
inner-spelled : (n : ℕ) (x : Part) → Grouped n x → (tokens : List Sign) × Lexes
    (shown_part x).text tokens × SpellsInside n tokens x
unfolding SpellsInside
inner-spelled n x (k, same, good) =
    let low : good.seen.level ≤ 3 = good.low in
    let sums : 3 - good.seen.level + good.seen.level ≡ 3 = omega (arith, low) in (
      good.tokens,
      subst (λ l. Lexes l good.tokens) (ap (λ (s : Shown). s.text) (sym good.is)) good.lexes,
      subst (λ m. SpellsInside m good.tokens x) (sym same)
          (level-up (SpellsInside k) good.seen.level 3
          (3 - good.seen.level) sums good.tokens x good.spelled),
    )

within-is : (level : ℕ) (child : Shown) (b : Bool) → nat_le child.level level ≡ b
    → within level child ≡ (if b then child.text else enclosed child.text)
within-is level child b e = ap (λ c. if c then child.text else enclosed child.text) e

-- a fine part stands
stand : (level n : ℕ) (x : Part) → Fine level n x → Stood level n x
stand level n x (good, place) = by (nat_le (shown_part x).level level) refl
  where
    same_level : good.seen.level ≡ (shown_part x).level
    same_level = ap (λ (s : Shown). s.level) (sym good.is)

    in_parentheses : within level (shown_part x) ≡ enclosed (shown_part x).text → Grouped n x
        → Stood level n x
    in_parentheses is grouped =
        let (tokens, lexes, spelled) = inner-spelled n x grouped in
        let whole : level + 0 ≡ level = omega arith in
        record {
          tokens = Open ∷ tokens ++ Close ∷ [];
          lexes = subst (λ l. Lexes l (Open ∷ tokens ++ Close ∷ [])) (sym is)
              (lexes-enclosed (shown_part x).text tokens lexes);
          spelled = level-up (SpellsInside n) 0 level level whole (Open ∷ tokens ++ Close ∷ []) x
              (inl (group tokens refl spelled));
        }

    by : (b : Bool) → nat_le (shown_part x).level level ≡ b → Stood level n x
    by true e =
        let below : (shown_part x).level ≤ level = grind (arith, nat_tests) in
        let sums : level - good.seen.level + good.seen.level ≡ level =
        omega (arith, below, same_level) in
        record {
          tokens = good.tokens;
          lexes = subst (λ l. Lexes l good.tokens) (sym (within-is level (shown_part x) true e
              ∙ ap (λ (s : Shown). s.text) good.is)) good.lexes;
          spelled = level-up (SpellsInside n) good.seen.level level
              (level - good.seen.level) sums good.tokens x good.spelled;
        }
    by false e = in_parentheses (within-is level (shown_part x) false e) (grouped place)
      where
        grouped : ((shown_part x).level ≤ level) ⊎ Grouped n x → Grouped n x
        grouped (inl below) = let above : level < (shown_part x).level = grind (arith, nat_tests) in
            absurd (omega (arith, below, above))
        grouped (inr h) = h

level-low : (node : Node) → level_of node ≤ sum_level
level-low (Power labels) = let goal : 1 ≤ 3 = omega arith in goal
level-low Product = let goal : 2 ≤ 3 = omega arith in goal
level-low Sum = let goal : 3 ≤ 3 = omega arith in goal
level-low _ = let goal : 0 ≤ 3 = omega arith in goal

-- a node whose text spells it is fine at its level
build : (n : ℕ) (node : Node) (parts : List Part) → AllByRecursion IsOwnPart parts
    → IsOwnPart (over node parts) → (tokens : List Sign)
    → Lexes (node_text node (map shown_part parts)) tokens
    → SpellsLevel (SpellsInside n) (level_of node) tokens (over node parts)
    → Fine (level_of node) n (over node parts)
build n node parts each own tokens lexes spelled =
    let is = shown-node node parts each in
    let level : (shown_part (over node parts)).level ≡ level_of node =
    ap (λ (s : Shown). s.level) is in (
      record {
        own = own;
        seen = shown_over node (map shown_part parts);
        is = is;
        low =
            level-low node;
        tokens = tokens;
        lexes = lexes;
        spelled = spelled;
      },
      inl (omega (arith, level)),
    )

-- Prefixes, weights and letters.
prefix-fine : (n : ℕ) (t : Sign) (node : Node) (child : Part) → prefix_of t ≡ Some node
    → IsOwnPart child → IsOwnPart (over node (child ∷ [])) → Stood 0 n child
    → Fine 0 n (over node (child ∷ []))
unfolding signs_at
prefix-fine n P node child e own made stood =
    let same : Powerset ≡ node = cc in
    subst (λ m. Fine 0 n (over m (child ∷ []))) same (build n Powerset (child ∷ []) (own, tt)
    (subst (λ m. IsOwnPart (over m (child ∷ []))) (sym same) made) (P ∷ stood.tokens)
    (λ rest ends. ap (λ l. P ∷ l) (stood.lexes rest ends))
    (inr (Powerset, child, refl, stood.spelled, refl)))
prefix-fine n B node child e own made stood =
    let same : Bag ≡ node = cc in
    subst (λ m. Fine 0 n (over m (child ∷ []))) same (build n Bag (child ∷ []) (own, tt)
    (subst (λ m. IsOwnPart (over m (child ∷ []))) (sym same) made) (B ∷ stood.tokens)
    (λ rest ends. ap (λ l. B ∷ l) (stood.lexes rest ends))
    (inr (Bag, child, refl, stood.spelled, refl)))
prefix-fine n D node child e own made stood =
    let same : Distribution ≡ node = cc in
    subst (λ m. Fine 0 n (over m (child ∷ []))) same (build n Distribution (child ∷ []) (own, tt)
    (subst (λ m. IsOwnPart (over m (child ∷ []))) (sym same) made) (D ∷ stood.tokens)
    (λ rest ends. ap (λ l. D ∷ l) (stood.lexes rest ends))
    (inr (Distribution, child, refl, stood.spelled, refl)))
prefix-fine n _ node child e own made stood = cc

weights-fine : (n : ℕ) (t : Sign) (node : Node) (child : Part) → weights_of t ≡ Some node
    → IsOwnPart child → IsOwnPart (over node (child ∷ [])) → Grouped n child
    → Fine 0 n (over node (child ∷ []))
unfolding signs_at
weights-fine n N node child e own made grouped =
    let same : Bag ≡ node = cc in prefix-fine n B node child (ap Some same) own made
    (stand 0 n child (fine-grouped 0 n child grouped))
weights-fine n Z node child e own made grouped =
    let same : Integers ≡ node = cc in
    let (tokens, lexes, spelled) = inner-spelled n child grouped in
    subst (λ m. Fine 0 n (over m (child ∷ []))) same (build n Integers (child ∷ []) (own, tt)
    (subst (λ m. IsOwnPart (over m (child ∷ []))) (sym same) made)
    (Z ∷ Caret ∷ Open ∷ tokens ++ Close ∷ [])
    (λ rest ends. ap (λ l. Z ∷ Caret ∷ l) (lexes-enclosed
    (shown_part child).text tokens lexes rest ends))
    (inl (weights Z Integers tokens child refl refl spelled refl)))
weights-fine n Q node child e own made grouped =
    let same : Rationals ≡ node = cc in
    let (tokens, lexes, spelled) = inner-spelled n child grouped in
    subst (λ m. Fine 0 n (over m (child ∷ []))) same (build n Rationals (child ∷ []) (own, tt)
    (subst (λ m. IsOwnPart (over m (child ∷ []))) (sym same) made)
    (Q ∷ Caret ∷ Open ∷ tokens ++ Close ∷ [])
    (λ rest ends. ap (λ l. Q ∷ Caret ∷ l) (lexes-enclosed
    (shown_part child).text tokens lexes rest ends))
    (inl (weights Q Rationals tokens child refl refl spelled refl)))
weights-fine n _ node child e own made grouped = cc

letter-fine : (n : ℕ) (t : Sign) (node : Node) → letter_of t ≡ Some node → IsOwnPart (over node [])
    → Fine 0 n (over node [])
unfolding signs_at
letter-fine n X node e made =
    let same : State ≡ node = cc in
    subst (λ m. Fine 0 n (over m [])) same (build n State [] tt
    (subst (λ m. IsOwnPart (over m [])) (sym same) made) (X ∷ []) (λ rest ends. refl)
    (inl (letter X State refl refl refl)))
letter-fine n N node e made =
    let same : Naturals ≡ node = cc in
    subst (λ m. Fine 0 n (over m [])) same (build n Naturals [] tt
    (subst (λ m. IsOwnPart (over m [])) (sym same) made) (N ∷ []) (λ rest ends. refl)
    (inl (letter N Naturals refl refl refl)))
letter-fine n _ node e made = cc

-- weights and atoms are some tokens
bare : (n : ℕ) (ts : List Sign) (x : Part) → SpellsBase (SpellsInside n) ts x
    → SpellsPrefix (SpellsInside n) ts x
bare n [] x spelled = absurd (base-none (SpellsInside n) x spelled)
bare n (t ∷ ts) x spelled = inl spelled

constant-fine : (n : ℕ) (labels : LabelSet) → AreLabels labels
    → IsOwnPart (over (Constant labels) []) → Fine 0 n (over (Constant labels) [])
constant-fine n labels are made =
    let found = labels-shown labels are in
    build n (Constant labels) [] tt made found.tokens found.lexes
    (bare n found.tokens (over (Constant labels) []) (constant labels found.spelled refl))

-- Powers.
power-step : (n : ℕ) (base : Part) (labels : LabelSet) → AreLabels labels → IsOwnPart base
    → IsOwnPart (over (Power labels) (base ∷ [])) → Fine 1 n base
    → Fine 1 n (over (Power labels) (base ∷ []))
unfolding signs_at
power-step n base labels are own made fine =
    let found = labels-shown labels are in
    let stood = stand 1 n base fine in
    build n (Power labels) (base ∷ []) (own, tt) made (stood.tokens ++ Caret ∷ found.tokens)
    (subst (λ l. Lexes l (stood.tokens ++ Caret ∷ found.tokens))
    (sym (append_assoc (within power_level (shown_part base)) (codes "^") (label_text labels)))
    (lexes-append (within power_level (shown_part base))
    (codes "^" ++ label_text labels) stood.tokens (Caret ∷ found.tokens) stood.lexes
    (λ rest ends. ap (λ l. Caret ∷ l) (found.lexes rest ends)) (λ rest. refl)))
    (power-push (SpellsInside n) stood.tokens found.tokens base labels stood.spelled found.spelled)

-- Chains.
pub record Joined (level n : ℕ) (between : Sign) (separator : List ℕ)
    (parts : List Part) : Type 0 where
  pub tokens : List Sign
  pub lexes : Lexes (join_by (within level) separator (map shown_part parts)) tokens
  pub each : SpellsEach between (SpellsLevel (SpellsInside n) level) tokens parts

module _ (level n : ℕ) (between : Sign) (separator : List ℕ)
    (separates : (rest : List ℕ) → signs_at outside (separator ++ rest)
    ≡ between ∷ signs_at outside rest) (starts : (rest : List ℕ)
    → begins is_ascii_digit (separator ++ rest) ≡ false) where
  join : (x : Part) (xs : List Part) → Stood level n x → AllByRecursion (Stood level n) xs
      → Joined level n between separator (x ∷ xs)
  join x [] stood others = record {
    tokens = stood.tokens;
    lexes = subst (λ l. Lexes l stood.tokens)
        (sym (append-nil (within level (shown_part x)))) stood.lexes;
    each = stood.spelled;
  }
  join x (y ∷ ys) stood (next, others) =
      let joined = join y ys next others in
      let rest_text : List ℕ = join_by (within level) separator (map shown_part (y ∷ ys)) in
      let text : List ℕ = flat_map (λ child. separator ++ within level child) (map shown_part ys) in
      let regrouped : within level (shown_part x) ++ (separator ++
      (within level (shown_part y) ++ flat_map (λ child. separator ++ within level child)
      (map shown_part ys)))
      ≡ join_by (within level) separator (map shown_part (x ∷ y ∷ ys)) =
      ap (λ l. within level (shown_part x) ++ l)
      (sym (append_assoc separator (within level (shown_part y))
      (flat_map (λ child. separator ++ within level child) (map shown_part ys)))) in
      record {
        tokens = stood.tokens ++ between ∷ joined.tokens;
        lexes = subst (λ l. Lexes l (stood.tokens ++ between ∷ joined.tokens)) regrouped
            (lexes-append (within level (shown_part x)) (separator ++ join_by
            (within level) separator (map shown_part (y ∷ ys))) stood.tokens
            (between ∷ joined.tokens) stood.lexes
            (λ rest ends. ap (signs_at outside) (append_assoc separator
            (join_by (within level) separator (map shown_part (y ∷ ys))) rest)
            ∙ separates (join_by (within level) separator
            (map shown_part (y ∷ ys)) ++ rest)
            ∙ ap (λ l. between ∷ l) (joined.lexes rest ends))
            (λ rest. ap (begins is_ascii_digit) (append_assoc separator
            (join_by (within level) separator (map shown_part (y ∷ ys))) rest)
            ∙ starts (join_by (within level) separator (map shown_part (y ∷ ys)) ++ rest)));
        each = (stood.tokens, joined.tokens, refl, stood.spelled, joined.each);
      }

-- grouped parts stand, in parentheses where their level is too high
each-stood : (level n : ℕ) (parts : List Part) → AllByRecursion (Grouped n) parts
    → AllByRecursion (Stood level n) parts
each-stood level n [] grouped = tt
each-stood level n (x ∷ xs) grouped =
    (stand level n x (fine-grouped level n x grouped.0), each-stood level n xs grouped.1)

-- a chain over grouped parts
chain-joined : (level n : ℕ) (between : Sign) (separator : List ℕ)
    → ((rest : List ℕ) → signs_at outside (separator ++ rest) ≡ between ∷ signs_at outside rest)
    → ((rest : List ℕ) → begins is_ascii_digit (separator ++ rest) ≡ false)
    → (x : Part) (xs : List Part) → AllByRecursion (Grouped n) (x ∷ xs)
    → Joined level n between separator (x ∷ xs)
chain-joined level n between separator separates starts x xs grouped =
    let stood = each-stood level n (x ∷ xs) grouped in
    join level n between separator separates starts x xs stood.0 stood.1

-- what a test of a number of children says
no-child : (n : ℕ) → IsTrue (n == 0) → n ≡ 0
no-child n e = grind (arith, nat_tests)

one-child : (n : ℕ) → IsTrue (n == 1) → n ≡ 1
one-child n e = grind (arith, nat_tests)

two-children : (n : ℕ) → IsTrue (nat_le 2 n) → 2 ≤ n
two-children n e = grind (arith, nat_tests)

-- a node over grouped parts, as many as it takes
node-good : (n : ℕ) (node : Node) (parts : List Part) → IsTrue (takes node (length parts))
    → HasLabels node → AllByRecursion IsOwnPart parts → AllByRecursion (Grouped n) parts
    → Good n (over node parts)
unfolding signs_at
node-good n State [] arity labels own grouped =
    (letter-fine n X State refl (over-own State [] arity labels own)).0
node-good n State (x ∷ xs) arity labels own grouped =
    absurd (omega (arith, no-child (length (x ∷ xs)) arity))
node-good n (Constant ls) [] arity labels own grouped =
    (constant-fine n ls labels (over-own (Constant ls) [] arity labels own)).0
node-good n (Constant ls) (x ∷ xs) arity labels own grouped =
    absurd (omega (arith, no-child (length (x ∷ xs)) arity))
node-good n Naturals [] arity labels own grouped =
    (letter-fine n N Naturals refl (over-own Naturals [] arity labels own)).0
node-good n Naturals (x ∷ xs) arity labels own grouped =
    absurd (omega (arith, no-child (length (x ∷ xs)) arity))
node-good n Product [] arity labels own grouped = absurd (omega (arith, two-children 0 arity))
node-good n Product (x ∷ xs) arity labels own grouped =
    let joined = chain-joined 1 n Times (codes " x ") (λ rest. refl) (λ rest. refl) x xs grouped in
    let two = two-children (length (x ∷ xs)) arity in
    (build n Product (x ∷ xs) own (over-own Product (x ∷ xs) arity labels own)
    joined.tokens joined.lexes (inr (x ∷ xs, two, joined.each, refl))).0
node-good n Sum [] arity labels own grouped = absurd (omega (arith, two-children 0 arity))
node-good n Sum (x ∷ xs) arity labels own grouped =
    let joined = chain-joined 2 n Plus (codes " + ") (λ rest. refl) (λ rest. refl) x xs grouped in
    let two = two-children (length (x ∷ xs)) arity in
    (build n Sum (x ∷ xs) own (over-own Sum (x ∷ xs) arity labels own)
    joined.tokens joined.lexes (inr (x ∷ xs, two, joined.each, refl))).0
node-good n (Power ls) [] arity labels own grouped = absurd (omega (arith, one-child 0 arity))
node-good n (Power ls) (x ∷ []) arity labels own grouped =
    (power-step n x ls labels own.0 (over-own (Power ls) (x ∷ []) arity labels own)
    (fine-grouped 1 n x grouped.0)).0
node-good n (Power ls) (x ∷ y ∷ xs) arity labels own grouped =
    absurd (omega (arith, one-child (length (x ∷ y ∷ xs)) arity))
node-good n Powerset [] arity labels own grouped = absurd (omega (arith, one-child 0 arity))
node-good n Powerset (x ∷ []) arity labels own grouped =
    (prefix-fine n P Powerset x refl own.0 (over-own Powerset (x ∷ []) arity labels own)
    (stand 0 n x (fine-grouped 0 n x grouped.0))).0
node-good n Powerset (x ∷ y ∷ xs) arity labels own grouped =
    absurd (omega (arith, one-child (length (x ∷ y ∷ xs)) arity))
node-good n Bag [] arity labels own grouped = absurd (omega (arith, one-child 0 arity))
node-good n Bag (x ∷ []) arity labels own grouped =
    (prefix-fine n B Bag x refl own.0 (over-own Bag (x ∷ []) arity labels own)
    (stand 0 n x (fine-grouped 0 n x grouped.0))).0
node-good n Bag (x ∷ y ∷ xs) arity labels own grouped =
    absurd (omega (arith, one-child (length (x ∷ y ∷ xs)) arity))
node-good n Distribution [] arity labels own grouped = absurd (omega (arith, one-child 0 arity))
node-good n Distribution (x ∷ []) arity labels own grouped =
    (prefix-fine n D Distribution x refl own.0 (over-own Distribution (x ∷ []) arity labels own)
    (stand 0 n x (fine-grouped 0 n x grouped.0))).0
node-good n Distribution (x ∷ y ∷ xs) arity labels own grouped =
    absurd (omega (arith, one-child (length (x ∷ y ∷ xs)) arity))
node-good n Integers [] arity labels own grouped = absurd (omega (arith, one-child 0 arity))
node-good n Integers (x ∷ []) arity labels own grouped =
    (weights-fine n Z Integers x refl own.0 (over-own Integers (x ∷ []) arity labels own)
    grouped.0).0
node-good n Integers (x ∷ y ∷ xs) arity labels own grouped =
    absurd (omega (arith, one-child (length (x ∷ y ∷ xs)) arity))
node-good n Rationals [] arity labels own grouped = absurd (omega (arith, one-child 0 arity))
node-good n Rationals (x ∷ []) arity labels own grouped =
    (weights-fine n Q Rationals x refl own.0 (over-own Rationals (x ∷ []) arity labels own)
    grouped.0).0
node-good n Rationals (x ∷ y ∷ xs) arity labels own grouped =
    absurd (omega (arith, one-child (length (x ∷ y ∷ xs)) arity))

-- what holds of each of these holds of each
each-weaker : (R S : Part → Type 0) → ((x : Part) → R x → S x) → (parts : List Part)
    → AllByRecursion R parts → AllByRecursion S parts
each-weaker R S weaker [] all = tt
each-weaker R S weaker (x ∷ xs) all = (weaker x all.0, each-weaker R S weaker xs all.1)

over-good : (n : ℕ) → ((x : Part) → IsPart n x → Grouped n x) → (x : Part) → IsPart (suc n) x
    → Good n x
unfolding IsPart
over-good n grouped x (node, parts, arity, labels, each, made) =
    subst (Good n) (sym made) (node-good n node parts arity labels
    (each-weaker (IsPart n) IsOwnPart (part-tight n) parts each)
    (each-weaker (IsPart n) (Grouped n) grouped parts each))

part-none : (x : Part) → IsPart 0 x → Grouped 0 x
unfolding IsPart
part-none x is = absurd is

-- the text of a part of at most n + 1 levels spells it, and opens at most n parentheses
part-good : (n : ℕ) (x : Part) → IsPart (suc n) x → Good n x
part-good zero = over-good 0 part-none
part-good (suc n) = over-good (suc n) (λ x is. (n, refl, part-good n x is))

-- the text of a part spells it
part-shown : (n : ℕ) (x : Part) → Good n x → SpellsSum (SpellsInside n)
    (signs (shown_part x).text) x
unfolding signs_at
part-shown n x good =
    let low : good.seen.level ≤ 3 = good.low in
    let sums : 3 - good.seen.level + good.seen.level ≡ 3 = omega (arith, low) in
    let tokens_are : signs (shown_part x).text ≡ good.tokens =
    ap (λ (s : Shown). signs s.text) good.is ∙ ap (signs_at outside)
    (sym (append-nil good.seen.text)) ∙ good.lexes [] refl ∙ append-nil good.tokens in
    subst (λ l. SpellsSum (SpellsInside n) l x) (sym tokens_are)
    (level-up (SpellsInside n) good.seen.level 3
    (3 - good.seen.level) sums good.tokens x good.spelled)

all-shallow : (n : ℕ) → ((x : Part) → IsPart n x → x.1 ≤ n) → (parts : List Part)
    → AllByRecursion (IsPart n) parts → deepest parts ≤ n
all-shallow n shallow [] all = omega arith
all-shallow n shallow (x ∷ xs) all =
    let here = shallow x all.0 in
    let behind = all-shallow n shallow xs all.1 in
    omega (arith, here, behind)

-- a part is no deeper than it is built
part-shallow : (n : ℕ) (x : Part) → IsPart n x → x.1 ≤ n
unfolding IsPart
part-shallow zero x is = absurd is
part-shallow (suc n) x (node, parts, arity, labels, each, made) =
    let below = all-shallow n (part-shallow n) parts each in
    let depth : x.1 ≡ deepest parts + 1 = ap (λ (y : Part). y.1) made in
    omega (arith, below, depth)

-- the canonical text of a term spells it
pub texts_spell : TextsSpell
texts_spell t is =
    let built : IsPart 32 is.part = is.within.built in
    let good : Good open_limit is.part = good-more 31 is.part (part-good 31 is.part built) in
    let shown_is : text_of_term t ≡ (shown_part is.part).text = ap text_of_term is.numbered in
    record {
      part = is.part;
      spelled = subst (λ l. SpellsSum (SpellsInside open_limit) (signs l) is.part)
          (sym shown_is) (part-shown open_limit is.part good);
      shallow = part-shallow 32 is.part built;
      few = is.within.few;
      numbered = is.numbered;
    }
