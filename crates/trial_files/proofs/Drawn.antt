-- What is drawn is good, line by line, and the whole text is the lines of names and structures.
use Rattle.std.proofs.Common.{◌≡◌, ℕ, zero, suc, ◌+◌, ◌*◌, ◌/◌, ◌%◌, ◌^◌, ◌<◌, ◌≤◌, List, ◌++◌, length, map, refl, ap, arith}
use Rattle.std.specs.Prelude.{codes}
use Rattle.std.specs.List.{AllByRecursion}
use Rattle.std.proofs.lemmas.List.{length-append}
use Rattle.structure_writer.specs.Text.{paired}
use Rattle.trial_texts.specs.declared.kind.TrialKind.{TrialKind}
use Rattle.trial_texts.specs.declared.kind.TrialKind.TheVariants.{Lts, Chain, Sums, Dfa}
use Rattle.trial_texts.specs.Draws.{drawn, number, draw, pairs}
use Rattle.trial_texts.specs.Structures.{structure_of, draws_of, structures}
use Rattle.trial_texts.specs.Text.{name_text, structure_text, line_text, lines_text, functor_text}
use Rattle.trial_files.proofs.Names.{names_from, name-short}
use Rattle.trial_files.proofs.Lines.{lines_with}
use Rattle.trial_files.proofs.Accepts.{IsGood}
use Rattle.trial_files.proofs.Terms.{term_of}
use Rattle.trial_files.proofs.Pieces.{eighths-are}
use Rattle.trial_files.proofs.States.{IsMove, IsSum}
use Rattle.trial_files.proofs.Moves.{moves-good}
use Rattle.trial_files.proofs.Marked.{sums-good, ends-good, chances-good}

-- ---- draws

drawn_below : (k x : ℕ) → 0 < k → drawn k x < k
unfolding drawn
drawn_below k x h = below (x / 2 ^ 33) k h
  where
    below : (n k : ℕ) → 0 < k → n % k < k
    below n k h = omega arith

draw_below : (k n x : ℕ) → 0 < k → draw k n x < k
draw_below k n x h = drawn_below k (number n x) h

pairs_count : (k m e x : ℕ) → length (pairs k m e x) ≡ e
pairs_count k m zero x = refl
pairs_count k m (suc e) x = ap suc (pairs_count k m e (number 2 x))

module _ (size : ℕ) (some : 0 < size) where
  moves_drawn : (e x : ℕ) → AllByRecursion (IsMove size) (pairs 3 size e x)
  moves_drawn zero x = tt
  moves_drawn (suc e) x =
      ((draw_below 3 1 x (omega arith), draw_below size 2 x some), moves_drawn e (number 2 x))

  sums_drawn : (e x : ℕ) → AllByRecursion (IsSum size) (pairs size 7 e x)
  sums_drawn zero x = tt
  sums_drawn (suc e) x =
      ((draw_below size 1 x some, draw_below 7 2 x (omega arith)), sums_drawn e (number 2 x))

module _ (size : ℕ) (some : 0 < size) (few : size ≤ 200000) where
  -- the line of a state is good
  structure_good : (kind : TrialKind) (x : ℕ)
      → IsGood (term_of kind) (names_from 0 size) (structure_text (structure_of kind size x))
  structure_good Lts x =
      let count : length (pairs 3 size (draw 4 1 x) (number 1 x)) ≡ draw 4 1 x =
      pairs_count 3 size (draw 4 1 x) (number 1 x) in
      moves-good size few (pairs 3 size (draw 4 1 x) (number 1 x))
      (moves_drawn size some (draw 4 1 x) (number 1 x))
      (omega (arith, count, draw_below 4 1 x (omega arith)))
  structure_good Chain x =
      chances-good size few (draw 2 1 x) (1 + draw 7 4 x) (draw size 2 x) (draw size 3 x)
      (draw_below 2 1 x (omega arith)) (eighths-are (draw 7 4 x) (draw_below 7 4 x (omega arith)))
      (draw_below size 2 x some) (draw_below size 3 x some)
  structure_good Sums x =
      let count : length (pairs size 7 (draw 4 2 x) (number 2 x)) ≡ draw 4 2 x =
      pairs_count size 7 (draw 4 2 x) (number 2 x) in
      sums-good size few (draw 2 1 x) (draw_below 2 1 x (omega arith))
      (pairs size 7 (draw 4 2 x) (number 2 x)) (sums_drawn size some (draw 4 2 x) (number 2 x))
      (omega (arith, count, draw_below 4 2 x (omega arith)))
  structure_good Dfa x =
      ends-good size few (draw 2 1 x) (draw size 2 x) (draw size 3 x)
      (draw_below 2 1 x (omega arith)) (draw_below size 2 x some) (draw_below size 3 x some)

  module _ (kind : TrialKind) where
    -- the texts of n structures
    abbrev pub texts_from : ℕ → ℕ → List (List ℕ)
    texts_from n x = map structure_text (structures kind size n x)

    -- each text that is drawn is good
    pub all-good : (n x : ℕ)
        → AllByRecursion (IsGood (term_of kind) (names_from 0 size)) (texts_from n x)
    all-good zero x = tt
    all-good (suc n) x = (structure_good kind x, all-good n (number (draws_of kind x) x))

    -- as many texts are drawn as asked for
    pub texts-count : (n x : ℕ) → length (texts_from n x) ≡ n
    texts-count zero x = refl
    texts-count (suc n) x = ap suc (texts-count n (number (draws_of kind x) x))

    -- the lines that are drawn are those of the texts
    pub lines-are : (n i x : ℕ)
        → lines_text i (structures kind size n x) ≡ lines_with (names_from i n) (texts_from n x)
    lines-are zero i x = refl
    lines-are (suc n) i x =
        ap (λ l. line_text i (structure_of kind size x) ++ l)
        (lines-are n (i + 1) (number (draws_of kind x) x))

-- ---- lengths

line_short : (name text rest : List ℕ) (n : ℕ) → length name ≤ 7 → length text ≤ 50
    → length rest ≤ 60 * n
    → length ((paired name text ++ codes "\n") ++ rest) ≤ 60 * suc n
line_short name text rest n a b c =
    omega (
      arith,
      a,
      b,
      c,
      length-append (paired name text ++ codes "\n") rest,
      length-append (paired name text) (codes "\n"),
      length-append name (codes ": " ++ text),
    )

module _ (size : ℕ) (some : 0 < size) (few : size ≤ 200000) (kind : TrialKind) where
  lines_short : (n i x : ℕ) → i + n ≤ 200000
      → length (lines_with (names_from i n) (texts_from size some few kind n x)) ≤ 60 * n
  lines_short zero i x h = omega arith
  lines_short (suc n) i x h =
      line_short (name_text i) (structure_text (structure_of kind size x))
      (lines_with (names_from (i + 1) n)
      (texts_from size some few kind n (number (draws_of kind x) x))) n
      (name-short i (omega (arith, h))) (structure_good size some few kind x).short
      (lines_short n (i + 1) (number (draws_of kind x) x) (omega (arith, h)))

  functor_short : (k : TrialKind) → length (functor_text k) ≤ 16
  functor_short Lts = omega arith
  functor_short Chain = omega arith
  functor_short Sums = omega arith
  functor_short Dfa = omega arith

  -- the whole text is short
  pub whole-short : (seed : ℕ)
      → length ((functor_text kind ++ codes "\n")
      ++ lines_with (names_from 0 size) (texts_from size some few kind size seed)) < 2 ^ 24
  whole-short seed =
      let lines : List ℕ =
      lines_with (names_from 0 size) (texts_from size some few kind size seed) in
      let body : length lines ≤ 60 * size = lines_short size 0 seed (omega (arith, few)) in
      omega (
        arith,
        body,
        few,
        functor_short kind,
        length-append (functor_text kind ++ codes "\n") lines,
        length-append (functor_text kind) (codes "\n"),
      )
