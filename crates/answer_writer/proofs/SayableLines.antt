-- The lines of pairs and blocks are lines of answers.
use Rattle.std.proofs.Common.{◌≡◌, ◌<◌, ℕ, zero, suc, ◌+◌, List, [], ◌∷◌, map, length, Option, Some, None, refl, ap, arith}
use Rattle.std.specs.List.{All, AllByRecursion}
use Rattle.std.proofs.lemmas.List.{length-map}
use Rattle.std.proofs.lemmas.List.Elements.{All-head, All-tail, All-map, All-from_recursion}
use Rattle.file_cut.specs.Bytes.{IsName, IsWord}
use Rattle.formula_text.specs.Reading.{blocks_of}
use Rattle.formula_text.specs.Texts.{IsSayable, numbered_answers}
use Rattle.answer_writer.specs.Lines.{name_of, IsPairOf, AreStatesOf, pair_lines, block_lines}
use Rattle.answer_writer.specs.Laws.{IsVerdict, PairLinesCanBeSaid, IsBlockOf, BlockLinesCanBeSaid, BlockLinesTellNoPair, numbered_blocks}

-- the name of a state that has one is a word
name_word :
    (names : List (List ℕ)) (i : ℕ) → AllByRecursion IsName names → i < length names →
    IsWord (name_of names i)
name_word [] i all inside = absurd (omega arith)
name_word (name ∷ names) zero all inside = all.0.0
name_word (name ∷ names) (suc i) all inside = name_word names i all.1 (omega arith)

pairs_said :
    (n : ℕ) (names : List (List ℕ)) (pairs : List (ℕ × ℕ)) (verdicts : List (Option ℕ)) →
    AllByRecursion IsName names → All (IsPairOf names) pairs → All (IsVerdict n) verdicts →
    AllByRecursion (IsSayable n) (pair_lines names pairs verdicts)
pairs_said n names [] verdicts words there below = tt
pairs_said n names (pair ∷ pairs) [] words there below = tt
pairs_said n names (pair ∷ pairs) (None ∷ verdicts) words there below =
    let h : IsPairOf names pair = All-head (IsPairOf names) pair pairs there in (
      (name_word names pair.0 words h.0, name_word names pair.1 words h.1),
      pairs_said n names pairs verdicts words (All-tail (IsPairOf names) pair pairs there)
          (All-tail (IsVerdict n) None verdicts below),
    )
pairs_said n names (pair ∷ pairs) (Some f ∷ verdicts) words there below =
    let h : IsPairOf names pair = All-head (IsPairOf names) pair pairs there in (
      (
        name_word names pair.0 words h.0,
        name_word names pair.1 words h.1,
        All-head (IsVerdict n) (Some f) verdicts below,
      ),
      pairs_said n names pairs verdicts words (All-tail (IsPairOf names) pair pairs there)
          (All-tail (IsVerdict n) (Some f) verdicts below),
    )

-- lines of pairs can be said
pub pairs_can_be_said : PairLinesCanBeSaid
pairs_can_be_said n names pairs verdicts are there below =
    All-from_recursion (IsSayable n) (pair_lines names pairs verdicts)
    (pairs_said n names pairs verdicts are.each there below)

-- the names of states are words
names_words :
    (names : List (List ℕ)) (states : List ℕ) → AllByRecursion IsName names →
    AreStatesOf names states → All IsWord (map (name_of names) states)
names_words names states words there =
    All-map IsWord (name_of names) states (λ k d inside. name_word names _ words (there k d inside))

blocks_said :
    (n : ℕ) (names : List (List ℕ)) (formulas : List ℕ) (blocks : List (List ℕ)) →
    AllByRecursion IsName names → All (λ f. f < n) formulas → All (IsBlockOf names) blocks →
    AllByRecursion (IsSayable n) (block_lines names formulas blocks)
blocks_said n names [] blocks words below there = tt
blocks_said n names (f ∷ formulas) [] words below there = tt
blocks_said n names (f ∷ formulas) (states ∷ blocks) words below there =
    let h : IsBlockOf names states = All-head (IsBlockOf names) states blocks there in
    let some : 0 < length states = h.0 in (
      (
        All-head (λ g. g < n) f formulas below,
        omega (arith, length-map states (name_of names)),
        names_words names states words h.1,
      ),
      blocks_said n names formulas blocks words (All-tail (λ g. g < n) f formulas below)
          (All-tail (IsBlockOf names) states blocks there),
    )

-- lines of blocks can be said
pub blocks_can_be_said : BlockLinesCanBeSaid
blocks_can_be_said n names formulas blocks are below there =
    All-from_recursion (IsSayable n) (block_lines names formulas blocks)
    (blocks_said n names formulas blocks are.each below there)

-- none of them tells of a pair
pub blocks_tell_no_pair : BlockLinesTellNoPair
blocks_tell_no_pair names [] blocks = refl
blocks_tell_no_pair names (f ∷ formulas) [] = refl
blocks_tell_no_pair names (f ∷ formulas) (states ∷ blocks) =
    blocks_tell_no_pair names formulas blocks

-- the blocks of such lines
pub blocks_kept :
    (n : ℕ) (names : List (List ℕ)) (formulas : List ℕ) (blocks : List (List ℕ)) →
    blocks_of (numbered_answers n (block_lines names formulas blocks))
    ≡ numbered_blocks n names formulas blocks
blocks_kept n names [] blocks = refl
blocks_kept n names (f ∷ formulas) [] = refl
blocks_kept n names (f ∷ formulas) (states ∷ blocks) =
    ap (λ bs. (n, f, map (name_of names) states) ∷ bs)
    (blocks_kept (n + 1) names formulas blocks)
