-- The blocks of equivalent states, and their list. Nothing here knows how the blocks are found.
--
-- AreBlocks c firsts          == for each state the first state that is equivalent to it, and the
--                                same one for two states exactly if they are equivalent
-- PrintsEquivalence c firsts  == two states share a printed block exactly if they are equivalent
-- IsBlockList c output        == the output is the list of the blocks of this coalgebra
use Rattle.std.specs.Prelude.{◌≡◌, ℕ, ◌<◌, ◌↔◌, List, length, slice_index, EachIndex}
use Rattle.typing.specs.Contents.{Content, words_of}
use Rattle.typing.specs.Stable.{AreEquivalent, IsFirst}
use Rattle.quotient_writer.specs.Blocks.{block_text, name_of}

-- for each state the first state that is equivalent to it; so two states have the same one exactly
-- if they are behaviourally equivalent
pub record AreBlocks (c : Content) (firsts : List ℕ) : Type 0 where
  pub covers : length firsts ≡ length c.values
  pub first : EachIndex c.values (λ i. IsFirst c.term c.values i (slice_index firsts i))
  pub alike :
      (i j : ℕ) → i < length c.values → j < length c.values →
      (slice_index firsts i ≡ slice_index firsts j) ↔ AreEquivalent c.term c.values i j

-- two states have the same name printed for their blocks exactly if they are behaviourally
-- equivalent
abbrev pub PrintsEquivalence : Content → List ℕ → Type 0
PrintsEquivalence c firsts =
    (i j : ℕ) → i < length c.values → j < length c.values →
    (name_of (words_of c) (slice_index firsts i) ≡ name_of (words_of c) (slice_index firsts j))
    ↔ AreEquivalent c.term c.values i j

-- the output is the list of the blocks: for each state its name, and the name of the first state
-- of its block
pub record IsBlockList (c : Content) (output : List ℕ) : Type 0 where
  pub firsts : List ℕ
  pub blocks : AreBlocks c firsts
  pub shared : PrintsEquivalence c firsts
  pub text : output ≡ block_text (words_of c) firsts
