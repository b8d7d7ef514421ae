-- How the builder's notes grow, call by call.
--     split_seen, round_seen   a split and a round as plain data
--     book_of              the notes as a book
--     IsLonger             formulas were put behind; as many blocks have entries
--     ArePartsTold         some parts are told, and other blocks keep their formulas
--     AreSplitsTold        the same of the parts of some splits of a round
--     AreStartsTold        some start blocks are told
--     IsTellable           what the notes must have for a round
use Rattle.std.specs.Prelude.{◌≡◌, ◌≢◌, ◌<◌, ◌+◌, ◌*◌, ◌^◌, ◌⊎◌, ℕ, List, ◌++◌, length, All, Any, AllPairs, slice_index}
use Rattle.modalities.specs.declared.three.Three.{Three}
use Rattle.formulas.specs.declared.formula.Formula.{Formula}
use Rattle.formulas.specs.declared.formula.Formula.TheVariants.{True, At}
use Rattle.formulas.specs.Formulas.{IsDag}
use Rattle.refiner.specs.declared.parts.Start.{Start}
use Rattle.refiner.specs.declared.parts.Part.{Part}
use Rattle.refiner.specs.Recorded.{Split}
use Rattle.refiner.specs.Recorded.{Round}
use Rattle.refiner.specs.declared.history.Split.{Split as LentSplit}
use Rattle.refiner.specs.declared.history.Round.{Round as LentRound}
use Rattle.formula_builder.specs.declared.notes.Notes.{Notes}
use Rattle.formula_builder.specs.Books.{Book, IsFormula, HasModality, parts_in, IsToldAs, IsPartTold, IsNoPart}

-- the split as plain data
abbrev pub split_seen : LentSplit → Split
split_seen split = record { parent = split.parent; parts = split.parts.now }

-- the round as plain data
abbrev pub round_seen : LentRound → Round
round_seen round = record {
  splitter = round.splitter;
  coarse = round.coarse;
  inner = round.inner;
  outer = round.outer;
  splits = round.splits;
}

-- the notes as a book
abbrev pub book_of : Notes → Book
book_of notes = record {
  dag = notes.dag;
  blocks = notes.blocks.items;
  nodes = notes.nodes.items;
  coarse = notes.coarse.items;
}

-- formulas were put behind, and as many blocks have entries
pub record IsLonger (before after : Book) : Type 0 where
  pub more : List Formula
  pub longer : after.dag ≡ before.dag ++ more
  pub ordered : IsDag after.dag
  pub as_many : length after.blocks ≡ length before.blocks
  pub as_many_nodes : length after.nodes ≡ length before.nodes

-- the parts are told, and blocks that are none of them keep what they have
pub record ArePartsTold
    (before after : Book) (node parent splitter coarse : ℕ) (parts : List Part) : Type 0 where
  pub longer : IsLonger before after
  pub same_coarse : after.coarse ≡ before.coarse
  pub told : All (λ (p : Part). IsToldAs after node parent splitter coarse p) parts
  pub others :
      (b : ℕ) → All (λ (p : Part). p.block ≢ b) parts →
      (slice_index after.blocks b ≡ slice_index before.blocks b)
      × (slice_index after.nodes b ≡ slice_index before.nodes b)
  pub count : length after.dag ≡ length before.dag + 2 * length parts
  pub modalities :
      (q : ℕ) (v : Three) → HasModality after q v → HasModality before q v
      ⊎ Any (λ (p : Part). (node ≡ q) × (p.three ≡ v)) parts

-- the parts of the splits are told, and blocks that are none of them keep what they have
pub record AreSplitsTold (before after : Book) (r : Round) (splits : List Split) : Type 0 where
  pub longer : IsLonger before after
  pub same_coarse : after.coarse ≡ before.coarse
  pub told :
      All (λ (s : Split). All (λ (p : Part). IsPartTold before after r s p) s.parts) splits
  pub others :
      (b : ℕ) → IsNoPart splits b →
      (slice_index after.blocks b ≡ slice_index before.blocks b)
      × (slice_index after.nodes b ≡ slice_index before.nodes b)
  pub count : length after.dag ≡ length before.dag + 2 * parts_in splits
  pub modalities :
      (q : ℕ) (v : Three) → HasModality after q v → HasModality before q v
      ⊎ Any (λ (s : Split). Any (λ (p : Part). (slice_index before.nodes s.parent ≡ q)
      × (p.three ≡ v))
      s.parts) splits

-- the start blocks are told
pub record AreStartsTold (book : Book) (start : List Start) : Type 0 where
  pub ordered : IsDag book.dag
  pub top : IsFormula book 0 True
  pub blocks :
      All (λ (p : Start). IsFormula book (slice_index book.blocks p.block) (At p.node p.three 0 0))
      start
  pub nodes : All (λ (p : Start). slice_index book.nodes p.block ≡ p.node) start
  pub count : length book.dag ≡ 1 + length start
  pub modalities :
      (q : ℕ) (v : Three) → HasModality book q v →
      Any (λ (p : Start). (p.node ≡ q) × (p.three ≡ v)) start

-- the split's blocks have entries, its parent has a formula, and its parts have distinct numbers
pub record IsSplitTellable (book : Book) (s : Split) : Type 0 where
  pub parent_in : s.parent < length book.blocks
  pub parent_there : slice_index book.blocks s.parent < length book.dag
  pub parts_in : All (λ (p : Part). p.block < length book.blocks) s.parts
  pub apart : AllPairs (λ (p : Part). λ (q : Part). p.block ≢ q.block) s.parts

-- The splitter and its coarse block have formulas, each split is tellable, no part of a split is a
-- part or the parent of a later one.
pub record IsTellable (book : Book) (r : Round) : Type 0 where
  pub splitter_in : r.splitter < length book.blocks
  pub splitter_there : slice_index book.blocks r.splitter < length book.dag
  pub coarse_in : r.coarse < length book.coarse
  pub coarse_there : slice_index book.coarse r.coarse < length book.dag
  pub splits : All (λ (s : Split). IsSplitTellable book s) r.splits
  pub parents_apart :
      AllPairs (λ (s : Split). λ (t : Split). All (λ (p : Part). p.block ≢ t.parent) s.parts)
      r.splits
  pub parts_apart :
      AllPairs (λ (s : Split). λ (t : Split).
      All (λ (p : Part). All (λ (q : Part). p.block ≢ q.block) t.parts) s.parts)
      r.splits
  pub room : length book.dag + 2 * parts_in r.splits + 2 < 2 ^ 32
