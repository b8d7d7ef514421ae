-- What is told of the blocks along a history: formulas, and which of them is whose.
--     Book               the formulas; the formula and the node of each block; the formula of each
--                        coarse block
--     IsBegun            a start block has one modality, over the formula that always holds
--     HasModality, parts_in  some formula is a modality with a node and value; how many parts
-- IsToldAs, IsPartTold   a part of a split has one modality, and its conjunction with the parent's
--     IsRoundTold        the parts of a round, and its two new coarse blocks
--     AreRoundsTold      each round in turn
use Rattle.std.specs.Prelude.{◌≡◌, ◌≢◌, ◌+◌, ◌*◌, ◌⊎◌, ℕ, List, [], ◌∷◌, ◌++◌, length, All, Any, slice_get, slice_index, Some}
use Rattle.modalities.specs.declared.three.Three.{Three}
use Rattle.formulas.specs.declared.formula.Formula.{Formula}
use Rattle.formulas.specs.declared.formula.Formula.TheVariants.{True, Not, And, At}
use Rattle.formulas.specs.Formulas.{IsDag}
use Rattle.refiner.specs.declared.parts.Start.{Start}
use Rattle.refiner.specs.declared.parts.Part.{Part}
use Rattle.refiner.specs.Recorded.{Split}
use Rattle.refiner.specs.Recorded.{Round}

-- The formulas so far. By its number, each block has a formula and the node of its members, and
-- each coarse block has a formula.
pub record Book : Type 0 where
  pub dag : List Formula
  pub blocks : List ℕ
  pub nodes : List ℕ
  pub coarse : List ℕ

-- formula k of the book
abbrev pub IsFormula : Book → ℕ → Formula → Type 0
IsFormula book k f = slice_get book.dag k ≡ Some f

-- some formula is a modality with this node and value
abbrev pub HasModality : Book → ℕ → Three → Type 0
HasModality book q v =
    (k : ℕ) × (splitter : ℕ) × (coarse : ℕ) × IsFormula book k (At q v splitter coarse)

-- how many parts some splits have
abbrev pub parts_in : List Split → ℕ
parts_in [] = 0
parts_in (s ∷ splits) = length s.parts + parts_in splits

-- Formula 0 always holds, and is that of coarse block 0. A start block has the modality of its node
-- and value, over formula 0.
pub record IsBegun (start : List Start) (book : Book) : Type 0 where
  pub ordered : IsDag book.dag
  pub top : IsFormula book 0 True
  pub blocks :
      All (λ (p : Start). IsFormula book (slice_index book.blocks p.block) (At p.node p.three 0 0))
      start
  pub nodes : All (λ (p : Start). slice_index book.nodes p.block ≡ p.node) start
  pub coarse : book.coarse ≡ 0 ∷ []
  pub count : length book.dag ≡ 1 + length start
  pub modalities :
      (q : ℕ) (v : Three) → HasModality book q v →
      Any (λ (p : Start). (p.node ≡ q) × (p.three ≡ v)) start

-- A part has the conjunction of a modality and of a formula, which is the parent's. The modality
-- has this node and the part's value, and cites a splitter's and a coarse block's formula.
pub record IsToldAs (book : Book) (node parent splitter coarse : ℕ) (p : Part) : Type 0 where
  pub at : ℕ
  pub modality : IsFormula book at (At node p.three splitter coarse)
  pub both : IsFormula book (slice_index book.blocks p.block) (And at parent)
  pub node_is : slice_index book.nodes p.block ≡ node

-- a part of a split is told from what stood before the round
abbrev pub IsPartTold : Book → Book → Round → Split → Part → Type 0
IsPartTold before after r s p =
    IsToldAs after (slice_index before.nodes s.parent) (slice_index before.blocks s.parent)
    (slice_index before.blocks r.splitter) (slice_index before.coarse r.coarse) p

-- no part of the splits has this number
abbrev pub IsNoPart : List Split → ℕ → Type 0
IsNoPart splits b = All (λ (s : Split). All (λ (p : Part). p.block ≢ b) s.parts) splits

-- The parts of the round are told, and the other blocks keep their formulas. The new coarse block
-- `inner` has the splitter's formula, and `outer` has the conjunction of that of the old coarse
-- block and of the negation of the splitter's.
pub record IsRoundTold (before after : Book) (r : Round) : Type 0 where
  pub more : List Formula
  pub longer : after.dag ≡ before.dag ++ more
  pub ordered : IsDag after.dag
  pub parts :
      All (λ (s : Split). All (λ (p : Part). IsPartTold before after r s p) s.parts)
      r.splits
  pub others :
      (b : ℕ) → IsNoPart r.splits b →
      (slice_index after.blocks b ≡ slice_index before.blocks b)
      × (slice_index after.nodes b ≡ slice_index before.nodes b)
  pub denied : ℕ
  pub denied_is : IsFormula after denied (Not (slice_index before.blocks r.splitter))
  pub outer : ℕ
  pub outer_is : IsFormula after outer (And (slice_index before.coarse r.coarse) denied)
  pub coarse :
      after.coarse ≡ before.coarse ++ slice_index before.blocks r.splitter ∷ outer ∷ []
  pub count : length after.dag ≡ length before.dag + 2 * parts_in r.splits + 2
  pub modalities :
      (q : ℕ) (v : Three) → HasModality after q v → HasModality before q v
      ⊎ Any (λ (s : Split). Any (λ (p : Part). (slice_index before.nodes s.parent ≡ q)
      × (p.three ≡ v))
      s.parts) r.splits

-- the last book of a first one and those after it
abbrev pub last_book : Book → List Book → Book
last_book book [] = book
last_book book (after ∷ later) = last_book after later

-- each round leads from one book to the next
abbrev pub AreRoundsTold : Book → List Book → List Round → Type 0
AreRoundsTold book [] [] = Unit {0}
AreRoundsTold book [] (r ∷ rounds) = ⊥
AreRoundsTold book (after ∷ later) [] = ⊥
AreRoundsTold book (after ∷ later) (r ∷ rounds) =
    IsRoundTold book after r × AreRoundsTold after later rounds
