-- The quotient by behavioural equivalence, and its text. Nothing here knows how it is found.
--
-- AreClasses c labels      == classes numbered by their first states, with one number for two
--                             states exactly if they are equivalent
-- IsQuotientOf c b d       == d is the quotient of c by b
-- IsMinimised c output     == the output is the canonical text of the quotient by equivalence
-- IsMinimal c output       == and no two states of the quotient are equivalent, the text spells it,
--                             and minimising it gives the same bytes
use Rattle.std.specs.Prelude.{◌≡◌, ℕ, ◌<◌, ◌↔◌, List, length, slice_index, IsTrue}
use Rattle.typing.specs.Contents.{Content, words_of}
use Rattle.typing.specs.Stable.{AreEquivalent}
use Rattle.structure_parser.specs.Reads.{Reads}
use Rattle.structure_writer.specs.Text.{canonical}
use Rattle.structure_writer.specs.Spelled.{Spells}
use Rattle.rescaling.specs.Rescaled.{SameFractions}
use Rattle.quotient_writer.specs.Quotient.{is_numbered, IsQuotient}

-- a number for each state; classes are numbered 0, 1, 2 by their first states, and two states have
-- one number exactly if they are behaviourally equivalent
pub record AreClasses (c : Content) (labels : List ℕ) : Type 0 where
  pub covers : length labels ≡ length c.values
  pub numbered : IsTrue (is_numbered labels)
  pub alike :
      (i j : ℕ) → i < length c.values → j < length c.values →
      (slice_index labels i ≡ slice_index labels j) ↔ AreEquivalent c.term c.values i j

-- d is the quotient of c by b: a homomorphism joins the states that have one number
pub record IsQuotientOf (c : Content) (b : List ℕ) (d : Content) : Type 0 where
  pub same_term : d.term ≡ c.term
  pub same_denominator : d.denominator ≡ c.denominator
  pub quotient : IsQuotient c.term (words_of c) c.values b (words_of d) d.values

-- the output is the canonical text of the quotient by the classes of equivalence
pub record IsMinimised (c : Content) (output : List ℕ) : Type 0 where
  pub labels : List ℕ
  pub least : Content
  pub classes : AreClasses c labels
  pub quotient : IsQuotientOf c labels least
  pub text : output ≡ canonical least

-- The output is that text, and no two states of the quotient are equivalent. The text spells the
-- quotient, by the grammar without bounds on weights and length. If it is accepted as a file, it
-- denotes a coalgebra with the same term, names and fractions, whose common denominator may be
-- smaller, and what is printed for this file is the same text.
pub record IsMinimal (c : Content) (output : List ℕ) : Type 0 where
  pub minimised : IsMinimised c output
  pub minimal : (k l : ℕ) → AreEquivalent minimised.least.term minimised.least.values k l → k ≡ l
  pub spelled : Spells output minimised.least
  pub read_back : (e : Content) → Reads output e → SameFractions minimised.least e
  pub again : (e : Content) (other : List ℕ) → Reads output e → IsMinimised e other → other ≡ output
