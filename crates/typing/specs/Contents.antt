-- What a coalgebra is, as plain data.
--
-- Content        == a coalgebra: its term, its names, its denominator, its values
-- words_of c     == the names of its states, as words
-- content_of c   == the coalgebra that the code has
use Rattle.std.specs.Prelude.{ℕ, List}
use Rattle.functor_terms.specs.Terms.{Nodes}
use Rattle.typing.specs.declared.value.Value.{Value}
use Rattle.typing.specs.declared.coalgebra.Coalgebra.{Coalgebra}

-- a coalgebra: the term of its functor, the names of its states in order, the common denominator of
-- its weights, and for each state its structure
pub record Content : Type 0 where
  pub term : Nodes
  pub names : List (List ℕ)
  pub denominator : ℕ
  pub values : List Value

-- the names of the states, as words
abbrev pub words_of : Content → List (List ℕ)
words_of c = c.names

-- the coalgebra that the code has
abbrev pub content_of : Coalgebra → Content
content_of c = record {
  term = c.term;
  names = c.names;
  denominator = c.denominator;
  values = c.values.items;
}
