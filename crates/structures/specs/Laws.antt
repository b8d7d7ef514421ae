-- What is said of the sizes of values, and holds.
--
-- NothingIsMerged     each structure at a layer node is a sorted state of its own
use Rattle.std.specs.Prelude.{◌≡◌, List}
use Rattle.functor_terms.specs.Terms.{Nodes}
use Rattle.typing.specs.declared.value.Value.{Value}
use Rattle.typing.specs.Layers.{structure_count, sorted_count}

-- as many structures stand at layer nodes as are merged into no other
abbrev pub NothingIsMerged : Type 0
NothingIsMerged =
    (t : Nodes) (values : List Value) → structure_count t values ≡ sorted_count t values
