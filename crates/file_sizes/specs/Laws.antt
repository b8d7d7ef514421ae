-- Laws of sizes, as statements. Each is the contract of a function that does nothing.
--
-- AcceptedFilesAreFew    what a file is read as has fewer than 2^26 structures and edges
-- IsNoLarger             values have no more structures, sorted states and edges than others
-- QuotientsAreNoLarger   a quotient has no more than the coalgebra
-- QuotientsAreFew        so it has few where the coalgebra has
use Rattle.std.specs.Prelude.{◌≡◌, ◌≤◌, ℕ, List, length}
use Rattle.functor_terms.specs.Terms.{Nodes}
use Rattle.typing.specs.declared.value.Value.{Value}
use Rattle.typing.specs.Contents.{Content}
use Rattle.typing.specs.Layers.{structure_count, sorted_count, edge_count, AreFew}
use Rattle.structure_parser.specs.Reads.{Reads}
use Rattle.quotient_writer.specs.Quotient.{IsQuotient}

-- the coalgebra that a file is read as has fewer than 2^26 structures, sorted states and edges
abbrev pub AcceptedFilesAreFew : Type 0
AcceptedFilesAreFew =
    (bytes : List ℕ) (c : Content) → Reads bytes c → AreFew c.term c.values

-- the first values have no more structures, sorted states and edges than the second
pub record IsNoLarger (t : Nodes) (us vs : List Value) : Type 0 where
  pub structures : structure_count t us ≤ structure_count t vs
  pub sorted : sorted_count t us ≤ sorted_count t vs
  pub edges : edge_count t us ≤ edge_count t vs

-- a quotient has no more structures, sorted states and edges than the coalgebra
abbrev pub QuotientsAreNoLarger : Type 0
QuotientsAreNoLarger =
    (t : Nodes) (names : List (List ℕ)) (values : List Value) (b : List ℕ) →
    length values ≡ length names → (ns : List (List ℕ)) (vs : List Value) →
    IsQuotient t names values b ns vs → IsNoLarger t vs values

-- so it has fewer than 2^26 of each where the coalgebra has
abbrev pub QuotientsAreFew : Type 0
QuotientsAreFew =
    (t : Nodes) (names : List (List ℕ)) (values : List Value) (b : List ℕ) →
    length values ≡ length names → (ns : List (List ℕ)) (vs : List Value) →
    IsQuotient t names values b ns vs → AreFew t values → AreFew t vs
