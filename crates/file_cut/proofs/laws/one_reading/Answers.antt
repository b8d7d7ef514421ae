use Rattle.file_cut.specs.Tokens.{marks}
use Rattle.file_cut.specs.Trees.{open_limit}
use Rattle.file_cut.proofs.TreeLaws.{one_tree, one_line}
use Rattle.file_cut.proofs.laws.one_reading.Goals as goal

pub returns-clause-tree : goal.returns-clause-tree
returns-clause-tree c text x y a b = one_tree open_limit (marks text) x y a b

pub returns-clause-line : goal.returns-clause-line
returns-clause-line c text head other x y a b = one_line open_limit (marks text) head other x y a b
