use Rattle.std.proofs.Common.{Some, ap, ◌∙◌}
use Rattle.std.proofs.lemmas.Result.{err_from_is_err_and}
use Rattle.file_cut.specs.Tokens.{marks}
use Rattle.file_cut.specs.Reading.{left_behind, left_of}
use Rattle.file_cut.specs.Trees.{open_limit}
use Rattle.file_cut.proofs.TreeLaws.{whole-spelled, more-spelled}
use Rattle.file_cut.proofs.LoopLaws.{err-spelled}
use Rattle.file_cut.proofs.cut.whole.Goals as goal

pub returns-in_err-tree-clause-grammar : goal.returns-in_err-tree-clause-grammar
returns-in_err-tree-clause-grammar c =
    let p = err_from_is_err_and c.from_residual.result c.from_residual.ensures.1 in
    rw (p.1, p.2) (err-spelled c.in_err-tree.field-0.0 open_limit
    (left_of c.args.ahead) c.in_err-tree.ensures)

pub returns-in-None-clause-tree : goal.returns-in-None-clause-tree
returns-in-None-clause-tree c =
    whole-spelled open_limit (left_of c.args.ahead) c.in_ok-tree.tree
    (left_of c.in_ok-tree.behind) c.in_ok-tree.ensures
    (ap (λ m. left_behind m c.in_ok-tree.behind.rest.now) c.in-None.is)

pub returns-clause-grammar : goal.returns-clause-grammar
returns-clause-grammar c e =
    more-spelled open_limit (left_of c.args.ahead) c.in_ok-tree.tree c.in-Some.field-0
    (marks c.in_ok-tree.behind.rest.now)
    (c.in_ok-tree.ensures ∙ ap (λ m. Some
    (c.in_ok-tree.tree, left_behind m c.in_ok-tree.behind.rest.now)) c.in-Some.is)
