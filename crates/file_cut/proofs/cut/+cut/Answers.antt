use Rattle.std.proofs.Common.{rules, Some, ap, sym, ◌∙◌, ◌<◌, length, subst}
use Rattle.std.proofs.lemmas.Result.{err_from_is_err_and}
use Rattle.file_cut.specs.Tokens.{marks}
use Rattle.file_cut.specs.Reading.{Gives, entry_at, tree_at, items_at, in_parens, in_braces, behind, left_behind, left_of}
use Rattle.file_cut.proofs.TreeLaws.{tree_at-none, tree_at-room, tree-shorter, entry-shorter, braces_at-none}
use Rattle.file_cut.proofs.LoopLaws.{gives-err, turn-fails, turn-stops, turn-errs, turn-closes, turn-goes, turn-shorter, wrong_in_parens, wrong_in_braces}
use Rattle.file_cut.proofs.cut.+cut.Goals as goal

pub tree-returns-then-room-eq0 : goal.tree-returns-then-room-eq0
tree-returns-then-room-eq0 t c =
    subst (Gives c.word.result) (sym
    (tree_at-none c.args.room (left_of c.args.ahead) (search rules))) c.word.ensures

pub tree-returns-else-room-eq0 : goal.tree-returns-else-room-eq0
tree-returns-else-room-eq0 t c =
    subst (Gives c.opened.result)
    (sym (tree_at-room c.args.room (left_of c.args.ahead) (search rules))) c.opened.ensures

pub braces-returns-in_default : goal.braces-returns-in_default
braces-returns-in_default t c =
    braces_at-none c.args.room (left_of c.args.ahead)
    (ap (λ m. left_behind m c.args.ahead.rest.now) c.in_default.is)

pub parts-returns-in_err-part : goal.parts-returns-in_err-part
parts-returns-in_err-part t c =
    let p = err_from_is_err_and c.from_residual.result c.from_residual.ensures.1 in
    rw (p.1, p.2)
    (gives-err c.in_err-part.field-0.0 (tree_at c.args.room (left_of c.parts.left))
    (items_at in_parens (tree_at c.args.room) (left_of c.args.ahead))
    (turn-fails in_parens (tree_at c.args.room) (tree-shorter c.args.room) (left_of c.args.ahead)
    (left_of c.parts.left) c.parts.parts c.parts.invariant)
    c.in_err-part.ensures)

pub parts-returns-in_default : goal.parts-returns-in_default
parts-returns-in_default t c =
    turn-stops in_parens (tree_at c.args.room) (tree-shorter c.args.room) (left_of c.args.ahead)
    (left_of c.parts.left) c.parts.parts c.parts.invariant
    c.in_ok-part.part (left_of c.in_ok-part.behind) c.in_ok-part.ensures
    (ap (λ m. left_behind m c.in_ok-part.behind.rest.now) c.in_default.is)

pub parts-returns-in_default-mark : goal.parts-returns-in_default-mark
parts-returns-in_default-mark t c =
    turn-errs in_parens (tree_at c.args.room) (tree-shorter c.args.room) (left_of c.args.ahead)
    (left_of c.parts.left) c.parts.parts c.parts.invariant
    c.in_ok-part.part (left_of c.in_ok-part.behind) c.in_ok-part.ensures
    c.in-Some.mark (marks c.in_ok-part.behind.rest.now)
    (ap (λ m. left_behind m c.in_ok-part.behind.rest.now) c.in-Some.is)
    (wrong_in_parens c.in-Some.mark c.in_default-mark.not-Comma c.in_default-mark.not-Close)

pub parts-returns-in-Close : goal.parts-returns-in-Close
parts-returns-in-Close t c =
    turn-closes in_parens (tree_at c.args.room) (tree-shorter c.args.room) (left_of c.args.ahead)
    (left_of c.parts.left) c.parts.parts c.parts.invariant
    c.in_ok-part.part (left_of c.in_ok-part.behind) c.in_ok-part.ensures
    c.in-Some.mark (marks c.in_ok-part.behind.rest.now)
    (ap (λ m. left_behind m c.in_ok-part.behind.rest.now) c.in-Some.is)
    (ap in_parens c.in-Close.is)
    ∙ (λ i. Some (sym c.in_ok-push.ensures.ok i, sym c.ahead_of.ensures i))

pub parts-parts-smaller : goal.parts-parts-smaller
parts-parts-smaller t c =
    subst (λ l. length l < length (left_of c.parts.left)) (sym c.ahead_of-left.ensures)
    (turn-shorter in_parens (tree_at c.args.room) (tree-shorter c.args.room) (left_of c.args.ahead)
    (left_of c.parts.left) c.parts.parts c.parts.invariant
    c.in_ok-part.part (left_of c.in_ok-part.behind) c.in_ok-part.ensures
    c.in-Some.mark (marks c.in_ok-part.behind.rest.now)
    (ap (λ m. left_behind m c.in_ok-part.behind.rest.now) c.in-Some.is))

pub parts-parts-preserved : goal.parts-parts-preserved
parts-parts-preserved t c =
    (λ i. behind (c.in_ok-push.ensures.ok i)
    (items_at in_parens (tree_at c.args.room) (c.ahead_of-left.ensures i)))
    ∙ turn-goes in_parens (tree_at c.args.room) (tree-shorter c.args.room) (left_of c.args.ahead)
    (left_of c.parts.left) c.parts.parts c.parts.invariant
    c.in_ok-part.part (left_of c.in_ok-part.behind) c.in_ok-part.ensures
    c.in-Some.mark (marks c.in_ok-part.behind.rest.now)
    (ap (λ m. left_behind m c.in_ok-part.behind.rest.now) c.in-Some.is)
    (ap in_parens c.in-Comma.is)

pub entries-returns-in_err-entry : goal.entries-returns-in_err-entry
entries-returns-in_err-entry t c =
    let p = err_from_is_err_and c.from_residual.result c.from_residual.ensures.1 in
    rw (p.1, p.2)
    (gives-err c.in_err-entry.field-0.0 (entry_at (tree_at c.args.room) (left_of c.entries.others))
    (items_at in_braces (entry_at (tree_at c.args.room)) (left_of c.args.ahead))
    (turn-fails in_braces (entry_at (tree_at c.args.room)) (entry-shorter c.args.room)
    (left_of c.args.ahead) (left_of c.entries.others) c.entries.entries c.entries.invariant)
    c.in_err-entry.ensures)

pub entries-returns-in_default : goal.entries-returns-in_default
entries-returns-in_default t c =
    turn-stops in_braces (entry_at (tree_at c.args.room)) (entry-shorter c.args.room)
    (left_of c.args.ahead) (left_of c.entries.others) c.entries.entries c.entries.invariant
    c.in_ok-entry.entry (left_of c.in_ok-entry.behind) c.in_ok-entry.ensures
    (ap (λ m. left_behind m c.in_ok-entry.behind.rest.now) c.in_default.is)

pub entries-returns-in_default-mark : goal.entries-returns-in_default-mark
entries-returns-in_default-mark t c =
    turn-errs in_braces (entry_at (tree_at c.args.room)) (entry-shorter c.args.room)
    (left_of c.args.ahead) (left_of c.entries.others) c.entries.entries c.entries.invariant
    c.in_ok-entry.entry (left_of c.in_ok-entry.behind) c.in_ok-entry.ensures
    c.in-Some.mark (marks c.in_ok-entry.behind.rest.now)
    (ap (λ m. left_behind m c.in_ok-entry.behind.rest.now) c.in-Some.is)
    (wrong_in_braces c.in-Some.mark c.in_default-mark.not-Comma c.in_default-mark.not-CloseBrace)

pub entries-returns-in-CloseBrace : goal.entries-returns-in-CloseBrace
entries-returns-in-CloseBrace t c =
    turn-closes in_braces (entry_at (tree_at c.args.room)) (entry-shorter c.args.room)
    (left_of c.args.ahead) (left_of c.entries.others) c.entries.entries c.entries.invariant
    c.in_ok-entry.entry (left_of c.in_ok-entry.behind) c.in_ok-entry.ensures
    c.in-Some.mark (marks c.in_ok-entry.behind.rest.now)
    (ap (λ m. left_behind m c.in_ok-entry.behind.rest.now) c.in-Some.is)
    (ap in_braces c.in-CloseBrace.is)
    ∙ (λ i. Some (sym c.in_ok-push.ensures.ok i, sym c.ahead_of.ensures i))

pub entries-entries-smaller : goal.entries-entries-smaller
entries-entries-smaller t c =
    subst (λ l. length l < length (left_of c.entries.others)) (sym c.ahead_of-others.ensures)
    (turn-shorter in_braces (entry_at (tree_at c.args.room)) (entry-shorter c.args.room)
    (left_of c.args.ahead) (left_of c.entries.others) c.entries.entries c.entries.invariant
    c.in_ok-entry.entry (left_of c.in_ok-entry.behind) c.in_ok-entry.ensures
    c.in-Some.mark (marks c.in_ok-entry.behind.rest.now)
    (ap (λ m. left_behind m c.in_ok-entry.behind.rest.now) c.in-Some.is))

pub entries-entries-preserved : goal.entries-entries-preserved
entries-entries-preserved t c =
    (λ i. behind (c.in_ok-push.ensures.ok i)
    (items_at in_braces (entry_at (tree_at c.args.room)) (c.ahead_of-others.ensures i)))
    ∙ turn-goes in_braces (entry_at (tree_at c.args.room)) (entry-shorter c.args.room)
    (left_of c.args.ahead) (left_of c.entries.others) c.entries.entries c.entries.invariant
    c.in_ok-entry.entry (left_of c.in_ok-entry.behind) c.in_ok-entry.ensures
    c.in-Some.mark (marks c.in_ok-entry.behind.rest.now)
    (ap (λ m. left_behind m c.in_ok-entry.behind.rest.now) c.in-Some.is)
    (ap in_braces c.in-Comma.is)
