use Rattle.std.proofs.Common.{◌≡◌, ◌∷◌, ap, sym, ◌∙◌, Some, true, false, rules, bytes_eq, string_bytes}
use Rattle.std.specs.Cmp.Lexicographic.{nat_list_cmp_total}
use Rattle.std.specs.FinMap.{get-from_entries}
use Rattle.std.specs.VecDeque.Iter.{deque_iter_rest}
use Rattle.outside.proofs.Finding.{first_named, first_named-cons}
use Rattle.outside.proofs.mem_folder.find.Goals as goal

pub loop-file-init : goal.loop-file-init
loop-file-init c =
    get-from_entries nat_list_cmp_total _ _
    ∙ ap (first_named c.args.name.now) (sym c.into_iter-file-iterator.ensures.into_iter_gives.0)

pub returns-then-eq : goal.returns-then-eq
returns-then-eq c =
    let name = c.args.name.now in
    let file = c.in-Some.file.now in
    let rest = deque_iter_rest c.next.new.self in
    let step : deque_iter_rest c.loop-file.file-iterator ≡ file ∷ rest = search rules in
    let same : bytes_eq name (string_bytes file.name) ≡ true = search rules in
    ap Some c.deref.ensures.value
    ∙ sym (c.loop-file.invariant
    ∙ ap (first_named name) step
    ∙ first_named-cons name file rest true same)

pub loop-file-preserved : goal.loop-file-preserved
loop-file-preserved c =
    let name = c.args.name.now in
    let file = c.in-Some.file.now in
    let rest = deque_iter_rest c.next.new.self in
    let step : deque_iter_rest c.loop-file.file-iterator ≡ file ∷ rest = search rules in
    let other : bytes_eq name (string_bytes file.name) ≡ false = search rules in
    c.loop-file.invariant
    ∙ ap (first_named name) step
    ∙ first_named-cons name file rest false other
