use Rattle.std.proofs.Common.{◌≡◌, ℕ, ◌<◌, List, length, refl, sym, ◌∙◌, arith}
use Rattle.std.specs.Prelude.{slice_index}
use Rattle.std.proofs.lemmas.Option.{slice_get_read, get_or_from_slice_get}
use Rattle.quotient_writer.proofs.BlockLists.{lines-none, line-more}
use Rattle.quotient_writer.proofs.block_list.blocks_text.Goals as goal

pub loop-i-init : goal.loop-i-init
loop-i-init c = c.new-text.ensures.items ∙ sym (lines-none c.args.names.now)

pub loop-i-preserved : goal.loop-i-preserved
loop-i-preserved c =
    let inside : c.loop-i.i < length c.args.labels.now = omega (
      arith,
      c.len-states.ensures,
      c.requires.one_each,
      c.loop-i-test.true,
    ) in
    let firsts : List ℕ = c.in_ok-firsts.firsts.items in
    let label : ℕ = slice_index c.args.labels.now c.loop-i.i in
    let known : label < length firsts = c.in_ok-firsts.ensures.classes c.loop-i.i inside in
    let read : slice_index firsts label ≡ c.index-first.result.now = get_or_from_slice_get firsts
    label c.index-first.result.now 0 (slice_get_read firsts (length firsts) label
    c.index-first.result.now refl known c.index-first.ensures) in
    line-more c.args.names.now c.args.labels.now c.loop-i.i c.index-first.result.now
    c.name.result.now c.name-in-loop-i.result.now c.loop-i.text.items c.push_line.new.text.items
    inside
    (sym read ∙ c.in_ok-firsts.ensures.first label known) c.name.ensures
    c.name-in-loop-i.ensures c.loop-i.invariant c.in_ok-push_line.ensures.line_is_last
