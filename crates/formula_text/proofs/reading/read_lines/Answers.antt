use Rattle.formula_text.specs.Said.{answer_in}
use Rattle.formula_text.proofs.ReadLaws.{after_line}
use Rattle.formula_text.proofs.reading.read_lines.Goals as goal

pub lines-preserved : goal.lines-preserved
lines-preserved c =
    let h =
    after_line c.args.pairs c.args.found c.lines.line-iterator c.next.new.self c.in-Some.line.number
    c.in-Some.line.text.now (answer_in c.in_ok-here.here) c.lines.text c.put.new.text c.len.result
    c.lines.invariant.read c.lines.invariant.room c.in-Some.ensures.steps c.len.ensures
    c.in_ok-here.ensures.said c.in_ok-put.ensures.put in
    record { read = h.read; room = h.room }
