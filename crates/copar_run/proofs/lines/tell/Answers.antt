use Rattle.std.proofs.Common.{ap}
use Rattle.copar_run.specs.Lines.{told_line}
use Rattle.copar_run.proofs.lines.tell.Goals as goal

pub returns-in_default : goal.returns-in_default
returns-in_default g c = record {
  told = λ o line. record {
    silent = λ e. ap (λ err. g.E.Sink.taken err) (c.put_line.ensures.no_call_when_done e);
    told = λ e other. (
      told_line c.args.ended.now.status c.args.ended.now.word.now,
      line e other,
      c.put_line.ensures.front,
      c.put_line.ensures.whole,
    );
    usage = λ u quiet. absurd (c.in_default.not-Usage u);
  };
  no_line = c.put_line.ensures.no_call_when_done;
  no_count_falls = c.put_line.ensures.no_count_falls;
}
