use Rattle.std.proofs.Common.{◌≡◌, subst}
use Rattle.std.specs.Io.KnownBytes.{append_known}
use Rattle.copar_run.specs.Lines.{stranger_line}
use Rattle.copar_run.proofs.lines.put_stranger.Goals as goal

pub returns-clause-whole : goal.returns-clause-whole
returns-clause-whole g c quiet =
    subst (λ word. g.E.Sink.taken c.put_three.new.err
    ≡ append_known (g.E.Sink.taken c.args.err.now) (stranger_line word))
    c.as_bytes.ensures.value (c.put_three.ensures.whole quiet)
