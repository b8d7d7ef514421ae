use Rattle.std.proofs.Common.{◌≡◌, ◌≤◌, ◌-◌, length, take, []}
use Rattle.std.specs.Io.KnownBytes.{append_known}
use Rattle.outside.proofs.whole.put_all.Given as goal

abbrev pub invariant-rest : goal.invariant-rest
invariant-rest g l = record {
  within : l.done ≤ length l.bytes;
  taken : g.S.Sink.taken l.sink ≡ append_known (g.S.Sink.taken l.initial.sink)
      (take l.done l.bytes);
  quiet : g.S.Sink.faults l.sink ≡ g.S.Sink.faults l.initial.sink;
  none : l.bytes ≡ [] → l.sink ≡ l.initial.sink;
}

abbrev pub decreases-rest : goal.decreases-rest
decreases-rest g l = length l.bytes - l.done
