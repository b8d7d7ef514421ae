-- What a sink in memory holds, and what a write does to it.
use Rattle.std.specs.Prelude.{ℕ, ◌-◌, ◌==◌, ◌||◌, min, Bool, List, [], ◌++◌, length, if◌then◌else◌}
use Rattle.std.specs.List.{list_any}
use Rattle.outside.specs.Faults.{one_more}
use Rattle.outside.specs.Writes.{part_taken}
use Rattle.outside.specs.declared.sink.Wrote.{Wrote}

-- the bytes taken so far, the most that it takes in all and in one write, the numbers of the writes
-- that fail, and how many writes and faults there were
pub record SinkState : Type 0 where
  pub taken : List ℕ
  pub room : ℕ
  pub chunk : ℕ
  pub failing : List ℕ
  pub calls : ℕ
  pub faults : ℕ

-- a sink that nothing was written to
abbrev pub empty_sink : ℕ → ℕ → List ℕ → SinkState
empty_sink room chunk failing = record {
  taken = [];
  room = room;
  chunk = chunk;
  failing = failing;
  calls = 0;
  faults = 0;
}

-- how many more bytes the sink can take
abbrev pub room_left : SinkState → ℕ
room_left sink = sink.room - length sink.taken

-- whether the next write fails: its number is among the failing ones, or no room is left
abbrev pub write_fails : SinkState → Bool
write_fails sink =
    list_any (λ number. number == sink.calls) sink.failing || (room_left sink == 0)

-- how many of so many bytes the next write takes, if it does not fail
abbrev pub count_taken : SinkState → ℕ → ℕ
count_taken sink offered = min (min sink.chunk (room_left sink)) offered

-- the sink after a write of these bytes: those taken stand last, one more call, and one more fault
-- if the write fails
abbrev pub after_write : SinkState → Wrote → List ℕ → SinkState
after_write sink wrote bytes = record sink {
  taken = sink.taken ++ part_taken wrote bytes;
  calls = one_more sink.calls;
  faults = if write_fails sink then one_more sink.faults else sink.faults;
}
