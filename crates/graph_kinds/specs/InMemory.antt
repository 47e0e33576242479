-- Sources and sinks in memory: how much goes in one call, which calls fail, and how many there were.
use Rattle.std.specs.Prelude.{ℕ, ◌+◌, ◌-◌, ◌^◌, min, Bool, List, length, drop}
use Rattle.graph_kinds.specs.Levels.{stands_in}
use Rattle.graph_kinds.specs.declared.mem_source.MemSource.{MemSource}
use Rattle.graph_kinds.specs.declared.mem_sink.MemSink.{MemSink}

-- how a source or a sink was set up: the most bytes of one call, and the numbers of the calls that fail, from 1
pub record Setup : Type 0 where
  pub piece : ℕ
  pub failing : List ℕ

-- the number of the call behind so many; the count ends at 2^32 - 1
abbrev pub next_call : ℕ → ℕ
next_call calls = min (calls + 1) (2 ^ 32 - 1)

-- the call behind so many fails by its number
abbrev pub fails_next : Setup → ℕ → Bool
fails_next setup calls = stands_in setup.failing (next_call calls)

-- how a source was set up, how many reads it had before its end was told and how many failed, whether its end was
-- told, and the bytes that are left
abbrev pub source_setup : MemSource → Setup
source_setup s = record { piece = s.piece; failing = s.failing.items }

abbrev pub reads : MemSource → ℕ
reads s = s.reads

abbrev pub read_faults : MemSource → ℕ
read_faults s = s.faults

abbrev pub has_ended : MemSource → Bool
has_ended s = s.ended

abbrev pub bytes_left : MemSource → List ℕ
bytes_left s = drop s.at s.bytes.items

-- how a sink was set up, how many writes it had and how many failed, the bytes that it took, and for how many more
-- it has room
abbrev pub sink_setup : MemSink → Setup
sink_setup s = record { piece = s.piece; failing = s.failing.items }

abbrev pub writes : MemSink → ℕ
writes s = s.writes

abbrev pub write_faults : MemSink → ℕ
write_faults s = s.faults

abbrev pub bytes_taken : MemSink → List ℕ
bytes_taken s = s.bytes.items

abbrev pub room_left : MemSink → ℕ
room_left s = s.room - length s.bytes.items
