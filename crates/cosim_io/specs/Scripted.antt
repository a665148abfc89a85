-- A source and a sink over memory, whose failing calls are listed by their numbers. Where 2^64 - 1 is listed, each
-- call from that number on fails.
use Rattle.std.specs.Prelude.{ℕ, ◌-◌, ◌/◌, ◌<◌, ◌⊎◌, List, ◌++◌, length, take, drop, min, Contains}
use Rattle.cosim_io.specs.Faults.{counted}

-- the bytes that are left, the numbers of the calls that fail, the number of the last call, and the count of faults
pub record ScriptedSource : Type 0 where
  pub left : List ℕ
  pub failing : List ℕ
  pub calls : ℕ
  pub faults : ℕ

-- the next read fails: its number is listed
abbrev pub ReadFails : ScriptedSource → Type 0
ReadFails source = Contains source.failing (counted source.calls)

-- the source after a read that took this many bytes
abbrev pub after_read : ScriptedSource → ℕ → ScriptedSource
after_read source count = record source { left = drop count source.left; calls = counted source.calls }

-- the source after a failed read
abbrev pub after_failed_read : ScriptedSource → ScriptedSource
after_failed_read source = record source { calls = counted source.calls; faults = counted source.faults }

-- the bytes that are held, the most bytes that may be held, the numbers of the calls that fail, the number of the
-- last call, and the count of faults
pub record ScriptedSink : Type 0 where
  pub held : List ℕ
  pub room : ℕ
  pub failing : List ℕ
  pub calls : ℕ
  pub faults : ℕ

-- how many more bytes may be held
abbrev pub room_left : ScriptedSink → ℕ
room_left sink = sink.room - length sink.held

-- the next put of the piece fails: its number is listed, or the piece is longer than the room that is left
abbrev pub PutFails : ScriptedSink → List ℕ → Type 0
PutFails sink piece = Contains sink.failing (counted sink.calls) ⊎ (room_left sink < length piece)

-- the sink after a put that appended the piece
abbrev pub after_put : ScriptedSink → List ℕ → ScriptedSink
after_put sink piece = record sink { held = sink.held ++ piece; calls = counted sink.calls }

-- how many bytes of the piece a failed put appends: the first half, as far as there is room
abbrev pub half_count : ScriptedSink → List ℕ → ℕ
half_count sink piece = min (length piece / 2) (room_left sink)

-- the sink after a failed put
abbrev pub after_failed_put : ScriptedSink → List ℕ → ScriptedSink
after_failed_put sink piece = record sink {
  held = sink.held ++ take (half_count sink piece) piece;
  calls = counted sink.calls;
  faults = counted sink.faults;
}
