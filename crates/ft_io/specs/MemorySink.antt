-- A sink in memory.
use Rattle.std.specs.Prelude.{ℕ, ◌+◌, ◌-◌, ◌^◌, min, List, [], ◌++◌, length, take, Result, Ok, Err}
use Rattle.ft_io.specs.declared.failed.Failed.{Failed}

-- the bytes it holds; how many it has room for; how many it takes in all; how many it takes of a write at most; how often it failed
pub record Held : Type 0 where
  pub bytes : List ℕ
  pub room : ℕ
  pub total : ℕ
  pub piece : ℕ
  pub faults : ℕ

-- a new sink, without a total of its own, which takes as many bytes of a write as it can
abbrev pub empty_sink : ℕ → Held
empty_sink room = record { bytes = []; room = room; total = 2 ^ 64 - 1; piece = 2 ^ 64 - 1; faults = 0 }

-- how many bytes it still takes: what both its room and its total leave
abbrev pub space_left : Held → ℕ
space_left sink = min (sink.room - length sink.bytes) (sink.total - length sink.bytes)

-- how many bytes it takes of so many that are written: no more than a piece
abbrev pub count_taken : Held → ℕ → ℕ
count_taken sink count = min (min count (space_left sink)) sink.piece

-- what a write leaves: the bytes that it took stand after the others, or the fault is counted
abbrev pub sink_after : Held → List ℕ → Result ℕ Failed → Held
sink_after sink from (Ok count) = record sink { bytes = sink.bytes ++ take count from }
sink_after sink from (Err _) = record sink { faults = sink.faults + 1 }
