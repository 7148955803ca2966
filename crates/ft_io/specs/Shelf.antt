-- The files of a shelf, and what a read of one of them gives.
use Rattle.std.specs.Prelude.{◌≡◌, ◌≤◌, ◌↔◌, ℕ, ◌+◌, ◌-◌, ◌==◌, max, if◌then◌else◌, List, length, take, drop, Option, Some, None, Result, Ok, Err}
use Rattle.std.specs.Ordering.{nat_cmp}
use Rattle.std.specs.Cmp.Lexicographic.{slice_cmp}
use Rattle.std.specs.FinMap as map
use Rattle.ft_io.specs.declared.failed.Failed.{Failed}

-- the bytes of each file, by the bytes of its name
abbrev pub Files : Type 0
Files = map.FinMap (slice_cmp nat_cmp) (List ℕ)

-- the bytes of the file of that name, if there is one
abbrev pub bytes_of : Files → List ℕ → Option (List ℕ)
bytes_of files name = map.get files name

-- the same, if the files are known
abbrev pub known_bytes : Option Files → List ℕ → Option (List ℕ)
known_bytes None name = None
known_bytes (Some files) name = bytes_of files name

-- what a read of a file's bytes at a place puts before the buffer: as many of the bytes there as it counts, and none
-- exactly where the place is at the file's end or past it
pub record Reads (bytes : List ℕ) (at count : ℕ) (buffer : List ℕ) : Type 0 where
  pub within : count ≤ length bytes - at
  pub read : take count buffer ≡ take count (drop at bytes)
  pub ends : (count ≡ 0) ↔ (length bytes ≤ at)

-- how far a file was read, once a read at that place is done
abbrev pub reached_after : ℕ → ℕ → Result ℕ Failed → ℕ
reached_after before at (Ok count) = if count == 0 then before else max before (at + count)
reached_after before at (Err _) = before
