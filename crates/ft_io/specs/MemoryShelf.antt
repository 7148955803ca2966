-- A shelf of files in memory.
use Rattle.std.specs.Prelude.{ℕ, ◌+◌, ◌-◌, ◌^◌, ◌==◌, ◌||◌, min, Bool, false, List, Option, Some, None, is_none, length, Result, Ok, Err, refl}
use Rattle.std.specs.Coded.{Coded, code_by, coded×, coded_ℕ, coded_list, coded_option}
use Rattle.std.specs.FinMap as map
use Rattle.ft_io.specs.declared.failed.Failed.{Failed}
use Rattle.ft_io.specs.Shelf.{Files, bytes_of, reached_after}

-- the files; how many reads there were; the number of the read that fails; how many bytes a read gives at most; how often a
-- read failed; how far files were read
pub record Stored : Type 0 where
  pub files : Files
  pub calls : ℕ
  pub failing : Option ℕ
  pub piece : ℕ
  pub faults : ℕ
  pub reached : ℕ

-- a shelf is stored as its fields
abbrev pub coded_stored : Coded Stored
coded_stored =
    code_by (Files × (ℕ × (Option ℕ × (ℕ × (ℕ × ℕ)))))
    (coded× (map.code (coded_list coded_ℕ) (coded_list coded_ℕ))
    (coded× coded_ℕ (coded× (coded_option coded_ℕ) (coded× coded_ℕ (coded× coded_ℕ coded_ℕ)))))
    (λ s. (s.files, (s.calls, (s.failing, (s.piece, (s.faults, s.reached))))))
    (λ p. record { files = p.0; calls = p.1.0; failing = p.1.1.0; piece = p.1.1.1.0; faults = p.1.1.1.1.0; reached = p.1.1.1.1.1 })
    (λ _. refl)

-- a new shelf, whose reads give as many bytes as fit
abbrev pub empty_shelf : Stored
empty_shelf = record { files = map.empty; calls = 0; failing = None; piece = 2 ^ 64 - 1; faults = 0; reached = 0 }

-- the number of the next read; once it is the greatest that fits it stays there
abbrev pub next_call : Stored → ℕ
next_call shelf = min (shelf.calls + 1) (2 ^ 64 - 1)

-- whether a number is the chosen one
abbrev pub is_chosen : Option ℕ → ℕ → Bool
is_chosen None call = false
is_chosen (Some chosen) call = chosen == call

-- whether the next read of that name fails: the name isn't there, or the read has the chosen number
abbrev pub fails_now : Stored → List ℕ → Bool
fails_now shelf name = is_none (bytes_of shelf.files name) || is_chosen shelf.failing (next_call shelf)

-- how many bytes a read gives at a place of a file, where so many fit: as many as are there, and no more than a piece
abbrev pub count_read : Stored → List ℕ → ℕ → ℕ → ℕ
count_read shelf bytes at fit = min (min fit shelf.piece) (length bytes - at)

-- what a read leaves
abbrev pub shelf_after : Stored → ℕ → Result ℕ Failed → Stored
shelf_after shelf at (Ok count) = record shelf { calls = next_call shelf; reached = reached_after shelf.reached at (Ok count) }
shelf_after shelf at (Err failed) = record shelf { calls = next_call shelf; faults = shelf.faults + 1 }
