-- What a shelf of the operating system's files counts.
use Rattle.std.specs.Prelude.{ℕ, ◌+◌, Result, Ok, Err}
use Rattle.ft_io.specs.declared.failed.Failed.{Failed}
use Rattle.ft_io.specs.Shelf.{reached_after}

-- how often a read failed, and how far files were read, over all names
pub record Counts : Type 0 where
  pub faults : ℕ
  pub reached : ℕ

-- nothing read yet
abbrev pub new_counts : Counts
new_counts = record { faults = 0; reached = 0 }

-- what a read leaves: it counts how far it read, or a fault
abbrev pub counts_after : Counts → ℕ → Result ℕ Failed → Counts
counts_after counts at (Ok count) = record counts { reached = reached_after counts.reached at (Ok count) }
counts_after counts at (Err failed) = record counts { faults = counts.faults + 1 }
