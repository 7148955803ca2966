-- Zeros after the last count change no count.
use Rattle.std.proofs.Common.{◌≡◌, ◌+◌, ◌-◌, ℕ, length}
use Rattle.index_counts.specs.Counts.{count_of}
use Rattle.index_counts.proofs.counts.cover.Given as goal

abbrev pub invariant-loop-counts : goal.invariant-loop-counts
invariant-loop-counts l = (t : ℕ) → count_of l.counts t ≡ count_of l.fn.counts t

abbrev pub decreases-loop-counts : goal.decreases-loop-counts
decreases-loop-counts l = l.at + 1 - length l.counts
