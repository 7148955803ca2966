-- Terms without groups after the last one change none.
use Rattle.std.proofs.Common.{◌≡◌, ◌+◌, ◌-◌, ℕ, length}
use Rattle.std.specs.Prelude.{slice_index_or}
use Rattle.index_groups.proofs.index_groups.cover.Given as goal

abbrev pub invariant-loop-groups : goal.invariant-loop-groups
invariant-loop-groups l = (term : ℕ) → slice_index_or l.groups term 0 ≡ slice_index_or l.fn.groups term 0

abbrev pub decreases-loop-groups : goal.decreases-loop-groups
decreases-loop-groups l = l.at + 1 - length l.groups
