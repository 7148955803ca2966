-- The groups before this one are started.
use Rattle.std.proofs.Common.{◌≡◌}
use Rattle.count_merges.specs.steps.Passing.{started}
use Rattle.count_merges.proofs.ListChanges.{changed}
use Rattle.count_merges.proofs.starting.start_groups.Given as goal

abbrev pub invariant-loop-number : goal.invariant-loop-number
invariant-loop-number g l = l.groups.items ≡ changed (started (g.U.Units.number l.units) l.window l.from) l.number l.fn.groups.items
