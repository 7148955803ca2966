-- The items before this one are started.
use Rattle.count_merges.specs.steps.Passing.{parts_of, started_parts}
use Rattle.count_merges.proofs.ListChanges.{Changed}
use Rattle.count_merges.proofs.starting.start_items.Given as goal

abbrev pub invariant-loop-number : goal.invariant-loop-number
invariant-loop-number g l = Changed parts_of (started_parts (g.U.Units.number l.units) l.window l.from) l.fn.items.items l.items.items l.number
