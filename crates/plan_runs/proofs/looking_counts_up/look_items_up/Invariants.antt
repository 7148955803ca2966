-- What was looked up looks as it did.
use Rattle.std.proofs.Common.{◌≡◌, map}
use Rattle.plan_runs.specs.steps.RunShapes.{term_counts}
use Rattle.plan_runs.proofs.looking_counts_up.look_items_up.Given as goal

abbrev pub invariant-loop-number : goal.invariant-loop-number
invariant-loop-number l = map term_counts l.items.items ≡ map term_counts l.fn.items.items
