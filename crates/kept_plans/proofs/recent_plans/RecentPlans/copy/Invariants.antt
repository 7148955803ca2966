-- The plans that are left stand before those that were copied.
use Rattle.std.proofs.Common.{◌≡◌, ◌++◌}
use Rattle.std.specs.Map.{values_of}
use Rattle.kept_plans.proofs.recent_plans.RecentPlans.copy.Given as goal

abbrev pub invariant-loop-text : goal.invariant-loop-text
invariant-loop-text l = values_of l._text-iterator.iter ++ l.copy ≡ l.fn.self
