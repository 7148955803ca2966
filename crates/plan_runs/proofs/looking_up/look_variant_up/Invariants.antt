-- What was looked up stays.
use Rattle.std.proofs.Common.{◌≡◌}
use Rattle.plan_runs.proofs.looking_up.look_variant_up.Given as goal

abbrev pub invariant-loop-number : goal.invariant-loop-number
invariant-loop-number l = l.words.items ≡ l.fn.words.items
