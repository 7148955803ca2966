-- So many steps were counted.
use Rattle.std.proofs.Common.{◌≡◌, ◌+◌}
use Rattle.plan_runs.proofs.reading.count_steps.Given as goal

abbrev pub invariant-loop-step : goal.invariant-loop-step
invariant-loop-step g l = l.moves ≡ l.fn.moves + l._step
