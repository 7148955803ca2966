-- A run for each plan so far.
use Rattle.std.proofs.Common.{◌≡◌, map, take}
use Rattle.session_state.specs.PlannedPaths.{run_over}
use Rattle.session_state.proofs.planned.open_runs.Given as goal

abbrev pub invariant-loop-plan : goal.invariant-loop-plan
invariant-loop-plan l = l.runs.items ≡ map (run_over l.version) (take l.plan-index l.plans)
