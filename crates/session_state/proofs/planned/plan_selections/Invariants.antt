-- The plans so far are of the first selections, and the lists that those name are there.
use Rattle.std.proofs.Common.{◌≡◌, map, take, drop}
use Rattle.path_subset.specs.Paths.{read_form}
use Rattle.session_state.specs.Paths.{missing_list, selections_of}
use Rattle.session_state.specs.PlannedPaths.{plan_under}
use Rattle.session_state.proofs.planned.plan_selections.Given as goal

abbrev pub invariant-loop-number : goal.invariant-loop-number
invariant-loop-number l = record {
  plans : l.plans.items ≡ map (plan_under l.prepared.lists l.text) (take l.number (read_form l.path).selections);
  missing : missing_list l.prepared.lists (selections_of (read_form l.path))
      ≡ missing_list l.prepared.lists (drop l.number (selections_of (read_form l.path)));
}
