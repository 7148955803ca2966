-- The number, and how many conditions are left, is what it is after all.
use Rattle.std.proofs.Common.{◌≡◌, ◌+◌, map, drop, length}
use Rattle.path_grammar.specs.Form as form
use Rattle.path_grammar.specs.View as view
use Rattle.path_nodes.specs.steps.Leading.{in_step, in_steps, in_predicates, in_conditions, in_paths}
use Rattle.path_nodes.proofs.leading.+after.Given as goal

abbrev pub invariant-after_step-loop-predicate : goal.invariant-after_step-loop-predicate
invariant-after_step-loop-predicate l = l.after + length (in_predicates (form.predicates (map view.predicate (drop l.predicate-index l.predicate-items)))) ≡ l.fn.number + length (in_step (view.step l.fn.step))

abbrev pub invariant-after_conditions-loop-condition : goal.invariant-after_conditions-loop-condition
invariant-after_conditions-loop-condition l = l.after + length (in_conditions (form.conditions (map view.condition (drop l.condition-index l.condition-items)))) ≡ l.fn.number + length (in_conditions (form.conditions (map view.condition l.fn.conditions)))

abbrev pub invariant-after_steps-loop-step : goal.invariant-after_steps-loop-step
invariant-after_steps-loop-step l = l.after + length (in_steps (form.steps (map view.step (drop l.step-index l.step-items)))) ≡ l.fn.number + length (in_steps (form.steps (map view.step l.fn.steps)))

abbrev pub invariant-after_paths-loop-path : goal.invariant-after_paths-loop-path
invariant-after_paths-loop-path l = l.after + length (in_paths (form.paths (map view.relative_path (drop l.path-index l.path-items)))) ≡ l.fn.number + length (in_paths (form.paths (map view.relative_path l.fn.paths)))
