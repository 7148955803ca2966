-- The first phrases were opened.
use Rattle.std.proofs.Common.{◌≡◌, map, take}
use Rattle.plan_runs.specs.steps.OpenedWords.{opened_phrase}
use Rattle.plan_runs.specs.steps.RunShapes.{phrase_shape}
use Rattle.plan_runs.proofs.opening.open_phrases.Given as goal

abbrev pub invariant-loop-plan : goal.invariant-loop-plan
invariant-loop-plan l = map phrase_shape l.runs.items ≡ map (opened_phrase l.opening.looks l.opening.lists.now.stems l.opening.version.now) (take l.plan-index l.plans)
