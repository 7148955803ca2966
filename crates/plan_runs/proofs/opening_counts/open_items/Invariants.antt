-- The first items were opened.
use Rattle.std.proofs.Common.{◌≡◌, map, take}
use Rattle.plan_runs.specs.steps.Counts.{opened_count}
use Rattle.plan_runs.specs.steps.RunShapes.{term_counts}
use Rattle.plan_runs.proofs.opening_counts.open_items.Given as goal

abbrev pub invariant-loop-item : goal.invariant-loop-item
invariant-loop-item l = map term_counts l.words.items ≡ map (opened_count l.opening.looks l.opening.lists.now.stems l.opening.version.now) (take l.item-index l.items)
