-- The groups of the first phrases.
use Rattle.std.proofs.Common.{◌≡◌, flat_map, take}
use Rattle.plan_runs.specs.steps.Counts.{opened_groups}
use Rattle.plan_runs.specs.steps.RunShapes.{term_groups}
use Rattle.plan_runs.proofs.opening_counts.open_phrases.Given as goal

abbrev pub invariant-loop-phrase : goal.invariant-loop-phrase
invariant-loop-phrase l =
    term_groups l.groups.items ≡ flat_map (opened_groups l.opening.looks l.opening.lists.now.stems l.opening.version.now) (take l.phrase-index l.phrases)
