-- The first variants were opened.
use Rattle.std.proofs.Common.{◌≡◌, map, take}
use Rattle.index_phrases.specs.Cursors.{state_of}
use Rattle.phrase_merges.specs.Rows.{aims_of}
use Rattle.plan_runs.specs.steps.Passes.{variant_aims}
use Rattle.plan_runs.proofs.opening_hits.open_each.Given as goal

abbrev pub invariant-loop-tests : goal.invariant-loop-tests
invariant-loop-tests l =
    aims_of state_of l.cursors.items
    ≡ map (variant_aims l.opening.looks l.opening.lists.now.stems l.opening.version.now l.number) (take l.tests-index l.variants)
