-- The terms of the first variants are there.
use Rattle.std.proofs.Common.{◌≡◌, map, take}
use Rattle.plan_runs.specs.steps.Skips.{needed_variants}
use Rattle.index_phrases.specs.steps.Aiming.{variant_words}
use Rattle.plan_runs.proofs.opening_needs.needed_variants.Given as goal

abbrev pub invariant-loop-variant : goal.invariant-loop-variant
invariant-loop-variant l = map variant_words l.terms.items
    ≡ needed_variants l.opening.looks l.opening.lists.now.stems l.opening.version.now (take l.variant-index l.variants)
