-- The first variants were opened.
use Rattle.std.proofs.Common.{◌≡◌, map, take}
use Rattle.plan_runs.specs.steps.OpenedItems.{opened_variant}
use Rattle.index_phrases.specs.steps.Aiming.{variant_words}
use Rattle.plan_runs.proofs.opening.open_variants.Given as goal

abbrev pub invariant-loop-variant : goal.invariant-loop-variant
invariant-loop-variant l = map variant_words l.terms.items ≡ map (opened_variant l.opening.looks l.opening.lists.now.stems l.opening.version.now) (take l.variant-index l.variants)
