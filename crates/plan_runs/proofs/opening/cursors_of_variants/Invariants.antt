-- The first variants have their cursors.
use Rattle.std.proofs.Common.{◌≡◌, map, take}
use Rattle.index_phrases.specs.steps.Aiming.{sizes_of, variant_words, wanted_size}
use Rattle.plan_runs.proofs.opening.cursors_of_variants.Given as goal

abbrev pub invariant-loop-variant : goal.invariant-loop-variant
invariant-loop-variant l = map sizes_of l.made.items ≡ map (map wanted_size) (map variant_words (take l.variant-index l.variants.items))
