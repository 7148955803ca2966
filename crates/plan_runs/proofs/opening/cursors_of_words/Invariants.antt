-- The first words have their cursors.
use Rattle.std.proofs.Common.{◌≡◌, map, take}
use Rattle.index_phrases.specs.steps.Aiming.{size_of, wanted_size}
use Rattle.plan_runs.proofs.opening.cursors_of_words.Given as goal

abbrev pub invariant-loop-terms : goal.invariant-loop-terms
invariant-loop-terms l = map size_of l.items.items ≡ map wanted_size (take l.terms-index l.words.items)
