-- The first words have their cursors.
use Rattle.std.proofs.Common.{◌≡◌, length, map, take}
use Rattle.plan_runs.proofs.opening_merges.cursors_of_words.Given as goal

abbrev pub invariant-loop-terms : goal.invariant-loop-terms
invariant-loop-terms l = map (λ word. length word.items) l.cursors.items ≡ map length (take l.terms-index l.words.items)
