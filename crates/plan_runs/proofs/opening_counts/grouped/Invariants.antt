-- The groups are those of the variants so far.
use Rattle.std.proofs.Common.{◌≡◌, map}
use Rattle.all_matches.specs.Counting.{by_length}
use Rattle.index_phrases.specs.steps.Aiming.{variant_words}
use Rattle.plan_runs.specs.steps.RunShapes.{term_groups}
use Rattle.plan_runs.proofs.opening_counts.grouped.Given as goal

abbrev pub invariant-loop-variant : goal.invariant-loop-variant
invariant-loop-variant l = term_groups l.groups.items ≡ by_length (map variant_words l.yielded)
