-- The groups before the place have other lengths: the variant goes to those from there on.
use Rattle.std.proofs.Common.{◌≡◌, ◌++◌, drop, take}
use Rattle.all_matches.specs.Counting.{put_variant}
use Rattle.plan_runs.specs.steps.RunShapes.{term_groups}
use Rattle.plan_runs.proofs.opening_counts.put_variant.Given as goal

abbrev pub invariant-loop-number : goal.invariant-loop-number
invariant-loop-number l = record {
  same : l.groups.items ≡ l.fn.groups.items;
  later : put_variant l.variant.items (term_groups l.groups.items) ≡ take l.number (term_groups l.groups.items) ++ put_variant l.variant.items (drop l.number (term_groups l.groups.items));
}
