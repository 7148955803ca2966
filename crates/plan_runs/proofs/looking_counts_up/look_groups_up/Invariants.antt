-- What was looked up looks as it did; where none so far may be there, each of them is missing.
use Rattle.std.proofs.Common.{◌≡◌, false, All, take}
use Rattle.plan_runs.specs.steps.RuledOut.{IsMissing}
use Rattle.plan_runs.specs.steps.RunShapes.{term_groups}
use Rattle.plan_runs.specs.steps.Skips.{variants_skip}
use Rattle.plan_runs.proofs.looking_counts_up.look_groups_up.Given as goal

abbrev pub invariant-loop-number : goal.invariant-loop-number
invariant-loop-number l = record {
  same : term_groups l.groups.items ≡ term_groups l.fn.groups.items;
  none : l.may ≡ false → All (λ view. IsMissing (λ part. variants_skip l.doc.0 part view.1)) (take l.number (term_groups l.fn.groups.items));
}
