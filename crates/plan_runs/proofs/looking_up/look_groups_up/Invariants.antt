-- What was looked up looks as it did; where none so far may be there, each of them is missing.
use Rattle.std.proofs.Common.{◌≡◌, false, All, map, take}
use Rattle.plan_runs.specs.steps.RuledOut.{IsMissing}
use Rattle.plan_runs.specs.steps.RunShapes.{group_shape}
use Rattle.plan_runs.specs.steps.Skips.{variants_skip}
use Rattle.plan_runs.proofs.looking_up.look_groups_up.Given as goal

abbrev pub invariant-loop-number : goal.invariant-loop-number
invariant-loop-number l = record {
  same : map group_shape l.groups.items ≡ map group_shape l.fn.groups.items;
  none : l.may ≡ false → All (λ view. IsMissing (λ part. variants_skip l.doc.0 part view.terms)) (take l.number (map group_shape l.fn.groups.items));
}
