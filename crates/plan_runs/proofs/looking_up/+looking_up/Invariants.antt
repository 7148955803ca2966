-- Parts keep their shapes, and are smaller than what they are parts of; where none so far may be there, each of them is missing.
use Rattle.std.proofs.Common.{◌≡◌, ◌+◌, ◌*◌, false, All, map, take}
use Rattle.plan_runs.specs.steps.RuledOut.{IsMissing}
use Rattle.plan_runs.specs.steps.RunShapes.{shape, shapes_of}
use Rattle.plan_runs.specs.steps.RunSkips.{skip}
use Rattle.plan_runs.proofs.TreeLemmas.{weight, weights}
use Rattle.plan_runs.proofs.looking_up.+looking_up.Given as goal

abbrev pub decreases-look_up : goal.decreases-look_up
decreases-look_up l = 2 * weight (shape l.node.now)

abbrev pub decreases-look_one_up : goal.decreases-look_one_up
decreases-look_one_up l = 2 * weights (shapes_of (map shape l.parts.now.items)) + 1

abbrev pub decreases-look_all_up : goal.decreases-look_all_up
decreases-look_all_up l = 2 * weights (shapes_of (map shape l.parts.now.items)) + 1

abbrev pub invariant-look_one_up-loop-number : goal.invariant-look_one_up-loop-number
invariant-look_one_up-loop-number l = record {
  same : map shape l.parts.items ≡ map shape l.fn.parts.items;
  none : l.may ≡ false → All (λ view. IsMissing (λ part. skip l.doc.0 part view)) (take l.number (map shape l.fn.parts.items));
}

abbrev pub invariant-look_all_up-loop-number : goal.invariant-look_all_up-loop-number
invariant-look_all_up-loop-number l = map shape l.parts.items ≡ map shape l.fn.parts.items
