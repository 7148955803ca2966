-- What was looked up looks as it did; where none so far may be there, each of them is missing.
use Rattle.std.proofs.Common.{◌≡◌, false, All, map, take}
use Rattle.plan_runs.specs.steps.RuledOut.{IsMissing}
use Rattle.plan_runs.specs.steps.RunShapes.{phrase_shape}
use Rattle.plan_runs.specs.steps.RunSkips.{phrase_skip}
use Rattle.plan_runs.proofs.looking_up.look_one_phrase_up.Given as goal

abbrev pub invariant-loop-number : goal.invariant-loop-number
invariant-loop-number l = record {
  same : map phrase_shape l.phrases.items ≡ map phrase_shape l.fn.phrases.items;
  none : l.may ≡ false → All (λ view. IsMissing (λ part. phrase_skip l.doc.0 part view)) (take l.number (map phrase_shape l.fn.phrases.items));
}
