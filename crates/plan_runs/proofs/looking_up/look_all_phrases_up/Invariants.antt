-- What was looked up looks as it did.
use Rattle.std.proofs.Common.{◌≡◌, map}
use Rattle.plan_runs.specs.steps.RunShapes.{phrase_shape}
use Rattle.plan_runs.proofs.looking_up.look_all_phrases_up.Given as goal

abbrev pub invariant-loop-number : goal.invariant-loop-number
invariant-loop-number l = map phrase_shape l.phrases.items ≡ map phrase_shape l.fn.phrases.items
