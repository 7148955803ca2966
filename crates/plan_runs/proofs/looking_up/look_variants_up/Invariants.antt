-- What was looked up looks as it did; where none so far may be there, each of them is missing.
use Rattle.std.proofs.Common.{◌≡◌, false, All, map, take}
use Rattle.plan_runs.specs.steps.RuledOut.{IsMissing}
use Rattle.index_phrases.specs.steps.Aiming.{variant_words}
use Rattle.plan_runs.specs.steps.Skips.{variant_skip}
use Rattle.plan_runs.proofs.looking_up.look_variants_up.Given as goal

abbrev pub invariant-loop-number : goal.invariant-loop-number
invariant-loop-number l = record {
  same : map variant_words l.variants.items ≡ map variant_words l.fn.variants.items;
  none : l.may ≡ false → All (λ view. IsMissing (λ part. variant_skip l.doc.0 part view)) (take l.number (map variant_words l.fn.variants.items));
}
