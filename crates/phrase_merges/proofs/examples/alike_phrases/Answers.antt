-- Whichever of the two hits passes a test is on both sides.
use Rattle.std.proofs.Common.{◌≡◌, refl, Bool, true, false, ◌||◌}
use Rattle.phrase_merges.specs.Examples.{hit}
use Rattle.phrase_merges.specs.Near.{alike_filtered, alike_phrases}
use Rattle.phrase_merges.proofs.examples.alike_phrases.Goals as goal

either_one : (a b : Bool) → (a || (b || false)) ≡ (b || (a || (b || false)))
either_one true true = refl
either_one true false = refl
either_one false true = refl
either_one false false = refl

pub returns : goal.returns
returns c = alike_filtered _ _ _ (alike_phrases _ _ (λ test. either_one (test (hit 1 1 2)) (test (hit 1 4 5))))
