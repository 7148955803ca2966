-- Where no more lines come, those that were there stay first, and are all that is left once those after them are cut off.
use Rattle.std.proofs.Common.{◌≡◌, ◌++◌, ℕ, List, Ok, Err, take, length, ap₂, ◌∙◌}
use Rattle.std.proofs.Math.Seq.{take-append_seam}
use Rattle.std.specs.Prelude.{Result, OnErr}

pub kept-err : {T E : Type 0} (r : Result T E) (before now after : List (List ℕ)) → ((more : List (List ℕ)) × (now ≡ before ++ more)) → after ≡ now
    → OnErr r ((more : List (List ℕ)) × (after ≡ before ++ more))
kept-err (Ok x) before now after kept same = tt
kept-err (Err e) before now after (more, is) same = (more, same ∙ is)

pub cut-off : (old now cut : List (List ℕ)) (count : ℕ) → count ≡ length old → ((more : List (List ℕ)) × (now ≡ old ++ more)) → cut ≡ take count now → cut ≡ old
cut-off old now cut count many (more, is) kept = kept ∙ ap₂ take many is ∙ take-append_seam old more
