-- What a part of a document brings to the starts that were seen.
use Rattle.std.specs.Prelude.{◌≡◌, List, ◌++◌}
use Rattle.tokenizer.specs.Parts.{Part}
use Rattle.tokenizer.specs.steps.StartsLeft.{sentences_in, paragraphs_in}
use Rattle.tokenizer.specs.declared.starts.Starts.{Starts}

-- these parts of the document lead from `old` to `new`
pub record Passes (old : Starts) (parts : List Part) (new : Starts) : Type 0 where
  pub sentences : (rest : List Part) → sentences_in old (parts ++ rest) ≡ sentences_in new rest
  pub paragraphs : (rest : List Part) → paragraphs_in old (parts ++ rest) ≡ paragraphs_in new rest
