-- Levels and what is reached, by chains of lines.
use Rattle.std.specs.Prelude.{◌≡◌, ℕ, zero, suc, ◌<◌, true, Option, List, Contains}
use Rattle.thesaurus_file.specs.Expansion.{next}
use Rattle.thesaurus_file.specs.Levels.{in_range}
use Rattle.thesaurus_file.specs.Links.{Links}
use Rattle.thesaurus_file.specs.Phrases.{Phrase}
use Rattle.thesaurus_file.specs.declared.levels.Levels.{Levels}

-- a chain of that many lines leads from the first phrase to the second
unfoldable pub IsChain : Links → Option (List ℕ) → ℕ → Phrase → Phrase → Type 0
IsChain thesaurus relation zero start phrase = phrase ≡ start
IsChain thesaurus relation (suc n) start phrase =
    (before : Phrase) × IsChain thesaurus relation n start before × Contains (next thesaurus relation before) phrase

-- a chain of that many lines leads there, and none of fewer
pub record IsLevel (thesaurus : Links) (relation : Option (List ℕ)) (n : ℕ) (start phrase : Phrase) : Type 0 where
  pub chain : IsChain thesaurus relation n start phrase
  pub shortest : (fewer : ℕ) → fewer < n → ¬ (IsChain thesaurus relation fewer start phrase)

-- the phrase itself, or one whose level is in the range
pub data IsReached (thesaurus : Links) (relation : Option (List ℕ)) (levels : Levels) (start phrase : Phrase) : Type 0 where
  itself : phrase ≡ start → IsReached thesaurus relation levels start phrase
  at_level : (n : ℕ) → in_range levels n ≡ true → IsLevel thesaurus relation n start phrase → IsReached thesaurus relation levels start phrase
