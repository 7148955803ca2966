-- Phrases for examples, each with hits of one word in one sentence.
use Rattle.std.specs.Prelude.{ℕ, suc, List, map}
use Rattle.ft_base.specs.HitExamples as hit
use Rattle.ft_base.specs.declared.hit.Hit.{Hit}
use Rattle.ft_base.specs.declared.span.Span.{Span}
use Rattle.all_matches.specs.Ways.{Operator, phrase}

-- the hit of a phrase with this number, at this word
abbrev pub hit_at : ℕ → ℕ → Hit
hit_at number place = hit.phrase number place place

-- a phrase with this number, with hits at these words
abbrev pub numbered : ℕ → List ℕ → Operator
numbered number places = phrase (map (hit_at number) places)

-- a text of so many words
abbrev pub words : ℕ → Span
words count = record { from = 1; to = suc count }
