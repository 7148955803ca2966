-- Small documents and spans, for the examples.
use Rattle.std.specs.Prelude.{ℕ, [], ◌∷◌, true}
use Rattle.ft_base.specs.declared.hit.Hit.{Hit}
use Rattle.ft_base.specs.declared.places.Breaks.{Breaks}
use Rattle.ft_base.specs.declared.span.Span.{Span}

-- six words in three sentences and two paragraphs: the second sentence starts at the third word, the third sentence
-- and the second paragraph at the fifth
abbrev pub breaks : Breaks
breaks = record { sentences = 1 ∷ 3 ∷ 5 ∷ []; paragraphs = 1 ∷ 5 ∷ [] }

abbrev pub span : ℕ → ℕ → Span
span from to = record { from = from; to = to }

-- the hit of one word, in that sentence and that paragraph
abbrev pub hit : ℕ → ℕ → ℕ → Hit
hit place sentence paragraph =
    record { query = 0; from = place; to = place; sent_from = sentence; sent_to = sentence; para_from = paragraph; para_to = paragraph; whole = true }
