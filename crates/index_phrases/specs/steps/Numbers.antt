-- The numbers of the sentence and the paragraph of a word, in a document and in a span of it.
use Rattle.std.specs.Prelude.{ℕ}
use Rattle.ft_base.specs.declared.places.Breaks.{Breaks}
use Rattle.index_cursors.specs.SpanHits.{started}
use Rattle.index_phrases.specs.Phrases.{own_number}
use Rattle.index_phrases.specs.declared.unit_numbers.UnitNumbers.{UnitNumbers}

-- as the document counts them
abbrev pub numbers_at : Breaks → ℕ → UnitNumbers
numbers_at breaks place = record { sentence = started breaks.sentences place; paragraph = started breaks.paragraphs place }

-- as a span counts them that begins at the first place
abbrev pub own_numbers : Breaks → ℕ → ℕ → UnitNumbers
own_numbers breaks first place = record { sentence = own_number breaks.sentences first place; paragraph = own_number breaks.paragraphs first place }
