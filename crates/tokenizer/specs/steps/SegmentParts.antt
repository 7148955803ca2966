-- The segments of a text between its word boundaries, and the parts that they are.
use Rattle.std.specs.Prelude.{◌≡◌, ℕ, List, [], ◌∷◌, if◌then◌else◌}
use Rattle.text_words.specs.Pieces.{IsPieceOf, bytes_at, piece_of}
use Rattle.tokenizer.specs.Parts.{Part, word, gap_characters, without_period}
use Rattle.tokenizer.specs.steps.Behind.{spares}
use Rattle.tokenizer.specs.declared.segments.Segment.{Segment}

-- a segment, with the place of its first byte, stands in the text
pub record IsSegmentOf (text : List ℕ) (x : ℕ × List ℕ) : Type 0 where
  pub piece : IsPieceOf text (piece_of x)
  pub bytes : bytes_at text (piece_of x) ≡ x.1

-- the part of the text that a segment is
abbrev pub part_of : List (List ℕ) → List ℕ → Segment → Part
part_of abbreviations text segment =
    if segment.is_word then word segment.text.now else gap_characters (without_period (spares abbreviations text segment.before) segment.text.now)

-- the segment as a word, where it is one
abbrev pub words_of_segment : Segment → List (List ℕ)
words_of_segment segment = if segment.is_word then segment.text.now ∷ [] else []
