-- Where a word stands in its text.
use Rattle.std.specs.Prelude.{ℕ, ◌+◌, ◌≤◌, List, length, slice_range}
use Rattle.std.specs.Str.{IsCharBoundary}
use Rattle.text_words.specs.declared.words.Piece.{Piece}

-- from its first byte to its last
abbrev pub piece_of : ℕ × List ℕ → Piece
piece_of (at, word) = record { from = at; to = at + length word }

-- the text may be cut at both ends of the piece
pub record IsPieceOf (text : List ℕ) (piece : Piece) : Type 0 where
  pub ordered : piece.from ≤ piece.to
  pub start : IsCharBoundary text piece.from
  pub end : IsCharBoundary text piece.to

-- the bytes of the piece
abbrev pub bytes_at : List ℕ → Piece → List ℕ
bytes_at text piece = slice_range text piece.from piece.to
