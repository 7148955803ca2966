-- The lines of a session whose bytes have not all come.
use Rattle.std.specs.Prelude.{ℕ, Bool, true, false, if◌then◌else◌, List, [], ◌∷◌, drop, nat_eq}
use Rattle.std.specs.List.{starts_with}
use Rattle.ft_base.specs.Characters.{is_line_feed}
use Rattle.text_lines.specs.Lines.{lines}

-- a session's bytes after the byte order mark, where one stands at its beginning
abbrev pub without_mark : List ℕ → List ℕ
without_mark bytes = if starts_with nat_eq bytes (239 ∷ 187 ∷ 191 ∷ []) then drop 3 bytes else bytes

-- a byte before the first line, if there is one
abbrev pub onto_ended : ℕ → List (List ℕ) → List (List ℕ)
onto_ended byte [] = []
onto_ended byte (line ∷ lines) = (byte ∷ line) ∷ lines

-- the lines that a line feed ends, without it
abbrev pub ended_lines : List ℕ → List (List ℕ)
ended_lines [] = []
ended_lines (byte ∷ bytes) = if is_line_feed byte then [] ∷ ended_lines bytes else onto_ended byte (ended_lines bytes)

-- the lines of bytes: all of them where the session ends there, and else those that have ended
abbrev pub lines_of : Bool → List ℕ → List (List ℕ)
lines_of true bytes = lines bytes
lines_of false bytes = ended_lines bytes
