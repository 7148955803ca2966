-- The lines of a text, what a line says, and its first word.
use Rattle.std.specs.Prelude.{ℕ, Bool, ◌==◌, ◌||◌, ◌-◌, ◌+◌, not, if◌then◌else◌, List, [], ◌∷◌, length, take, drop, nat_eq, codes}
use Rattle.std.specs.List.{starts_with, ends_with, onto_first, take_while}
use Rattle.ft_base.specs.Characters.{is_blank, is_line_feed}

-- The lines without the line feeds that end them. What stands after the last line feed is a line where it isn't empty.
abbrev pub lines : List ℕ → List (List ℕ)
lines [] = []
lines (byte ∷ bytes) = if is_line_feed byte then [] ∷ lines bytes else onto_first byte (lines bytes)

-- a line without the carriage return at its end
abbrev pub without_return : List ℕ → List ℕ
without_return line = if ends_with nat_eq line (13 ∷ []) then take (length line - 1) line else line

-- a text without the blanks at its start
abbrev pub trimmed_start : List ℕ → List ℕ
trimmed_start [] = []
trimmed_start (byte ∷ bytes) = if is_blank byte then trimmed_start bytes else byte ∷ bytes

-- a byte before a text, but nothing for a blank before nothing
abbrev pub before_trimmed : ℕ → List ℕ → List ℕ
before_trimmed byte [] = if is_blank byte then [] else byte ∷ []
before_trimmed byte (next ∷ bytes) = byte ∷ next ∷ bytes

-- a text without the blanks at its end
abbrev pub trimmed_end : List ℕ → List ℕ
trimmed_end [] = []
trimmed_end (byte ∷ bytes) = before_trimmed byte (trimmed_end bytes)

-- what a line says: a carriage return at its end goes, and then the blanks at both ends
abbrev pub trimmed_line : List ℕ → List ℕ
trimmed_line line = trimmed_end (trimmed_start (without_return line))

-- a line that says nothing, or begins with a number sign
abbrev pub is_skipped : List ℕ → Bool
is_skipped line = length (trimmed_line line) == 0 || starts_with nat_eq (trimmed_line line) (codes "#")

-- a text's first word
abbrev pub first_word : List ℕ → List ℕ
first_word text = take_while (λ byte. not (is_blank byte)) text

-- what stands after the first word and the blanks after it
abbrev pub after_first_word : List ℕ → List ℕ
after_first_word text = trimmed_start (drop (length (first_word text)) text)

-- a line that isn't skipped: its number, counted from 1, and what it says
pub record Content : Type 0 where
  pub number : ℕ
  pub text : List ℕ

-- the lines that aren't skipped, where the first of them all has that number
unfoldable pub content_lines : ℕ → List (List ℕ) → List Content
content_lines number [] = []
content_lines number (line ∷ lines) =
    if is_skipped line then content_lines (number + 1) lines
    else record { number = number; text = trimmed_line line } ∷ content_lines (number + 1) lines
