-- What the words of a command line may be.
use Rattle.std.specs.Prelude.{ℕ, Bool, not, ◌&&◌, nat_le, nat_eq, List, length}
use Rattle.std.specs.Cmp.Lexicographic.{pointwise}
use Rattle.std.specs.Str.{is_utf8}
use Rattle.ft_base.specs.Lists.{is_empty}
use Rattle.ft_base.specs.Limits.{max_line_bytes}
use Rattle.text_lines.specs.Lines.{without_return, trimmed_line, after_first_word}

-- whether two texts have the same bytes
abbrev pub is_text : List ℕ → List ℕ → Bool
is_text a b = pointwise nat_eq a b

-- a command line has no more bytes than it may have, the blanks at both ends counted, and is UTF-8
abbrev pub is_command_line : List ℕ → Bool
is_command_line line = nat_le (length (without_return line)) max_line_bytes && is_utf8 (trimmed_line line)

-- a text that is exactly one word
abbrev pub is_one_word : List ℕ → Bool
is_one_word text = not (is_empty text) && is_empty (after_first_word text)
