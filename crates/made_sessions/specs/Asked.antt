-- The words of a call that asks for a made session, and what is written of the replies to one.
use Rattle.std.specs.Prelude.{ℕ, ◌+◌, Bool, nat_eq, nat_le, ◌&&◌, if◌then◌else◌, List, [], ◌∷◌, take, drop, codes, Option, Some, None}
use Rattle.std.specs.Fmt.{decimal}
use Rattle.std.specs.List.{position_or_len, starts_with}
use Rattle.std.specs.Str.{bytes_eq}
use Rattle.std.specs.Str.Parse.{digits_value}
use Rattle.ft_base.specs.Characters.{is_line_feed}
use Rattle.ft_base.specs.Limits.{max_documents}

-- whether a number is from 1 to as many documents as a session may have, and a word is its decimal
abbrev pub is_count : ℕ → List ℕ → Bool
is_count number word = nat_le 1 number && nat_le number max_documents && bytes_eq (decimal number) word

abbrev pub count_as : ℕ → List ℕ → Option ℕ
count_as number word = if is_count number word then Some number else None

-- the number that a word is, in decimal without leading zeros
abbrev pub count_in : List ℕ → Option ℕ
count_in word = count_as (digits_value 10 word) word

-- for how many documents the words of a call ask
abbrev pub asked_count : List (List ℕ) → Option ℕ
asked_count (word ∷ []) = if starts_with nat_eq word (codes "--make=") then count_in (drop 7 word) else None
asked_count (word ∷ number ∷ []) = if bytes_eq word (codes "--make") then count_in number else None
asked_count _ = None

-- a text to the end of its first line
abbrev pub first_line : List ℕ → List ℕ
first_line text = take (position_or_len is_line_feed text + 1) text

-- what is written of the text of a reply: its first line where it begins with `=`, and else nothing
abbrev pub short : List ℕ → List ℕ
short text = if starts_with nat_eq text (codes "=") then first_line text else []
