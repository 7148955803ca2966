-- The line that shows words, of which the marked ones stand in brackets: `storm over the old [harbour] [storm]`.
use Rattle.std.specs.Prelude.{ℕ, Bool, ◌&&◌, nat_le, nat_lt, if◌then◌else◌, List, ◌++◌, codes, map}
use Rattle.std.specs.List.{enumerate_from, join_with_byte, list_any}
use Rattle.ft_base.specs.declared.span.Span.{Span}

-- some span has the place, which counts from 1
abbrev pub is_marked : List Span → ℕ → Bool
is_marked spans place = list_any (λ span. nat_le span.from place && nat_lt place span.to) spans

-- a word as it stands in the line
abbrev pub shown_word : Bool → List ℕ → List ℕ
shown_word marked word = if marked then codes "[" ++ word ++ codes "]" else word

-- the words, with a space between each two
abbrev pub marked_line : List Span → List (List ℕ) → List ℕ
marked_line spans words = join_with_byte 32 (map (λ (place, word). shown_word (is_marked spans place) word) (enumerate_from 1 words))
