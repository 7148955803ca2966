-- The classes of characters (XML 1.0, sections 2.2 and 2.3; a colon is a character of a name).
use Rattle.std.specs.Prelude.{ℕ, Bool, ◌&&◌, ◌||◌, ◌==◌, nat_le, List, [], ◌∷◌}
use Rattle.std.specs.List.{list_any}

-- whether a character is in a range, both ends included
abbrev pub is_within : ℕ → ℕ × ℕ → Bool
is_within c range = nat_le range.0 c && nat_le c range.1

abbrev pub is_in : List (ℕ × ℕ) → ℕ → Bool
is_in ranges c = list_any (is_within c) ranges

-- production 2, Char
unfoldable pub is_char : ℕ → Bool
is_char = is_in ((0x9, 0xA) ∷ (0xD, 0xD) ∷ (0x20, 0xD7FF) ∷ (0xE000, 0xFFFD) ∷ (0x1_0000, 0x10_FFFF) ∷ [])

-- production 3, one character of S
unfoldable pub is_space : ℕ → Bool
is_space = is_in ((0x20, 0x20) ∷ (0x9, 0xA) ∷ (0xD, 0xD) ∷ [])

-- production 4, NameStartChar
abbrev pub is_ascii_name_start : ℕ → Bool
is_ascii_name_start = is_in ((0x61, 0x7A) ∷ (0x41, 0x5A) ∷ (0x3A, 0x3A) ∷ (0x5F, 0x5F) ∷ [])

unfoldable pub is_name_start : ℕ → Bool
is_name_start c = is_ascii_name_start c || is_in ((0xC0, 0xD6) ∷ (0xD8, 0xF6) ∷ (0xF8, 0x2FF) ∷ (0x370, 0x37D) ∷ (0x37F, 0x1FFF)
    ∷ (0x200C, 0x200D) ∷ (0x2070, 0x218F) ∷ (0x2C00, 0x2FEF) ∷ (0x3001, 0xD7FF) ∷ (0xF900, 0xFDCF) ∷ (0xFDF0, 0xFFFD) ∷ (0x1_0000, 0xE_FFFF) ∷ []) c

-- the characters that go on with a name and begin none
abbrev pub is_only_inside : ℕ → Bool
is_only_inside = is_in ((0x2D, 0x2E) ∷ (0x30, 0x39) ∷ (0xB7, 0xB7) ∷ (0x300, 0x36F) ∷ (0x203F, 0x2040) ∷ [])

-- production 4a, NameChar
unfoldable pub is_name_char : ℕ → Bool
is_name_char c = is_name_start c || is_only_inside c

-- a space or a tab
abbrev pub is_blank : ℕ → Bool
is_blank c = c == 32 || c == 9

abbrev pub is_line_feed : ℕ → Bool
is_line_feed c = c == 10
