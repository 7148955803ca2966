-- The parts of what is left of a text, after the first characters of a part.
use Rattle.std.specs.Prelude.{ℕ, List, [], ◌∷◌, ◌++◌, map, filter, if◌then◌else◌, encode_utf8_all}
use Rattle.std.specs.Char.{is_whitespace}
use Rattle.ft_base.specs.Lists.{is_not_empty}

-- the part that ends, unless it is empty
abbrev pub ended : List ℕ → List (List ℕ)
ended part = map encode_utf8_all (filter is_not_empty (part ∷ []))

unfoldable pub parts_left : List ℕ → List ℕ → List (List ℕ)
parts_left part [] = ended part
parts_left part (c ∷ rest) = if is_whitespace c then ended part ++ parts_left [] rest else parts_left (part ++ c ∷ []) rest
