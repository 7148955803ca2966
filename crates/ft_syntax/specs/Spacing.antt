-- How the symbols of a selection are set: one space between two, but none after an opening bracket and none before a closing one or a comma.
use Rattle.std.specs.Prelude.{ℕ, Bool, ◌||◌, if◌then◌else◌, List, [], ◌∷◌, ◌++◌, codes, bytes_eq}

-- A symbol is its bytes.
abbrev pub Symbol : Type 0
Symbol = List ℕ

abbrev pub opens : Symbol → Bool
opens symbol = bytes_eq symbol (codes "(") || bytes_eq symbol (codes "{")

abbrev pub closes : Symbol → Bool
closes symbol = bytes_eq symbol (codes ")") || bytes_eq symbol (codes "}") || bytes_eq symbol (codes ",")

-- what stands between two symbols
abbrev pub gap : Symbol → Symbol → List ℕ
gap first second = if opens first || closes second then [] else 32 ∷ []

-- the text of symbols
unfoldable pub set_out : List Symbol → List ℕ
set_out [] = []
set_out (symbol ∷ []) = symbol
set_out (symbol ∷ next ∷ rest) = symbol ++ gap symbol next ++ set_out (next ∷ rest)
