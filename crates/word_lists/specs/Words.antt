-- The words of a line of a list.
use Rattle.std.specs.Prelude.{ℕ, if◌then◌else◌, List, [], ◌∷◌, Option, Some, None}
use Rattle.std.specs.Str.{is_utf8}
use Rattle.text_words.specs.Words.{words}

-- the words of a line, where it is UTF-8
abbrev pub words_of_line : List ℕ → List (List ℕ)
words_of_line text = if is_utf8 text then words text else []

-- the one of a list that has just one
abbrev pub only : List (List ℕ) → Option (List ℕ)
only [] = None
only (word ∷ []) = Some word
only (word ∷ next ∷ rest) = None

-- the two of a list that has just two
abbrev pub only_two : List (List ℕ) → Option (List ℕ × List ℕ)
only_two [] = None
only_two (word ∷ []) = None
only_two (word ∷ second ∷ []) = Some (word, second)
only_two (word ∷ second ∷ third ∷ rest) = None
