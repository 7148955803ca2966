-- The words of a line, one after the other.
use Rattle.std.specs.Prelude.{ℕ, zero, suc, List, [], ◌∷◌, ◌++◌, codes}
use Rattle.ft_base.specs.declared.span.Span.{Span}
use Rattle.element_lines.specs.Marked.{is_marked, shown_word}

-- what stands before the word of a number, which counts from 0
abbrev pub space_before : ℕ → List ℕ
space_before zero = []
space_before (suc number) = codes " "

-- the end of a line, from the word of a number on, which is the first of these
abbrev pub words_from : List Span → ℕ → List (List ℕ) → List ℕ
words_from spans number [] = []
words_from spans number (word ∷ rest) = space_before number ++ shown_word (is_marked spans (suc number)) word ++ words_from spans (suc number) rest
