-- How far symbols go along a shape.
use Rattle.std.specs.Prelude.{ℕ, ◌+◌, Bool, false, if◌then◌else◌, List, [], ◌∷◌, drop, Option, Some, None, Result, Ok, Err}
use Rattle.selection_grammar.specs.declared.symbol.Placed.{Placed}
use Rattle.selection_grammar.specs.Shapes.{Shape, whole, nothing, word, number, text, mark, Mark, is_word, is_mark, number_of, text_of}

abbrev pub first_is : List ℕ → List Placed → Bool
first_is key [] = false
first_is key (p ∷ w) = is_word key p.symbol

abbrev pub first_is_mark : Mark → List Placed → Bool
first_is_mark m [] = false
first_is_mark m (p ∷ w) = is_mark m p.symbol

abbrev pub first_number : List Placed → Option ℕ
first_number [] = None
first_number (p ∷ w) = number_of p.symbol

abbrev pub first_text : List Placed → Option (List ℕ)
first_text [] = None
first_text (p ∷ w) = text_of p.symbol

-- the place of the first symbol
abbrev pub first_place : List Placed → ℕ
first_place [] = 0
first_place (p ∷ w) = p.from

abbrev pub by_number : {B : Type 0} → (ℕ → B) → B → Option ℕ → B
by_number there otherwise None = otherwise
by_number there otherwise (Some n) = there n

abbrev pub by_text : {B : Type 0} → (List ℕ → B) → B → Option (List ℕ) → B
by_text there otherwise None = otherwise
by_text there otherwise (Some s) = there s

-- From the symbol of a number on: what the symbols spell and the number of the symbol after it, or the number of the symbol with which
-- they leave the shape. Symbols are numbered from 0.
abbrev pub reading : {A : Type 0} → Shape A → List Placed → ℕ → Result (A × ℕ) ℕ
reading (whole a) w i = Ok (a, i)
reading nothing w i = Err i
reading (word key to rest) w i = if first_is key (drop i w) then reading (to (first_place (drop i w))) w (i + 1) else reading rest w i
reading (number to rest) w i = by_number (λ n. reading (to n) w (i + 1)) (reading rest w i) (first_number (drop i w))
reading (text to rest) w i = by_text (λ s. reading (to (first_place (drop i w)) s) w (i + 1)) (reading rest w i) (first_text (drop i w))
reading (mark m to rest) w i = if first_is_mark m (drop i w) then reading to w (i + 1) else reading rest w i

-- what is read after a part
abbrev pub further : {A B : Type 0} → Result (A × ℕ) ℕ → (A → ℕ → Result (B × ℕ) ℕ) → Result (B × ℕ) ℕ
further (Ok (a, n)) rest = rest a n
further (Err n) rest = Err n
