-- Lists that are read line by line: each line that isn't skipped adds to the list, or is bad.
use Rattle.std.specs.Prelude.{ℕ, List, [], ◌∷◌, Option, Some, None, Result, Ok, Err}
use Rattle.text_lines.specs.Lines.{Content}

-- the list after a line, or that line's number where it is bad
abbrev pub after_line : {L : Type 0} → ℕ → (L → Result L ℕ) → Option L → Result L ℕ
after_line number further None = Err number
after_line number further (Some list) = further list

-- what lines add to a list one after the other, or the number of the first bad one
abbrev pub read_lines : {L : Type 0} → (L → List ℕ → Option L) → L → List Content → Result L ℕ
read_lines add list [] = Ok list
read_lines add list (line ∷ rest) = after_line line.number (λ next. read_lines add next rest) (add list line.text)
