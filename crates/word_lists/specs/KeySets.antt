-- Sets of keys as files, one word a line: stop lists (XQuery and XPath Full Text 3.0, section 3.4.7, leaves their form open) and lists
-- of abbreviations.
use Rattle.std.specs.Prelude.{ℕ, if◌then◌else◌, List, [], ◌∷◌, ◌++◌, Option, option_map, Result, bytes_eq}
use Rattle.std.specs.List.{list_any}
use Rattle.text_forms.specs.Forms.{key_of}
use Rattle.text_lines.specs.Lines.{lines, content_lines}
use Rattle.text_lines.specs.Lists.{read_lines}
use Rattle.word_lists.specs.Words.{only, words_of_line}

-- a set of keys with one more
abbrev pub with_key : List (List ℕ) → List ℕ → List (List ℕ)
with_key keys key = if list_any (bytes_eq key) keys then keys else keys ++ key ∷ []

-- a line adds the key of its only word
abbrev pub with_key_line : List (List ℕ) → List ℕ → Option (List (List ℕ))
with_key_line keys text = option_map (λ word. with_key keys (key_of word)) (only (words_of_line text))

-- the keys of the words of a file, each once, or the number of the first bad line
unfoldable pub key_set_of : List ℕ → Result (List (List ℕ)) ℕ
key_set_of file = read_lines with_key_line [] (content_lines 1 (lines file))
