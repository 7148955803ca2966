-- Dictionaries of stems as files: a word and its stem in each line (XQuery and XPath Full Text 3.0, section 3.4.4, leaves stemming open).
use Rattle.std.specs.Prelude.{◌≡◌, ℕ, Bool, if◌then◌else◌, List, [], ◌∷◌, ◌++◌, Option, Some, None, Result, bytes_eq, unwrap_or}
use Rattle.std.specs.Borrow.{Bor}
use Rattle.std.specs.Map.{lookup}
use Rattle.std.specs.List.{list_any}
use Rattle.std.specs.Option.{option_and_then}
use Rattle.text_forms.specs.Forms.{key_of}
use Rattle.text_lines.specs.Lines.{lines, content_lines}
use Rattle.text_lines.specs.Lists.{read_lines}
use Rattle.word_lists.specs.Words.{only_two, words_of_line}

-- the key of a word, and that of its stem
abbrev pub Stem : Type 0
Stem = List ℕ × List ℕ

abbrev pub has_stem : List ℕ → List Stem → Bool
has_stem key stems = list_any (λ s. bytes_eq key s.0) stems

-- one more, unless its key is there
abbrev pub with_stem : List Stem → Stem → Option (List Stem)
with_stem stems stem = if has_stem stem.0 stems then None else Some (stems ++ stem ∷ [])

-- a line adds its first word with its second
abbrev pub with_stem_line : List Stem → List ℕ → Option (List Stem)
with_stem_line stems text = option_and_then (λ two. with_stem stems (key_of two.0, key_of two.1)) (only_two (words_of_line text))

-- the stems of a dictionary, or the number of the first bad line
unfoldable pub stems_of : List ℕ → Result (List Stem) ℕ
stems_of file = read_lines with_stem_line [] (content_lines 1 (lines file))

-- the stem of a key: the key itself where it has none
abbrev pub stem_in : List Stem → List ℕ → List ℕ
stem_in stems key = unwrap_or (lookup (bytes_eq key) stems) key

-- whether the key is one of the texts
abbrev pub is_one_of : List (Bor (List ℕ)) → List ℕ → Bool
is_one_of texts key = list_any (λ text. bytes_eq key text.now) texts

-- the texts are the keys with this stem, all of them and no others
abbrev pub AreKeysOf : List Stem → List ℕ → List (Bor (List ℕ)) → Type 0
AreKeysOf stems stem texts = (key : List ℕ) → is_one_of texts key ≡ bytes_eq (stem_in stems key) stem
