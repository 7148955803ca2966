-- Thesauri as files: in each line a relation, a phrase and a phrase to which it leads, with bars between them (XQuery and XPath
-- Full Text 3.0, section 3.4.3, leaves their form open).
use Rattle.std.specs.Prelude.{ℕ, Bool, ◌||◌, ◌==◌, if◌then◌else◌, List, [], ◌∷◌, map, length, Option, Some, None, option_map, Result}
use Rattle.std.specs.List.{slice_split}
use Rattle.std.specs.Option.{option_and_then}
use Rattle.std.specs.Str.{is_utf8}
use Rattle.text_forms.specs.Forms.{key_of}
use Rattle.text_lines.specs.Lines.{lines, content_lines, trimmed_start, trimmed_end}
use Rattle.text_lines.specs.Lists.{read_lines}
use Rattle.text_words.specs.Words.{words}
use Rattle.thesaurus_file.specs.Links.{Links, with_link}
use Rattle.thesaurus_file.specs.Phrases.{Phrase}
use Rattle.thesaurus_file.specs.declared.link.Link.{Link}

abbrev pub is_bar : ℕ → Bool
is_bar byte = byte == 124

-- a text without the spaces and tabs at both ends
abbrev pub trimmed : List ℕ → List ℕ
trimmed text = trimmed_end (trimmed_start text)

-- the keys of the words of a text
unfoldable pub phrase_of : List ℕ → Phrase
phrase_of text = map key_of (words text)

-- the three of a list that has just three
abbrev pub three : List (List ℕ) → Option (List ℕ × List ℕ × List ℕ)
three [] = None
three (first ∷ []) = None
three (first ∷ second ∷ []) = None
three (first ∷ second ∷ third ∷ []) = Some (first, second, third)
three (first ∷ second ∷ third ∷ next ∷ rest) = None

abbrev pub is_none : {X : Type 0} → List X → Bool
is_none list = length list == 0

-- a phrase, and where it leads
abbrev pub link_of : List ℕ × List ℕ × List ℕ → Option (Phrase × Link)
link_of (relation, from, to) =
    if is_none (trimmed relation) || is_none (phrase_of from) || is_none (phrase_of to) then None
    else Some (phrase_of from, record { relation = trimmed relation; to = phrase_of to })

-- what a line says: just three parts between bars, of which the first isn't blank and the others have words
abbrev pub line_of : List ℕ → Option (Phrase × Link)
line_of text = if is_utf8 text then option_and_then link_of (three (slice_split is_bar text)) else None

abbrev pub with_line : Links → List ℕ → Option Links
with_line thesaurus text = option_map (with_link thesaurus) (line_of text)

-- the links of a thesaurus, or the number of the first bad line
unfoldable pub thesaurus_of : List ℕ → Result Links ℕ
thesaurus_of file = read_lines with_line [] (content_lines 1 (lines file))
