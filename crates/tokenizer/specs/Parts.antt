-- A document in the order of its text: words, the characters between words, and tags. A period directly behind an abbreviation ends no
-- sentence, so that it is left out of the characters.
use Rattle.std.specs.Prelude.{ℕ, ◌==◌, Bool, true, false, List, [], ◌∷◌, ◌++◌, flat_map, if◌then◌else◌, bytes_eq}
use Rattle.std.specs.List.{list_any}
use Rattle.plain_tree.specs.Document.{Node, element, text, Nodes, no_nodes, node_then}
use Rattle.text_forms.specs.Forms.{key_of}
use Rattle.unicode_segmentation.specs.Word.{word_bounds}
use Rattle.text_words.specs.Words.{is_word}

pub data Event : Type 0 where
  -- a start tag or an end tag of an element of this name; an empty element has one of each
  tag : List ℕ → Event
  -- a text
  characters : List ℕ → Event

-- the tags and texts of a node, in the order in which it is written
unfoldable mutual
  pub events : Node → List Event
  events (element name attrs kids) = tag name ∷ (events_of kids ++ tag name ∷ [])
  events (text bytes) = characters bytes ∷ []

  pub events_of : Nodes → List Event
  events_of no_nodes = []
  events_of (node_then n ns) = events n ++ events_of ns

pub data Part : Type 0 where
  word : List ℕ → Part
  -- characters that are in no word
  gap_characters : List ℕ → Part
  gap_tag : List ℕ → Part

-- whether a word is an abbreviation: its key is in the set
abbrev pub is_abbreviation : List (List ℕ) → List ℕ → Bool
is_abbreviation abbreviations bytes = list_any (bytes_eq (key_of bytes)) abbreviations

-- characters without the period at their start, where they stand directly behind an abbreviation
abbrev pub without_period : Bool → List ℕ → List ℕ
without_period false bytes = bytes
without_period true [] = []
without_period true (c ∷ cs) = if c == 46 then cs else c ∷ cs

-- the parts of segments between word boundaries; whether an abbreviation stands directly before them is told
unfoldable pub parts_behind : List (List ℕ) → Bool → List (List ℕ) → List Part
parts_behind abbreviations spares [] = []
parts_behind abbreviations spares (segment ∷ rest) =
    if is_word segment then word segment ∷ parts_behind abbreviations (is_abbreviation abbreviations segment) rest
    else gap_characters (without_period spares segment) ∷ parts_behind abbreviations false rest

-- the parts of a text
abbrev pub parts_of_text : List (List ℕ) → List ℕ → List Part
parts_of_text abbreviations bytes = parts_behind abbreviations false (word_bounds bytes)

abbrev pub parts_of_event : List (List ℕ) → Event → List Part
parts_of_event abbreviations (tag name) = gap_tag name ∷ []
parts_of_event abbreviations (characters bytes) = parts_of_text abbreviations bytes

-- the parts of a document under a set of abbreviations
abbrev pub parts : List (List ℕ) → Node → List Part
parts abbreviations document = flat_map (parts_of_event abbreviations) (events document)
