-- How a tree is printed, as characters on one line.
use Rattle.std.specs.Prelude.{◌≡◌, ℕ, false, ◌==◌, List, [], ◌∷◌, ◌++◌, IsTrue, if◌then◌else◌, codes}
use Rattle.std.specs.List.{flat_map, list_all}
use Rattle.std.specs.Str.{IsUtf8, chars}
use Rattle.plain_tree.specs.Document.{Node, element, text, Nodes, no_nodes, node_then}
use Rattle.plain_tree.specs.declared.tree.Attr.{Attr}
use Rattle.ft_base.specs.Characters.{is_char}
use Rattle.doc_grammar.specs.Grammar.{Name, has_name}

-- a character of a text, and of a value
abbrev pub escaped_in_text : ℕ → List ℕ
escaped_in_text c = if c == 38 then codes "&amp;"
    else if c == 60 then codes "&lt;"
    else if c == 62 then codes "&gt;"
    else if c == 13 then codes "&#13;"
    else if c == 10 then codes "&#10;"
    else c ∷ []

abbrev pub escaped_in_value : ℕ → List ℕ
escaped_in_value c = if c == 38 then codes "&amp;"
    else if c == 60 then codes "&lt;"
    else if c == 34 then codes "&quot;"
    else if c == 9 then codes "&#9;"
    else if c == 13 then codes "&#13;"
    else if c == 10 then codes "&#10;"
    else c ∷ []

abbrev pub printed_text : List ℕ → List ℕ
printed_text bytes = flat_map escaped_in_text (chars bytes)

abbrev pub printed_value : List ℕ → List ℕ
printed_value bytes = flat_map escaped_in_value (chars bytes)

-- a space, the name, and the value between quotes
abbrev pub printed_attribute : Attr → List ℕ
printed_attribute a = ((codes " " ++ chars a.name) ++ codes "=\"") ++ printed_value a.value ++ codes "\""

abbrev pub printed_attributes : List Attr → List ℕ
printed_attributes = flat_map printed_attribute

-- an element without children is one tag
abbrev mutual
  pub printed : Node → List ℕ
  printed (element name attrs no_nodes) = ((codes "<" ++ chars name) ++ printed_attributes attrs) ++ codes "/>"
  printed (element name attrs (node_then n ns)) =
      ((((((codes "<" ++ chars name) ++ printed_attributes attrs) ++ codes ">") ++ printed_all (node_then n ns)) ++ codes "</") ++ chars name) ++ codes ">"
  printed (text bytes) = printed_text bytes

  pub printed_all : Nodes → List ℕ
  printed_all no_nodes = []
  printed_all (node_then n ns) = printed n ++ printed_all ns

-- a name, by its bytes
abbrev pub IsName : List ℕ → Type 0
IsName bytes = Name (chars bytes) bytes

-- bytes of characters that may stand in a document
abbrev pub AreChars : List ℕ → Type 0
AreChars bytes = IsUtf8 bytes × IsTrue (list_all is_char (chars bytes))

-- attributes after others, all with different names
abbrev pub AreAttributes : List Attr → List Attr → Type 0
AreAttributes before [] = Unit {0}
AreAttributes before (a ∷ attrs) = IsName a.name × AreChars a.value × (has_name a.name before ≡ false) × AreAttributes (before ++ a ∷ []) attrs

-- what can be read back
abbrev mutual
  pub IsPrintable : Node → Type 0
  IsPrintable (element name attrs kids) = IsName name × AreAttributes [] attrs × ArePrintable kids
  IsPrintable (text bytes) = AreChars bytes

  pub ArePrintable : Nodes → Type 0
  ArePrintable no_nodes = Unit {0}
  ArePrintable (node_then n ns) = IsPrintable n × ArePrintable ns
