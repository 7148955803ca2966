-- The lines of a reply that stand for elements.
use Rattle.std.specs.Prelude.{ℕ, ◌==◌, if◌then◌else◌, List, [], ◌∷◌, ◌++◌, codes, encode_utf8_all}
use Rattle.std.specs.Fmt.{decimal}
use Rattle.std.specs.List.{flat_map}
use Rattle.doc_grammar.specs.Printed.{printed}
use Rattle.element_lines.specs.LocationSteps.{Step, steps_to}
use Rattle.path_meaning.specs.Elements.{Element}
use Rattle.plain_tree.specs.Document.{Node}

-- `/`, the name, and the number in brackets
abbrev pub step_text : Step → List ℕ
step_text s = codes "/" ++ s.name ++ codes "[" ++ decimal s.number ++ codes "]"

-- a byte of a document's name: a quotation mark is written as two
abbrev pub name_byte : ℕ → List ℕ
name_byte byte = if byte == 34 then 34 ∷ 34 ∷ [] else byte ∷ []

-- `doc("NAME")`, and the steps
abbrev pub place_line : List ℕ → List Step → List ℕ
place_line document steps = codes "doc(\"" ++ flat_map name_byte document ++ codes "\")" ++ flat_map step_text steps

-- the line that names an element of a document
abbrev pub element_line : List ℕ → Node → Element → List ℕ
element_line document root e = place_line document (steps_to root e.place)

-- the line that is an element's printed form
abbrev pub printed_line : Node → List ℕ
printed_line node = encode_utf8_all (printed node)
