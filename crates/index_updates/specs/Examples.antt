-- Small trees and a set of abbreviations, for the examples.
use Rattle.std.specs.Prelude.{ℕ, List, [], ◌∷◌, codes}
use Rattle.ft_base.specs.declared.places.Breaks.{Breaks}
use Rattle.ft_base.specs.declared.ids.NodeRef.{NodeRef}
use Rattle.ordered_tree.specs.Numbered.{Numbered, element_at, text_at, no_children, child_then}

abbrev pub ref : ℕ → NodeRef
ref number = record { 0 = number }

-- `<a/>`
abbrev pub bare_tree : Numbered
bare_tree = element_at (ref 0) (codes "a") [] no_children

-- `<a>-<b/>-</a>`: two texts without words
abbrev pub dashes : Numbered
dashes =
    element_at (ref 0) (codes "a") []
    (child_then (text_at (ref 1) (codes "-"))
    (child_then (element_at (ref 2) (codes "b") [] no_children) (child_then (text_at (ref 3) (codes "-")) no_children)))

-- the keys of titles, as a set of abbreviations
abbrev pub titles : List (List ℕ)
titles = codes "dr" ∷ codes "mrs" ∷ []

-- the breaks of a document with one sentence
abbrev pub one_sentence : Breaks
one_sentence = record { sentences = 1 ∷ []; paragraphs = 1 ∷ [] }
