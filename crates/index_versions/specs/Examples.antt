-- Small documents over ids, for the examples.
use Rattle.std.specs.Prelude.{List, [], ◌∷◌, codes}
use Rattle.ft_base.specs.declared.places.Breaks.{Breaks}
use Rattle.index_document.specs.Terms as by_id
use Rattle.index_meaning.specs.Entries.{Entry, entry}
use Rattle.index_versions.specs.steps.Held.{Held, held_of}

-- two entries: the first under the id 0, the second under 1
abbrev pub given : List Entry
given = entry (codes "hello") (codes "Hello") ∷ entry (codes "world") (codes "world") ∷ []

-- one sentence, and one paragraph
abbrev pub breaks : Breaks
breaks = record { sentences = 1 ∷ []; paragraphs = 1 ∷ [] }

-- `Hello world` in a leaf, and `world` in a second one, under the number 3
abbrev pub first : Held
first = held_of (by_id.document_of 3 (by_id.leaf_of 4 (0 ∷ 1 ∷ []) ∷ by_id.leaf_of 2 (1 ∷ []) ∷ [])) breaks

-- `world`, under the number 7
abbrev pub second : Held
second = held_of (by_id.document_of 7 (by_id.leaf_of 0 (1 ∷ []) ∷ [])) breaks
