-- Insertions and replacements as one: what content makes of an element, and where.
use Rattle.std.specs.Prelude.{ℕ, Bool, List}
use Rattle.plain_tree.specs.Document.{Node, Nodes}
use Rattle.plain_tree.specs.Edits.{inserted, names_element, names_inner}
use Rattle.plain_tree.specs.declared.change.Change.{Change}
use Rattle.plain_tree.specs.declared.change.Change.TheVariants as C
use Rattle.plain_tree.specs.declared.change.End.{End}
use Rattle.plain_tree.specs.declared.change.End.TheVariants as E
use Rattle.plain_tree.specs.declared.change.Side.{Side}
use Rattle.plain_tree.specs.declared.change.Side.TheVariants as S
use Rattle.plain_tree.specs.declared.place.How.{How}
use Rattle.plain_tree.specs.declared.place.How.TheVariants as H

-- the nodes that stand where the element stood
abbrev pub with_content : End → Nodes → Node → Nodes
with_content E.First = inserted H.First
with_content E.Last = inserted H.Last

abbrev pub beside_content : Side → Nodes → Node → Nodes
beside_content S.Before = inserted H.Before
beside_content S.After = inserted H.After
beside_content S.Instead = λ content n. content

abbrev pub changed : Change → Nodes → Node → Nodes
changed (C.Into end) = with_content end
changed (C.Beside side) = beside_content side

-- the places of elements at which the change may be made
abbrev pub may_change : Change → List ℕ → Node → Bool
may_change (C.Into end) = names_element
may_change (C.Beside side) = names_inner

abbrev pub insertion_of : How → Change
insertion_of H.First = C.Into E.First
insertion_of H.Last = C.Into E.Last
insertion_of H.Before = C.Beside S.Before
insertion_of H.After = C.Beside S.After
