-- Small documents.
use Rattle.std.specs.Prelude.{[], None, codes}
use Rattle.path_meaning.specs.Collection.{Named}
use Rattle.plain_tree.specs.Document.{Node, element, no_nodes, node_then}
use Rattle.document_store.specs.Documents.{Edit}

-- `<d/>`, and `<d><b/></d>`
abbrev pub bare : Node
bare = element (codes "d") [] no_nodes

abbrev pub nested : Node
nested = element (codes "d") [] (node_then (element (codes "b") [] no_nodes) no_nodes)

abbrev pub first_named : Named
first_named = record { name = codes "a"; root = nested }

abbrev pub second_named : Named
second_named = record { name = codes "b"; root = nested }

abbrev pub last_named : Named
last_named = record { name = codes "z"; root = nested }

-- an edit that takes elements out
abbrev pub deletion : Edit
deletion = record { how = None; content = no_nodes }
