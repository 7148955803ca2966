-- The elements of an edit by their references and by their places, and how many words the edit touches.
use Rattle.std.specs.Prelude.{ℕ, List, [], ◌∷◌, map, Option, Some, None}
use Rattle.std.specs.List.{flat_map, range_with_len}
use Rattle.doc_grammar.specs.Limits.{node_count, nodes_count}
use Rattle.ft_base.specs.declared.ids.NodeRef.{NodeRef}
use Rattle.ordered_tree.specs.Numbered.{Numbered, Children, no_children, child_then, reference}
use Rattle.ordered_tree.specs.Numbering.{numbered}
use Rattle.ordered_tree.specs.Places.{at_place}
use Rattle.path_nodes.specs.References.{element_of}
use Rattle.plain_tree.specs.Document.{Node, Nodes}
use Rattle.plain_tree.specs.declared.place.How.{How}
use Rattle.tree_edits.specs.Changed.{touched}
use Rattle.tree_edits.specs.Fresh.{all_fresh}
use Rattle.tree_edits.specs.Acts.{act_on}

-- the places of the elements that have these references
abbrev pub places_of : Numbered → List NodeRef → List (List ℕ)
places_of root refs = map (λ r. (element_of root r).place) refs

-- ---- how many words an edit touches

-- the reference of the node at a place, if there is one
abbrev pub reference_of : Option Numbered → List NodeRef
reference_of None = []
reference_of (Some n) = reference n ∷ []

abbrev pub reference_at : Numbered → List ℕ → List NodeRef
reference_at root place = reference_of (at_place place root)

abbrev pub first_numbered : Numbered → Children → Numbered
first_numbered other no_children = other
first_numbered other (child_then n ns) = n

-- the references after those of a document whose nodes were numbered in document order
abbrev pub references_after : Node → Nodes → List NodeRef
references_after root content = map (λ k. record { 0 = k }) (range_with_len (node_count root) (nodes_count content))

-- a document whose nodes are numbered in document order, after the edit of the elements at these places; the content has numbers after them
abbrev pub numbered_edit : Option How → Nodes → List (List ℕ) → Node → Numbered
numbered_edit how content places root =
    first_numbered (numbered 0 root)
    (act_on (flat_map (reference_at (numbered 0 root)) places) how (all_fresh (references_after root content) content) (numbered 0 root))

-- The words of the texts that don't stay: those that the edit takes, puts, or joins with others.
unfoldable pub touched_by : Option How → Nodes → List (List ℕ) → Node → ℕ
touched_by how content places root = touched (numbered 0 root) (numbered_edit how content places root)
