-- The elements of an edit: of each document in order, by their references.
use Rattle.std.specs.Prelude.{ℕ, All, List, [], ◌∷◌, map, Option, ⊤}
use Rattle.document_edits.specs.Targets.{places_of}
use Rattle.ft_base.specs.declared.ids.NodeRef.{NodeRef}
use Rattle.ordered_tree.specs.Numbered.{Numbered}
use Rattle.path_nodes.specs.References.{IsElement}
use Rattle.plain_tree.specs.Document.{nodes}
use Rattle.plain_tree.specs.View.{node}
use Rattle.plain_tree.specs.declared.place.How.{How}
use Rattle.plain_tree.specs.declared.tree.Tree.{Tree}
use Rattle.document_store.specs.Documents.{Edit}

-- There are as many lists as documents, and each reference names an element of its document.
abbrev pub AreTargets : List (ℕ × Numbered) → List (List NodeRef) → Type 0
AreTargets [] [] = ⊤
AreTargets [] (refs ∷ lists) = ⊥
AreTargets (tree ∷ trees) [] = ⊥
AreTargets (tree ∷ trees) (refs ∷ lists) = All (IsElement tree.1) refs × AreTargets trees lists

-- the places of the elements
abbrev pub places_of_targets : List (ℕ × Numbered) → List (List NodeRef) → List (List (List ℕ))
places_of_targets [] lists = []
places_of_targets (tree ∷ trees) [] = []
places_of_targets (tree ∷ trees) (refs ∷ lists) = places_of tree.1 refs ∷ places_of_targets trees lists

-- the edit by this content of the program's trees
abbrev pub edit_of : Option How → List Tree → Edit
edit_of how content = record { how = how; content = nodes (map node content) }
