-- A document of a collection as the code has it: its number in the index, and its tree.
use Rattle.std.specs.Prelude.{ℕ, List, map}
use Rattle.ft_base.specs.declared.ids.DocId.{DocId}
use Rattle.ordered_tree.specs.Numbered.{Numbered, plain}
use Rattle.ordered_tree.specs.Stored.{Stored}
use Rattle.path_meaning.specs.Collection.{Named}

pub record LoadedTree : Type 0 where
  pub doc : DocId
  pub tree : Stored

-- a document that was loaded and its name, as one
abbrev pub to_document : List ℕ × LoadedTree → Named
to_document e = record { name = e.0; root = plain e.1.tree.root }

-- a document's number with its tree
abbrev pub tree_of : List ℕ × LoadedTree → ℕ × Numbered
tree_of (name, loaded) = (loaded.doc.0, loaded.tree.root)

abbrev pub trees_of : List (List ℕ × LoadedTree) → List (ℕ × Numbered)
trees_of entries = map tree_of entries
