-- The drafts of an edit, each with the place of its document among all.
use Rattle.std.specs.Prelude.{◌≡◌, ℕ, ◌+◌, List, [], ◌∷◌, Option, Some, None}
use Rattle.ft_base.specs.declared.ids.DocId.{DocId}
use Rattle.ft_base.specs.declared.ids.NodeRef.{NodeRef}
use Rattle.indexmap.specs.IndexMap.{set_value_at}
use Rattle.ordered_tree.specs.Numbered.{Numbered, plain}
use Rattle.ordered_tree.specs.RefView.{ref_node}
use Rattle.ordered_tree.specs.Stored.{Stored}
use Rattle.plain_tree.specs.Document.{Node}
use Rattle.tree_edits.specs.Changed.{touched, KeepsOrder}
use Rattle.tree_edits.specs.declared.drafts.Draft.{Draft}
use Rattle.document_edits.specs.Targets.{places_of}
use Rattle.document_store.specs.Documents.{Edit, edited_root, touched_root}
use Rattle.document_store.specs.Loaded.{LoadedTree}
use Rattle.document_store.specs.declared.planning.Planned.{Planned}

-- the document's root after the edit
abbrev pub root_after : Planned → Node
root_after p = plain (ref_node p.draft.root)

-- The draft is that of an edit of the elements of these references.
pub record IsDrafted (edit : Edit) (root : Numbered) (refs : List NodeRef) (draft : Draft) : Type 0 where
  pub ahead : plain (ref_node draft.root) ≡ edited_root edit (places_of root refs) (plain root)
  pub words : touched root (ref_node draft.root) ≡ touched_root edit (places_of root refs) (plain root)
  pub keeps_order : KeepsOrder root (ref_node draft.root)

-- There is such a draft where there are references, and else none.
abbrev pub IsDraftOf : Edit → Numbered → List NodeRef → Option Draft → Type 0
IsDraftOf edit root [] draft = draft ≡ None
IsDraftOf edit root (r ∷ refs) None = ⊥
IsDraftOf edit root (r ∷ refs) (Some draft) = IsDrafted edit root (r ∷ refs) draft

-- These are the drafts of those documents of which the edit has elements, in their order; the first of all documents has that place.
abbrev pub ArePlanned : Edit → ℕ → List (List ℕ × LoadedTree) → List (List NodeRef) → List Planned → Type 0
ArePlanned edit at [] lists planned = planned ≡ []
ArePlanned edit at (e ∷ es) [] planned = ⊥
ArePlanned edit at (e ∷ es) ([] ∷ lists) planned = ArePlanned edit (at + 1) es lists planned
ArePlanned edit at (e ∷ es) ((r ∷ refs) ∷ lists) [] = ⊥
ArePlanned edit at (e ∷ es) ((r ∷ refs) ∷ lists) (p ∷ ps) =
    (p.at ≡ at) × (IsDrafted edit e.1.tree.root (r ∷ refs) p.draft × ArePlanned edit (at + 1) es lists ps)

-- The document of the draft, which keeps its number, stands in its place, as it is after the edit.
pub record IsPutAt (before : List (List ℕ × LoadedTree)) (doc : DocId) (p : Planned) (after : List (List ℕ × LoadedTree)) : Type 0 where
  pub tree : Stored
  pub root : tree.root ≡ ref_node p.draft.root
  pub entries : after ≡ set_value_at before p.at (record { doc = doc; tree = tree })
