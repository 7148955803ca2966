-- What the draft of an edit is.
use Rattle.ordered_tree.specs.Numbered.{Numbered, Children}
use Rattle.ordered_tree.specs.RefView.{ref_node}
use Rattle.ordered_tree.specs.Stored.{Stored}
use Rattle.plain_tree.specs.Document.{Nodes}
use Rattle.tree_edits.specs.Edited.{IsEdited}
use Rattle.tree_edits.specs.declared.drafts.Draft.{Draft}

-- The edit of the old document is what will stand in the slots.
abbrev pub IsDrafted : (Children → Numbered → Children) → Nodes → Stored → Draft → Type 0
IsDrafted edit content old draft = IsEdited edit content old (record { root = ref_node draft.root; slots = draft.slots })
