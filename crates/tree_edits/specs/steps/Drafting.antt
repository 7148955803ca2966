-- What is made of a document by an edit, before it is a draft.
use Rattle.std.specs.Prelude.{◌≡◌, ℕ}
use Rattle.doc_grammar.specs.Limits.{height, node_count}
use Rattle.ordered_tree.specs.Counts.{word_count}
use Rattle.ordered_tree.specs.Numbered.{Numbered, Children, plain}
use Rattle.ordered_tree.specs.Stored.{Stored}
use Rattle.plain_tree.specs.Document.{Nodes}
use Rattle.tree_edits.specs.Changed.{KeepsOrder}
use Rattle.tree_edits.specs.Edited.{IsEdited}
use Rattle.tree_edits.specs.Fitting.{FitsSlots}
use Rattle.tree_edits.specs.declared.measuring.Size.{Size}

pub record IsDraftOf (edit : Children → Numbered → Children) (content : Nodes) (old : Stored) (root : Numbered) (slots : ℕ) : Type 0 where
  pub edited : IsEdited edit content old (record { root = root; slots = slots })
  pub fits : FitsSlots root slots
  pub order : KeepsOrder old.root root

-- the size of a document
pub record IsSizeOf (size : Size) (root : Numbered) : Type 0 where
  pub nodes : size.nodes ≡ node_count (plain root)
  pub levels : size.levels ≡ height (plain root)
  pub words : size.words ≡ word_count (plain root)
