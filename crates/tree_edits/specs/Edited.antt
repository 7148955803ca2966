-- What an edit of a tree in slots does.
use Rattle.std.specs.Prelude.{◌≡◌, ◌≢◌, ◌+◌, max, List, ◌++◌, length, AllPairs}
use Rattle.doc_grammar.specs.Limits.{node_count, nodes_count}
use Rattle.ft_base.specs.declared.ids.NodeRef.{NodeRef}
use Rattle.ordered_tree.specs.Numbered.{Numbered, Children, plain}
use Rattle.ordered_tree.specs.Stands.{references}
use Rattle.ordered_tree.specs.Stored.{Stored}
use Rattle.plain_tree.specs.Document.{Nodes}
use Rattle.tree_edits.specs.Edits.{only}
use Rattle.tree_edits.specs.Fresh.{all_fresh}

-- The content got references that no node had, and `edit` makes the new document of the old one and this content. No more slots are there
-- than before, unless the nodes are more.
pub record IsEdited (edit : Children → Numbered → Children) (content : Nodes) (old new : Stored) : Type 0 where
  pub refs : List NodeRef
  pub apart : AllPairs (λ a b. a ≢ b) (references old.root ++ refs)
  pub count : length refs ≡ nodes_count content
  pub document : only new.root ≡ edit (all_fresh refs content) old.root
  pub slots : new.slots ≡ max old.slots (node_count (plain old.root) + nodes_count content)
