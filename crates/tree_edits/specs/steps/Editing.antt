-- What a walk that edits makes of nodes.
use Rattle.std.specs.Prelude.{Bool, false, not, map}
use Rattle.ft_base.specs.Lists.{is_empty}
use Rattle.ordered_tree.specs.Numbered.{Numbered, Children, no_children, child_then, element_at, text_at}
use Rattle.plain_tree.specs.Document.{nodes}
use Rattle.plain_tree.specs.View.{node}
use Rattle.tree_edits.specs.Edits.{all_changed, changed}
use Rattle.tree_edits.specs.Fresh.{all_fresh}
use Rattle.tree_edits.specs.declared.edit.Edit.{Edit}
use Rattle.tree_edits.specs.Acts.{act}
use Rattle.tree_edits.specs.steps.Marks.{is_marked}

-- the content with the references that it gets
abbrev pub content_of : Edit → Children
content_of edit = all_fresh edit.refs.now (nodes (map node edit.content.now))

-- what stands where a node stood, and where nodes stood
abbrev pub edited : Edit → Numbered → Children
edited edit = changed (is_marked edit.marks.now.items) (act edit.how (content_of edit))

abbrev pub all_edited : Edit → Children → Children
all_edited edit = all_changed (is_marked edit.marks.now.items) (act edit.how (content_of edit))

-- whether there is one text alone, which isn't empty: the walk needs not look into it
abbrev pub are_one_text : Children → Bool
are_one_text no_children = false
are_one_text (child_then (element_at r name attrs kids) ns) = false
are_one_text (child_then (text_at r bytes) no_children) = not (is_empty bytes)
are_one_text (child_then (text_at r bytes) (child_then n ns)) = false
