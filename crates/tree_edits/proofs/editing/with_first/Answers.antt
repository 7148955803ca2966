-- The children of the element and the content are one list.
use Rattle.std.proofs.Common.{sym, ap, ◌∙◌}
use Rattle.ordered_tree.specs.Numbered.{element_at}
use Rattle.ordered_tree.specs.RefView.{ref_node}
use Rattle.ordered_tree.proofs.RefViews.{ref_node_element, ref_node_text}
use Rattle.tree_edits.specs.Edits.{append, with_children}
use Rattle.tree_edits.proofs.RowsJoined.{row, row_append}
use Rattle.tree_edits.proofs.editing.with_first.Goals as goal

pub returns-in-Text : goal.returns-in-Text
returns-in-Text c =
    let is = ref_node_text c.in-Text.node c.in-Text.text in
    is ∙ sym (ap (with_children (append (row c.args.content))) (ap ref_node c.in-Text.is ∙ is))

pub returns-in_ok-append-in-Element : goal.returns-in_ok-append-in-Element
returns-in_ok-append-in-Element c =
    let node = c.in-Element.node in
    let name = c.in-Element.name in
    let attrs = c.in-Element.attrs in
    ref_node_element node name attrs c.append.new.self
    ∙ ap (λ l. element_at node name attrs (row l)) c.in_ok-append-in-Element.ensures.ok
    ∙ ap (element_at node name attrs) (row_append c.args.content c.in-Element.kids)
    ∙ sym (ap (with_children (append (row c.args.content))) (ap ref_node c.in-Element.is ∙ ref_node_element node name attrs c.in-Element.kids))
