-- A document is no higher than it has nodes.
use Rattle.std.proofs.Common.{◌≡◌, ◌∙◌, ap, arith}
use Rattle.doc_grammar.specs.Limits.{node_count, heights}
use Rattle.ordered_tree.specs.Numbered.{plain, plain_children}
use Rattle.ordered_tree.specs.RefView.{ref_node}
use Rattle.ordered_tree.proofs.RefViews.{ref_node_element}
use Rattle.tree_edits.proofs.MeasureLemmas.{heights_low}
use Rattle.tree_edits.proofs.RowsJoined.{row}
use Rattle.tree_edits.proofs.measuring.+measuring.Goals as goal

pub size_of-overflow_add-result-in-Element : goal.size_of-overflow_add-result-in-Element
size_of-overflow_add-result-in-Element t c =
    let kids = plain_children (row c.in-Element.kids) in
    let count = ap (λ n. node_count (plain n)) (ap ref_node c.in-Element.is ∙ ref_node_element c.in-Element.node c.in-Element.name c.in-Element.attrs c.in-Element.kids) in
    let levels : c.size_of_all-below.result.levels ≡ heights kids = c.size_of_all-below.ensures.levels ∙ ap (λ l. heights (plain_children (row l))) c.as_slice.ensures in
    omega (arith, c.requires, count, levels, heights_low kids)
