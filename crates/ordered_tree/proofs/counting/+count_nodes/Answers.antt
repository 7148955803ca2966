-- One child more is counted with all below it; the children that are left are fewer than the node has.
use Rattle.std.proofs.Common.{◌≡◌, ◌+◌, map, drop, ap, ◌∙◌, arith}
use Rattle.doc_grammar.specs.Limits.{node_count, nodes_count}
use Rattle.plain_tree.specs.Document.{element, nodes}
use Rattle.plain_tree.specs.View.{node}
use Rattle.plain_tree.proofs.Views.{node_elem}
use Rattle.ordered_tree.proofs.BuildingLemmas.{drop-next, nodes_count-drop, kids-done}
use Rattle.ordered_tree.proofs.counting.+count_nodes.Goals as goal

pub count_nodes-count-requires : goal.count_nodes-count-requires
count_nodes-count-requires t c =
    let kid = c.kid-item.result in
    let kids = c.as_slice-kid-items.result.now in
    let i = c.loop-kid.kid-index in
    let is : node c.args.tree.now ≡ element c.in-Elem.name c.in-Elem.attrs (nodes (map node c.in-Elem.kids)) = ap node c.in-Elem.is ∙ node_elem _ _ _ in
    let whole = ap node_count is in
    let same = ap (λ l. nodes_count (nodes (map node l))) c.as_slice-kid-items.ensures in
    let fewer = nodes_count-drop kids i in
    let one : nodes_count (nodes (map node (drop i kids))) ≡ node_count (node kid) + nodes_count (nodes (map node (drop (i + 1) kids))) =
    ap (λ l. nodes_count (nodes (map node l))) (drop-next kids i kid c.loop-kid-test.true c.kid-item.is) in
    (omega (arith, c.decreases), omega (arith, c.requires))

pub overflow_add-count : goal.overflow_add-count
overflow_add-count t c =
    let kid = c.kid-item.result in
    let kids = c.as_slice-kid-items.result.now in
    let i = c.loop-kid.kid-index in
    let is : node c.args.tree.now ≡ element c.in-Elem.name c.in-Elem.attrs (nodes (map node c.in-Elem.kids)) = ap node c.in-Elem.is ∙ node_elem _ _ _ in
    let whole = ap node_count is in
    let same = ap (λ l. nodes_count (nodes (map node l))) c.as_slice-kid-items.ensures in
    let one : nodes_count (nodes (map node (drop i kids))) ≡ node_count (node kid) + nodes_count (nodes (map node (drop (i + 1) kids))) =
    ap (λ l. nodes_count (nodes (map node l))) (drop-next kids i kid c.loop-kid-test.true c.kid-item.is) in
    omega (arith, c.requires, c.loop-kid.invariant, c.count_nodes-count.ensures)

pub returns-after-loop-kid : goal.returns-after-loop-kid
returns-after-loop-kid t c =
    let kids = c.as_slice-kid-items.result.now in
    let is : node c.args.tree.now ≡ element c.in-Elem.name c.in-Elem.attrs (nodes (map node c.in-Elem.kids)) = ap node c.in-Elem.is ∙ node_elem _ _ _ in
    let whole = ap node_count is in
    let same = ap (λ l. nodes_count (nodes (map node l))) c.as_slice-kid-items.ensures in
    let none = ap nodes_count (kids-done kids c.loop-kid.kid-index c.loop-kid-test.false) in
    omega (arith, c.loop-kid.invariant)
