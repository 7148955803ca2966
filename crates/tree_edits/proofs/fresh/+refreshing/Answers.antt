-- A node takes the next reference, its children those after it.
use Rattle.std.proofs.Common.{◌≡◌, ◌+◌, map, drop, refl, sym, ap, ap₂, ◌∙◌, arith}
use Rattle.std.proofs.lemmas.List.{drop-drop}
use Rattle.doc_grammar.specs.Limits.{node_count, nodes_count}
use Rattle.ordered_tree.specs.Numbered.{element_at, text_at}
use Rattle.ordered_tree.proofs.BuildingLemmas.{drop-next, kids-done, nodes_count-drop, node_count-some}
use Rattle.ordered_tree.proofs.RefViews.{ref_node_element, ref_node_text}
use Rattle.plain_tree.specs.Document.{element, text, nodes}
use Rattle.plain_tree.specs.View.{node}
use Rattle.plain_tree.proofs.Views.{node_elem, node_text}
use Rattle.tree_edits.specs.Edits.{append}
use Rattle.tree_edits.specs.Fresh.{first_ref, fresh, all_fresh}
use Rattle.tree_edits.proofs.FreshSteps.{first_left, one_fresh, none_fresh}
use Rattle.tree_edits.proofs.RowsJoined.{row}
use Rattle.tree_edits.proofs.fresh.+refreshing.Goals as goal

pub fresh_all-fresh_tree-requires : goal.fresh_all-fresh_tree-requires
fresh_all-fresh_tree-requires t c =
    let trees = c.args.trees.now in
    let i = c.loop-tree.tree-index in
    let tree = c.tree-item.result in
    let one : nodes_count (nodes (map node (drop i trees))) ≡ node_count (node tree) + nodes_count (nodes (map node (drop (i + 1) trees))) =
    ap (λ l. nodes_count (nodes (map node l))) (drop-next trees i tree c.loop-tree-test.true c.tree-item.is) in
    (omega (arith, c.decreases, nodes_count-drop trees i, one), omega (arith, c.requires, c.loop-tree.invariant.next, one))

pub fresh_all-loop-tree-preserved : goal.fresh_all-loop-tree-preserved
fresh_all-loop-tree-preserved t c =
    let trees = c.args.trees.now in
    let refs = c.args.refs.now in
    let i = c.loop-tree.tree-index in
    let tree = c.tree-item.result in
    let inv = c.loop-tree.invariant in
    let one : nodes_count (nodes (map node (drop i trees))) ≡ node_count (node tree) + nodes_count (nodes (map node (drop (i + 1) trees))) =
    ap (λ l. nodes_count (nodes (map node l))) (drop-next trees i tree c.loop-tree-test.true c.tree-item.is) in
    record {
      kids = one_fresh refs c.loop-tree.next trees i tree c.loop-tree.kids c.push.new.self c.in_ok-fresh_tree.field-0 c.fresh_tree.new.next
          c.loop-tree-test.true c.tree-item.is c.in_ok-push.ensures.ok c.in_ok-fresh_tree.ensures.tree c.in_ok-fresh_tree.ensures.next ∙ inv.kids;
      next = omega (arith, inv.next, c.in_ok-fresh_tree.ensures.next, one);
      fewer = nodes_count-drop trees (i + 1);
    }

pub fresh_all-returns-clause-kids : goal.fresh_all-returns-clause-kids
fresh_all-returns-clause-kids t c =
    sym (none_fresh c.args.refs.now c.args.trees.now c.loop-tree.tree-index c.loop-tree.kids c.loop-tree.next c.loop-tree-test.false) ∙ c.loop-tree.invariant.kids

pub fresh_all-returns-clause-next : goal.fresh_all-returns-clause-next
fresh_all-returns-clause-next t c =
    omega (arith, c.loop-tree.invariant.next, ap nodes_count (kids-done c.args.trees.now c.loop-tree.tree-index c.loop-tree-test.false))

pub fresh_tree-fresh_all-requires : goal.fresh_tree-fresh_all-requires
fresh_tree-fresh_all-requires t c =
    let is : node c.args.tree.now ≡ element c.in-Elem.name c.in-Elem.attrs (nodes (map node c.in-Elem.kids)) = ap node c.in-Elem.is ∙ node_elem _ _ _ in
    let count = ap node_count is in
    let same = ap (λ l. nodes_count (nodes (map node l))) c.as_slice.ensures in
    (omega (arith, c.decreases), omega (arith, c.requires))

pub fresh_tree-returns-in_ok-copy_text-in-Text-clause-tree : goal.fresh_tree-returns-in_ok-copy_text-in-Text-clause-tree
fresh_tree-returns-in_ok-copy_text-in-Text-clause-tree t c =
    let refs = c.args.refs.now in
    let next = c.args.next.now in
    let is : node c.args.tree.now ≡ text c.in-Text.text = ap node c.in-Text.is ∙ node_text _ in
    ref_node_text _ _
    ∙ ap₂ text_at (sym (first_left refs next)) (c.in_ok-copy_text-in-Text.ensures ∙ c.as_str.ensures)
    ∙ ap (fresh (drop next refs)) (sym is)

pub fresh_tree-returns-in_ok-copy_text-in-Text-clause-next : goal.fresh_tree-returns-in_ok-copy_text-in-Text-clause-next
fresh_tree-returns-in_ok-copy_text-in-Text-clause-next t c =
    let is : node c.args.tree.now ≡ text c.in-Text.text = ap node c.in-Text.is ∙ node_text _ in
    omega (arith, ap node_count is)

pub fresh_tree-returns-in_ok-fresh_all-in-Elem-clause-tree : goal.fresh_tree-returns-in_ok-fresh_all-in-Elem-clause-tree
fresh_tree-returns-in_ok-fresh_all-in-Elem-clause-tree t c =
    let refs = c.args.refs.now in
    let next = c.args.next.now in
    let name = c.in-Elem.name in
    let attrs = c.in-Elem.attrs in
    let is : node c.args.tree.now ≡ element name attrs (nodes (map node c.in-Elem.kids)) = ap node c.in-Elem.is ∙ node_elem _ _ _ in
    let kids : row c.in_ok-fresh_all-in-Elem.field-0 ≡ all_fresh (drop 1 (drop next refs)) (nodes (map node c.in-Elem.kids)) =
    c.in_ok-fresh_all-in-Elem.ensures.kids ∙ ap₂ (λ d l. all_fresh d (nodes (map node l))) (sym (drop-drop 1 next refs)) c.as_slice.ensures in
    ref_node_element _ _ _ _
    ∙ ap₂ (λ r n. element_at r n c.in_ok-copy_attributes-in-Elem.field-0 (row c.in_ok-fresh_all-in-Elem.field-0)) (sym (first_left refs next)) (c.in_ok-copy_name-in-Elem.ensures ∙ c.as_str-in-Elem.ensures)
    ∙ ap₂ (element_at (first_ref (drop next refs)) name) c.in_ok-copy_attributes-in-Elem.ensures kids
    ∙ ap (fresh (drop next refs)) (sym is)

pub fresh_tree-returns-in_ok-fresh_all-in-Elem-clause-next : goal.fresh_tree-returns-in_ok-fresh_all-in-Elem-clause-next
fresh_tree-returns-in_ok-fresh_all-in-Elem-clause-next t c =
    let is : node c.args.tree.now ≡ element c.in-Elem.name c.in-Elem.attrs (nodes (map node c.in-Elem.kids)) = ap node c.in-Elem.is ∙ node_elem _ _ _ in
    omega (arith, ap node_count is, c.in_ok-fresh_all-in-Elem.ensures.next, ap (λ l. nodes_count (nodes (map node l))) c.as_slice.ensures)

pub fresh_all-loop-tree-init : goal.fresh_all-loop-tree-init
fresh_all-loop-tree-init t c = record {
  kids = ap (λ l. append (row l) (all_fresh (drop c.args.next.now c.args.refs.now) (nodes (map node c.args.trees.now)))) c.new-kids.ensures;
  next = refl;
  fewer = omega arith;
}

pub fresh_tree-bounds-refs-next : goal.fresh_tree-bounds-refs-next
fresh_tree-bounds-refs-next t c = omega (arith, c.requires, node_count-some (node c.args.tree.now))
