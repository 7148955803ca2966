-- Each node goes to the end, an element once its children are joined.
use Rattle.std.proofs.Common.{◌≡◌, ◌∷◌, ◌++◌, [], true, sym, ap, ◌∙◌}
use Rattle.ordered_tree.specs.RefView.{ref_node}
use Rattle.ordered_tree.specs.declared.ref_tree.RefTree.TheVariants.{Element}
use Rattle.ordered_tree.proofs.RefViews.{ref_node_element}
use Rattle.tree_edits.specs.Edits.{append, joined, only}
use Rattle.tree_edits.specs.steps.Editing.{are_one_text}
use Rattle.tree_edits.proofs.JoiningLemmas.{are_joined_at}
use Rattle.tree_edits.proofs.OneTextLemmas.{joined_one}
use Rattle.tree_edits.proofs.RowsJoined.{row, row_append, none_more, one_more, still_joined, element_after}
use Rattle.tree_edits.proofs.joining.+joining.Goals as goal

pub join_all-loop-tree-init : goal.join_all-loop-tree-init
join_all-loop-tree-init t c = record { can_next = tt; is_finite = tt; joined = none_more c.args.list.now.items }

pub join_all-loop-tree-preserved : goal.join_all-loop-tree-preserved
join_all-loop-tree-preserved t c =
    let old = row c.args.list.now.items in
    let tree = c.in-Some.tree in
    let done = c.loop-tree.yielded in
    record {
      can_next = tt;
      is_finite = tt;
      joined = λ h.
          let before = c.loop-tree.invariant.joined h in
          one_more old (row c.loop-tree.list.items) (row c.join_tree.new.list.items) (row done) (only (ref_node tree)) before
          (c.in_ok-join_tree.ensures (still_joined old (row c.loop-tree.list.items) (row done) before))
          ∙ ap (λ ns. joined (append old ns)) (sym (row_append done (tree ∷ [])));
    }

pub join_tree-returns-then-are_one_text : goal.join_tree-returns-then-are_one_text
join_tree-returns-then-are_one_text t c =
    let old = c.args.list.now.items in
    let kids = c.in-Element.kids in
    let node = c.in-Element.node in
    let one : are_one_text (row kids) ≡ true = ap (λ l. are_one_text (row l)) (sym c.as_slice.ensures) ∙ c.are_one_text.ensures c.if-are_one_text.true in
    λ h.
    ap row c.in_ok-push-in-Element.ensures.items
    ∙ element_after old node c.in-Element.name c.in-Element.attrs (row kids) kids h (sym (joined_one (row kids) one))
    ∙ ap (λ n. joined (append (row old) (only n))) (sym (ref_node_element node c.in-Element.name c.in-Element.attrs kids))
    ∙ ap (λ tree. joined (append (row old) (only (ref_node tree)))) (sym c.in-Element.is)

pub join_tree-returns-in_ok-push-in-Element-2 : goal.join_tree-returns-in_ok-push-in-Element-2
join_tree-returns-in_ok-push-in-Element-2 t c =
    let old = c.args.list.now.items in
    let kids = c.in-Element.kids in
    let node = c.in-Element.node in
    λ h.
    ap row c.in_ok-push-in-Element-2.ensures.items
    ∙ ap (λ made. row (old ++ Element node c.in-Element.name c.in-Element.attrs made ∷ [])) c.from_vec.ensures
    ∙ element_after old node c.in-Element.name c.in-Element.attrs (row kids) c.join_all.new.list.items h
    (c.in_ok-join_all-in-Element.ensures (ap (λ l. are_joined_at (row l)) c.new-joined.ensures.items) ∙ ap (λ empty. joined (append (row empty) (row kids))) c.new-joined.ensures.items)
    ∙ ap (λ n. joined (append (row old) (only n))) (sym (ref_node_element node c.in-Element.name c.in-Element.attrs kids))
    ∙ ap (λ tree. joined (append (row old) (only (ref_node tree)))) (sym c.in-Element.is)
