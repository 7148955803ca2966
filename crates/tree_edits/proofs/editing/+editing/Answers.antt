-- Each node goes to the end as the edit leaves it.
use Rattle.std.proofs.Common.{◌≡◌, ℕ, Bool, List, ◌∷◌, ◌++◌, [], true, false, map, sym, ap, ◌∙◌}
use Rattle.std.proofs.lemmas.Result.{on_ok_weaker}
use Rattle.ft_base.specs.declared.ids.NodeRef.{NodeRef}
use Rattle.ordered_tree.specs.Numbered.{Numbered, Children, element_at}
use Rattle.ordered_tree.specs.RefView.{ref_node}
use Rattle.ordered_tree.specs.declared.ref_tree.RefTree.{RefTree}
use Rattle.ordered_tree.specs.declared.ref_tree.RefTree.TheVariants.{Element}
use Rattle.ordered_tree.proofs.RefViews.{ref_node_element, ref_node_text}
use Rattle.plain_tree.specs.Document.{nodes}
use Rattle.plain_tree.specs.View.{node}
use Rattle.plain_tree.specs.declared.tree.Attr.{Attr}
use Rattle.tree_edits.specs.Edits.{all_changed, append, changed, joined, only}
use Rattle.tree_edits.specs.Fresh.{all_fresh}
use Rattle.tree_edits.specs.Acts.{act}
use Rattle.tree_edits.specs.steps.Editing.{are_one_text}
use Rattle.tree_edits.specs.steps.Marks.{is_marked}
use Rattle.tree_edits.proofs.ChangedLemmas.{all_changed_append, all_changed_only, changed_chosen, changed_other}
use Rattle.tree_edits.proofs.JoiningLemmas.{are_joined_at}
use Rattle.tree_edits.proofs.OneTextLemmas.{changed_one, joined_one}
use Rattle.tree_edits.proofs.RowsJoined.{row, row_append, none_more, one_more, still_joined, element_after}
use Rattle.tree_edits.proofs.editing.+editing.Goals as goal

pub edit_all-loop-kid-init : goal.edit_all-loop-kid-init
edit_all-loop-kid-init t c = record { can_next = tt; is_finite = tt; edited = none_more c.args.list.now.items }

pub edit_all-loop-kid-preserved : goal.edit_all-loop-kid-preserved
edit_all-loop-kid-preserved t c =
    let old = row c.args.list.now.items in
    let kid = c.in-Some.kid in
    let done = c.loop-kid.yielded in
    let edit = c.args.edit.now in
    let chosen = is_marked edit.marks.now.items in
    let change = act edit.how (all_fresh edit.refs.now (nodes (map node edit.content.now))) in
    record {
      can_next = tt;
      is_finite = tt;
      edited = λ h.
          let before = c.loop-kid.invariant.edited h in
          one_more old (row c.loop-kid.list.items) (row c.edit_tree.new.list.items) (all_changed chosen change (row done)) (changed chosen change (ref_node kid)) before
          (c.in_ok-edit_tree.ensures (still_joined old (row c.loop-kid.list.items) (all_changed chosen change (row done)) before))
          ∙ ap (λ ns. joined (append old (append (all_changed chosen change (row done)) ns))) (sym (all_changed_only chosen change (ref_node kid)))
          ∙ ap (λ ns. joined (append old ns)) (sym (all_changed_append chosen change (row done) (only (ref_node kid))))
          ∙ ap (λ ns. joined (append old (all_changed chosen change ns))) (sym (row_append done (kid ∷ [])));
    }

pub edit_tree-returns-in-Text : goal.edit_tree-returns-in-Text
edit_tree-returns-in-Text t c =
    let edit = c.args.edit.now in
    let chosen = is_marked edit.marks.now.items in
    let change = act edit.how (all_fresh edit.refs.now (nodes (map node edit.content.now))) in
    let old = row c.args.list.now.items in
    let is = ref_node_text c.in-Text.node c.in-Text.text in
    on_ok_weaker c.join_tree.result (λ says h.
    says h ∙ ap (λ n. joined (append old (only n))) is ∙ ap (λ n. joined (append old (changed chosen change n))) (sym (ap ref_node c.in-Text.is ∙ is))) c.join_tree.ensures

pub edit_tree-returns-then-is_marked : goal.edit_tree-returns-then-is_marked
edit_tree-returns-then-is_marked t c =
    let edit = c.args.edit.now in
    let chosen = is_marked edit.marks.now.items in
    let change = act edit.how (all_fresh edit.refs.now (nodes (map node edit.content.now))) in
    let old = row c.args.list.now.items in
    let r = c.in-Element.node in
    let name = c.in-Element.name in
    let attrs = c.in-Element.attrs in
    let kids = c.in-Element.kids in
    let is = ref_node_element r name attrs kids in
    let holds : chosen r ≡ true = sym c.is_marked.ensures ∙ c.if-is_marked.true in
    on_ok_weaker c.apply.result (λ says h.
    says h ∙ ap (λ n. joined (append old (change n))) is
    ∙ ap (λ ns. joined (append old ns)) (sym (changed_chosen chosen change r name attrs (row kids) holds))
    ∙ ap (λ n. joined (append old (changed chosen change n))) (sym (ap ref_node c.in-Element.is ∙ is))) c.apply.ensures

-- an element that isn't chosen stays with what its children become
unchosen : (chosen : NodeRef → Bool) (change : Numbered → Children) (old : Children) (tree : RefTree) (r : NodeRef) (name : List ℕ) (attrs : List Attr) (kids : List RefTree)
    → tree ≡ Element r name attrs kids → chosen r ≡ false
    → joined (append old (only (element_at r name attrs (all_changed chosen change (row kids))))) ≡ joined (append old (changed chosen change (ref_node tree)))
unchosen chosen change old tree r name attrs kids is fails =
    ap (λ ns. joined (append old ns)) (sym (ap (changed chosen change) (ap ref_node is ∙ ref_node_element r name attrs kids) ∙ changed_other chosen change r name attrs (row kids) fails))

pub edit_tree-returns-then-are_one_text : goal.edit_tree-returns-then-are_one_text
edit_tree-returns-then-are_one_text t c =
    let edit = c.args.edit.now in
    let chosen = is_marked edit.marks.now.items in
    let change = act edit.how (all_fresh edit.refs.now (nodes (map node edit.content.now))) in
    let old = c.args.list.now.items in
    let r = c.in-Element.node in
    let name = c.in-Element.name in
    let attrs = c.in-Element.attrs in
    let kids = c.in-Element.kids in
    let fails : chosen r ≡ false = sym c.is_marked.ensures ∙ c.if-is_marked.false in
    let one : are_one_text (row kids) ≡ true = ap (λ l. are_one_text (row l)) (sym c.as_slice.ensures) ∙ c.are_one_text.ensures c.if-are_one_text.true in
    λ h.
    ap row c.in_ok-push-in-Element.ensures.items
    ∙ element_after old r name attrs (row kids) kids h (sym (joined_one (row kids) one))
    ∙ ap (λ ns. joined (append (row old) (only (element_at r name attrs ns)))) (sym (changed_one chosen change (row kids) one))
    ∙ unchosen chosen change (row old) c.args.tree r name attrs kids c.in-Element.is fails

pub edit_tree-returns-in_ok-push-in-Element-2 : goal.edit_tree-returns-in_ok-push-in-Element-2
edit_tree-returns-in_ok-push-in-Element-2 t c =
    let edit = c.args.edit.now in
    let chosen = is_marked edit.marks.now.items in
    let change = act edit.how (all_fresh edit.refs.now (nodes (map node edit.content.now))) in
    let old = c.args.list.now.items in
    let r = c.in-Element.node in
    let name = c.in-Element.name in
    let attrs = c.in-Element.attrs in
    let kids = c.in-Element.kids in
    let fails : chosen r ≡ false = sym c.is_marked.ensures ∙ c.if-is_marked.false in
    λ h.
    ap row c.in_ok-push-in-Element-2.ensures.items
    ∙ ap (λ made. row (old ++ Element r name attrs made ∷ [])) c.from_vec.ensures
    ∙ element_after old r name attrs (all_changed chosen change (row kids)) c.edit_all.new.list.items h
    (c.in_ok-edit_all-in-Element.ensures (ap (λ l. are_joined_at (row l)) c.new-inner.ensures.items)
    ∙ ap (λ empty. joined (append (row empty) (all_changed chosen change (row kids)))) c.new-inner.ensures.items)
    ∙ unchosen chosen change (row old) c.args.tree r name attrs kids c.in-Element.is fails
