-- The references of texts are among those of all nodes.
use Rattle.std.proofs.Common.{◌≡◌, ◌≢◌, ◌<◌, ◌++◌, map, sym, ap, ◌∙◌, subst}
use Rattle.std.specs.List.{All, AllPairs}
use Rattle.ft_base.specs.declared.ids.NodeRef.{NodeRef}
use Rattle.ordered_tree.specs.Leaves.{text_of, texts}
use Rattle.ordered_tree.specs.RefView.{ref_node}
use Rattle.ordered_tree.specs.declared.texts.TextAt.{TextAt}
use Rattle.tree_edits.proofs.EditLemmas.{texts_apart}
use Rattle.tree_edits.proofs.References.{distinct_pairs}
use Rattle.tree_edits.proofs.TableLemmas.{refs-text_of, texts_below}
use Rattle.tree_edits.proofs.TextLists.{refs_of}
use Rattle.tree_edits.proofs.changing.texts_in.Goals as goal

pub table_of-requires-clause-apart : goal.table_of-requires-clause-apart
table_of-requires-clause-apart c =
    let root = ref_node c.args.tree.now in
    let is : map (λ (t : TextAt). t.node) c.as_slice.result.now ≡ refs_of (texts root) =
    ap (map (λ (t : TextAt). t.node)) c.as_slice.ensures.value ∙ sym (refs-text_of c.add_texts.new.list.items)
    ∙ ap refs_of (c.in_ok-add_texts.ensures ∙ ap (λ l. map text_of l ++ texts root) c.new-list.ensures.items) in
    subst (AllPairs (λ a b. a ≢ b)) (sym is) (distinct_pairs (refs_of (texts root)) (texts_apart root c.requires.apart))

pub table_of-requires-clause-below : goal.table_of-requires-clause-below
table_of-requires-clause-below c =
    let root = ref_node c.args.tree.now in
    let is : map (λ (t : TextAt). t.node) c.as_slice.result.now ≡ refs_of (texts root) =
    ap (map (λ (t : TextAt). t.node)) c.as_slice.ensures.value ∙ sym (refs-text_of c.add_texts.new.list.items)
    ∙ ap refs_of (c.in_ok-add_texts.ensures ∙ ap (λ l. map text_of l ++ texts root) c.new-list.ensures.items) in
    subst (All (λ (r : NodeRef). r.0 < c.args.size)) (sym is) (texts_below (λ r. r.0 < c.args.size) root c.requires.below)
