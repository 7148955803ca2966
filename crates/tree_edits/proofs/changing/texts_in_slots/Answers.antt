-- The references of texts are among those of all nodes.
use Rattle.std.proofs.Common.{◌≡◌, ◌≢◌, ◌<◌, map, sym, ap, ◌∙◌, subst}
use Rattle.std.specs.List.{All, AllPairs}
use Rattle.ft_base.specs.declared.ids.NodeRef.{NodeRef}
use Rattle.ordered_tree.specs.Leaves.{texts}
use Rattle.ordered_tree.specs.declared.texts.TextAt.{TextAt}
use Rattle.tree_edits.proofs.EditLemmas.{texts_apart}
use Rattle.tree_edits.proofs.References.{distinct_pairs}
use Rattle.tree_edits.proofs.TableLemmas.{refs-text_of, texts_below}
use Rattle.tree_edits.proofs.TextLists.{refs_of}
use Rattle.tree_edits.proofs.changing.texts_in_slots.Goals as goal

pub table_of-requires-clause-apart : goal.table_of-requires-clause-apart
table_of-requires-clause-apart c =
    let root = c.args.tree.now.root in
    let is : map (λ (t : TextAt). t.node) c.as_slice.result.now ≡ refs_of (texts root) =
    ap (map (λ (t : TextAt). t.node)) c.as_slice.ensures.value ∙ sym (refs-text_of c.in_ok-list.list.items) ∙ ap refs_of c.in_ok-list.ensures in
    subst (AllPairs (λ a b. a ≢ b)) (sym is) (distinct_pairs (refs_of (texts root)) (texts_apart root c.root-root.ensures.apart))

pub table_of-requires-clause-below : goal.table_of-requires-clause-below
table_of-requires-clause-below c =
    let root = c.args.tree.now.root in
    let is : map (λ (t : TextAt). t.node) c.as_slice.result.now ≡ refs_of (texts root) =
    ap (map (λ (t : TextAt). t.node)) c.as_slice.ensures.value ∙ sym (refs-text_of c.in_ok-list.list.items) ∙ ap refs_of c.in_ok-list.ensures in
    subst (All (λ (r : NodeRef). r.0 < c.slot_count.result)) (sym is) (texts_below (λ r. r.0 < c.slot_count.result) root c.slot_count.ensures.below)
