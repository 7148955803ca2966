-- A text is put to the end.
use Rattle.std.proofs.Common.{◌++◌, ◌∷◌, [], map, sym, ap, ◌∙◌}
use Rattle.std.proofs.lemmas.List.{map-append}
use Rattle.ordered_tree.specs.Leaves.{text_of, texts}
use Rattle.ordered_tree.specs.RefView.{ref_node}
use Rattle.ordered_tree.proofs.RefViews.{ref_node_text}
use Rattle.tree_edits.proofs.changing.+listing.Goals as goal

pub add_texts-returns-in_ok-push-in-Text : goal.add_texts-returns-in_ok-push-in-Text
add_texts-returns-in_ok-push-in-Text t c =
    let prefix = map text_of c.args.list.now.items in
    ap (map text_of) c.in_ok-push-in-Text.ensures.items
    ∙ map-append text_of c.args.list.now.items (record { node = c.in-Text.node; text = c.as_str.result } ∷ [])
    ∙ ap (λ b. prefix ++ (c.in-Text.node, b) ∷ []) c.as_str.ensures
    ∙ ap (λ n. prefix ++ texts n) (sym (ap ref_node c.in-Text.is ∙ ref_node_text c.in-Text.node c.in-Text.text))
