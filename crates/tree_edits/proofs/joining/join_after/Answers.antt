-- The text after a text, and after an element.
use Rattle.std.proofs.Common.{◌≡◌, ◌∷◌, ◌++◌, [], length, ap, ◌∙◌, arith}
use Rattle.ordered_tree.specs.declared.ref_tree.RefTree.TheVariants.{Text}
use Rattle.tree_edits.proofs.RowsJoined.{row, text_after_text, text_after_element}
use Rattle.tree_edits.proofs.joining.join_after.Goals as goal

pub returns-in_ok-push_text-in-Text : goal.returns-in_ok-push_text-in-Text
returns-in_ok-push_text-in-Text c =
    let some : length c.args.more ≡ 0 → ⊥ = λ (h : length c.args.more ≡ 0). omega (arith, h, c.requires) in
    let prefix = c.args.list.now.items in
    λ h.
    ap row c.in_ok-push_text-in-Text.ensures
    ∙ ap (λ z. row (prefix ++ Text c.in-Text.first z ∷ [])) c.in_ok-one_text-in-Text.ensures
    ∙ text_after_text (prefix ++ c.args.last ∷ []) prefix c.in-Text.first c.args.node c.in-Text.text c.args.more h (ap (λ t. prefix ++ t ∷ []) c.in-Text.is) some

pub returns-in_ok-push_text-in-Element : goal.returns-in_ok-push_text-in-Element
returns-in_ok-push_text-in-Element c =
    let some : length c.args.more ≡ 0 → ⊥ = λ (h : length c.args.more ≡ 0). omega (arith, h, c.requires) in
    let prefix = c.args.list.now.items in
    λ h.
    ap row c.in_ok-push_text-in-Element.ensures
    ∙ ap (λ z. row (z ++ Text c.args.node c.args.more ∷ [])) c.in_ok-push-in-Element.ensures.items
    ∙ text_after_element (prefix ++ c.args.last ∷ []) prefix c.in-Element.element c.args.node c.in-Element.name c.in-Element.attrs c.in-Element.kids c.args.more h (ap (λ t. prefix ++ t ∷ []) c.in-Element.is) some
