-- The text after a text, and after an element.
use Rattle.std.proofs.Common.{◌≡◌, ◌∷◌, ◌++◌, [], length, ap, ◌∙◌, arith}
use Rattle.plain_tree.specs.declared.tree.Tree.TheVariants.{Text}
use Rattle.plain_tree.proofs.TreesJoined.{row, text_after_text, text_after_element}
use Rattle.plain_tree.proofs.joining.join_after.Goals as goal

pub returns-in_ok-push_text-in-Text : goal.returns-in_ok-push_text-in-Text
returns-in_ok-push_text-in-Text c =
    let some : length c.args.more ≡ 0 → ⊥ = λ (h : length c.args.more ≡ 0). omega (arith, h, c.requires) in
    let prefix = c.args.list.now.items in
    λ h.
    ap row c.in_ok-push_text-in-Text.ensures
    ∙ ap (λ z. row (prefix ++ Text z ∷ [])) (c.in_ok-one_text-in-Text.ensures ∙ ap (λ z. c.in-Text.text ++ z) c.as_str.ensures)
    ∙ text_after_text (prefix ++ c.args.last ∷ []) prefix c.in-Text.text c.args.more h (ap (λ t. prefix ++ t ∷ []) c.in-Text.is) some

pub returns-in_ok-push_text-in-Elem : goal.returns-in_ok-push_text-in-Elem
returns-in_ok-push_text-in-Elem c =
    let some : length c.args.more ≡ 0 → ⊥ = λ (h : length c.args.more ≡ 0). omega (arith, h, c.requires) in
    let prefix = c.args.list.now.items in
    λ h.
    ap row c.in_ok-push_text-in-Elem.ensures
    ∙ ap (λ z. row (z ++ Text c.args.more ∷ [])) c.in_ok-push-in-Elem.ensures.items
    ∙ text_after_element (prefix ++ c.args.last ∷ []) prefix c.in-Elem.name c.in-Elem.attrs c.in-Elem.kids c.args.more h (ap (λ t. prefix ++ t ∷ []) c.in-Elem.is) some
