-- Content before a child, after it, and in its place.
use Rattle.std.proofs.Common.{◌≡◌, suc, ◌-◌, ◌<◌, length, take, drop, ap, sym, ◌∙◌, arith}
use Rattle.std.proofs.lemmas.Result.{on_ok_weaker}
use Rattle.plain_tree.specs.Edits.{append, joined, at_child}
use Rattle.plain_tree.specs.declared.change.Side.TheVariants as S
use Rattle.plain_tree.specs.steps.Changes.{beside_content}
use Rattle.plain_tree.proofs.EditingLemmas.{before_child, after_child, instead_of_child}
use Rattle.plain_tree.proofs.TreesJoined.{row}
use Rattle.plain_tree.proofs.editing.edit_beside.Goals as goal

pub returns-in-Before-clause-edited : goal.returns-in-Before-clause-edited
returns-in-Before-clause-edited c =
    let ts = c.args.row.now.items in
    let inner = row c.args.content in
    let i = c.args.number - 1 in
    let here : i < length ts = omega (arith, c.requires.some, c.requires.within) in
    let next : suc i ≡ c.args.number = omega (arith, c.requires.some) in
    on_ok_weaker c.replace_range.result
    (λ is. before_child ts c.args.content c.replace_range.new.row.items i here is
    ∙ ap (λ k. joined (at_child (beside_content S.Before inner) k (row ts))) next
    ∙ ap (λ s. joined (at_child (beside_content s inner) c.args.number (row ts))) (sym c.in-Before.is))
    c.replace_range.ensures.ok

pub returns-in-After-clause-edited : goal.returns-in-After-clause-edited
returns-in-After-clause-edited c =
    let ts = c.args.row.now.items in
    let inner = row c.args.content in
    let i = c.args.number - 1 in
    let here : i < length ts = omega (arith, c.requires.some, c.requires.within) in
    let next : suc i ≡ c.args.number = omega (arith, c.requires.some) in
    on_ok_weaker c.replace_range-in-After.result
    (λ is. after_child ts c.args.content c.replace_range-in-After.new.row.items i here (is ∙ ap (λ k. joined (append (row (take k ts)) (append inner (row (drop k ts))))) (sym next))
    ∙ ap (λ k. joined (at_child (beside_content S.After inner) k (row ts))) next
    ∙ ap (λ s. joined (at_child (beside_content s inner) c.args.number (row ts))) (sym c.in-After.is))
    c.replace_range-in-After.ensures.ok

pub returns-in-Instead-clause-edited : goal.returns-in-Instead-clause-edited
returns-in-Instead-clause-edited c =
    let ts = c.args.row.now.items in
    let inner = row c.args.content in
    let i = c.args.number - 1 in
    let here : i < length ts = omega (arith, c.requires.some, c.requires.within) in
    let next : suc i ≡ c.args.number = omega (arith, c.requires.some) in
    on_ok_weaker c.replace_range-in-Instead.result
    (λ is. instead_of_child ts c.args.content c.replace_range-in-Instead.new.row.items i here (is ∙ ap (λ k. joined (append (row (take i ts)) (append inner (row (drop k ts))))) (sym next))
    ∙ ap (λ k. joined (at_child (beside_content S.Instead inner) k (row ts))) next
    ∙ ap (λ s. joined (at_child (beside_content s inner) c.args.number (row ts))) (sym c.in-Instead.is))
    c.replace_range-in-Instead.ensures.ok
