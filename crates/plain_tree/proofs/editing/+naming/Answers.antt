-- The node of a number, or none, where the place goes on below it.
use Rattle.std.proofs.Common.{◌≡◌, suc, ◌-◌, ◌<◌, length, drop, get_or, ap, sym, ◌∙◌, arith}
use Rattle.std.proofs.lemmas.Bool.Decides.{nat_tests}
use Rattle.std.proofs.lemmas.List.{take_rest}
use Rattle.plain_tree.specs.Edits.{names_element, holds_of_child}
use Rattle.plain_tree.specs.View.{node}
use Rattle.plain_tree.proofs.EditingLemmas.{text_named, names_there, none_at_zero, none_past, holds_at}
use Rattle.plain_tree.proofs.TreesJoined.{row}
use Rattle.plain_tree.proofs.Views.{node_text}
use Rattle.plain_tree.proofs.editing.+naming.Goals as goal

pub names_below-returns-then-number-eq0 : goal.names_below-returns-then-number-eq0
names_below-returns-then-number-eq0 t c =
    let some : 0 < length c.args.place.now = grind (arith, nat_tests) in
    let none : get_or c.args.place.now 0 0 ≡ 0 = grind (arith, nat_tests) in
    λ name attrs. sym (names_there name attrs (row c.args.kids.now) c.args.place.now some ∙ none_at_zero (names_element (drop 1 c.args.place.now)) c.args.kids.now (get_or c.args.place.now 0 0) none)

pub names_below-returns-then-len-number : goal.names_below-returns-then-len-number
names_below-returns-then-len-number t c =
    let some : 0 < length c.args.place.now = grind (arith, nat_tests) in
    let past : length c.args.kids.now < get_or c.args.place.now 0 0 = grind (arith, nat_tests) in
    λ name attrs. sym (names_there name attrs (row c.args.kids.now) c.args.place.now some ∙ none_past (names_element (drop 1 c.args.place.now)) c.args.kids.now (get_or c.args.place.now 0 0) past)

pub names_below-returns : goal.names_below-returns
names_below-returns t c =
    let place = c.args.place.now in
    let kids = c.args.kids.now in
    let number = get_or place 0 0 in
    let kid = c.get.result.now in
    let some : 0 < length place = grind (arith, nat_tests) in
    let here : number - 1 < length kids = grind (arith, nat_tests) in
    let next : number ≡ suc (number - 1) = grind (arith, nat_tests) in
    λ name attrs.
    c.names_element.ensures ∙ ap (λ p. names_element p (node kid)) (take_rest place 1)
    ∙ sym (names_there name attrs (row kids) place some
    ∙ ap (λ k. holds_of_child (names_element (drop 1 place)) k (row kids)) next
    ∙ holds_at (names_element (drop 1 place)) kids (number - 1) kid here c.get.ensures)

pub names_element-returns-in-Text : goal.names_element-returns-in-Text
names_element-returns-in-Text t c =
    sym (ap (names_element c.args.place.now) (ap node c.in-Text.is ∙ node_text c.in-Text.text) ∙ text_named c.args.place.now c.in-Text.text)
