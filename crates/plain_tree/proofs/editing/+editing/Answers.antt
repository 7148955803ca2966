-- The change goes down to the children of the element that is named, or of the element above it.
use Rattle.std.proofs.Common.{◌≡◌, ◌-◌, ◌<◌, [], length, take, drop, get_or, set, ap, sym, ◌∙◌, arith, length-drop}
use Rattle.std.proofs.lemmas.Bool.Decides.{nat_tests}
use Rattle.std.proofs.lemmas.List.{take_rest, set-set}
use Rattle.std.proofs.lemmas.Result.{on_ok_weaker, on_err_weaker}
use Rattle.plain_tree.specs.Document.{element, is_joined, are_joined}
use Rattle.plain_tree.specs.Edits.{joined, only, at_child, at_place, names_element}
use Rattle.plain_tree.specs.View.{node}
use Rattle.plain_tree.specs.steps.Changes.{changed, may_change}
use Rattle.plain_tree.proofs.EditingLemmas.{no_change_of_text, change_any, into_below, beside_allowed, beside_below, inner_there, inner_some, place_here, place_below}
use Rattle.plain_tree.proofs.RangesJoined.{Child, child_there, child_joined, child_changed, child_kept}
use Rattle.plain_tree.proofs.TreesJoined.{row}
use Rattle.plain_tree.proofs.Views.{node_elem, node_text}
use Rattle.plain_tree.proofs.editing.+editing.Goals as goal

-- ---- edit_tree

pub edit_tree-edit_row-outcome-requires : goal.edit_tree-edit_row-outcome-requires
edit_tree-edit_row-outcome-requires t c =
    let name = c.in-Elem.name in
    let attrs = c.in-Elem.attrs in
    let is : node c.args.tree ≡ element name attrs (row c.in-Elem.kids) = ap node c.in-Elem.is ∙ node_elem name attrs c.in-Elem.kids in (
      omega (arith, c.decreases),
      (
        (λ other more. ap (λ ks. may_change c.args.change c.args.place.now (element other more (row ks))) c.into_vec-row.ensures
            ∙ change_any c.args.change c.args.place.now other name more attrs (row c.in-Elem.kids)
            ∙ ap (may_change c.args.change c.args.place.now) (sym is) ∙ c.requires.allowed),
        ap (λ ks. are_joined (row ks)) c.into_vec-row.ensures ∙ ap is_joined (sym is) ∙ c.requires.joined,
      ),
    )

pub edit_tree-returns-in-Text-clause-edited : goal.edit_tree-returns-in-Text-clause-edited
edit_tree-returns-in-Text-clause-edited t c =
    absurd (no_change_of_text c.args.change c.args.place.now c.in-Text.text (ap (may_change c.args.change c.args.place.now) (sym (ap node c.in-Text.is ∙ node_text c.in-Text.text)) ∙ c.requires.allowed))

pub edit_tree-returns-in-Text-clause-element : goal.edit_tree-returns-in-Text-clause-element
edit_tree-returns-in-Text-clause-element t c =
    absurd (no_change_of_text c.args.change c.args.place.now c.in-Text.text (ap (may_change c.args.change c.args.place.now) (sym (ap node c.in-Text.is ∙ node_text c.in-Text.text)) ∙ c.requires.allowed))

-- ---- edit_row

pub edit_row-edit_below-requires : goal.edit_row-edit_below-requires
edit_row-edit_below-requires t c =
    let some : 0 < length c.args.place.now = grind (arith, nat_tests) in (
      omega (arith, c.decreases),
      (some, (into_below c.args.change c.in-Into.end c.args.place.now (row c.args.row.now.items) c.in-Into.is some (c.requires.allowed [] []), c.requires.joined)),
    )

pub edit_row-edit_beside-requires-clause-some : goal.edit_row-edit_beside-requires-clause-some
edit_row-edit_beside-requires-clause-some t c =
    let place = c.args.place.now in
    let ts = c.args.row.now.items in
    let inner = beside_allowed c.args.change c.in-Beside.side place (row ts) c.in-Beside.is (c.requires.allowed [] []) in
    let child : Child (names_element (drop 1 place)) (get_or place 0 0) ts = child_there (names_element (drop 1 place)) (get_or place 0 0) ts (inner_there [] [] (row ts) place inner) in
    omega (arith, child.is)

pub edit_row-edit_beside-requires-clause-within : goal.edit_row-edit_beside-requires-clause-within
edit_row-edit_beside-requires-clause-within t c =
    let place = c.args.place.now in
    let ts = c.args.row.now.items in
    let inner = beside_allowed c.args.change c.in-Beside.side place (row ts) c.in-Beside.is (c.requires.allowed [] []) in
    let child : Child (names_element (drop 1 place)) (get_or place 0 0) ts = child_there (names_element (drop 1 place)) (get_or place 0 0) ts (inner_there [] [] (row ts) place inner) in
    omega (arith, child.is, child.within)

pub edit_row-edit_below-requires-else-place-eq1 : goal.edit_row-edit_below-requires-else-place-eq1
edit_row-edit_below-requires-else-place-eq1 t c =
    let place = c.args.place.now in
    let ns = row c.args.row.now.items in
    let allowed = c.requires.allowed [] [] in
    let some : 0 < length place = inner_some [] [] ns place (beside_allowed c.args.change c.in-Beside.side place ns c.in-Beside.is allowed) in
    let long : length place ≡ 1 → ⊥ = λ (h : length place ≡ 1). grind (arith, nat_tests) in
    (omega (arith, c.decreases), (some, (beside_below c.args.change c.in-Beside.side place ns c.in-Beside.is long allowed, c.requires.joined)))

pub edit_row-returns-then-is_empty-clause-edited : goal.edit_row-returns-then-is_empty-clause-edited
edit_row-returns-then-is_empty-clause-edited t c =
    let place = c.args.place.now in
    let ns = row c.args.row.now.items in
    let content = row c.args.content in
    let none : length place ≡ 0 = grind (arith, nat_tests) in
    on_ok_weaker c.edit_ends.result
    (λ says name attrs. says name attrs
    ∙ ap (λ ch. joined (changed ch content (element name attrs ns))) (sym c.in-Into.is)
    ∙ ap joined (sym (place_here name attrs ns (changed c.args.change content) place none)))
    c.edit_ends.ensures.edited

pub edit_row-returns-else-place-eq1-clause-edited : goal.edit_row-returns-else-place-eq1-clause-edited
edit_row-returns-else-place-eq1-clause-edited t c =
    let place = c.args.place.now in
    let ns = row c.args.row.now.items in
    let content = row c.args.content in
    let some : 0 < length place = inner_some [] [] ns place (beside_allowed c.args.change c.in-Beside.side place ns c.in-Beside.is (c.requires.allowed [] [])) in
    on_ok_weaker c.edit_below-else-place-eq1.result
    (λ is name attrs.
    ap (λ ks. only (element name attrs ks)) (is ∙ ap (λ ch. joined (at_child (at_place (changed ch content) (drop 1 place)) (get_or place 0 0) ns)) (sym c.in-Beside.is))
    ∙ ap joined (sym (place_below name attrs ns (changed c.args.change content) place some)))
    c.edit_below-else-place-eq1.ensures.edited

-- ---- edit_below

pub edit_below-overflow_sub-number : goal.edit_below-overflow_sub-number
edit_below-overflow_sub-number t c =
    let place = c.args.place.now in
    let child = child_there (may_change c.args.change (drop 1 place)) (get_or place 0 0) c.args.row.now.items c.requires.allowed in
    omega (arith, child.is)

pub edit_below-index_mut-requires : goal.edit_below-index_mut-requires
edit_below-index_mut-requires t c =
    let place = c.args.place.now in
    let child = child_there (may_change c.args.change (drop 1 place)) (get_or place 0 0) c.args.row.now.items c.requires.allowed in
    omega (arith, child.is, child.within)

pub edit_below-index_mut-requires-2 : goal.edit_below-index_mut-requires-2
edit_below-index_mut-requires-2 t c =
    let place = c.args.place.now in
    let child = child_there (may_change c.args.change (drop 1 place)) (get_or place 0 0) c.args.row.now.items c.requires.allowed in
    omega (arith, child.is, child.within)

pub edit_below-edit_tree-tree-requires : goal.edit_below-edit_tree-tree-requires
edit_below-edit_tree-tree-requires t c =
    let place = c.args.place.now in
    let ts = c.args.row.now.items in
    let number = get_or place 0 0 in
    let d = c.index_mut.result.now in
    let child = child_there (may_change c.args.change (drop 1 place)) number ts c.requires.allowed in
    let here : number - 1 ≡ child.before = omega (arith, child.is) in
    let tree_is : c.replace-tree.result ≡ get_or ts child.before d = c.replace-tree.ensures.value ∙ c.index_mut.ensures.value ∙ ap (λ k. get_or ts k d) here in
    let shorter : length (take (length place - 1) (drop 1 place)) ≡ length place - 1 = ap length (take_rest place 1) ∙ length-drop 1 place in (
      omega (arith, c.decreases, shorter, c.requires.some),
      (
        ap (λ p. may_change c.args.change p (node c.replace-tree.result)) (take_rest place 1) ∙ ap (λ u. may_change c.args.change (drop 1 place) (node u)) tree_is ∙ child.holds d,
        ap (λ u. is_joined (node u)) tree_is ∙ child_joined ts child.before d child.within c.requires.joined,
      ),
    )

pub edit_below-returns-clause-edited : goal.edit_below-returns-clause-edited
edit_below-returns-clause-edited t c =
    let place = c.args.place.now in
    let ts = c.args.row.now.items in
    let number = get_or place 0 0 in
    let d = c.index_mut.result.now in
    let new = c.edit_tree-tree.result.0 in
    let change = changed c.args.change (row c.args.content) in
    let child = child_there (may_change c.args.change (drop 1 place)) number ts c.requires.allowed in
    let here : number - 1 ≡ child.before = omega (arith, child.is) in
    let tree_is : c.replace-tree.result ≡ get_or ts child.before d = c.replace-tree.ensures.value ∙ c.index_mut.ensures.value ∙ ap (λ k. get_or ts k d) here in
    on_ok_weaker c.edit_tree-tree.result.1
    (λ says.
    ap row (set-set ts (number - 1) c.replace-tree.new.dest new ∙ ap (λ k. set ts k new) here)
    ∙ child_changed (at_place change (drop 1 place)) ts child.before d new child.within c.requires.joined
    (says ∙ ap (λ p. joined (at_place change p (node c.replace-tree.result))) (take_rest place 1) ∙ ap (λ u. joined (at_place change (drop 1 place) (node u))) tree_is)
    c.edit_tree-tree.ensures.element
    ∙ ap (λ k. joined (at_child (at_place change (drop 1 place)) k (row ts))) (sym child.is))
    c.edit_tree-tree.ensures.edited

pub edit_below-returns-clause-kept : goal.edit_below-returns-clause-kept
edit_below-returns-clause-kept t c =
    let place = c.args.place.now in
    let ts = c.args.row.now.items in
    let number = get_or place 0 0 in
    let d = c.index_mut.result.now in
    let new = c.edit_tree-tree.result.0 in
    let child = child_there (may_change c.args.change (drop 1 place)) number ts c.requires.allowed in
    let here : number - 1 ≡ child.before = omega (arith, child.is) in
    let tree_is : c.replace-tree.result ≡ get_or ts child.before d = c.replace-tree.ensures.value ∙ c.index_mut.ensures.value ∙ ap (λ k. get_or ts k d) here in
    on_err_weaker c.edit_tree-tree.result.1
    (λ same. ap row (set-set ts (number - 1) c.replace-tree.new.dest new ∙ ap (λ k. set ts k new) here) ∙ child_kept ts child.before d new child.within (same ∙ ap node tree_is))
    c.edit_tree-tree.ensures.kept
