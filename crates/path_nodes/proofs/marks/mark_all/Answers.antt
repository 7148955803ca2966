-- One more is marked.
use Rattle.std.proofs.Common.{◌||◌, map, take, get_or, sym, ap, ◌∙◌, subst}
use Rattle.std.specs.List.{All, list_any}
use Rattle.std.proofs.lemmas.List.Elements.{All-get_or}
use Rattle.path_meaning.specs.Elements.{is_same}
use Rattle.path_nodes.specs.steps.Marks.{is_marked}
use Rattle.path_nodes.specs.References.{IsElement, element_of}
use Rattle.ft_base.proofs.Truth.{or_turned}
use Rattle.path_nodes.proofs.ListLemmas.{any-more}
use Rattle.path_nodes.proofs.PlaceLemmas.{same-element}
use Rattle.path_nodes.proofs.SpotLemmas.{of_number}
use Rattle.path_nodes.proofs.marks.mark_all.Goals as goal

pub loop-node-preserved : goal.loop-node-preserved
loop-node-preserved c = λ r x.
    let root = c.args.tree.now.root in
    let items = c.as_slice-node-items.result.now in
    let i = c.loop-node.node-index in
    let q = get_or items i (of_number 0) in
    let all : All (IsElement root) items = subst (All (IsElement root)) (sym c.as_slice-node-items.ensures) c.requires in
    let y : IsElement root q = All-get_or (IsElement root) items i (of_number 0) c.loop-node-test.true all in
    let before = list_any (is_same (element_of root r)) (map (element_of root) (take i items)) in
    let old = is_marked c.args.marks.now r in
    c.in_ok-mark.ensures r
    ∙ ap (λ b. b || is_marked c.loop-node.marks r) (same-element root r q x y)
    ∙ ap (λ b. is_same (element_of root r) (element_of root q) || b) (c.loop-node.invariant r x)
    ∙ or_turned (is_same (element_of root r) (element_of root q)) before old
    ∙ ap (λ b. b || old) (sym (any-more (element_of root) (is_same (element_of root r)) items i (of_number 0) c.loop-node-test.true))
