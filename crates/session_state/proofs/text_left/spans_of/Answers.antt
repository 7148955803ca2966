-- Each node is there, and its span is the next one.
use Rattle.std.proofs.Common.{◌≡◌, ◌∙◌, ◌∷◌, ◌++◌, [], true, sym, subst, get_or}
use Rattle.std.specs.List.{All}
use Rattle.std.proofs.lemmas.List.{map_more}
use Rattle.std.proofs.lemmas.List.Elements.{All-get_or}
use Rattle.ft_base.specs.declared.ids.NodeRef.{NodeRef}
use Rattle.session_state.specs.SelectionTests.{is_there, span_at}
use Rattle.session_state.proofs.text_left.spans_of.Goals as goal

abbrev no_node : NodeRef
no_node = record { 0 = 0 }

pub span_of-requires : goal.span_of-requires
span_of-requires c =
    let root = c.args.tree.now.root in
    let items = c.as_slice-node-items.result.now in
    let i = c.loop-node.node-index in
    let q = get_or items i no_node in
    let all : All (λ r. is_there root r ≡ true) items = subst (All (λ r. is_there root r ≡ true)) (sym c.as_slice-node-items.ensures) c.requires in
    c.node_law.ensures.there root q (All-get_or (λ r. is_there root r ≡ true) items i no_node c.loop-node-test.true all)

pub loop-node-preserved : goal.loop-node-preserved
loop-node-preserved c =
    let root = c.args.tree.now.root in
    let items = c.as_slice-node-items.result.now in
    let i = c.loop-node.node-index in
    let q = get_or items i no_node in
    let all : All (λ r. is_there root r ≡ true) items = subst (All (λ r. is_there root r ≡ true)) (sym c.as_slice-node-items.ensures) c.requires in
    let one = c.node_law.ensures.span root q c.span_of.result (All-get_or (λ r. is_there root r ≡ true) items i no_node c.loop-node-test.true all) c.span_of.ensures.positions in
    c.in_ok-push.ensures.ok
    ∙ ((λ j. c.loop-node.invariant j ++ one j ∷ []) ∙ sym (map_more (span_at root) items i no_node c.loop-node-test.true))
