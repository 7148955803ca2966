-- One more is a way, and those before stay ways.
use Rattle.std.proofs.Common.{◌≡◌, ◌≤◌, true, take, length, get_or, sym, ◌∙◌, subst, arith}
use Rattle.std.specs.List.{All}
use Rattle.std.proofs.lemmas.List.{take_all, take_more}
use Rattle.std.proofs.lemmas.List.Elements.{All-get_or, All-push, All-weaker}
use Rattle.ft_base.specs.declared.ids.NodeRef.{NodeRef}
use Rattle.path_nodes.specs.steps.Marks.{is_marked}
use Rattle.path_nodes.specs.References.{IsElement}
use Rattle.path_nodes.proofs.SpotLemmas.{of_number}
use Rattle.path_nodes.proofs.marks.mark_ways.Goals as goal

pub mark_way-requires-clause-node : goal.mark_way-requires-clause-node
mark_way-requires-clause-node c =
    let root = c.args.tree.now.root in
    let items = c.as_slice-node-items.result.now in
    let all : All (IsElement root) items = subst (All (IsElement root)) (sym c.as_slice-node-items.ensures) c.requires.nodes in
    All-get_or (IsElement root) items c.loop-node.node-index (of_number 0) c.loop-node-test.true all

pub loop-node-preserved : goal.loop-node-preserved
loop-node-preserved c =
    let items = c.as_slice-node-items.result.now in
    let i = c.loop-node.node-index in
    let Q : NodeRef → Type 0 = λ r. is_marked c.mark_way.new.ways r ≡ true in
    let before = All-weaker (λ r. is_marked c.loop-node.ways r ≡ true) Q (λ r h. c.in_ok-mark_way.ensures.more r h) (take i items) c.loop-node.invariant.there in
    record {
      ways = c.in_ok-mark_way.ensures.ways;
      more = λ r h. c.in_ok-mark_way.ensures.more r (c.loop-node.invariant.more r h);
      there = rw (take_more items i (of_number 0) c.loop-node-test.true) (All-push Q (take i items) (get_or items i (of_number 0)) before c.in_ok-mark_way.ensures.there);
    }

pub returns-clause-there : goal.returns-clause-there
returns-clause-there c =
    let items = c.as_slice-node-items.result.now in
    let past : length items ≤ c.loop-node.node-index = omega (arith, c.loop-node-test.false) in
    subst (All (λ r. is_marked c.loop-node.ways r ≡ true)) (take_all c.loop-node.node-index items past ∙ c.as_slice-node-items.ensures) c.loop-node.invariant.there
