-- One item more.
use Rattle.std.proofs.Common.{get_or, sym, subst}
use Rattle.std.specs.List.{All}
use Rattle.std.proofs.lemmas.List.Elements.{All-get_or}
use Rattle.path_meaning.specs.Meaning.{is_named}
use Rattle.path_nodes.specs.References.{IsElement, element_of}
use Rattle.path_nodes.proofs.ListLemmas.{filter-more, more-there}
use Rattle.path_nodes.proofs.SpotLemmas.{of_number}
use Rattle.path_nodes.proofs.names.named.Goals as goal

pub is_named-requires : goal.is_named-requires
is_named-requires c =
    All-get_or (IsElement c.args.tree.now.root) c.as_slice-item-items.result.now c.loop-item.item-index (of_number 0) c.loop-item-test.true
    (subst (All (IsElement c.args.tree.now.root)) (sym c.as_slice-item-items.ensures) c.requires)

pub loop-item-preserved : goal.loop-item-preserved
loop-item-preserved c =
    let root = c.args.tree.now.root in
    let items = c.as_slice-item-items.result.now in
    let i = c.loop-item.item-index in
    let all : All (IsElement root) items = subst (All (IsElement root)) (sym c.as_slice-item-items.ensures) c.requires in
    let x : IsElement root (get_or items i (of_number 0)) = All-get_or (IsElement root) items i (of_number 0) c.loop-item-test.true all in
    record {
      done = filter-more (element_of root) (λ e. is_named c.args.test.now e.node) items i (of_number 0) c.loop-item-test.true c.loop-item.kept c.push_if.new.nodes c.is_named.result
          c.loop-item.invariant.done c.in_ok-push_if.ensures c.is_named.ensures;
      there = more-there (IsElement root) c.loop-item.kept c.push_if.new.nodes (get_or items i (of_number 0)) c.is_named.result c.in_ok-push_if.ensures x c.loop-item.invariant.there;
    }
