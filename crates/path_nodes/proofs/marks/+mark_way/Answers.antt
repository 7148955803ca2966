-- What is above the parent is marked first; above the root there is nothing.
use Rattle.std.proofs.Common.{◌≡◌, subst, arith}
use Rattle.ordered_tree.specs.Stands.{OnNode}
use Rattle.path_nodes.proofs.ChildrenLemmas.{element_there}
use Rattle.path_nodes.proofs.WayLemmas.{Parent, parent-of, root-of, shorter, above-child, above-root, ways-more}
use Rattle.path_nodes.proofs.marks.+mark_way.Goals as goal

pub parent-requires : goal.parent-requires
parent-requires t c = element_there c.args.tree.now.root c.args.node c.requires.node

pub mark_way-requires : goal.mark_way-requires
mark_way-requires t c =
    let root = c.args.tree.now.root in
    let p : Parent root c.args.node c.in-Some.parent =
    parent-of root c.args.node c.requires.node c.in-Some.parent (subst (λ o. OnNode root c.args.node (λ s. o ≡ s.around.parent)) c.in-Some.is c.parent.ensures.parent) in
    (omega (arith, c.decreases, shorter root c.args.node c.in-Some.parent p), (p.there, c.requires.ways))

pub returns-in_ok-mark-in-Some-clause-ways : goal.returns-in_ok-mark-in-Some-clause-ways
returns-in_ok-mark-in-Some-clause-ways t c =
    let root = c.args.tree.now.root in
    let p : Parent root c.args.node c.in-Some.parent =
    parent-of root c.args.node c.requires.node c.in-Some.parent (subst (λ o. OnNode root c.args.node (λ s. o ≡ s.around.parent)) c.in-Some.is c.parent.ensures.parent) in
    ways-more c.args.node c.mark_way.new.ways c.mark.new.marks c.in_ok-mark-in-Some.ensures root c.in_ok-mark_way-in-Some.ensures.ways
    (above-child root c.args.node c.requires.node c.mark_way.new.ways c.in-Some.parent p c.in_ok-mark_way-in-Some.ensures.ways c.in_ok-mark_way-in-Some.ensures.there)

pub returns-in_ok-mark-in-None-clause-ways : goal.returns-in_ok-mark-in-None-clause-ways
returns-in_ok-mark-in-None-clause-ways t c =
    let root = c.args.tree.now.root in
    ways-more c.args.node c.args.ways.now c.mark-in-None.new.marks c.in_ok-mark-in-None.ensures root c.requires.ways
    (above-root root c.args.node c.requires.node c.args.ways.now
    (root-of root c.args.node c.requires.node (subst (λ o. OnNode root c.args.node (λ s. o ≡ s.around.parent)) c.in-None.is c.parent.ensures.parent)))
