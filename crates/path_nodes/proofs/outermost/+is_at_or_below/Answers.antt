-- An element above another is it, or stands above its parent.
use Rattle.std.proofs.Common.{◌≡◌, sym, ap, ◌∙◌, subst, arith}
use Rattle.ordered_tree.specs.Stands.{OnNode}
use Rattle.path_nodes.specs.References.{element_of}
use Rattle.path_nodes.specs.steps.Within.{is_prefix}
use Rattle.path_nodes.proofs.ChildrenLemmas.{element_there}
use Rattle.path_nodes.proofs.PrefixLemmas.{prefix-itself}
use Rattle.path_nodes.proofs.OutermostLemmas.{other-place, prefix-parent, not-above-root}
use Rattle.path_nodes.proofs.SpotLemmas.{of_number}
use Rattle.path_nodes.proofs.WayLemmas.{Parent, parent-of, root-of, shorter}
use Rattle.path_nodes.proofs.outermost.+is_at_or_below.Goals as goal

pub parent-requires : goal.parent-requires
parent-requires t c = element_there c.args.tree.now.root c.args.node c.requires.node

pub is_at_or_below-requires : goal.is_at_or_below-requires
is_at_or_below-requires t c =
    let root = c.args.tree.now.root in
    let p : Parent root c.args.node c.in-Some.parent =
    parent-of root c.args.node c.requires.node c.in-Some.parent (subst (λ o. OnNode root c.args.node (λ s. o ≡ s.around.parent)) c.in-Some.is c.parent.ensures.parent) in
    (omega (arith, c.decreases, shorter root c.args.node c.in-Some.parent p), (c.requires.base, p.there))

pub returns-then-node-base : goal.returns-then-node-base
returns-then-node-base t c =
    let root = c.args.tree.now.root in
    sym (
    ap (λ r. is_prefix (element_of root c.args.base).place (element_of root r).place) (ap of_number c.if-node-base.true)
    ∙ prefix-itself (element_of root c.args.base).place
    )

pub returns-in-Some : goal.returns-in-Some
returns-in-Some t c =
    let root = c.args.tree.now.root in
    let p : Parent root c.args.node c.in-Some.parent =
    parent-of root c.args.node c.requires.node c.in-Some.parent (subst (λ o. OnNode root c.args.node (λ s. o ≡ s.around.parent)) c.in-Some.is c.parent.ensures.parent) in
    c.is_at_or_below.ensures
    ∙ sym (prefix-parent (element_of root c.args.base).place (element_of root c.in-Some.parent).place p.number (element_of root c.args.node).place p.place
    (other-place root c.args.base c.args.node c.requires.base c.requires.node c.if-node-base.false))

pub returns-in-None : goal.returns-in-None
returns-in-None t c =
    let root = c.args.tree.now.root in
    not-above-root (element_of root c.args.base).place (element_of root c.args.node).place
    (root-of root c.args.node c.requires.node (subst (λ o. OnNode root c.args.node (λ s. o ≡ s.around.parent)) c.in-None.is c.parent.ensures.parent))
    (other-place root c.args.base c.args.node c.requires.base c.requires.node c.if-node-base.false)
