-- Each link is that of the next child.
use Rattle.std.proofs.Common.{◌≡◌, sym, ◌∙◌, subst}
use Rattle.ordered_tree.specs.Numbered.{children, first_of, is_element}
use Rattle.path_nodes.specs.References.{element_of}
use Rattle.path_nodes.proofs.ChildrenLemmas.{Reading, next, there, on, start, on_element, element_there, past-text, past-element, smaller}
use Rattle.path_nodes.proofs.children.element_children.Goals as goal
use Rattle.path_nodes.proofs.children.element_children.Goals.{then-is_element+in_ok-push, else-is_element}

pub first_child-link-requires : goal.first_child-link-requires
first_child-link-requires c = element_there c.args.tree.now.root c.args.node c.requires

pub loop-link-init : goal.loop-link-init
loop-link-init c =
    subst (Reading c.args.tree.now.root (element_of c.args.tree.now.root c.args.node) c.first_child-link.result) (sym c.new-children.ensures)
    (start c.args.tree.now.root c.args.node c.requires c.first_child-link.result
    (on_element c.args.tree.now.root c.args.node c.requires (λ s. c.first_child-link.result ≡ first_of (children s.node)) c.first_child-link.ensures.first))

pub is_element-requires : goal.is_element-requires
is_element-requires c =
    let root = c.args.tree.now.root in
    let above = element_of root c.args.node in
    there root above c.in-Some.child c.loop-link.children (next root above c.loop-link.link c.in-Some.child c.loop-link.children c.in-Some.is c.loop-link.invariant)

pub next-link-requires : goal.next-link-requires
next-link-requires c =
    let root = c.args.tree.now.root in
    let above = element_of root c.args.node in
    there root above c.in-Some.child c.loop-link.children (next root above c.loop-link.link c.in-Some.child c.loop-link.children c.in-Some.is c.loop-link.invariant)

pub loop-link-smaller : goal.loop-link-smaller
loop-link-smaller c =
    let root = c.args.tree.now.root in
    let above = element_of root c.args.node in
    let x = next root above c.loop-link.link c.in-Some.child c.loop-link.children c.in-Some.is c.loop-link.invariant in
    smaller root c.args.node c.in-Some.child c.loop-link.children x c.requires.apart c.loop-link.link c.next-link.result c.in-Some.is
    (on root above c.in-Some.child c.loop-link.children x (λ s. c.next-link.result ≡ s.around.next) c.next-link.ensures.next)

pub loop-link-preserved : goal.loop-link-preserved
loop-link-preserved c =
    let root = c.args.tree.now.root in
    let above = element_of root c.args.node in
    let x = next root above c.loop-link.link c.in-Some.child c.loop-link.children c.in-Some.is c.loop-link.invariant in
    let to = on root above c.in-Some.child c.loop-link.children x (λ s. c.next-link.result ≡ s.around.next) c.next-link.ensures.next in
    let tells = on root above c.in-Some.child c.loop-link.children x (λ s. c.is_element.result ≡ is_element s.node) c.is_element.ensures in
    elim c.if-is_element.branch [
      | then-is_element+in_ok-push w ↦
          past-element root above c.in-Some.child c.loop-link.children x c.requires.apart c.next-link.result to (sym tells ∙ w.if-is_element.true) c.if-is_element.children
          (w.children-is ∙ w.in_ok-push.ensures.ok)
      | else-is_element w ↦
          subst (Reading root above c.next-link.result) (sym w.children-is)
          (past-text root above c.in-Some.child c.loop-link.children x c.requires.apart c.next-link.result to (sym tells ∙ w.if-is_element.false))
    ]
