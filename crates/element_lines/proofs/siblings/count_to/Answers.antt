-- Each link is that of the next child, which counts where it has the name.
use Rattle.std.proofs.Common.{◌≡◌, ◌+◌, ℕ, IfSome, refl, ap, subst, arith}
use Rattle.path_nodes.specs.References.{element_of}
use Rattle.path_nodes.proofs.SpotLemmas.{of_number}
use Rattle.element_lines.specs.LocationSteps.{name_of}
use Rattle.element_lines.specs.steps.Numbers.{IsChild}
use Rattle.element_lines.proofs.SiblingLemmas.{Found, found, next-counted, next-few, next-there}
use Rattle.element_lines.proofs.siblings.count_to.Goals as goal

pub is_named-named-requires : goal.is_named-named-requires
is_named-named-requires c = next-there c.args.tree.now.root c.loop.counting c.loop.invariant.counting c.in-Some.child c.in-Some.is

pub next-counting-requires : goal.next-counting-requires
next-counting-requires c = next-there c.args.tree.now.root c.loop.counting c.loop.invariant.counting c.in-Some.child c.in-Some.is

pub overflow_add-counting : goal.overflow_add-counting
overflow_add-counting c =
    let few = next-few c.args.tree.now.root c.loop.counting c.loop.invariant.counting c.in-Some.child c.in-Some.is (omega (arith, c.node_count-nodes.ensures.count, c.node_count-nodes.ensures.few)) in
    let one = c.count_if.ensures.few in
    omega (arith, few, one)

pub returns-then-child-node-clause-number : goal.returns-then-child-node-clause-number
returns-then-child-node-clause-number c =
    let root = c.args.tree.now.root in
    let f : Found root c.loop.counting c.args.node c.number_if-number.result =
    found root c.loop.counting c.loop.invariant.counting c.in-Some.child c.in-Some.is c.args.node c.requires.node (ap of_number c.if-child-node.true)
    c.is_named-named.result c.is_named-named.ensures c.number_if-number.result c.number_if-number.ensures in
    f.number

pub returns-then-child-node-clause-child : goal.returns-then-child-node-clause-child
returns-then-child-node-clause-child c =
    let root = c.args.tree.now.root in
    let f : Found root c.loop.counting c.args.node c.number_if-number.result =
    found root c.loop.counting c.loop.invariant.counting c.in-Some.child c.in-Some.is c.args.node c.requires.node (ap of_number c.if-child-node.true)
    c.is_named-named.result c.is_named-named.ensures c.number_if-number.result c.number_if-number.ensures in
    subst (λ p. IfSome c.number_if-number.result (λ n. IsChild root p c.args.node)) c.loop.invariant.parent f.child

pub returns-then-child-node-clause-named : goal.returns-then-child-node-clause-named
returns-then-child-node-clause-named c =
    let root = c.args.tree.now.root in
    let f : Found root c.loop.counting c.args.node c.number_if-number.result =
    found root c.loop.counting c.loop.invariant.counting c.in-Some.child c.in-Some.is c.args.node c.requires.node (ap of_number c.if-child-node.true)
    c.is_named-named.result c.is_named-named.ensures c.number_if-number.result c.number_if-number.ensures in
    subst (λ w. IfSome c.number_if-number.result (λ n. w.now ≡ name_of (element_of root c.args.node).node)) c.loop.invariant.name f.named

pub loop-preserved : goal.loop-preserved
loop-preserved c =
    let sum = c.count_if.ensures.one in
    record {
      counting = next-counted c.args.tree.now.root c.loop.counting c.loop.invariant.counting c.in-Some.child c.in-Some.is _ refl refl c.is_named-named.result
          c.next-counting.ensures.next c.is_named-named.ensures (ap (λ (k : ℕ). c.loop.counting.number + k) sum);
      parent = c.loop.invariant.parent;
      name = c.loop.invariant.name;
    }
