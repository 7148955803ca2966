-- A reference that is there names a node, which stands among the document's.
use Rattle.std.proofs.Common.{◌∙◌, sym, ap, subst}
use Rattle.std.specs.List.{Contains}
use Rattle.ordered_tree.specs.Stands.{references, span}
use Rattle.session_state.proofs.SelectionTestLemmas.{element-there, node-there}
use Rattle.session_state.proofs.node_laws.node_law.Goals as goal

pub returns-clause-there : goal.returns-clause-there
returns-clause-there c = λ root r there.
    let n = node-there root r there in
    subst (Contains (references root)) n.refers (c.spots_law.ensures.references root n.spot n.among)

pub returns-clause-span : goal.returns-clause-span
returns-clause-span c = λ root r at there found.
    let n = node-there root r there in
    found n.spot.stand (c.spots_law.ensures.stands root n.spot n.among) n.refers ∙ sym n.at

pub returns-clause-element : goal.returns-clause-element
returns-clause-element c = λ root r e s among refers.
    let n = node-there root r (element-there root r e) in
    n.at ∙ ap span (c.one_node_law.ensures root e.apart n.spot.stand s (c.spots_law.ensures.stands root n.spot n.among) among (n.refers ∙ sym refers))
