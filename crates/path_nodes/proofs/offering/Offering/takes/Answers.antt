-- A stop that is skipped is left out; past another one its element and what it offers are still to come.
use Rattle.std.proofs.Common.{map, arith}
use Rattle.path_grammar.specs.Form as form
use Rattle.path_grammar.specs.View as view
use Rattle.path_meaning.specs.Elements.{Element}
use Rattle.path_meaning.specs.Meaning.{is_named}
use Rattle.path_nodes.specs.References.{element_of}
use Rattle.path_nodes.specs.steps.Offered.{to_come}
use Rattle.path_nodes.proofs.OfferingLemmas.{heavy, skipped-stop}
use Rattle.path_nodes.proofs.offering.Offering.takes.Goals as goal

pub returns-then-is_skipped-clause-elements : goal.returns-then-is_skipped-clause-elements
returns-then-is_skipped-clause-elements g c =
    let root = c.args.tree.now.root in
    let deep = c.args.step.now.deep in
    skipped-stop root (g.T.TextTest.meaning c.args.test.now) (form.predicates (map view.predicate c.args.step.now.predicates)) c.requires.no_number (λ (e : Element). is_named c.args.name.now e.node) deep
    c.args.stop (to_come root deep c.args.self.now.left.items) c.requires.stop (c.is_skipped.ensures.kept c.if-is_skipped.true)

pub returns-then-is_skipped-clause-fewer : goal.returns-then-is_skipped-clause-fewer
returns-then-is_skipped-clause-fewer g c = let some = heavy (element_of c.args.tree.now.root c.args.stop.node).node in omega (arith, some)
