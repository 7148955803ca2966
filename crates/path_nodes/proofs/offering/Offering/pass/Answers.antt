-- Past a context or, where the step is deep, past an element, at its children.
use Rattle.std.proofs.Common.{◌≡◌, ◌++◌, flat_map, ap, ◌∙◌, arith}
use Rattle.std.proofs.lemmas.Result.{on_ok_weaker}
use Rattle.path_meaning.specs.Elements.{element_children}
use Rattle.path_nodes.specs.References.{element_of}
use Rattle.path_nodes.specs.steps.Kept.{offered_from}
use Rattle.path_nodes.specs.steps.Offered.{itself, offered_at, to_come}
use Rattle.path_nodes.proofs.OfferingLemmas.{heavy, past-context, past-element}
use Rattle.path_nodes.proofs.offering.Offering.pass.Goals as goal

pub returns-then-stop-clause-offers : goal.returns-then-stop-clause-offers
returns-then-stop-clause-offers c =
    let root = c.args.tree.now.root in
    let deep = c.args.deep in
    let stop = c.args.stop in
    let old = to_come root deep c.args.self.now.left.items in
    let new = to_come root deep c.enter.new.self.left.items in
    let offers : new ≡ flat_map (offered_from deep) (element_children (element_of root stop.node)) ++ old → itself root stop ++ new ≡ offered_at root deep stop ++ old =
    λ e. ap (λ l. itself root stop ++ l) e ∙ past-context root deep stop c.if-stop.true old in
    on_ok_weaker c.enter.result offers c.enter.ensures.offers

pub returns-then-deep-clause-offers : goal.returns-then-deep-clause-offers
returns-then-deep-clause-offers c =
    let root = c.args.tree.now.root in
    let deep = c.args.deep in
    let stop = c.args.stop in
    let old = to_come root deep c.args.self.now.left.items in
    let new = to_come root deep c.enter-then-deep.new.self.left.items in
    let offers : new ≡ flat_map (offered_from deep) (element_children (element_of root stop.node)) ++ old → itself root stop ++ new ≡ offered_at root deep stop ++ old =
    λ e. ap (λ l. itself root stop ++ l) e ∙ past-element root deep stop c.if-stop.false c.if-deep.true c.requires.stop old in
    on_ok_weaker c.enter-then-deep.result offers c.enter-then-deep.ensures.offers

pub returns-clause-fewer : goal.returns-clause-fewer
returns-clause-fewer c = let some = heavy (element_of c.args.tree.now.root c.args.stop.node).node in omega (arith, some)
