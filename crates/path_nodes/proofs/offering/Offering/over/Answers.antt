-- One context more is where the walk stops; after the last one all of them are.
use Rattle.std.proofs.Common.{◌≡◌, ◌∷◌, [], ◌++◌, true, flat_map, sym, ap, ◌∙◌, subst, arith}
use Rattle.std.specs.List.{All}
use Rattle.std.proofs.lemmas.List.{nil_from_length}
use Rattle.std.proofs.lemmas.List.Elements.{All-nil, All-cons, All-append}
use Rattle.ft_base.specs.declared.ids.NodeRef.{NodeRef}
use Rattle.path_nodes.specs.References.{IsElement, element_of}
use Rattle.path_nodes.specs.declared.offering.Stop.{Stop}
use Rattle.path_nodes.specs.steps.Kept.{offered}
use Rattle.path_nodes.specs.steps.Offered.{IsStop, to_come}
use Rattle.path_nodes.proofs.OfferingLemmas.{all-front, all-last, flat-of, one-moved}
use Rattle.path_nodes.proofs.offering.Offering.over.Goals as goal

pub loop-node-preserved : goal.loop-node-preserved
loop-node-preserved c =
    let root = c.args.tree.now.root in
    let stop : NodeRef → Stop = λ r. record { node = r; context = true } in
    let node = c.in-Some.node in
    let rest = c.pop.new.self.items in
    let taken = c.in-Some.ensures.items in
    let put = c.in_ok-push.ensures.items in
    let before : All (IsElement root) (rest ++ node ∷ []) = subst (All (IsElement root)) taken c.loop-node.invariant.nodes in
    record {
      offers = one-moved root c.args.deep stop c.loop-node.nodes.items rest node c.loop-node.left.items c.push.new.self.items _ taken put c.loop-node.invariant.offers;
      nodes = all-front (IsElement root) rest node before;
      there = subst (All (IsStop root)) (sym put)
          (All-append (IsStop root) c.loop-node.left.items (stop node ∷ []) c.loop-node.invariant.there
          (All-cons (IsStop root) (stop node) [] (all-last (IsElement root) rest node before) (All-nil (IsStop root))));
    }

pub returns-clause-offers : goal.returns-clause-offers
returns-clause-offers c =
    let root = c.args.tree.now.root in
    let deep = c.args.deep in
    let none : c.loop-node.nodes.items ≡ [] = nil_from_length c.loop-node.nodes.items (omega (arith, c.in_default.ensures.cases.0)) in
    ap (λ l. flat_map (λ (r : NodeRef). offered deep (element_of root r)) l ++ to_come root deep c.loop-node.left.items) (sym none)
    ∙ c.loop-node.invariant.offers
    ∙ sym (flat-of (offered deep) (element_of root) c.args.contexts.now)
