-- None of the first ones satisfies the selection; what was spent, and the price of the rest, are no more than the price of all.
use Rattle.std.proofs.Common.{◌≡◌, map, drop}
use Rattle.std.specs.List.{list_any}
use Rattle.path_nodes.specs.Prices.{price_of}
use Rattle.path_nodes.specs.References.{element_of}
use Rattle.path_nodes.specs.Says.{satisfied}
use Rattle.path_nodes.specs.steps.Found.{SpendsOf}
use Rattle.path_meaning.specs.Tests.{each_tested}
use Rattle.path_nodes.proofs.evaluation.Evaluation.some_contains.Given as goal

abbrev pub invariant-loop-node : goal.invariant-loop-node
invariant-loop-node g l = record {
  left : list_any (satisfied g.G.Ground.root g.G.Ground.meaning l.selection (map (element_of g.G.Ground.root) l.holes)) (map (element_of g.G.Ground.root) (drop l.node-index l.node-items))
      ≡ list_any (satisfied g.G.Ground.root g.G.Ground.meaning l.selection (map (element_of g.G.Ground.root) l.holes)) (map (element_of g.G.Ground.root) l.fn.nodes);
  cost : SpendsOf g.T.TextTest.cost l.fn.self.test l.self.test
      (price_of g.G.Ground.root g.G.Ground.meaning (each_tested l.selection (map (element_of g.G.Ground.root) (drop l.node-index l.node-items))))
      (price_of g.G.Ground.root g.G.Ground.meaning (each_tested l.selection (map (element_of g.G.Ground.root) l.fn.nodes)));
}
