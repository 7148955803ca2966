-- What is still to come suffices; it is no more than at first.
use Rattle.std.proofs.Common.{◌≤◌, All, filter, map}
use Rattle.path_grammar.specs.Form as form
use Rattle.path_grammar.specs.View.{predicate}
use Rattle.path_meaning.specs.Meaning.{is_named}
use Rattle.path_nodes.specs.steps.Offered.{IsStop, to_come}
use Rattle.path_nodes.specs.steps.RuledOut.{KeepNothing, Suffice}
use Rattle.path_nodes.specs.steps.Weights.{weights_at}
use Rattle.path_nodes.proofs.offering.Offering.next.Given as goal

abbrev pub invariant-loop-stop : goal.invariant-loop-stop
invariant-loop-stop g l = record {
  elements : Suffice l.tree.root (g.T.TextTest.meaning l.test) (form.predicates (map predicate l.step.predicates))
      (filter (λ e. is_named l.name e.node) (to_come l.tree.root l.step.deep l.self.left.items))
      (filter (λ e. is_named l.name e.node) (to_come l.tree.root l.step.deep l.fn.self.left.items));
  left : All (IsStop l.tree.root) l.self.left.items;
  fewer : weights_at l.tree.root l.self.left.items ≤ weights_at l.tree.root l.fn.self.left.items;
  stretch : KeepNothing l.tree.root (g.T.TextTest.meaning l.test) l.self.stretch.from l.self.stretch.to (form.predicates (map predicate l.step.predicates));
}

abbrev pub decreases-loop-stop : goal.decreases-loop-stop
decreases-loop-stop g l = weights_at l.tree.root l.self.left.items
