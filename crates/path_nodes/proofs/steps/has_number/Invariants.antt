-- Whether one of the rest is a number is whether one of all is.
use Rattle.std.proofs.Common.{◌≡◌, drop, map}
use Rattle.path_grammar.specs.Form as form
use Rattle.path_grammar.specs.View as view
use Rattle.path_nodes.specs.steps.Kept.{some_number, has_number}
use Rattle.path_nodes.proofs.steps.has_number.Given as goal

abbrev pub invariant-loop-predicate : goal.invariant-loop-predicate
invariant-loop-predicate l = some_number (form.predicates (map view.predicate (drop l.predicate-index l.predicate-items))) ≡ has_number (view.step l.fn.step)
