-- One of the parts that are left asks for text without content where one of all does.
use Rattle.std.proofs.Common.{◌≡◌, map, drop}
use Rattle.path_grammar.specs.Form as form
use Rattle.path_grammar.specs.View as view
use Rattle.path_grammar.specs.Without.{has_without, predicates_have, conditions_have}
use Rattle.path_subset.proofs.without.+without.Given as goal

abbrev pub invariant-some_step-loop-step : goal.invariant-some_step-loop-step
invariant-some_step-loop-step l = has_without (form.steps (map view.step (drop l.step-index l.step-items))) ≡ has_without (form.steps (map view.step l.step-items))

abbrev pub invariant-some_predicate-loop-predicate : goal.invariant-some_predicate-loop-predicate
invariant-some_predicate-loop-predicate l = predicates_have (form.predicates (map view.predicate (drop l.predicate-index l.predicate-items))) ≡ predicates_have (form.predicates (map view.predicate l.predicate-items))

abbrev pub invariant-some_condition-loop-condition : goal.invariant-some_condition-loop-condition
invariant-some_condition-loop-condition l = conditions_have (form.conditions (map view.condition (drop l.condition-index l.condition-items))) ≡ conditions_have (form.conditions (map view.condition l.condition-items))
