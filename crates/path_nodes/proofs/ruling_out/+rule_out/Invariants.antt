-- What is ruled out up to the place that was found so far.
use Rattle.std.proofs.Common.{All, map, take}
use Rattle.path_grammar.specs.Form as form
use Rattle.path_grammar.specs.View as view
use Rattle.path_nodes.specs.steps.RuledOut.{IsFalse, KeepNothing, LeadNowhere}
use Rattle.path_nodes.proofs.ruling_out.+rule_out.Given as goal

abbrev pub invariant-skip_steps-loop-step : goal.invariant-skip_steps-loop-step
invariant-skip_steps-loop-step g l = LeadNowhere l.tree.root (g.T.TextTest.meaning l.test) l.from l.place (form.steps (map view.step l.fn.steps))

abbrev pub invariant-skip_predicates-loop-predicate : goal.invariant-skip_predicates-loop-predicate
invariant-skip_predicates-loop-predicate g l =
    KeepNothing l.tree.root (g.T.TextTest.meaning l.test) l.from l.place (form.predicates (map view.predicate l.fn.predicates))

abbrev pub invariant-skip_all-loop-condition : goal.invariant-skip_all-loop-condition
invariant-skip_all-loop-condition g l =
    All (λ c. IsFalse l.tree.root (g.T.TextTest.meaning l.test) l.from l.place (view.condition c)) (take l.condition-index l.condition-items)

abbrev pub invariant-skip_one-loop-condition : goal.invariant-skip_one-loop-condition
invariant-skip_one-loop-condition g l =
    IsFalse l.tree.root (g.T.TextTest.meaning l.test) l.from l.place (form.and_of (form.conditions (map view.condition l.fn.conditions)))
