-- The test may be asked for every selection and node, and a path that asks for nothing without content says so.
use Rattle.std.proofs.Common.{refl, sym, ap, ◌∙◌}
use Rattle.path_grammar.specs.Without.{has_without}
use Rattle.path_nodes.proofs.AskedLemmas.{of-all}
use Rattle.session_tests.proofs.asked_elements.led_by.Goals as goal

pub nodes_without-requires-clause-given : goal.nodes_without-requires-clause-given
nodes_without-requires-clause-given c = λ has. refl

pub nodes_without-requires-clause-asked : goal.nodes_without-requires-clause-asked
nodes_without-requires-clause-asked c = of-all _ (λ k r x. (refl, c.node_law.ensures.element _ r x)) _

pub nodes-requires-clause-plain : goal.nodes-requires-clause-plain
nodes-requires-clause-plain c = ap has_without c.steps-steps.ensures ∙ (sym c.has_without.ensures ∙ c.if-has_without.false)

pub nodes-requires-clause-asked : goal.nodes-requires-clause-asked
nodes-requires-clause-asked c = of-all _ (λ k r x. (refl, c.node_law.ensures.element _ r x)) _
