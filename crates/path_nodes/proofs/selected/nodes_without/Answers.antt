-- What is selected is what the steps lead to, and what it costs.
use Rattle.std.proofs.Common.{◌+◌, ◌≤◌, map, sym, ap, ◌∙◌, subst}
use Rattle.std.specs.List.{All}
use Rattle.ordered_tree.specs.Numbered.{plain}
use Rattle.path_grammar.specs.Form as form
use Rattle.path_grammar.specs.View as view
use Rattle.path_nodes.specs.References.{IsElement, element_of}
use Rattle.path_nodes.specs.Says.{satisfied}
use Rattle.path_nodes.proofs.AlikeLemmas.{selected-alike}
use Rattle.path_nodes.proofs.NamedLemmas.{agrees-there}
use Rattle.path_nodes.proofs.SelectedLemmas.{selected-none, not-empty}
use Rattle.path_nodes.proofs.TestLemmas.{selected-prices}
use Rattle.path_nodes.proofs.selected.nodes_without.Goals as goal

pub returns-then-is_empty-clause-elements : goal.returns-then-is_empty-clause-elements
returns-then-is_empty-clause-elements g c =
    let root = c.args.tree.now.root in
    ap (map (element_of root)) c.new.ensures.items
    ∙ selected-none (satisfied root (g.T.TextTest.meaning c.args.test.now)) (plain root) c.args.steps.now (c.is_empty.ensures.0 c.if-is_empty.true)

pub returns-then-is_empty-clause-agrees : goal.returns-then-is_empty-clause-agrees
returns-then-is_empty-clause-agrees g c = λ satisfies agree.
    let root = c.args.tree.now.root in
    returns-then-is_empty-clause-elements g c
    ∙ selected-alike (satisfied root (g.T.TextTest.meaning c.args.test.now)) satisfies (plain root)
    (agrees-there root c.root-root.ensures.apart (g.T.TextTest.meaning c.args.test.now) satisfies agree) (form.steps (map view.step c.args.steps.now))

pub returns-then-lead_nowhere-clause-elements : goal.returns-then-lead_nowhere-clause-elements
returns-then-lead_nowhere-clause-elements g c =
    let root = c.args.tree.now.root in
    ap (map (element_of root)) c.new-then-lead_nowhere.ensures.items ∙ sym (c.lead_nowhere.ensures c.if-lead_nowhere.true)

pub returns-then-lead_nowhere-clause-agrees : goal.returns-then-lead_nowhere-clause-agrees
returns-then-lead_nowhere-clause-agrees g c = λ satisfies agree.
    let root = c.args.tree.now.root in
    returns-then-lead_nowhere-clause-elements g c
    ∙ selected-alike (satisfied root (g.T.TextTest.meaning c.args.test.now)) satisfies (plain root)
    (agrees-there root c.root-root.ensures.apart (g.T.TextTest.meaning c.args.test.now) satisfies agree) (form.steps (map view.step c.args.steps.now))

pub selected_with-requires-clause-some : goal.selected_with-requires-clause-some
selected_with-requires-clause-some g c = not-empty c.args.steps.now c.is_empty.result c.is_empty.ensures.1 c.if-is_empty.false

pub returns-clause-elements : goal.returns-clause-elements
returns-clause-elements g c = ap (map (element_of c.args.tree.now.root)) c.into_vec.ensures ∙ c.in_ok-found.ensures.elements.are

pub returns-clause-agrees : goal.returns-clause-agrees
returns-clause-agrees g c = λ satisfies agree.
    let root = c.args.tree.now.root in
    returns-clause-elements g c
    ∙ selected-alike (satisfied root (g.T.TextTest.meaning c.args.test.now)) satisfies (plain root)
    (agrees-there root c.root-root.ensures.apart (g.T.TextTest.meaning c.args.test.now) satisfies agree) (form.steps (map view.step c.args.steps.now))

pub returns-clause-there : goal.returns-clause-there
returns-clause-there g c = subst (All (IsElement c.args.tree.now.root)) (sym c.into_vec.ensures) c.in_ok-found.ensures.elements.there

pub returns-in_err-found-clause-costs : goal.returns-in_err-found-clause-costs
returns-in_err-found-clause-costs g c = λ satisfies price agree costs.
    subst (λ n. g.T.TextTest.cost c.selected_with.new.test ≤ g.T.TextTest.cost c.args.test.now + n)
    (selected-prices c.args.tree.now.root (g.T.TextTest.meaning c.args.test.now) satisfies price c.root-root.ensures.apart agree costs (form.steps (map view.step c.args.steps.now)))
    c.selected_with.ensures.cost

pub returns-clause-costs : goal.returns-clause-costs
returns-clause-costs g c = λ satisfies price agree costs.
    subst (λ n. g.T.TextTest.cost c.selected_with.new.test ≤ g.T.TextTest.cost c.args.test.now + n)
    (selected-prices c.args.tree.now.root (g.T.TextTest.meaning c.args.test.now) satisfies price c.root-root.ensures.apart agree costs (form.steps (map view.step c.args.steps.now)))
    c.selected_with.ensures.cost
