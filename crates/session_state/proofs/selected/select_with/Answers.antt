-- The test may be asked for each selection that the steps name, and what it was lent comes back.
use Rattle.std.proofs.Common.{rules, refl, ◌≡◌, ℕ, true, cond, ◌<◌, ap, sym, ◌∙◌, length, map, arith, IsTrue}
use Rattle.ft_base.specs.declared.ids.NodeRef.{NodeRef}
use Rattle.path_grammar.specs.Form.{steps}
use Rattle.path_grammar.specs.View.{step}
use Rattle.ordered_tree.specs.Numbered.{plain}
use Rattle.ordered_tree.specs.Stands.{OnNode, span}
use Rattle.path_nodes.specs.References.{IsElement, element_of}
use Rattle.session_state.specs.PathPrices.{are_cheap, element_price}
use Rattle.session_state.specs.PlannedPaths.{is_meant, meant, planned_price, run_meant, run_price}
use Rattle.session_state.specs.SelectionTests.{may_ask, span_at, where_cheap}
use Rattle.session_state.proofs.PathLemmas.{asked-weaker}
use Rattle.session_state.proofs.SelectionTestLemmas.{as-many, may-asked, moves-loan, runs-loan}
use Rattle.session_state.proofs.selected.select_with.Goals as goal

pub nodes_without-requires-clause-given : goal.nodes_without-requires-clause-given
nodes_without-requires-clause-given g c = λ has. refl

pub nodes_without-requires-clause-asked : goal.nodes_without-requires-clause-asked
nodes_without-requires-clause-asked g c =
    let root = c.tree-tree.result.now.root in
    let runs = g.B.Loan.runs in
    let count = as-many c.args.path.now.plans.now c.args.runs.now c.requires.runs ∙ ap length c.requires.lent_runs in
    asked-weaker (λ k. k < length c.args.path.now.plans.now) (λ k. (r : NodeRef) → IsElement root r → IsTrue (may_ask runs root k r) × OnNode root r (λ s. span_at root r ≡ span s))
    (λ k less r e. (may-asked runs root k (omega (arith, less, count)) r e, c.node_law.ensures.element root r e)) (steps (map step c.args.path.now.steps.now)) c.requires.plans

pub returns-clause-runs : goal.returns-clause-runs
returns-clause-runs g c =
    let same = runs-loan g.J.Judge.says g.B.Loan.abbreviations g.B.Loan.runs _ _ _ _ _ _ c.nodes_without.ensures.meaning in
    search rules

pub returns-clause-moves : goal.returns-clause-moves
returns-clause-moves g c =
    let same = moves-loan g.J.Judge.says g.B.Loan.abbreviations g.B.Loan.runs _ _ _ _ _ _ c.nodes_without.ensures.meaning in
    search rules

pub returns-clause-price : goal.returns-clause-price
returns-clause-price g c cheap =
    let says = g.J.Judge.says in
    let abbreviations = g.B.Loan.abbreviations in
    let path = c.args.path.now in
    let runs = g.B.Loan.runs in
    let root = c.tree-tree.result.now.root in
    let plans = map meant path.plans.now in
    let meant_same : map run_meant runs ≡ plans = ap (map run_meant) (sym c.requires.lent_runs) ∙ c.requires.runs in
    let all : are_cheap (map run_meant runs) ≡ true = ap are_cheap meant_same ∙ cheap in
    let prices = element_price (map run_price runs) in
    let counted : (n : ℕ) → where_cheap runs n ≡ n = λ n. ap (λ b. cond b n 0) all in
    let bound = rw all at (c.nodes_without.ensures.costs (is_meant says abbreviations plans) prices (λ k ignored r all e. ap (λ ms. is_meant says abbreviations ms k (map (element_of root) ignored) (element_of root r)) meant_same) (λ k r e. counted (prices k (element_of root r)))) in
    let there = ap (λ t. planned_price says abbreviations path runs (plain t.root)) c.tree-tree.ensures.tree in
    let lent = ap (λ rs. planned_price says abbreviations path rs (plain c.args.document.now.tree.root)) c.requires.lent_runs in
    let same = moves-loan says abbreviations runs _ _ _ _ _ _ c.nodes_without.ensures.meaning in
    search rules
