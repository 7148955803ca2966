-- The test that is lent comes back, and is given no holes.
use Rattle.std.proofs.Common.{sym, ◌∙◌, rules, true≢false}
use Rattle.path_nodes.specs.Prices.{price_of}
use Rattle.path_nodes.proofs.LentLemmas.{same-loan, same-test}
use Rattle.path_nodes.proofs.selected.nodes.Goals as goal

pub nodes_without-requires-clause-given : goal.nodes_without-requires-clause-given
nodes_without-requires-clause-given g c = λ has. absurd (true≢false (sym has ∙ c.requires.plain))

pub returns-clause-meaning : goal.returns-clause-meaning
returns-clause-meaning g c =
    let loan = same-loan _ _ _ _ c.nodes_without.ensures.meaning in
    let test = same-test _ _ _ _ c.nodes_without.ensures.meaning in
    search rules

pub returns-clause-cost : goal.returns-clause-cost
unfolding price_of
returns-clause-cost g c =
    let loan = same-loan _ _ _ _ c.nodes_without.ensures.meaning in
    search rules

pub returns-clause-costs : goal.returns-clause-costs
returns-clause-costs g c =
    let loan = same-loan _ _ _ _ c.nodes_without.ensures.meaning in
    search rules
