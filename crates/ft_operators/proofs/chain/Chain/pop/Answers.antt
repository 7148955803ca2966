-- The innermost filter goes with its includes, and there is one.
use Rattle.std.proofs.Common.{◌≡◌, ◌∙◌, ap, arith, length, reverse}
use Rattle.ft_operators.specs.Chains.{links_from}
use Rattle.ft_operators.proofs.ChainLemmas.{none_popped, links_popped, hits_popped}
use Rattle.ft_operators.proofs.chain.Chain.pop.Goals as goal

pub returns-in-Some-clause-links : goal.returns-in-Some-clause-links
returns-in-Some-clause-links c =
    let self = c.args.self.now in
    ap (λ hits. links_from hits (reverse c.pop.new.self.items)) c.truncate.ensures.items
    ∙ links_popped self.links.items c.pop.new.self.items self.hits.items c.in-Some.link c.in-Some.ensures.items

pub returns-in-Some-clause-hits : goal.returns-in-Some-clause-hits
returns-in-Some-clause-hits c =
    let self = c.args.self.now in
    let left = ap length c.truncate.ensures.items in
    omega (arith, left, c.truncate.ensures.capacity, self.hits.ok, hits_popped self.links.items c.pop.new.self.items self.hits.items c.in-Some.link c.in-Some.ensures.items)

pub returns-in-None-clause-links : goal.returns-in-None-clause-links
returns-in-None-clause-links c =
    let self = c.args.self.now in
    let none : length self.links.items ≡ 0 = omega (arith, c.in-None.ensures.cases, self.links.ok.0) in
    none_popped self.links.items self.hits.items none c.requires

pub returns-in-None-clause-filters : goal.returns-in-None-clause-filters
returns-in-None-clause-filters c =
    let self = c.args.self.now in
    let none : length self.links.items ≡ 0 = omega (arith, c.in-None.ensures.cases, self.links.ok.0) in
    none_popped self.links.items self.hits.items none c.requires

pub returns-in-None-clause-hits : goal.returns-in-None-clause-hits
returns-in-None-clause-hits c =
    let self = c.args.self.now in
    let none : length self.links.items ≡ 0 = omega (arith, c.in-None.ensures.cases, self.links.ok.0) in
    none_popped self.links.items self.hits.items none c.requires
