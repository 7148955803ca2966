-- The includes of the filter stand after those of the others.
use Rattle.std.proofs.Common.{◌≡◌, ◌∙◌, ◌++◌, ap, arith, length}
use Rattle.ft_operators.proofs.ChainLemmas.{pushed}
use Rattle.ft_operators.proofs.chain.Chain.push.Goals as goal

pub returns-clause-links : goal.returns-clause-links
returns-clause-links c =
    let self = c.args.self.now in
    let put = c.put_all.ensures.hits ∙ ap (λ hits. self.hits.items ++ hits) c.hits.ensures.hits in
    let at : c.len.result ≡ length self.hits.items = omega (arith, c.len.ensures, self.hits.ok.0) in
    pushed self.links.items _ self.hits.items _ c.args.includes.now (record { kind = c.args.filter.now; window = c.args.window; start = c.len.result }) c.push_reserved.ensures.items put at
