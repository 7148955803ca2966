-- There is nothing in the memory that was taken.
use Rattle.std.proofs.Common.{◌∙◌, ap, arith, length, reverse}
use Rattle.ft_operators.specs.Chains.{links_from}
use Rattle.ft_operators.proofs.ChainLemmas.{no_links}
use Rattle.ft_operators.proofs.chain.Chain.open.Goals as goal

pub returns : goal.returns
returns c =
    let links = ap length c.in_ok-links.ensures.items in
    let hits = ap length c.in_ok-hits.ensures.items in
    record {
      none = ap (λ ls. links_from c.in_ok-hits.hits.items (reverse ls)) c.in_ok-links.ensures.items ∙ no_links c.in_ok-hits.hits.items;
      filters = omega (arith, links, c.in_ok-links.ensures.capacity);
      hits = omega (arith, hits, c.in_ok-hits.ensures.capacity);
    }
