-- The bounds of the last filter are taken, and those of the others are left.
use Rattle.std.proofs.Common.{◌≡◌, ◌∙◌, ap, sym, arith, take, reverse}
use Rattle.ft_operators.specs.Chains.{links_from}
use Rattle.ft_operators.specs.KeptBounds.{chain_bounds}
use Rattle.ft_operators.proofs.ChainLemmas.{bounds_all, bounds_step}
use Rattle.ft_operators.proofs.chain.Chain.bounds.Goals as goal

pub loop-number-preserved : goal.loop-number-preserved
loop-number-preserved c = record {
  below = omega (arith, c.loop-number.invariant.below);
  passed = bounds_step c.args.self.now.links.items c.loop-number.hits.now c.split_at.result.0.now c.split_at.result.1.now c.loop-number.number c.min.result c.index-link.result.now
      c.loop-number-test.true c.loop-number.invariant.below c.index-link.ensures c.min.ensures c.split_at.ensures.front c.split_at.ensures.back c.loop-number.bounds c.kept_bounds-bounds.result c.kept_bounds-bounds.ensures
      ∙ c.loop-number.invariant.passed;
}

pub returns : goal.returns
returns c =
    let none : 0 ≡ c.loop-number.number = omega (arith, c.loop-number-test.false) in
    sym (bounds_all c.loop-number.hits.now c.args.self.now.links.items c.loop-number.bounds)
    ∙ ap (λ n. chain_bounds (links_from c.loop-number.hits.now (reverse (take n c.args.self.now.links.items))) c.loop-number.bounds) none
    ∙ c.loop-number.invariant.passed
