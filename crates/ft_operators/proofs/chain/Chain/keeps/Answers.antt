-- A filter that doesn't keep the hit settles it; one that does leaves those round it.
use Rattle.std.proofs.Common.{◌≡◌, ◌∙◌, ap, sym, arith, take, reverse}
use Rattle.all_matches.specs.Chain.{kept_by}
use Rattle.ft_operators.specs.Chains.{links_from}
use Rattle.ft_operators.proofs.ChainLemmas.{kept_no, kept_yes, kept_all}
use Rattle.ft_operators.proofs.chain.Chain.keeps.Goals as goal

pub returns-then-not-keeps_within : goal.returns-then-not-keeps_within
returns-then-not-keeps_within c =
    kept_no c.args.self.now.links.items c.loop-number.hits.now c.split_at.result.0.now c.split_at.result.1.now c.args.hit.now c.loop-number.number c.min.result c.index-link.result.now
    c.loop-number-test.true c.loop-number.invariant.below c.index-link.ensures c.min.ensures c.split_at.ensures.front c.split_at.ensures.back
    (sym c.keeps_within.ensures ∙ c.if-not-keeps_within.true)
    ∙ c.loop-number.invariant.passed

pub loop-number-preserved : goal.loop-number-preserved
loop-number-preserved c = record {
  below = omega (arith, c.loop-number.invariant.below);
  passed = kept_yes c.args.self.now.links.items c.loop-number.hits.now c.split_at.result.0.now c.split_at.result.1.now c.args.hit.now c.loop-number.number c.min.result c.index-link.result.now
      c.loop-number-test.true c.loop-number.invariant.below c.index-link.ensures c.min.ensures c.split_at.ensures.front c.split_at.ensures.back
      (sym c.keeps_within.ensures ∙ c.if-not-keeps_within.false)
      ∙ c.loop-number.invariant.passed;
}

pub returns : goal.returns
returns c =
    let none : 0 ≡ c.loop-number.number = omega (arith, c.loop-number-test.false) in
    kept_all c.loop-number.hits.now c.args.hit.now c.args.self.now.links.items
    ∙ ap (λ n. kept_by (links_from c.loop-number.hits.now (reverse (take n c.args.self.now.links.items))) c.args.hit.now) none
    ∙ c.loop-number.invariant.passed
