-- The filters after the number keep the hit, so that those before it decide.
use Rattle.std.proofs.Common.{◌≡◌, ◌≤◌, length, take, reverse}
use Rattle.all_matches.specs.Chain.{kept_by}
use Rattle.ft_operators.specs.Chains.{links_from, links_of}
use Rattle.ft_operators.proofs.chain.Chain.keeps.Given as goal

abbrev pub invariant-loop-number : goal.invariant-loop-number
invariant-loop-number l = record {
  below : l.number ≤ length l.self.links.items;
  passed : kept_by (links_from l.hits (reverse (take l.number l.self.links.items))) l.hit ≡ kept_by (links_of l.self) l.hit;
}

abbrev pub decreases-loop-number : goal.decreases-loop-number
decreases-loop-number l = l.number
