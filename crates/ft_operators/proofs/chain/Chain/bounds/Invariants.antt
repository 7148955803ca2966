-- The filters that are left make of the bounds so far what all make.
use Rattle.std.proofs.Common.{◌≡◌, ◌≤◌, length, take, reverse}
use Rattle.ft_operators.specs.Bounds.{everywhere}
use Rattle.ft_operators.specs.Chains.{links_from, links_of}
use Rattle.ft_operators.specs.KeptBounds.{chain_bounds}
use Rattle.ft_operators.proofs.chain.Chain.bounds.Given as goal

abbrev pub invariant-loop-number : goal.invariant-loop-number
invariant-loop-number l = record {
  below : l.number ≤ length l.self.links.items;
  passed : chain_bounds (links_from l.hits (reverse (take l.number l.self.links.items))) l.bounds ≡ chain_bounds (links_of l.self) everywhere;
}

abbrev pub decreases-loop-number : goal.decreases-loop-number
decreases-loop-number l = l.number
