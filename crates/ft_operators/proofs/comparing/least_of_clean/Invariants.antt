-- What is kept and the ways that are left have the least of all ways.
use Rattle.std.proofs.Common.{length, vec_capacity}
use Rattle.all_matches.specs.Chain.{kept_by}
use Rattle.all_matches.specs.Ways.{clean_under}
use Rattle.ft_operators.specs.Chains.{links_of}
use Rattle.ft_operators.specs.steps.Comparing.{Comparing}
use Rattle.ft_operators.specs.steps.Nodes.{standing}
use Rattle.ft_operators.proofs.comparing.least_of_clean.Given as goal

abbrev pub invariant-loop-there : goal.invariant-loop-there
invariant-loop-there g l =
    let at = standing g.P.PhraseHits.state l.course in
    Comparing l.course (clean_under (kept_by (links_of l.fn.chain))) (at l.fn.node) (at l.node) l.fn.chain l.chain (vec_capacity l.fn.held) (vec_capacity l.held) l.fn.steps l.steps l.in_order l.there l.any l.least.items

abbrev pub decreases-loop-there : goal.decreases-loop-there
decreases-loop-there g l = length ((standing g.P.PhraseHits.state l.course l.node).rest)
