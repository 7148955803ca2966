-- Of the ways that were passed over some include is not kept.
use Rattle.std.proofs.Common.{length, vec_capacity}
use Rattle.std.specs.Prelude.{⊤}
use Rattle.all_matches.specs.Chain.{kept_by}
use Rattle.ft_operators.specs.Chains.{all_kept, links_of}
use Rattle.ft_operators.specs.steps.Cleaning.{Searching}
use Rattle.ft_operators.specs.steps.Nodes.{standing}
use Rattle.ft_operators.proofs.cleaning.some_is_kept.Given as goal

abbrev pub invariant-loop-there : goal.invariant-loop-there
invariant-loop-there g l =
    let at = standing g.P.PhraseHits.state l.course in
    Searching l.course ⊤ (all_kept (kept_by (links_of l.chain))) (at l.fn.node) (at l.node) (vec_capacity l.fn.held) (vec_capacity l.held) l.fn.steps l.steps l.there

abbrev pub decreases-loop-there : goal.decreases-loop-there
decreases-loop-there g l = length ((standing g.P.PhraseHits.state l.course l.node).rest)
