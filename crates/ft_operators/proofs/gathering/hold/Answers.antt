-- Nothing is held when the includes are put.
use Rattle.ft_operators.specs.steps.Nodes.{standing}
use Rattle.ft_operators.proofs.GatherLemmas.{gathered_alone}
use Rattle.ft_operators.proofs.gathering.hold.Goals as goal

pub returns-then-there : goal.returns-then-there
returns-then-there g c course =
    gathered_alone c.args.there (standing g.P.PhraseHits.state course c.args.node.now) _ _ _ _ _ c.clear.ensures.items c.clear.ensures.capacity (c.gather.ensures course)
