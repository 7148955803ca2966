-- Each call goes into an operand, or helps at the same node.
use Rattle.std.proofs.Common.{◌+◌, ◌*◌}
use Rattle.ft_operators.specs.steps.Nodes.{frame_of}
use Rattle.ft_operators.proofs.aiming.+aim.Given as goal

abbrev pub decreases-aim_node : goal.decreases-aim_node
decreases-aim_node g l = 2 * (frame_of g.P.PhraseHits.state l.node.now).shape.weight

abbrev pub decreases-aim_fork : goal.decreases-aim_fork
decreases-aim_fork g l = 2 * ((frame_of g.P.PhraseHits.state l.fork.now.left).shape.weight + (frame_of g.P.PhraseHits.state l.fork.now.right).shape.weight) + 1

abbrev pub decreases-aim_pair : goal.decreases-aim_pair
decreases-aim_pair g l = 2 * ((frame_of g.P.PhraseHits.state l.pair.now.left).shape.weight + (frame_of g.P.PhraseHits.state l.pair.now.right).shape.weight) + 1

abbrev pub decreases-aim_negation : goal.decreases-aim_negation
decreases-aim_negation g l = 2 * (frame_of g.P.PhraseHits.state l.negation.now.operand).shape.weight + 1

abbrev pub decreases-aim_sieve : goal.decreases-aim_sieve
decreases-aim_sieve g l = 2 * (frame_of g.P.PhraseHits.state l.sieve.now.operand).shape.weight + 1
