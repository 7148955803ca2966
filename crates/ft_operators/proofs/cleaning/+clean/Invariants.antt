-- Each call goes into an operand, or helps at the same node.
use Rattle.std.proofs.Common.{◌+◌, ◌*◌}
use Rattle.ft_operators.specs.steps.Nodes.{shape_of}
use Rattle.ft_operators.proofs.cleaning.+clean.Given as goal

abbrev pub decreases-is_clean : goal.decreases-is_clean
decreases-is_clean g l = 2 * (shape_of l.node.now).weight

abbrev pub decreases-fork_is_clean : goal.decreases-fork_is_clean
decreases-fork_is_clean g l =
    2 * ((shape_of l.fork.now.left).weight + (shape_of l.fork.now.right).weight) + 1

abbrev pub decreases-pair_is_clean : goal.decreases-pair_is_clean
decreases-pair_is_clean g l =
    2 * ((shape_of l.pair.now.left).weight + (shape_of l.pair.now.right).weight) + 1

abbrev pub decreases-apart_is_clean : goal.decreases-apart_is_clean
decreases-apart_is_clean g l =
    2 * ((shape_of l.pair.now.left).weight + (shape_of l.pair.now.right).weight) + 1

abbrev pub decreases-sieve_is_clean : goal.decreases-sieve_is_clean
decreases-sieve_is_clean g l = 2 * (shape_of l.sieve.now.operand).weight + 1
