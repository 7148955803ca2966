-- The ways that were passed before the present one have no way through the filter. Each call goes into an operand, or helps at the same node.
use Rattle.std.proofs.Common.{◌+◌, ◌*◌, length, vec_capacity}
use Rattle.ft_operators.specs.Course.{course_inside, without_bounds}
use Rattle.ft_operators.specs.steps.Apart.{Sifting, Trying}
use Rattle.ft_operators.specs.steps.Nodes.{shape_of, standing}
use Rattle.ft_operators.specs.steps.Pairs.{Pairing}
use Rattle.ft_operators.specs.steps.Walking.{Settling}
use Rattle.ft_operators.proofs.walking.+walk.Given as goal

abbrev pub invariant-settle-loop-there : goal.invariant-settle-loop-there
invariant-settle-loop-there g l =
    let state = g.P.PhraseHits.state in
    Settling l.course l.fn.sieve.kind (standing state (course_inside l.fn.sieve.kind l.course) l.fn.sieve.operand) (standing state (course_inside l.sieve.kind l.course) l.sieve.operand) (vec_capacity l.fn.held) (vec_capacity l.held) l.fn.steps l.steps l.there l.sieve.kind l.sieve.lead

abbrev pub decreases-settle-loop-there : goal.decreases-settle-loop-there
decreases-settle-loop-there g l = length ((standing g.P.PhraseHits.state (course_inside l.sieve.kind l.course) l.sieve.operand).rest)

abbrev pub decreases-first : goal.decreases-first
decreases-first g l = 4 * (shape_of l.node.now).weight

abbrev pub decreases-go_on : goal.decreases-go_on
decreases-go_on g l = 4 * (shape_of l.node.now).weight

abbrev pub decreases-first_of_fork : goal.decreases-first_of_fork
decreases-first_of_fork g l =
    4 * ((shape_of l.fork.now.left).weight + (shape_of l.fork.now.right).weight) + 1

abbrev pub decreases-next_of_fork : goal.decreases-next_of_fork
decreases-next_of_fork g l =
    4 * ((shape_of l.fork.now.left).weight + (shape_of l.fork.now.right).weight) + 1

abbrev pub decreases-first_of_pair : goal.decreases-first_of_pair
decreases-first_of_pair g l = 4 * ((shape_of l.pair.now.left).weight + (shape_of l.pair.now.right).weight) + 2

abbrev pub decreases-next_of_pair : goal.decreases-next_of_pair
decreases-next_of_pair g l = 4 * ((shape_of l.pair.now.left).weight + (shape_of l.pair.now.right).weight) + 2

abbrev pub decreases-settle_pair : goal.decreases-settle_pair
decreases-settle_pair g l = 4 * ((shape_of l.pair.now.left).weight + (shape_of l.pair.now.right).weight) + 1

abbrev pub decreases-first_of_sieve : goal.decreases-first_of_sieve
decreases-first_of_sieve g l = 4 * (shape_of l.sieve.now.operand).weight + 2

abbrev pub decreases-next_of_sieve : goal.decreases-next_of_sieve
decreases-next_of_sieve g l = 4 * (shape_of l.sieve.now.operand).weight + 2

abbrev pub decreases-settle : goal.decreases-settle
decreases-settle g l = 4 * (shape_of l.sieve.now.operand).weight + 1

abbrev pub decreases-first_apart : goal.decreases-first_apart
decreases-first_apart g l =
    4 * ((shape_of l.pair.now.left).weight + (shape_of l.pair.now.right).weight) + 3

abbrev pub decreases-next_apart : goal.decreases-next_apart
decreases-next_apart g l =
    4 * ((shape_of l.pair.now.left).weight + (shape_of l.pair.now.right).weight) + 3

abbrev pub decreases-settle_apart : goal.decreases-settle_apart
decreases-settle_apart g l =
    4 * ((shape_of l.pair.now.left).weight + (shape_of l.pair.now.right).weight) + 2

abbrev pub decreases-is_admitted : goal.decreases-is_admitted
decreases-is_admitted g l =
    4 * ((shape_of l.pair.now.left).weight + (shape_of l.pair.now.right).weight) + 1

abbrev pub invariant-settle_apart-loop-there : goal.invariant-settle_apart-loop-there
invariant-settle_apart-loop-there g l =
    let at = standing g.P.PhraseHits.state l.course in
    let all = standing g.P.PhraseHits.state (without_bounds l.course) in
    Sifting l.course (at l.fn.pair.left) (all l.fn.pair.right) (at l.pair.left) (all l.pair.right) (vec_capacity l.fn.held) (vec_capacity l.held) l.fn.steps l.steps l.there

abbrev pub decreases-settle_apart-loop-there : goal.decreases-settle_apart-loop-there
decreases-settle_apart-loop-there g l = length ((standing g.P.PhraseHits.state l.course l.pair.left).rest)

abbrev pub invariant-is_admitted-loop-there : goal.invariant-is_admitted-loop-there
invariant-is_admitted-loop-there g l =
    let at = standing g.P.PhraseHits.state l.fn.course in
    let beside = standing g.P.PhraseHits.state l.beside in
    Trying l.beside (at l.fn.pair.left) (beside l.fn.pair.right) (at l.pair.left) (beside l.pair.right) (vec_capacity l.fn.held) (vec_capacity l.held) l.fn.steps l.steps l.tried l.there

abbrev pub decreases-is_admitted-loop-there : goal.decreases-is_admitted-loop-there
decreases-is_admitted-loop-there g l = length ((standing g.P.PhraseHits.state l.beside l.pair.right).rest)

abbrev pub invariant-settle_pair-loop-there : goal.invariant-settle_pair-loop-there
invariant-settle_pair-loop-there g l =
    let at = standing g.P.PhraseHits.state l.course in
    Pairing l.course (at l.fn.pair.left) (at l.fn.pair.right) (at l.pair.left) (at l.pair.right) (vec_capacity l.fn.held) (vec_capacity l.held) l.fn.steps l.steps l.there

abbrev pub decreases-settle_pair-loop-there : goal.decreases-settle_pair-loop-there
decreases-settle_pair-loop-there g l = length ((standing g.P.PhraseHits.state l.course l.pair.left).rest)
