-- The node has the frame of the operand inside it, and the memory of the operand is enough for its hits.
use Rattle.std.proofs.Common.{◌∙◌, ap, arith}
use Rattle.ft_operators.specs.Walk.{before_first, nowhere}
use Rattle.ft_operators.proofs.tuples.Tuples.negated.Goals as goal

pub unaimed-requires-clause-fits : goal.unaimed-requires-clause-fits
unaimed-requires-clause-fits g c =
    let room = ap (λ s. s.room) c.in_ok-node.ensures.shaped in
    let operand = c.args.operand.fits in
    omega arith

pub unaimed-requires-clause-filters : goal.unaimed-requires-clause-filters
unaimed-requires-clause-filters g c =
    let filters = ap (λ s. s.filters) c.in_ok-node.ensures.shaped in
    let operand = c.args.operand.filters in
    omega (arith, ap (λ r. r.filters) c.no_room.ensures)

pub unaimed-requires-clause-hits : goal.unaimed-requires-clause-hits
unaimed-requires-clause-hits g c =
    let hits = ap (λ s. s.hits) c.in_ok-node.ensures.shaped in
    let operand = c.args.operand.hits in
    omega (arith, ap (λ r. r.hits) c.no_room.ensures)

pub returns : goal.returns
returns g c = c.unaimed.ensures ∙ ap (λ f. before_first nowhere f.aims f.operator) c.in_ok-node.ensures.framed
