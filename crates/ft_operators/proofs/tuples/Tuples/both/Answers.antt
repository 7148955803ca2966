-- The node has the frame of both sides together, and the memory of both is enough for its hits.
use Rattle.std.proofs.Common.{◌∙◌, ap, arith}
use Rattle.ft_operators.specs.Walk.{before_first, nowhere}
use Rattle.ft_operators.proofs.tuples.Tuples.both.Goals as goal

pub unaimed-requires-clause-fits : goal.unaimed-requires-clause-fits
unaimed-requires-clause-fits g c =
    let room = ap (λ s. s.room) c.in_ok-node.ensures.shaped in
    let left = c.args.left.fits in
    let right = c.args.right.fits in
    omega (arith, c.in-Ok.ensures)

pub unaimed-requires-clause-filters : goal.unaimed-requires-clause-filters
unaimed-requires-clause-filters g c =
    let filters = ap (λ s. s.filters) c.in_ok-node.ensures.shaped in
    let left = c.args.left.filters in
    let right = c.args.right.filters in
    omega (arith, c.wider.ensures.filters)

pub unaimed-requires-clause-hits : goal.unaimed-requires-clause-hits
unaimed-requires-clause-hits g c =
    let hits = ap (λ s. s.hits) c.in_ok-node.ensures.shaped in
    let left = c.args.left.hits in
    let right = c.args.right.hits in
    omega (arith, c.wider.ensures.hits)

pub returns : goal.returns
returns g c = c.unaimed.ensures ∙ ap (λ f. before_first nowhere f.aims f.operator) c.in_ok-node.ensures.framed
