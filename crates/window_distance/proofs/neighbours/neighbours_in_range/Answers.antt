-- The walk from place to place.
use Rattle.std.proofs.Common.{◌∙◌, refl, sym}
use Rattle.window_distance.proofs.NeighbourLemmas.{found, walk_starts, walk_stops, walk_goes_on}
use Rattle.window_distance.proofs.neighbours.neighbours_in_range.Goals as goal

pub loop-next-init : goal.loop-next-init
loop-next-init c = walk_starts c.args.range c.args.unit c.args.hits.now

pub returns-then-not-all_follow : goal.returns-then-not-all_follow
returns-then-not-all_follow c =
    walk_stops c.args.range c.args.unit c.loop-next.place c.loop-next.last c.args.hits.now c.loop-next.invariant c.in-Some.next
    (sym c.in-Some.is ∙ c.first_after.ensures) (sym c.if-not-all_follow.true ∙ c.all_follow.ensures.followed)

pub loop-next-smaller : goal.loop-next-smaller
loop-next-smaller c = (found c.loop-next.place c.args.hits.now c.in-Some.next (sym c.in-Some.is ∙ c.first_after.ensures)).fewer

pub loop-next-preserved : goal.loop-next-preserved
loop-next-preserved c =
    walk_goes_on c.args.range c.args.unit c.loop-next.place c.loop-next.last c.args.hits.now c.loop-next.invariant c.in-Some.next c.all_follow.new.last
    (sym c.in-Some.is ∙ c.first_after.ensures) (sym c.if-not-all_follow.false ∙ c.all_follow.ensures.followed) (c.if-not-all_follow.ensures.last refl)
