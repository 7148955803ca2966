-- One hit further.
use Rattle.std.proofs.Common.{◌+◌, drop}
use Rattle.window_distance.proofs.CoverLemmas.{Covering, next_covering}
use Rattle.window_distance.proofs.covering.end_of_cover.Goals as goal

pub loop-hit-preserved : goal.loop-hit-preserved
loop-hit-preserved c =
    let hits = c.args.hits.now in
    let known : Covering hits (drop c.loop-hit.hit-index hits) c.args.place c.loop-hit.end =
    record { within = c.loop-hit.invariant.within; moved = c.loop-hit.invariant.moved; covered = c.loop-hit.invariant.covered } in
    let next : Covering hits (drop (c.loop-hit.hit-index + 1) hits) c.args.place c.end_with-end.result =
    next_covering hits c.loop-hit.hit-index _ c.args.place c.loop-hit.end c.end_with-end.result c.loop-hit-test.true c.end_with-end.ensures known in
    record { within = next.within; moved = next.moved; covered = next.covered }
