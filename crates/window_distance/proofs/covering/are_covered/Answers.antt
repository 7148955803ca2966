-- The words up to the end are covered, so that those from it on decide.
use Rattle.std.proofs.Common.{◌∙◌}
use Rattle.window_distance.proofs.CoverLemmas.{rest_decides}
use Rattle.window_distance.proofs.covering.are_covered.Goals as goal

pub loop-place-preserved : goal.loop-place-preserved
loop-place-preserved c =
    rest_decides c.args.hits.now c.loop-place.place c.end_of_cover-end.result c.args.to c.end_of_cover-end.ensures.within c.end_of_cover-end.ensures.covered c.loop-place-test.true
    ∙ c.loop-place.invariant
