-- One hit further.
use Rattle.std.proofs.Common.{◌∙◌}
use Rattle.all_matches.specs.Positions.{are_apart}
use Rattle.window_distance.proofs.PairLemmas.{next_passes}
use Rattle.window_distance.proofs.pairs.every_two_are_apart.Goals as goal

pub loop-number-preserved : goal.loop-number-preserved
loop-number-preserved c =
    c.loop-number.invariant ∙ next_passes (are_apart c.args.unit) c.args.hits.now c.loop-number.number _ c.all_are_apart.result c.loop-number-test.true c.all_are_apart.ensures c.if-not-all_are_apart.false
