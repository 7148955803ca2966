-- One hit further.
use Rattle.std.proofs.Common.{◌∙◌}
use Rattle.all_matches.specs.Positions.{agree_in_order}
use Rattle.window_distance.proofs.PairLemmas.{next_passes}
use Rattle.window_distance.proofs.pairs.are_in_order.Goals as goal

pub loop-number-preserved : goal.loop-number-preserved
loop-number-preserved c =
    c.loop-number.invariant ∙ next_passes agree_in_order c.args.hits.now c.loop-number.number _ c.all_agree_in_order.result c.loop-number-test.true c.all_agree_in_order.ensures c.if-not-all_agree_in_order.false
