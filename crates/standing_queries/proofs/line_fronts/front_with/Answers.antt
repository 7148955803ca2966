-- What had the front has the next one, and so has the line.
use Rattle.std.proofs.Common.{◌∙◌, arith}
use Rattle.standing_queries.specs.steps.Fronts.{has_front}
use Rattle.standing_queries.proofs.FrontLemmas.{next_front}
use Rattle.standing_queries.proofs.line_fronts.front_with.Goals as goal

pub loop-number-preserved : goal.loop-number-preserved
loop-number-preserved c =
    let before = c.loop-number.invariant.before in
    let kept = c.front_of-front.ensures.before in
    record {
      before = λ line h. kept line (before line h);
      first = next_front (has_front c.loop-number.front) (has_front c.front_of-front.result) c.args.lines.now c.loop-number.number c.get.result.now
          (omega (arith, c.loop-number-test.true, c.len-number-end.ensures)) c.get.ensures kept c.front_of-front.ensures.text c.loop-number.invariant.first;
    }
