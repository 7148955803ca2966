-- By the items of the shape.
use Rattle.std.proofs.Common.{◌∙◌, arith}
use Rattle.plan_runs.proofs.SkipViews.{counts_listed}
use Rattle.plan_runs.proofs.TermReadings.{counts_read}
use Rattle.plan_runs.proofs.counts_skipping.counts_skip.Goals as goal

pub returns-clause-says : goal.returns-clause-says
returns-clause-says g c = c.items_skip.ensures.says ∙ counts_listed c.args.doc.0 c.args.part c.args.counts.now

pub returns-clause-price : goal.returns-clause-price
returns-clause-price g c = omega (arith, c.items_skip.ensures.price, counts_read c.args.counts.now)
