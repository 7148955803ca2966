-- The groups of a phrase, as its shape has them.
use Rattle.std.proofs.Common.{◌∙◌, arith}
use Rattle.plan_runs.proofs.SkipViews.{phrase_listed}
use Rattle.plan_runs.proofs.TermReadings.{phrase_read}
use Rattle.plan_runs.proofs.skipping.phrase_skip.Goals as goal

pub returns-clause-says : goal.returns-clause-says
returns-clause-says g c = c.groups_skip.ensures.says ∙ phrase_listed c.args.doc.0 c.args.part c.args.phrase.now

pub returns-clause-price : goal.returns-clause-price
returns-clause-price g c = omega (arith, c.groups_skip.ensures.price, phrase_read c.args.phrase.now)
