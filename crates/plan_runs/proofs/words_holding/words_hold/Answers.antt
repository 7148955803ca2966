-- The count tells as much as the number of all occurrences.
use Rattle.std.proofs.Common.{◌∙◌, min, ap, arith}
use Rattle.all_matches.specs.Compositional.{enough}
use Rattle.plan_runs.specs.steps.RunShapes.{words_shape}
use Rattle.plan_runs.specs.steps.RunTruth.{words_total}
use Rattle.plan_runs.specs.steps.AskedPlaces.{text_at}
use Rattle.plan_runs.proofs.TellingLemmas.{times_tell}
use Rattle.plan_runs.proofs.words_holding.words_hold.Goals as goal

pub returns-clause-says : goal.returns-clause-says
returns-clause-says g c =
    let total = words_total c.args.place.now.version.now (words_shape c.args.words.now) (text_at c.args.place.now) in
    let small = c.count_words-count.type_inv in
    c.is_enough.ensures c.count_words-count.result (omega arith)
    ∙ ap (enough c.args.words.now.times) (c.count_words-count.ensures.count ∙ ap (min total) c.telling.ensures)
    ∙ times_tell c.args.words.now.times total
