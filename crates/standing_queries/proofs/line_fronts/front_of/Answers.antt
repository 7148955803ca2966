-- A text begins with itself.
use Rattle.std.proofs.Common.{◌∙◌, ap}
use Rattle.standing_queries.specs.steps.Fronts.{begins_with}
use Rattle.standing_queries.proofs.FrontLemmas.{own_front}
use Rattle.standing_queries.proofs.line_fronts.front_of.Goals as goal

pub returns-in-None-clause-text : goal.returns-in-None-clause-text
returns-in-None-clause-text c = ap (λ front. begins_with front c.args.text.now) c.as_bytes.ensures.value ∙ own_front c.args.text.now
