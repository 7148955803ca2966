-- The line is out of the set, and the others are as they were.
use Rattle.std.proofs.Common.{◌∙◌}
use Rattle.standing_queries.specs.steps.Staying.{has_line}
use Rattle.standing_queries.proofs.SetLemmas.{take-one}
use Rattle.standing_queries.proofs.line_set.take_line.Goals as goal

pub returns : goal.returns
returns c = λ line. c.remove.ensures.updates.0 (record { ref_ptr = (0, 0); now = line }) ∙ take-one c.args.text.now line (has_line c.args.set.now line)
