-- The line is in the set, and the others are as they were.
use Rattle.std.proofs.Common.{◌∙◌}
use Rattle.standing_queries.specs.steps.Staying.{has_line}
use Rattle.standing_queries.proofs.SetLemmas.{put-one}
use Rattle.standing_queries.proofs.line_set.put_line.Goals as goal

pub returns : goal.returns
returns c = λ line. c.in_ok-insert.ensures.updates.0 (record { ref_ptr = (0, 0); now = line }) ∙ put-one c.args.text.now line (has_line c.args.set.now line)
