-- Where nothing was kept there is nothing to mark.
use Rattle.path_nodes.proofs.marks.mark_way_to.Goals as goal

pub returns-then-is_empty-clause-there : goal.returns-then-is_empty-clause-there
returns-then-is_empty-clause-there c = λ some. absurd (some (c.is_empty.ensures.0 c.if-is_empty.true))
