-- A shorter front is one of the same lines.
use Rattle.standing_queries.proofs.FrontLemmas.{shorter_front}
use Rattle.standing_queries.proofs.line_fronts.shared_front.Goals as goal

pub returns-clause-before : goal.returns-clause-before
returns-clause-before c line h = shorter_front c.args.front.now c.loop-length.length line h
