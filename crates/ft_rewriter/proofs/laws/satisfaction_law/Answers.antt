-- The law is the lemma.
use Rattle.ft_rewriter.proofs.SimplifiedTests.{sat-rewritten}
use Rattle.ft_rewriter.proofs.laws.satisfaction_law.Goals as goal

pub returns : goal.returns
returns c = sat-rewritten
