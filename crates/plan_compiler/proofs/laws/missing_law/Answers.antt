-- The law is the lemma.
use Rattle.plan_compiler.proofs.MissingLemmas.{missing_append}
use Rattle.plan_compiler.proofs.laws.missing_law.Goals as goal

pub returns : goal.returns
returns c = missing_append
