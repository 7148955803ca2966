-- The law is the lemma.
use Rattle.std.proofs.Common.{length, arith}
use Rattle.query_lexer.proofs.Bounds.{enough_steps}
use Rattle.query_lexer.proofs.laws.bound_law.Goals as goal

pub returns : goal.returns
returns c = λ steps place letters h. enough_steps steps (length letters) place letters h (omega arith)
