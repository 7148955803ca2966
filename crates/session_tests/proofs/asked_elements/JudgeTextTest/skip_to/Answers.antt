-- No span ends at 0.
use Rattle.std.proofs.Common.{arith}
use Rattle.session_tests.proofs.SpanLemmas.{span-suffix}
use Rattle.session_tests.proofs.asked_elements.JudgeTextTest.skip_to.Goals as goal

pub returns-else-contains : goal.returns-else-contains
returns-else-contains c = λ node asked suffix prefix. absurd (omega (arith, prefix, span-suffix c.args.self.now.tree.now.root node))
