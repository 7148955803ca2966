-- The tree that was read is that of the document.
use Rattle.std.proofs.Common.{ap}
use Rattle.ordered_tree.specs.Stored.{Stored}
use Rattle.index_tests.proofs.updates.read.Goals as goal

pub returns-in-Ok : goal.returns-in-Ok
returns-in-Ok c = ap (λ (tree : Stored). tree.root) c.in-Ok.ensures.tree
