-- The leaves up to the next one are there.
use Rattle.std.proofs.Common.{◌≡◌, take}
use Rattle.index_document.specs.Terms.{document_of}
use Rattle.index_document.proofs.leaves.Leaves.of.Given as goal

abbrev pub invariant-loop-leaf : goal.invariant-loop-leaf
invariant-loop-leaf l = l.made ≡ document_of l.fn.doc.0 (take l.leaf-index l.leaves.items)
