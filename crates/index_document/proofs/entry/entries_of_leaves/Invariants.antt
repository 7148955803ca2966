-- The entries of the leaves up to the next one are made.
use Rattle.std.proofs.Common.{◌≡◌, take}
use Rattle.index_document.specs.Rows.{entries}
use Rattle.index_document.proofs.entry.entries_of_leaves.Given as goal

abbrev pub invariant-loop-leaf : goal.invariant-loop-leaf
invariant-loop-leaf l = l.made.items ≡ entries (take l.leaf-index l.leaves.items)
