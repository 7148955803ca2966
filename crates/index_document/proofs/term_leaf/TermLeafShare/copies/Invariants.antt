-- The leaves up to the next one are copied.
use Rattle.std.proofs.Common.{◌≡◌, take}
use Rattle.index_document.proofs.term_leaf.TermLeafShare.copies.Given as goal

abbrev pub invariant-loop-item : goal.invariant-loop-item
invariant-loop-item l = l.copies.items ≡ take l.item-index l.items
