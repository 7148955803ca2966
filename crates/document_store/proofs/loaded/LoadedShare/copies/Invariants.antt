-- The documents up to the next one are copied.
use Rattle.std.proofs.Common.{◌≡◌, take}
use Rattle.document_store.proofs.loaded.LoadedShare.copies.Given as goal

abbrev pub invariant-loop-item : goal.invariant-loop-item
invariant-loop-item l = l.copies.items ≡ take l.item-index l.items
