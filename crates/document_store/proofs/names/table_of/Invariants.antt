-- The names up to the next one are in the table.
use Rattle.std.proofs.Common.{◌≡◌, take}
use Rattle.document_store.proofs.names.table_of.Given as goal

abbrev pub invariant-loop-name : goal.invariant-loop-name
invariant-loop-name l = l.table.keys ≡ take l.name-index l.names
