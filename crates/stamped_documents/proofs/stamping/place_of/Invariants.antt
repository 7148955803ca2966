-- How many documents were passed, and how many more stand before the one of the name.
use Rattle.std.proofs.Common.{◌≡◌, ◌+◌, length, map}
use Rattle.document_store.specs.Loaded.{to_document}
use Rattle.stamped_documents.specs.steps.Places.{documents_before}
use Rattle.stamped_documents.proofs.stamping.place_of.Given as goal

abbrev pub invariant-loop-known : goal.invariant-loop-known
invariant-loop-known l = record {
  place : l.place + documents_before l.name (map to_document l.known-iterator) ≡ documents_before l.name l.collection.documents;
  count : l.place + length l.known-iterator ≡ length l.collection.documents;
}
