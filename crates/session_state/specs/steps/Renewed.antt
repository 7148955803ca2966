-- Documents that all get new stamps.
use Rattle.std.specs.Prelude.{◌+◌, length}
use Rattle.stamped_documents.specs.Stamped.{StampedDocuments}
use Rattle.stamped_documents.specs.Stamps.{renewed}

abbrev pub with_renewed : StampedDocuments → StampedDocuments
with_renewed old = record { indexed = old.indexed; stamps = renewed old.next old.stamps; next = old.next + length old.stamps }
