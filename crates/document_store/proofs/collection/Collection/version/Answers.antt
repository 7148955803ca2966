-- The version is that of the value.
use Rattle.std.proofs.Common.{ap}
use Rattle.document_store.specs.Indexed.{Indexed}
use Rattle.document_store.proofs.collection.Collection.version.Goals as goal

pub returns : goal.returns
returns c = ap (λ (i : Indexed). i.version) c.self.view_is
