-- Where no name is, none stands twice.
use Rattle.document_store.proofs.NameLemmas.{distinct-none}
use Rattle.document_store.proofs.names.Names.push.Goals as goal

pub with_name-requires-clause-distinct : goal.with_name-requires-clause-distinct
with_name-requires-clause-distinct c = distinct-none
