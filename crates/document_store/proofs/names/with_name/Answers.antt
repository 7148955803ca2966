-- The name is put after those of the table.
use Rattle.document_store.proofs.NameLemmas.{put-new}
use Rattle.document_store.proofs.names.with_name.Goals as goal

pub returns : goal.returns
returns c = put-new c.args.names.now c.in_ok-table.table.keys c.insert.new.self.keys c.args.name c.in_ok-table.ensures c.requires.new c.in_ok-insert.ensures.keys
