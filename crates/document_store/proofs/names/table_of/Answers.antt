-- The next name is new, as no name stands twice.
use Rattle.std.proofs.Common.{◌∙◌, ◌<◌, length, rules}
use Rattle.document_store.proofs.NameLemmas.{put-next}
use Rattle.document_store.proofs.names.table_of.Goals as goal

pub loop-name-preserved : goal.loop-name-preserved
loop-name-preserved c =
    let there : c.loop-name.name-index < length c.args.names.now = search rules in
    put-next c.args.names.now c.loop-name.table.keys c.insert.new.self.keys c.loop-name.name-index c.name-item.result c.in_ok-read.field-0 c.requires c.loop-name.invariant there
    c.name-item.is (c.in_ok-read.ensures ∙ c.as_str.ensures) c.in_ok-insert.ensures.keys
