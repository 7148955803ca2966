-- The name is put after those of the table.
use Rattle.std.proofs.Common.{ap}
use Rattle.document_store.proofs.NameLemmas.{put-new}
use Rattle.document_store.proofs.names.push_shared.Goals as goal

pub returns-in_ok-insert-in-Some-clause-ok : goal.returns-in_ok-insert-in-Some-clause-ok
returns-in_ok-insert-in-Some-clause-ok c =
    put-new c.args.table.now.value.keys c.in-Some.own.now.keys c.insert.new.self.keys c.args.name (ap (λ table. table.keys) c.in-Some.ensures.value) c.requires
    c.in_ok-insert-in-Some.ensures.keys
