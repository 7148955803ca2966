-- A document is there where it stands at its place.
use Rattle.std.proofs.Common.{◌∙◌}
use Rattle.index_versions.proofs.ExchangeLemmas.{stands_has}
use Rattle.index_versions.proofs.documents.has_document.Goals as goal

pub returns : goal.returns
returns c = c.stands_at.ensures ∙ stands_has c.args.doc.0 c.place_of.result c.args.documents.now c.requires c.place_of.ensures
