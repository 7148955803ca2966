-- A name is there where a look-up finds it.
use Rattle.std.proofs.Common.{◌∙◌, ap, sym}
use Rattle.std.specs.Prelude.{is_some}
use Rattle.std.specs.Option.{option_copied}
use Rattle.document_store.proofs.LoadingLemmas.{has_name-lookup}
use Rattle.document_store.proofs.documents.Documents.contains_key.Goals as goal

pub returns-in-Some : goal.returns-in-Some
returns-in-Some c = sym (has_name-lookup c.args.name.now c.args.self.now ∙ ap is_some (sym c.get.ensures ∙ ap option_copied c.in-Some.is))

pub returns-in-None : goal.returns-in-None
returns-in-None c = sym (has_name-lookup c.args.name.now c.args.self.now ∙ ap is_some (sym c.get.ensures ∙ ap option_copied c.in-None.is))
