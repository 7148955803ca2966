-- What the reader answers, and what becomes of the document.
use Rattle.std.proofs.Common.{◌≡◌, subst}
use Rattle.std.specs.Prelude.{IfOk, Result}
use Rattle.plain_tree.specs.Document.{Node}
use Rattle.document_store.specs.declared.fault.NotLoaded.{NotLoaded}
use Rattle.document_store.specs.LoadView.{outcome}
use Rattle.document_store.proofs.LoadingLemmas.{loadable-read, loadable-refused}
use Rattle.document_store.proofs.loading.read_document.Goals as goal

pub returns-in_ok-refuse-in-Err-clause-outcome : goal.returns-in_ok-refuse-in-Err-clause-outcome
returns-in_ok-refuse-in-Err-clause-outcome c =
    loadable-refused c.args.block.now c.in-Err.fault c.in_ok-refuse-in-Err.field-0 c.in-Err.ensures.answer_err c.in_ok-refuse-in-Err.ensures.known c.in_ok-refuse-in-Err.ensures.fault

pub returns-in-Ok-clause-outcome : goal.returns-in-Ok-clause-outcome
returns-in-Ok-clause-outcome c =
    subst (λ (said : Result Node NotLoaded). IfOk c.load.result (λ read. outcome read ≡ said)) (loadable-read c.args.block.now c.in-Ok.document c.in-Ok.ensures.answer_ok) c.load.ensures.outcome
