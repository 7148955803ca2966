-- The view has the document, which is the only one.
use Rattle.std.proofs.Common.{◌≡◌, ◌∷◌, [], true}
use Rattle.std.proofs.lemmas.Result.{IfOk-weaker}
use Rattle.index_meaning.specs.Documents.{document_ids, has_document}
use Rattle.session_state.proofs.LeftLemmas.{alone-there}
use Rattle.session_state.proofs.text_left.left_of.Goals as goal

pub returns-clause-there : goal.returns-clause-there
returns-clause-there g c =
    IfOk-weaker c.view_without.result (λ view. document_ids view ≡ c.args.doc.0 ∷ []) (λ view. has_document c.args.doc.0 view ≡ true)
    (λ view is. alone-there view c.args.doc.0 is) c.view_without.ensures.alone
