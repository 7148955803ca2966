-- What the version has under other numbers, and how many rows went.
use Rattle.std.proofs.Common.{◌∙◌, ap, arith}
use Rattle.index_meaning.specs.Documents.{document_at, has_document, token_count, without_document}
use Rattle.index_updates.proofs.VersionLemmas.{has-without, others-without}
use Rattle.index_updates.proofs.WordsLemmas.{count-tree}
use Rattle.index_updates.proofs.dropping.drop_doc.Goals as goal

pub returns-in-Ok-clause-gone : goal.returns-in-Ok-clause-gone
returns-in-Ok-clause-gone g c =
    let made = c.in-Ok.ensures.ok ∙ ap (λ ds. without_document c.args.doc.0 ds) c.in_ok-next.ensures in
    ap (has_document c.args.doc.0) made ∙ has-without c.args.doc.0 c.args.version.now

pub returns-in-Ok-clause-others : goal.returns-in-Ok-clause-others
returns-in-Ok-clause-others g c = λ other apart.
    let made = c.in-Ok.ensures.ok ∙ ap (λ ds. without_document c.args.doc.0 ds) c.in_ok-next.ensures in
    ap (document_at other) made ∙ others-without c.args.doc.0 c.args.version.now other apart

pub returns-in-Ok-clause-words : goal.returns-in-Ok-clause-words
returns-in-Ok-clause-words g c = λ abbreviations root follows.
    let count = ap token_count (ap (document_at c.args.doc.0) c.in_ok-next.ensures ∙ follows.document) ∙ count-tree abbreviations root in
    omega (arith, count, c.take_document.ensures.at_most)

pub returns-in-Err-clause-words : goal.returns-in-Err-clause-words
returns-in-Err-clause-words g c = λ abbreviations root follows.
    let count = ap token_count (ap (document_at c.args.doc.0) c.in_ok-next.ensures ∙ follows.document) ∙ count-tree abbreviations root in
    omega (arith, count, c.take_document.ensures.at_most)
