-- The document is counted as it stands, and the others mean what they did.
use Rattle.std.proofs.Common.{◌+◌, length, ap, sym, ◌∙◌, arith}
use Rattle.index_document.specs.Terms as by_id
use Rattle.index_document.specs.Terms.{TermDocument}
use Rattle.index_versions.specs.steps.Held.{Held, documents_under}
use Rattle.index_versions.proofs.DocumentLemmas.{has_under}
use Rattle.index_versions.proofs.ExchangeLemmas.{without_under}
use Rattle.index_versions.proofs.UpdateLemmas.{token_size}
use Rattle.index_versions.proofs.leaves.take_document.Goals as goal

pub document-requires-clause-there : goal.document-requires-clause-there
document-requires-clause-there g c =
    let parts = c.args.parts.now in
    sym (has_under parts.dictionary.given c.args.doc.0 parts.documents) ∙ c.requires.there

pub returns-in-Ok-clause-meaning : goal.returns-in-Ok-clause-meaning
returns-in-Ok-clause-meaning g c =
    let parts = c.args.parts.now in
    (λ i. documents_under (c.in-Ok.ensures.given i) (c.in-Ok.ensures.documents i))
    ∙ without_under parts.dictionary.given c.args.doc.0 parts.documents c.requires.sound.ascending

pub returns-in-Ok-clause-counted : goal.returns-in-Ok-clause-counted
returns-in-Ok-clause-counted g c =
    let parts = c.args.parts.now in
    c.clear.ensures
    ∙ ap (λ (d : TermDocument). c.args.rows.now + length (by_id.words_of d.leaves))
    (c.in_ok-index.ensures ∙ c.index.ensures ∙ ap (λ (h : Held). h.index) c.document.ensures)
    ∙ ap (λ n. c.args.rows.now + n) (sym (token_size parts.dictionary.given c.args.doc.0 parts.documents))

pub returns-in-Ok-clause-at_most : goal.returns-in-Ok-clause-at_most
returns-in-Ok-clause-at_most g c =
    let parts = c.args.parts.now in
    let index = c.in_ok-index.ensures ∙ c.index.ensures ∙ ap (λ (h : Held). h.index) c.document.ensures in
    omega (
      arith,
      c.clear.ensures,
      ap (λ (d : TermDocument). length (by_id.words_of d.leaves)) index,
      token_size parts.dictionary.given c.args.doc.0 parts.documents,
    )
