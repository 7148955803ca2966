-- Where no document has the number, the one in which nothing is stands for it.
use Rattle.std.proofs.Common.{sym, ◌∙◌}
use Rattle.index_versions.specs.steps.Held.{held_of}
use Rattle.index_versions.proofs.ExchangeLemmas.{none_held}
use Rattle.index_versions.proofs.documents.document_or_new.Goals as goal

pub returns : goal.returns
returns c =
    c.in_ok-held.ensures
    ∙ (λ i. held_of (c.empty.ensures i) (record { sentences = c.new.ensures i; paragraphs = c.new-2.ensures i }))
    ∙ sym (none_held c.args.doc.0 c.args.documents.now c.requires (sym c.has_document.ensures ∙ c.if-has_document.false))
