-- The keys of the version's terms are those of the documents' tokens.
use Rattle.std.proofs.Common.{◌∙◌, ap}
use Rattle.document_store.specs.Documents.{key_total}
use Rattle.document_store.specs.Indexed.{Indexed}
use Rattle.document_store.proofs.KeyLemmas.{keys-total}
use Rattle.document_store.proofs.collection.Collection.key_total.Goals as goal

pub returns : goal.returns
returns c =
    let inside = c.self.inside in
    c.key_count.ensures
    ∙ (keys-total inside.abbreviations c.keys_law.ensures c.words_law.ensures.words inside.documents inside.version inside.next inside.tokens c.self.invariant ∙ ap (λ (i : Indexed). key_total i.documents) c.self.view_is)
