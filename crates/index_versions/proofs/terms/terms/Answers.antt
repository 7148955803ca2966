-- The terms of a sound version's dictionary are those of its documents.
use Rattle.index_versions.proofs.TermsLemmas.{terms_are}
use Rattle.index_versions.proofs.terms.terms.Goals as goal

pub returns : goal.returns
returns c =
    let parts = c.args.parts.now in
    let dictionary = c.len-count.ensures in
    terms_are parts.dictionary.given parts.dictionary.terms parts.documents
    (record { sorted = dictionary.sorted; named = dictionary.given; keyed = c.requires.keyed; used = c.requires.used })
