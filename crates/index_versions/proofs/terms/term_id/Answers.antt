-- An id of the dictionary stands for the word of its term in every document.
use Rattle.std.proofs.Common.{length, ap, arith}
use Rattle.std.proofs.lemmas.List.{length-map}
use Rattle.index_meaning.specs.Dictionaries.{Term}
use Rattle.index_versions.proofs.TermsLemmas.{terms_are}
use Rattle.index_versions.proofs.PlacesLemmas.{counted_is, places_are}
use Rattle.index_versions.proofs.terms.term_id.Goals as goal

pub id-requires : goal.id-requires
id-requires c =
    let parts = c.args.parts.now in
    let dictionary = c.len-count.ensures in
    let terms = terms_are parts.dictionary.given parts.dictionary.terms parts.documents
    (record { sorted = dictionary.sorted; named = dictionary.given; keyed = c.requires.sound.keyed; used = c.requires.sound.used }) in
    omega (arith, c.requires.number, ap length terms, length-map parts.dictionary.terms (λ (t : Term). t.entry))

pub returns-clause-counted : goal.returns-clause-counted
returns-clause-counted c =
    let parts = c.args.parts.now in
    let dictionary = c.len-count.ensures in
    counted_is parts.dictionary.given parts.dictionary.terms parts.documents c.args.number c.id.result
    (record { sorted = dictionary.sorted; named = dictionary.given; keyed = c.requires.sound.keyed; used = c.requires.sound.used })
    c.id.ensures

pub returns-clause-placed : goal.returns-clause-placed
returns-clause-placed c doc =
    let parts = c.args.parts.now in
    let dictionary = c.len-count.ensures in
    places_are parts.dictionary.given parts.dictionary.terms parts.documents c.args.number c.id.result doc
    (record { sorted = dictionary.sorted; named = dictionary.given; keyed = c.requires.sound.keyed; used = c.requires.sound.used })
    c.id.ensures
