-- A document that is there stands at its place.
use Rattle.std.proofs.Common.{refl, ◌∙◌, arith}
use Rattle.index_versions.proofs.ExchangeLemmas.{stands, stands_has, within, read_held}
use Rattle.index_versions.proofs.documents.document.Goals as goal

pub get-requires : goal.get-requires
get-requires c =
    let id = c.args.doc.0 in
    let hs = c.args.documents.now in
    let at = c.place_of.result in
    let there = stands_has id at hs c.requires.ascending c.place_of.ensures ∙ c.requires.there in
    (omega arith, within id at hs (stands id hs at) c.requires.ascending c.place_of.ensures refl there)

pub returns : goal.returns
returns c =
    let id = c.args.doc.0 in
    let hs = c.args.documents.now in
    let at = c.place_of.result in
    let there = stands_has id at hs c.requires.ascending c.place_of.ensures ∙ c.requires.there in
    c.get.ensures ∙ read_held id at hs (stands id hs at) c.requires.ascending c.place_of.ensures refl c.get.result.now there
