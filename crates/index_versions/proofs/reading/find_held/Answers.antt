-- A version has a document where it holds one of that number, and that is what it means.
use Rattle.std.proofs.Common.{◌≡◌, true, ap, refl, sym, ◌∙◌, arith}
use Rattle.index_versions.specs.steps.Held.{document_under}
use Rattle.index_versions.proofs.DocumentLemmas.{at_under, has_under}
use Rattle.index_versions.proofs.ExchangeLemmas.{stands, stands_has, within, read_held}
use Rattle.index_versions.proofs.reading.find_held.Goals as goal

pub get-requires : goal.get-requires
get-requires c =
    let id = c.args.doc.0 in
    let hs = c.args.parts.now.documents in
    let at = c.place_near-at.result in
    let there : stands id hs at ≡ true = sym c.stands_at.ensures ∙ c.if-not-stands_at.false in
    (omega arith, within id at hs (stands id hs at) c.requires.ascending c.place_near-at.ensures refl there)

pub returns-then-not-stands_at-clause-there : goal.returns-then-not-stands_at-clause-there
returns-then-not-stands_at-clause-there c =
    let parts = c.args.parts.now in
    sym c.if-not-stands_at.true
    ∙ c.stands_at.ensures
    ∙ stands_has c.args.doc.0 c.place_near-at.result parts.documents c.requires.ascending c.place_near-at.ensures
    ∙ sym (has_under parts.dictionary.given c.args.doc.0 parts.documents)

pub returns-clause-there : goal.returns-clause-there
returns-clause-there c =
    let parts = c.args.parts.now in
    sym c.if-not-stands_at.false
    ∙ c.stands_at.ensures
    ∙ stands_has c.args.doc.0 c.place_near-at.result parts.documents c.requires.ascending c.place_near-at.ensures
    ∙ sym (has_under parts.dictionary.given c.args.doc.0 parts.documents)

pub returns-clause-held : goal.returns-clause-held
returns-clause-held c =
    let id = c.args.doc.0 in
    let hs = c.args.parts.now.documents in
    let at = c.place_near-at.result in
    let there : stands id hs at ≡ true = sym c.stands_at.ensures ∙ c.if-not-stands_at.false in
    c.get.ensures ∙ read_held id at hs (stands id hs at) c.requires.ascending c.place_near-at.ensures refl c.get.result.now there

pub returns-clause-meant : goal.returns-clause-meant
returns-clause-meant c =
    let parts = c.args.parts.now in
    ap (document_under parts.dictionary.given) (returns-clause-held c) ∙ sym (at_under parts.dictionary.given c.args.doc.0 parts.documents)
