-- The document comes to its place, or in the place of the one with its number.
use Rattle.std.proofs.Common.{◌∷◌, [], ap, sym, ◌∙◌, arith}
use Rattle.index_versions.proofs.ExchangeLemmas.{absent, present, inserted, within, read, replaced}
use Rattle.index_versions.proofs.exchange.put.Goals as goal

pub returns-then-not-stands_at-clause-documents : goal.returns-then-not-stands_at-clause-documents
returns-then-not-stands_at-clause-documents c =
    c.in_ok-insert.ensures.ok
    ∙ inserted c.args.doc.0 c.place_of-at.result c.args.documents.now c.stands_at.result c.requires.ascending c.place_of-at.ensures c.stands_at.ensures c.args.held c.if-not-stands_at.true

pub returns-then-not-stands_at-clause-old : goal.returns-then-not-stands_at-clause-old
returns-then-not-stands_at-clause-old c =
    sym ((absent c.args.doc.0 c.place_of-at.result c.args.documents.now c.stands_at.result c.requires.ascending c.place_of-at.ensures c.stands_at.ensures c.if-not-stands_at.true).number)

pub get-requires : goal.get-requires
get-requires c =
    (omega arith, within c.args.doc.0 c.place_of-at.result c.args.documents.now c.stands_at.result c.requires.ascending c.place_of-at.ensures c.stands_at.ensures c.if-not-stands_at.false)

pub replace-requires : goal.replace-requires
replace-requires c =
    (omega arith, within c.args.doc.0 c.place_of-at.result c.args.documents.now c.stands_at.result c.requires.ascending c.place_of-at.ensures c.stands_at.ensures c.if-not-stands_at.false)

pub returns-clause-documents : goal.returns-clause-documents
returns-clause-documents c =
    c.in_ok-replace.ensures.ok
    ∙ replaced c.args.doc.0 c.place_of-at.result c.args.documents.now c.stands_at.result c.requires.ascending c.place_of-at.ensures c.stands_at.ensures c.args.held c.if-not-stands_at.false

pub returns-clause-old : goal.returns-clause-old
returns-clause-old c =
    let there = present c.args.doc.0 c.place_of-at.result c.args.documents.now c.stands_at.result c.requires.ascending c.place_of-at.ensures c.stands_at.ensures c.if-not-stands_at.false in
    let is = read c.args.doc.0 c.place_of-at.result c.args.documents.now c.stands_at.result c.requires.ascending c.place_of-at.ensures c.stands_at.ensures c.get.result.now c.if-not-stands_at.false in
    ap (λ h. h ∷ []) (c.in_ok-old.ensures ∙ c.get.ensures ∙ is) ∙ sym there.number
