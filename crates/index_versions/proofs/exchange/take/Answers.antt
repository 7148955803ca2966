-- The document goes from its place, where it is there.
use Rattle.std.proofs.Common.{◌∷◌, [], ap, sym, ◌∙◌, arith}
use Rattle.index_versions.proofs.ExchangeLemmas.{absent, present, nothing_taken, within, read, removed}
use Rattle.index_versions.proofs.exchange.take.Goals as goal

pub returns-then-not-stands_at-clause-documents : goal.returns-then-not-stands_at-clause-documents
returns-then-not-stands_at-clause-documents c =
    nothing_taken c.args.doc.0 c.place_of-at.result c.args.documents.now c.stands_at.result c.requires c.place_of-at.ensures c.stands_at.ensures c.if-not-stands_at.true

pub returns-then-not-stands_at-clause-old : goal.returns-then-not-stands_at-clause-old
returns-then-not-stands_at-clause-old c =
    sym ((absent c.args.doc.0 c.place_of-at.result c.args.documents.now c.stands_at.result c.requires c.place_of-at.ensures c.stands_at.ensures c.if-not-stands_at.true).number)

pub remove-requires : goal.remove-requires
remove-requires c =
    (omega arith, within c.args.doc.0 c.place_of-at.result c.args.documents.now c.stands_at.result c.requires c.place_of-at.ensures c.stands_at.ensures c.if-not-stands_at.false)

pub returns-clause-documents : goal.returns-clause-documents
returns-clause-documents c =
    c.in_ok-old.ensures.ok ∙ removed c.args.doc.0 c.place_of-at.result c.args.documents.now c.stands_at.result c.requires c.place_of-at.ensures c.stands_at.ensures c.if-not-stands_at.false

pub returns-clause-old : goal.returns-clause-old
returns-clause-old c =
    let there = present c.args.doc.0 c.place_of-at.result c.args.documents.now c.stands_at.result c.requires c.place_of-at.ensures c.stands_at.ensures c.if-not-stands_at.false in
    let is = read c.args.doc.0 c.place_of-at.result c.args.documents.now c.stands_at.result c.requires c.place_of-at.ensures c.stands_at.ensures c.in_ok-old.old c.if-not-stands_at.false in
    ap (λ h. h ∷ []) (c.in_ok-old.ensures.item ∙ is) ∙ sym there.number
