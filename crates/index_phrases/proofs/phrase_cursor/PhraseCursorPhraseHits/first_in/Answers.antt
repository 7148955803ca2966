-- The cursors are aimed at the part in which hits can lie in the bounds.
use Rattle.std.proofs.Common.{◌∙◌, ap, filter, map, sym}
use Rattle.ft_operators.specs.Bounds.{lies_in}
use Rattle.index_phrases.specs.Cursors.{hits_where, phrase_aims, phrase_terms}
use Rattle.index_phrases.specs.Phrases.{hits_in_span, wanted_at}
use Rattle.index_phrases.proofs.PartHits.{part_law}
use Rattle.index_phrases.proofs.phrase_cursor.PhraseCursorPhraseHits.first_in.Goals as goal

pub go_to-requires-clause-known : goal.go_to-requires-clause-known
go_to-requires-clause-known g c = c.args.self.now.known c.in-Some.target c.in-Some.is

pub returns-in-Some-clause-moved : goal.returns-in-Some-clause-moved
returns-in-Some-clause-moved g c =
    let self = c.args.self.now in
    let target = c.in-Some.target in
    let terms = phrase_terms self in
    let known = self.known target c.in-Some.is in
    let hits = sym (ap (hits_where self.version.now self.number terms) c.in-Some.is) in
    let rest = sym (part_law c.args.bounds.now self.number target.breaks.breaks.now target.span self.version.now target.doc.0 terms c.part_of-part.result c.part_of-part.ensures)
    ∙ (λ i. filter (lies_in c.args.bounds.now) (hits_in_span self.number (known.breaks i) target.span (map (map (wanted_at self.version.now target.doc.0 target.span)) terms)))
    ∙ ap (filter (lies_in c.args.bounds.now)) hits in
    c.go_to.ensures.moved ∙ (λ i. record { aims = phrase_aims self.version.now self.number terms; hits = hits i; rest = rest i })

pub returns-in-None-clause-moved : goal.returns-in-None-clause-moved
returns-in-None-clause-moved g c =
    let self = c.args.self.now in
    let none = sym (ap (λ target. filter (lies_in c.args.bounds.now) (hits_where self.version.now self.number (phrase_terms self) target)) c.in-None.is) in
    λ i. record { aims = phrase_aims self.version.now self.number (phrase_terms self); hits = hits_where self.version.now self.number (phrase_terms self) self.target; rest = none i }
