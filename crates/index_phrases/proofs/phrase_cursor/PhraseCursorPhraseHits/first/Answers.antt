-- The cursors are aimed once more, where they were aimed.
use Rattle.std.proofs.Common.{◌∙◌, ap, sym}
use Rattle.index_phrases.specs.Cursors.{hits_where, phrase_aims, phrase_terms}
use Rattle.index_phrases.proofs.CursorLemmas.{whole_part}
use Rattle.index_phrases.proofs.phrase_cursor.PhraseCursorPhraseHits.first.Goals as goal

pub go_to-requires-clause-known : goal.go_to-requires-clause-known
go_to-requires-clause-known g c = c.args.self.now.known c.in-Some.target c.in-Some.is

pub returns-in-Some-clause-moved : goal.returns-in-Some-clause-moved
returns-in-Some-clause-moved g c =
    let self = c.args.self.now in
    let hits = sym (ap (hits_where self.version.now self.number (phrase_terms self)) c.in-Some.is) in
    let whole = whole_part self.version.now self.number (phrase_terms self) c.in-Some.target (self.known c.in-Some.target c.in-Some.is) in
    c.go_to.ensures.moved ∙ (λ i. record { aims = phrase_aims self.version.now self.number (phrase_terms self); hits = hits i; rest = (whole ∙ hits) i })

pub returns-in-None-clause-moved : goal.returns-in-None-clause-moved
returns-in-None-clause-moved g c =
    let self = c.args.self.now in
    let none = sym (ap (hits_where self.version.now self.number (phrase_terms self)) c.in-None.is) in
    λ i. record { aims = phrase_aims self.version.now self.number (phrase_terms self); hits = hits_where self.version.now self.number (phrase_terms self) self.target; rest = none i }
