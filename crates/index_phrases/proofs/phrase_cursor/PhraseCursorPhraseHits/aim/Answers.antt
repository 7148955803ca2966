-- The document is there, and the breaks are its own. The part is the whole span.
use Rattle.std.proofs.Common.{◌∙◌, arith}
use Rattle.index_phrases.specs.Cursors.{phrase_aims, phrase_terms}
use Rattle.index_phrases.specs.Phrases.{phrase_hits}
use Rattle.index_phrases.proofs.CursorLemmas.{whole_part}
use Rattle.index_phrases.proofs.phrase_cursor.PhraseCursorPhraseHits.aim.Goals as goal

pub go_to-requires-clause-known : goal.go_to-requires-clause-known
go_to-requires-clause-known g c = record { there = c.requires; breaks = c.breaks-breaks.ensures }

pub returns-clause-moved : goal.returns-clause-moved
returns-clause-moved g c =
    let self = c.args.self.now in
    let doc = c.args.doc.0 in
    let whole = whole_part self.version.now self.number (phrase_terms self) (record { doc = c.args.doc; span = c.args.span; breaks = c.breaks-breaks.result }) (record { there = c.requires; breaks = c.breaks-breaks.ensures }) in
    c.go_to.ensures.moved
    ∙ (λ i. record {
      aims = phrase_aims self.version.now self.number (phrase_terms self);
      hits = phrase_hits self.version.now self.number (phrase_terms self) doc c.args.span;
      rest = whole i;
    })
