-- The next spot is sought after the one that was found.
use Rattle.std.proofs.Common.{◌∙◌, ap, sym, drop}
use Rattle.place_merges.specs.Sources.{wanted_words}
use Rattle.index_phrases.specs.Cursors.{hits_where, phrase_aims, phrase_terms}
use Rattle.index_phrases.specs.steps.Left.{rest_of}
use Rattle.index_phrases.proofs.AimLemmas.{sizes_kept}
use Rattle.index_phrases.proofs.phrase_cursor.PhraseCursorPhraseHits.next.Goals as goal

pub invariant_of-self : goal.invariant_of-self
invariant_of-self g c = record {
  sized = sizes_kept c.args.self.now.variants.items c.found_after-self.new.variants.items c.found_after-self.ensures.lists ∙ c.args.self.now.sized;
  there = c.args.self.now.there;
  known = c.args.self.now.known;
}

pub returns-in-Some-clause-moved : goal.returns-in-Some-clause-moved
returns-in-Some-clause-moved g c =
    let self = c.args.self.now in
    let words = wanted_words (λ cursor. cursor) self.variants.items in
    let rest = sym c.found_after-self.ensures.left ∙ sym (ap (λ found. drop 1 (rest_of self.number words found)) c.in-Some.is) in
    λ i. record { aims = phrase_aims self.version.now self.number (phrase_terms self); hits = hits_where self.version.now self.number (phrase_terms self) self.target; rest = rest i }

pub returns-in-None-clause-moved : goal.returns-in-None-clause-moved
returns-in-None-clause-moved g c =
    let self = c.args.self.now in
    let words = wanted_words (λ cursor. cursor) self.variants.items in
    let rest = ap (rest_of self.number words) c.in-None.is ∙ sym (ap (λ found. drop 1 (rest_of self.number words found)) c.in-None.is) in
    λ i. record { aims = phrase_aims self.version.now self.number (phrase_terms self); hits = hits_where self.version.now self.number (phrase_terms self) self.target; rest = rest i }
