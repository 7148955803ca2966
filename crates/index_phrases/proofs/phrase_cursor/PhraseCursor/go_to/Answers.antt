-- The cursors are aimed, and the first hit is sought.
use Rattle.std.proofs.Common.{◌∙◌, List, ap, map, subst, sym}
use Rattle.std.specs.List.{All}
use Rattle.index_phrases.specs.Cursors.{phrase_aims, phrase_terms}
use Rattle.index_phrases.specs.Phrases.{phrase_hits, wanted_at}
use Rattle.index_phrases.specs.steps.Aiming.{AreThere, wanted_size}
use Rattle.index_phrases.specs.declared.word_terms.WordTerms.{WordTerms}
use Rattle.index_phrases.proofs.AimLemmas.{sizes_kept}
use Rattle.index_phrases.proofs.CursorLemmas.{part_left, by_version, documents_there, is_known}
use Rattle.index_phrases.proofs.phrase_cursor.PhraseCursor.go_to.Goals as goal

pub aim_variants-requires-clause-there : goal.aim_variants-requires-clause-there
aim_variants-requires-clause-there g c =
    let self = c.args.self.now in
    documents_there self.version.now c.args.target.now.doc.0 c.requires.known.there (phrase_terms self) self.there

pub invariant_of-self : goal.invariant_of-self
invariant_of-self g c =
    let self = c.args.self.now in
    record {
      sized = sizes_kept c.aim_variants.new.variants.items c.found_after-self.new.variants.items c.found_after-self.ensures.lists ∙ c.aim_variants.ensures.same ∙ self.sized
          ∙ sym (ap (map (map wanted_size)) c.aim_variants.ensures.terms);
      there = subst (λ (terms : List (List WordTerms)). All (All (AreThere self.version.now)) terms) (sym c.aim_variants.ensures.terms) self.there;
      known = is_known self.version.now c.args.target.now c.requires.known;
    }

pub returns-clause-moved : goal.returns-clause-moved
returns-clause-moved g c =
    let self = c.args.self.now in
    let same = c.aim_variants.ensures.terms in
    let target = c.args.target.now in
    let part = c.args.part in
    let words = c.aim_variants.ensures.aimed ∙ by_version self.version.now target.doc.0 part (phrase_terms self) self.there in
    let rest = sym c.found_after-self.ensures.left ∙ part_left self.number target part _ (map (map (wanted_at self.version.now target.doc.0 part)) (phrase_terms self)) words in
    λ i. record {
      aims = phrase_aims self.version.now self.number (same i);
      hits = phrase_hits self.version.now self.number (same i) target.doc.0 target.span;
      rest = rest i;
    }
