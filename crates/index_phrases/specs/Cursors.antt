-- A phrase over a version, and a place in the list of its hits.
use Rattle.std.specs.Prelude.{ℕ, List, [], map, Option, Some, None}
use Rattle.ft_base.specs.declared.hit.Hit.{Hit}
use Rattle.ft_base.specs.declared.span.Span.{Span}
use Rattle.ft_operators.specs.Phrases.{PhraseAims, PhraseState}
use Rattle.index_meaning.specs.Documents.{Numbered, has_document}
use Rattle.place_merges.specs.Sources.{wanted_words}
use Rattle.index_phrases.specs.Parts.{hits_in_part}
use Rattle.index_phrases.specs.Phrases.{phrase_hits, wanted_at}
use Rattle.index_phrases.specs.steps.Aiming.{variant_words}
use Rattle.index_phrases.specs.steps.Left.{rest_of}
use Rattle.index_phrases.specs.declared.phrase_cursor.PhraseCursor.{PhraseCursor}
use Rattle.index_phrases.specs.declared.target.Target.{Target}
use Rattle.index_phrases.specs.declared.word_terms.WordTerms.{WordTerms}

-- it may be aimed at each document that is there
abbrev pub phrase_aims : List Numbered → ℕ → List (List WordTerms) → PhraseAims
phrase_aims version number terms = record { may = λ doc span. has_document doc version; hits = phrase_hits version number terms }

-- the hits where it is aimed; before it is aimed there are none
abbrev pub hits_where : List Numbered → ℕ → List (List WordTerms) → Option Target → List Hit
hits_where version number terms None = []
hits_where version number terms (Some target) = phrase_hits version number terms target.doc.0 target.span

abbrev pub new_state : List Numbered → ℕ → List (List WordTerms) → PhraseState
new_state version number terms = record { aims = phrase_aims version number terms; hits = []; rest = [] }

-- the terms of its words
abbrev pub phrase_terms : PhraseCursor → List (List WordTerms)
phrase_terms cursor = map variant_words cursor.terms.items

abbrev pub state_of : PhraseCursor → PhraseState
state_of cursor = record {
  aims = phrase_aims cursor.version.now cursor.number (phrase_terms cursor);
  hits = hits_where cursor.version.now cursor.number (phrase_terms cursor) cursor.target;
  rest = rest_of cursor.number (wanted_words (λ c. c) cursor.variants.items) cursor.found;
}

-- a phrase aimed at the span of the target, of whose hits those in a part of the span are left
abbrev pub part_hits : PhraseCursor → Target → Span → List Hit
part_hits cursor target part =
    hits_in_part cursor.number target.breaks.breaks.now target.span part (map (map (wanted_at cursor.version.now target.doc.0 part)) (phrase_terms cursor))

abbrev pub in_part : PhraseCursor → Target → Span → PhraseState
in_part cursor target part = record {
  aims = (state_of cursor).aims;
  hits = phrase_hits cursor.version.now cursor.number (phrase_terms cursor) target.doc.0 target.span;
  rest = part_hits cursor target part;
}
