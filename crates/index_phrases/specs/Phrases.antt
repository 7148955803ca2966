-- The hits of a phrase in a span of a document, told in the numbers of the span.
use Rattle.std.specs.Prelude.{ℕ, ◌+◌, ◌-◌, Bool, true, List, map, filter}
use Rattle.std.specs.List.{list_any, slice_range}
use Rattle.ft_base.specs.declared.hit.Hit.{Hit}
use Rattle.ft_base.specs.declared.places.Breaks.{Breaks}
use Rattle.ft_base.specs.declared.span.Span.{Span}
use Rattle.index_cursors.specs.SpanHits.{started}
use Rattle.index_meaning.specs.Documents.{Document, Numbered, breaks_of, document_at, words_of}
use Rattle.index_meaning.specs.Postings.{same_word}
use Rattle.index_versions.specs.Versions.{term_at, term_hits}
use Rattle.place_merges.specs.Places.{Wanted, any_word, one_of}
use Rattle.place_merges.specs.Spots.{some_at, spots_between}
use Rattle.place_merges.specs.declared.spot.Spot.{Spot}
use Rattle.index_phrases.specs.declared.word_terms.WordTerms.{WordTerms}
use Rattle.index_phrases.specs.declared.word_terms.WordTerms.TheVariants as Terms

-- whether a word of a text may stand where these terms are wanted
abbrev pub is_wanted : List Numbered → WordTerms → List ℕ → Bool
is_wanted version Terms.Any word = true
is_wanted version (Terms.Of sources) word = list_any (λ source. same_word (term_at source.term version).word word) sources

-- the places in a span of a document at which it may stand
abbrev pub wanted_at : List Numbered → ℕ → Span → WordTerms → Wanted
wanted_at version doc span Terms.Any = any_word
wanted_at version doc span (Terms.Of sources) = one_of (map (λ source. map (λ hit. hit.from) (term_hits source.term doc span version)) sources)

-- the number of the sentence or paragraph of the word at a place, if the one of the first word is the first: how many start
-- there or before it, but for those before the first one
abbrev pub own_number : List ℕ → ℕ → ℕ → ℕ
own_number starts first place = started starts place - (started starts first - 1)

-- the place of the last word of a spot
abbrev pub last_place : Spot → ℕ
last_place at = at.place + (at.words - 1)

-- the hit of the phrase of that number on a spot
abbrev pub numbered_hit : ℕ → Breaks → Span → Spot → Hit
numbered_hit number breaks span at = record {
  query = number;
  from = at.place - (span.from - 1);
  to = last_place at - (span.from - 1);
  sent_from = own_number breaks.sentences span.from at.place;
  sent_to = own_number breaks.sentences span.from (last_place at);
  para_from = own_number breaks.paragraphs span.from at.place;
  para_to = own_number breaks.paragraphs span.from (last_place at);
  whole = true;
}

-- the hits on the spots of the span at which one of the variants stands: place after place, and at a place by their lengths
abbrev pub hits_in_span : ℕ → Breaks → Span → List (List Wanted) → List Hit
hits_in_span number breaks span variants = map (numbered_hit number breaks span) (filter (some_at span.to variants) (spots_between span.from span.to))

-- those of a phrase whose words are those of these terms, in a span of the document of that number
abbrev pub phrase_hits : List Numbered → ℕ → List (List WordTerms) → ℕ → Span → List Hit
phrase_hits version number terms doc span =
    hits_in_span number (breaks_of (document_at doc version)) span (map (map (wanted_at version doc span)) terms)

-- the words at the places of a span, which count from 1
abbrev pub words_at : Span → Document → List (List ℕ)
words_at span document = slice_range (words_of document) (span.from - 1) (span.to - 1)
