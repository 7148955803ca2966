-- Where the word of a term stands in a span.
use Rattle.std.proofs.Common.{◌≡◌, ℕ, ◌+◌, ◌-◌, ◌<◌, zero, suc, true, false, cond, ◌||◌, ◌==◌, List, [], ◌∷◌, length, map, filter, drop, get_or, refl, ap, sym, ◌∙◌, arith}
use Rattle.std.specs.Prelude.{nat_le, nat_lt}
use Rattle.std.specs.List.{list_any}
use Rattle.std.proofs.lemmas.Bool.{and_from, or_left, eqb-true, eq-eqb, ne_eqb, le-leb, lt-ltb}
use Rattle.std.proofs.lemmas.List.{get_or-drop, get_or-take}
use Rattle.std.proofs.lemmas.Map.Views.{any-filter_same}
use Rattle.ft_base.specs.declared.hit.Hit.{Hit}
use Rattle.ft_base.specs.declared.span.Span.{Span}
use Rattle.all_matches.proofs.ListTests.{list_any-alike, list_any-map}
use Rattle.index_meaning.specs.Documents.{Numbered, breaks_of, document_at, words_of}
use Rattle.index_meaning.specs.Postings.{places, places_from, same_word}
use Rattle.term_dict.proofs.OrderLemmas.{equal_turned}
use Rattle.index_cursors.specs.SpanHits.{is_inside, word_hit}
use Rattle.index_versions.specs.Terms.{VersionTerm}
use Rattle.index_versions.specs.Versions.{term_at, term_hits}
use Rattle.place_merges.specs.Places.{fits}
use Rattle.index_phrases.specs.Phrases.{is_wanted, wanted_at, words_at}
use Rattle.index_phrases.specs.Tokens.{IsSpan}
use Rattle.index_phrases.specs.declared.word_terms.WordTerms.{WordTerms}
use Rattle.index_phrases.specs.declared.word_terms.WordTerms.TheVariants as Terms

no_earlier_place : (word : List ℕ) (q place : ℕ) (words : List (List ℕ)) → q < place → list_any (λ p. p == q) (places_from word place words) ≡ false
no_earlier_place word q place [] before = refl
no_earlier_place word q place (other ∷ words) before =
    let rest = no_earlier_place word q (place + 1) words (omega arith) in
    let apart : (place == q) ≡ false = ne_eqb place q (λ same. omega (arith, same, before)) in
    elim (same_word other word) as (λ b. list_any (λ p. p == q) (cond b (place ∷ places_from word (place + 1) words) (places_from word (place + 1) words)) ≡ false) [
      | true ↦ λ i. apart i || rest i
      | false ↦ rest
    ]

stands_there : (word : List ℕ) (q place k : ℕ) (words : List (List ℕ)) → k < length words → q ≡ place + k
    → list_any (λ p. p == q) (places_from word place words) ≡ same_word (get_or words k []) word
stands_there word q place k [] within is = absurd (omega (arith, within))
stands_there word q place zero (other ∷ words) within is =
    let rest = no_earlier_place word q (place + 1) words (omega (arith, is)) in
    let here : (place == q) ≡ true = eq-eqb place q (omega (arith, is)) in
    elim (same_word other word) as (λ b. list_any (λ p. p == q) (cond b (place ∷ places_from word (place + 1) words) (places_from word (place + 1) words)) ≡ b) [
      | true ↦ or_left (place == q) (list_any (λ p. p == q) (places_from word (place + 1) words)) here
      | false ↦ rest
    ]
stands_there word q place (suc k) (other ∷ words) within is =
    let rest = stands_there word q (place + 1) k words (omega (arith, within)) (omega (arith, is)) in
    let apart : (place == q) ≡ false = ne_eqb place q (λ same. omega (arith, same, is)) in
    elim (same_word other word) as (λ b. list_any (λ p. p == q) (cond b (place ∷ places_from word (place + 1) words) (places_from word (place + 1) words)) ≡ same_word (get_or words k []) word) [
      | true ↦ ap (λ b. b || list_any (λ p. p == q) (places_from word (place + 1) words)) apart ∙ rest
      | false ↦ rest
    ]

module _ (version : List Numbered) (doc : ℕ) (span : Span) (s : IsSpan span (document_at doc version)) where
  -- a term has a hit at each place of the span at which its word stands
  hit_law : (number k : ℕ) → k < span.to - span.from
      → list_any (λ (hit : Hit). hit.from == span.from + k) (term_hits number doc span version)
      ≡ same_word (term_at number version).word (get_or (words_at span (document_at doc version)) k [])
  hit_law number k within =
      let document = document_at doc version in
      let word = (term_at number version).word in
      let q = span.from + k in
      let before = span.from - 1 in
      let first = s.first in
      let last = s.last in
      let inside : is_inside span q ≡ true = and_from (nat_le span.from q) (nat_lt q span.to) (le-leb span.from q (omega arith)) (lt-ltb q span.to (omega (arith, within))) in
      let read : get_or (words_at span document) k [] ≡ get_or (words_of document) (before + k) [] =
      get_or-take ((span.to - 1) - before) (drop before (words_of document)) k [] (omega (arith, first, within)) ∙ get_or-drop before (words_of document) k [] in
      list_any-map (λ (hit : Hit). hit.from == q) (word_hit (breaks_of document)) (filter (is_inside span) (places word document))
      ∙ any-filter_same (λ p. p == q) (is_inside span) true (λ p same. ap (is_inside span) (eqb-true p q same) ∙ inside) (places word document)
      ∙ stands_there word q 1 (before + k) (words_of document) (omega (arith, first, last, within)) (omega (arith, first))
      ∙ equal_turned (get_or (words_of document) (before + k) []) word
      ∙ ap (same_word word) (sym read)

  -- a word of the span is one that is wanted exactly where it fits
  pub wanted_law : (terms : WordTerms) (k : ℕ) → k < span.to - span.from
      → fits (span.from + k) (wanted_at version doc span terms) ≡ is_wanted version terms (get_or (words_at span (document_at doc version)) k [])
  wanted_law Terms.Any k within = refl
  wanted_law (Terms.Of sources) k within =
      list_any-map (λ places. list_any (λ other. other == span.from + k) places) (λ (source : VersionTerm). map (λ (hit : Hit). hit.from) (term_hits source.term doc span version)) sources
      ∙ list_any-alike (λ (source : VersionTerm). list_any (λ other. other == span.from + k) (map (λ (hit : Hit). hit.from) (term_hits source.term doc span version)))
      (λ (source : VersionTerm). same_word (term_at source.term version).word (get_or (words_at span (document_at doc version)) k [])) sources
      (λ (source : VersionTerm). list_any-map (λ other. other == span.from + k) (λ (hit : Hit). hit.from) (term_hits source.term doc span version) ∙ hit_law source.term k within)
