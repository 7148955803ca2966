-- A group whose cursors were aimed at a span stands at as many places of it as its variants begin at words.
use Rattle.std.proofs.Common.{◌≡◌, refl, sym, ap, ◌∙◌, ℕ, ◌+◌, ◌-◌, ◌<◌, ◌&&◌, true, List, [], ◌∷◌, map, length, get_or, drop, arith}
use Rattle.std.specs.List.{list_all}
use Rattle.std.proofs.lemmas.List.{get_or_default, length-drop, length-take}
use Rattle.std.proofs.lemmas.Simd.{map-map}
use Rattle.ft_base.specs.Hits.{HitPlace}
use Rattle.ft_base.specs.declared.hit.Hit.{Hit}
use Rattle.all_matches.specs.Counting.{places}
use Rattle.all_matches.proofs.ListTests.{list_any-map}
use Rattle.index_meaning.specs.Documents.{Numbered, document_at, words_of}
use Rattle.index_meaning.specs.Postings.{same_word}
use Rattle.index_versions.specs.Terms.{VersionTerm}
use Rattle.index_versions.specs.Versions.{term_at}
use Rattle.place_merges.specs.Places.{fits, one_of, places_between}
use Rattle.place_merges.specs.Sources.{all_plain, is_plain, wanted_words}
use Rattle.place_merges.specs.declared.item.Item.{Item}
use Rattle.place_merges.specs.declared.item.Item.TheVariants as Merged
use Rattle.place_merges.specs.declared.item.Variant.{Variant}
use Rattle.place_merges.proofs.PlacesLaw.{places_law}
use Rattle.spot_merges.specs.Edges.{spots_of}
use Rattle.index_phrases.specs.Phrases as phrases
use Rattle.index_phrases.specs.Tokens.{IsSpan}
use Rattle.index_phrases.specs.declared.word_terms.WordTerms.{WordTerms}
use Rattle.index_phrases.specs.declared.word_terms.WordTerms.TheVariants as Terms
use Rattle.index_phrases.proofs.AimLemmas.{all_wanted}
use Rattle.index_phrases.proofs.TermPlaces.{wanted_law}
use Rattle.plan_runs.specs.steps.AskedPlaces.{AreAimed, hits_at, text_at, wanted_at}
use Rattle.plan_runs.specs.steps.RunTruth.{is_wanted}
use Rattle.plan_runs.specs.declared.asked_place.AskedPlace.{AskedPlace}

-- cursors of terms have a price for each move
item_is_plain : (item : Item HitPlace) → is_plain (λ cursor. true) item ≡ true
item_is_plain Merged.Any = refl
item_is_plain (Merged.Of cursors) = always cursors.items
  where
    always : (xs : List HitPlace) → list_all (λ cursor. true) xs ≡ true
    always [] = refl
    always (x ∷ xs) = always xs

items_are_plain : (items : List (Item HitPlace)) → list_all (is_plain (λ cursor. true)) items ≡ true
items_are_plain [] = refl
items_are_plain (item ∷ items) = ap (λ b. b && list_all (is_plain (λ cursor. true)) items) (item_is_plain item) ∙ items_are_plain items

pub all_are_plain : (variants : List (Variant HitPlace)) → all_plain (λ cursor. true) variants ≡ true
all_are_plain [] = refl
all_are_plain (variant ∷ variants) = ap (λ b. b && all_plain (λ cursor. true) variants) (items_are_plain variant.items.items) ∙ all_are_plain variants

-- words that are wanted, by the numbers of their terms
pub wanted_same : (version : List Numbered) (item : WordTerms) (word : List ℕ) → phrases.is_wanted version item word ≡ is_wanted version item word
unfolding is_wanted
wanted_same version Terms.Any word = refl
wanted_same version (Terms.Of sources) word = sym (list_any-map (λ (number : ℕ). same_word (term_at number version).word word) (λ (source : VersionTerm). source.term) sources)

module _ (place : AskedPlace) where
  -- aimed variants want what their terms do
  pub aimed_words : (terms : List (List WordTerms)) (variants : List (Variant HitPlace)) → AreAimed place terms variants
      → wanted_words (λ cursor. cursor) variants ≡ map (map (wanted_at place)) terms
  aimed_words terms variants aimed = all_wanted (wanted_at place) variants terms aimed

  -- so they stand at as many places
  pub aimed_law : (terms : List (List WordTerms)) (variants : List (Variant HitPlace)) → AreAimed place terms variants
      → places_between place.span.from place.span.to (wanted_words (λ cursor. cursor) variants) ≡ places_between place.span.from place.span.to (map (map (wanted_at place)) terms)
  aimed_law terms variants aimed = ap (places_between place.span.from place.span.to) (aimed_words terms variants aimed)

  pub text_length : length (text_at place) ≡ place.span.to - place.span.from
  text_length =
      let all = words_of (document_at place.doc.0 place.version.now) in
      let taken = length-take (place.span.to - 1 - (place.span.from - 1)) (drop (place.span.from - 1) all) in
      let dropped = length-drop (place.span.from - 1) all in
      let first = place.first in
      let order = place.order in
      let last = place.last in
      omega arith

  is_span : IsSpan place.span (document_at place.doc.0 place.version.now)
  is_span = record { first = place.first; order = place.order; last = place.last }

  -- the places of a word's terms, and the words that it may be, by the numbers of the terms
  pub places_same : (item : WordTerms) → wanted_at place item ≡ phrases.wanted_at place.version.now place.doc.0 place.span item
  places_same Terms.Any = refl
  places_same (Terms.Of sources) =
      ap one_of (map-map (λ (number : ℕ). map (λ (hit : Hit). hit.from) (hits_at place number)) (λ (source : VersionTerm). source.term) sources)

  -- the spots of aimed variants are those of their terms
  pub aimed_spots : (terms : List (List WordTerms)) (variants : List (Variant HitPlace)) → AreAimed place terms variants
      → spots_of place.span (wanted_words (λ cursor. cursor) variants) ≡ spots_of place.span (map (map (phrases.wanted_at place.version.now place.doc.0 place.span)) terms)
  aimed_spots terms variants aimed = ap (spots_of place.span) (aimed_words terms variants aimed ∙ (λ i. map (map (λ (item : WordTerms). places_same item i)) terms))

  fits_at_word : (item : WordTerms) (k : ℕ) (word : List ℕ) → k < length (text_at place)
      → fits (place.span.from + k) (wanted_at place item) ≡ is_wanted place.version.now item (get_or (text_at place) k word)
  fits_at_word item k word h =
      let many = text_length in
      let within : k < place.span.to - place.span.from = omega (arith, many, h) in
      ap (fits (place.span.from + k)) (places_same item)
      ∙ wanted_law place.version.now place.doc.0 place.span is_span item k within
      ∙ wanted_same place.version.now item (get_or (text_at place) k [])
      ∙ ap (is_wanted place.version.now item) (get_or_default (text_at place) k [] word h)

  pub group_law : (terms : List (List WordTerms)) → places_between place.span.from place.span.to (map (map (wanted_at place)) terms) ≡ places (is_wanted place.version.now) terms (text_at place)
  group_law terms =
      let order = place.order in
      let end : place.span.to ≡ place.span.from + length (text_at place) = omega (arith, text_length) in
      ap (λ to. places_between place.span.from to (map (map (wanted_at place)) terms)) end
      ∙ places_law (is_wanted place.version.now) (wanted_at place) place.span.from (text_at place) fits_at_word terms
