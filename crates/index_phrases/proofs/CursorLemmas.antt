-- What is left of a phrase: all its hits where it was aimed, and the hits after one that was found.
use Rattle.std.proofs.Common.{◌≡◌, refl, sym, ap, subst, ◌∙◌, ℕ, suc, ◌≤◌, true, List, [], ◌∷◌, get_or, map, filter, Option, Some, None, arith}
use Rattle.std.specs.List.{All}
use Rattle.std.specs.Option.{ForSome}
use Rattle.ft_base.specs.declared.hit.Hit.{Hit}
use Rattle.ft_base.specs.declared.span.Span.{Span}
use Rattle.index_meaning.specs.Documents.{Numbered, has_document}
use Rattle.index_versions.specs.Terms.{VersionTerm}
use Rattle.index_versions.specs.Versions.{term_hits}
use Rattle.place_merges.specs.Places.{Wanted, one_of}
use Rattle.place_merges.specs.Spots.{from_found, some_at, spot, spots_left}
use Rattle.place_merges.specs.declared.spot.Spot.{Spot}
use Rattle.place_merges.specs.steps.Spotting.{IsInside}
use Rattle.place_merges.proofs.SpotLemmas.{from_place}
use Rattle.index_phrases.specs.Parts.{hits_in_part}
use Rattle.index_phrases.specs.Phrases.{hits_in_span, phrase_hits, numbered_hit, wanted_at}
use Rattle.index_phrases.specs.steps.Aiming.{AreThere, HasDocument, IsTarget, own_wanted, sources_of}
use Rattle.index_phrases.specs.declared.target.Target.{Target}
use Rattle.index_phrases.specs.declared.word_terms.WordTerms.{WordTerms}
use Rattle.index_phrases.specs.declared.word_terms.WordTerms.TheVariants as Terms

-- in a part of the span
pub part_left : (number : ℕ) (target : Target) (part : Span) (words : List (List Wanted)) (variants : List (List Wanted)) → words ≡ variants
    → map (numbered_hit number target.breaks.breaks.now target.span) (spots_left part.to words (spot part.from 0)) ≡ hits_in_part number target.breaks.breaks.now target.span part variants
part_left number target part words variants aimed =
    ap (λ spots. map (numbered_hit number target.breaks.breaks.now target.span) (filter (some_at part.to words) spots)) (sym (from_place part.to part.from))
    ∙ (λ i. hits_in_part number target.breaks.breaks.now target.span part (aimed i))

-- in all of it
pub whole_part : (version : List Numbered) (number : ℕ) (terms : List (List WordTerms)) (target : Target) → IsTarget version target
    → hits_in_part number target.breaks.breaks.now target.span target.span (map (map (wanted_at version target.doc.0 target.span)) terms) ≡ phrase_hits version number terms target.doc.0 target.span
whole_part version number terms target known = λ i. hits_in_span number (known.breaks i) target.span (map (map (wanted_at version target.doc.0 target.span)) terms)

pub is_known : (version : List Numbered) (target : Target) → IsTarget version target → ForSome (Some target) (IsTarget version)
is_known version target known other is = let one : target ≡ other = cc in subst (IsTarget version) one known

-- ---- a spot that was found

-- it is inside the span in which it was sought
pub inside_span : (from place to : ℕ) (result : Option Spot) (at : Spot) → from ≤ place → ForSome result (IsInside place to) → result ≡ Some at → IsInside from to at
inside_span from place to result at order inside is =
    let found = inside at is in
    let first = found.first in
    record { first = omega (arith, first, order); some = found.some; last = found.last }

pub none_left : (tell : Spot → Hit) (before : List Spot) (left : Spot → List Spot) (result : Option Spot)
    → before ≡ from_found left result → result ≡ None → map tell before ≡ []
none_left tell before left result spots is = ap (map tell) (spots ∙ ap (from_found left) is)

-- ---- terms of the version

-- what holds of every word holds of what follows from it
each : {X : Type 0} (P Q : X → Type 0) (all : (x : X) → P x → Q x) (xs : List X) → All P xs → All Q xs
each P Q all xs own = λ k d h. all (get_or xs k d) (own k d h)

module _ (version : List Numbered) (doc : ℕ) where
  -- they have its documents
  pub documents_there : has_document doc version ≡ true → (terms : List (List WordTerms)) → All (All (AreThere version)) terms → All (All (HasDocument doc)) terms
  documents_there there terms own =
      each (All (AreThere version)) (All (HasDocument doc))
      (λ words. each (AreThere version) (HasDocument doc)
      (λ word. each (λ (source : VersionTerm). source.version ≡ version) (λ (source : VersionTerm). has_document doc source.version ≡ true)
      (λ source is. subst (λ v. has_document doc v ≡ true) (sym is) there) (sources_of word)) words) terms own

  module _ (span : Span) where
    -- and stand where its terms of their numbers do
    places_by : (sources : List VersionTerm) → All (λ source. source.version ≡ version) sources
        → map (λ (source : VersionTerm). map (λ (hit : Hit). hit.from) (term_hits source.term doc span source.version)) sources
        ≡ map (λ (source : VersionTerm). map (λ (hit : Hit). hit.from) (term_hits source.term doc span version)) sources
    places_by [] own = refl
    places_by (source ∷ sources) own =
        λ i. map (λ (hit : Hit). hit.from) (term_hits source.term doc span (own 0 source (omega arith) i)) ∷ places_by sources (λ k d h. own (suc k) d (omega arith)) i

    word_by : (word : WordTerms) → AreThere version word → own_wanted doc span word ≡ wanted_at version doc span word
    word_by Terms.Any own = refl
    word_by (Terms.Of sources) own = ap one_of (places_by sources own)

    words_by : (words : List WordTerms) → All (AreThere version) words → map (own_wanted doc span) words ≡ map (wanted_at version doc span) words
    words_by [] own = refl
    words_by (word ∷ words) own = λ i. word_by word (own 0 word (omega arith)) i ∷ words_by words (λ k d h. own (suc k) d (omega arith)) i

    pub by_version : (terms : List (List WordTerms)) → All (All (AreThere version)) terms → map (map (own_wanted doc span)) terms ≡ map (map (wanted_at version doc span)) terms
    by_version [] own = refl
    by_version (words ∷ terms) own = λ i. words_by words (own 0 words (omega arith)) i ∷ by_version terms (λ k d h. own (suc k) d (omega arith)) i
