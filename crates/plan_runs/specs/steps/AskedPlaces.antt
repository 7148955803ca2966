-- Where a run is tested, and where the terms of its words stand there.
use Rattle.std.specs.Prelude.{◌≡◌, ℕ, Bool, true, List, map}
use Rattle.ft_base.specs.Hits.{HitPlace, hit_place}
use Rattle.ft_base.specs.declared.hit.Hit.{Hit}
use Rattle.index_meaning.specs.Documents.{document_at}
use Rattle.index_versions.specs.Versions.{term_hits}
use Rattle.place_merges.specs.Places.{Wanted, any_word, one_of}
use Rattle.place_merges.specs.declared.item.Variant.{Variant}
use Rattle.index_phrases.specs.steps.Aiming.{counted_words}
use Rattle.index_phrases.specs.Phrases.{words_at}
use Rattle.plan_runs.specs.steps.AskedSpans.{AskedSpan}
use Rattle.plan_runs.specs.steps.ChosenTerms.{numbers_of}
use Rattle.index_phrases.specs.declared.word_terms.WordTerms.{WordTerms}
use Rattle.index_phrases.specs.declared.word_terms.WordTerms.TheVariants as Terms
use Rattle.plan_runs.specs.declared.asked_place.AskedPlace.{AskedPlace}

-- the words of the span
abbrev pub text_at : AskedPlace → List (List ℕ)
text_at place = words_at place.span (document_at place.doc.0 place.version.now)

-- the span of the document
abbrev pub asked_at : AskedPlace → AskedSpan
asked_at place = record { doc = place.doc.0; span = place.span }

-- the hits of a term there
abbrev pub hits_at : AskedPlace → ℕ → List Hit
hits_at place term = term_hits term place.doc.0 place.span place.version.now

-- where a cursor stands that was aimed there
abbrev pub aimed : AskedPlace → ℕ → HitPlace
aimed place term = hit_place (hits_at place term) 0

-- the places of the terms of a word
abbrev pub wanted_at : AskedPlace → WordTerms → Wanted
wanted_at place Terms.Any = any_word
wanted_at place (Terms.Of sources) = one_of (map (λ number. map (λ hit. hit.from) (hits_at place number)) (numbers_of sources))

-- what the words of a variant want there, and that it counts
abbrev pub counted_at : AskedPlace → List WordTerms → Bool × List Wanted
counted_at place terms = (true, map (wanted_at place) terms)

-- a variant counts, and its words want the places of their terms
abbrev pub IsAimed : AskedPlace → List WordTerms → Variant HitPlace → Type 0
IsAimed place terms variant = counted_words variant ≡ counted_at place terms

abbrev pub AreAimed : AskedPlace → List (List WordTerms) → List (Variant HitPlace) → Type 0
AreAimed place terms variants = map counted_words variants ≡ map (counted_at place) terms
