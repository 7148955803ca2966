-- Variants whose cursors were aimed, one after the other.
use Rattle.std.proofs.Common.{◌≡◌, ◌≤◌, ◌<◌, ◌+◌, ◌*◌, ◌++◌, ℕ, suc, subst, true, cond, List, [], ◌∷◌, map, length, get_or, set, take, refl, sym, ap, ◌∙◌, arith}
use Rattle.std.specs.List.{All, sum_by}
use Rattle.std.proofs.lemmas.List.{length-map, map_more, map_push, take_more_set}
use Rattle.std.proofs.lemmas.List.Sums.{sum_by_push, sum_by_more}
use Rattle.ft_base.specs.Hits.{HitPlace, hit_place}
use Rattle.ft_base.specs.declared.hit.Hit.{Hit}
use Rattle.index_meaning.specs.Documents.{Numbered, has_document}
use Rattle.index_versions.specs.Terms.{VersionTerm, aimed_at}
use Rattle.index_versions.specs.Versions.{term_hits}
use Rattle.place_merges.specs.Places.{Wanted, any_word, one_of}
use Rattle.place_merges.specs.Sources.{all_left, hits_left, places_left, variant_left, wanted}
use Rattle.place_merges.specs.declared.item.Item.{Item}
use Rattle.place_merges.specs.declared.item.Item.TheVariants as Merged
use Rattle.place_merges.specs.declared.item.Variant.{Variant}
use Rattle.index_phrases.specs.steps.Aiming.{counted_words}
use Rattle.plan_runs.specs.steps.AskedPlaces.{AreAimed, IsAimed, aimed, counted_at, hits_at, wanted_at}
use Rattle.plan_runs.specs.steps.ChosenTerms.{numbers_of}
use Rattle.plan_runs.specs.steps.RunCosts.{hit_count, moves_for, term_count}
use Rattle.plan_runs.specs.declared.asked_place.AskedPlace.{AskedPlace}
use Rattle.index_phrases.specs.declared.word_terms.WordTerms.{WordTerms}
use Rattle.index_phrases.specs.declared.word_terms.WordTerms.TheVariants as Terms
use Rattle.plan_compiler.proofs.SumLemmas.{sum_over}
use Rattle.plan_runs.proofs.SumLemmas.{sum_with_twice}

-- a document of the version is one of each term's version
pub all_there : (version : List Numbered) (doc : ℕ) (sources : List VersionTerm) → has_document doc version ≡ true → All (λ source. source.version ≡ version) sources
    → All (λ source. has_document doc source.version ≡ true) sources
all_there version doc sources there own = λ k d h. subst (λ v. has_document doc v ≡ true) (sym (own k d h)) there

-- ---- the hits that items have

-- how many places a word may stand at
abbrev places_of : Wanted → ℕ
places_of any_word = 0
places_of (one_of lists) = sum_by length lists

item_left : (item : Item HitPlace) → places_of (wanted (λ cursor. cursor) item) ≡ hits_left (λ cursor. cursor) item
item_left Merged.Any = refl
item_left (Merged.Of cursors) = sum_over length (λ (cursor : HitPlace). length (places_left cursor)) places_left (λ cursor. refl) cursors.items

module _ (place : AskedPlace) where
  hits_of : (word : WordTerms) → places_of (wanted_at place word) ≡ hit_count place word
  hits_of Terms.Any = refl
  hits_of (Terms.Of sources) =
      sum_over length (λ number. length (hits_at place number)) (λ number. map (λ (hit : Hit). hit.from) (hits_at place number))
      (λ number. length-map (hits_at place number) (λ (hit : Hit). hit.from)) (numbers_of sources)

  -- terms of the version have the hits of their numbers
  pub aimed_are : (sources : List VersionTerm) → All (λ source. source.version ≡ place.version.now) sources
      → map (aimed_at place.doc.0 place.span) sources ≡ map (aimed place) (numbers_of sources)
  aimed_are [] own = refl
  aimed_are (source ∷ sources) own =
      λ i. hit_place (term_hits source.term place.doc.0 place.span (own 0 source (omega arith) i)) 0 ∷ aimed_are sources (λ k d h. own (suc k) d (omega arith)) i

  -- cursors that were aimed have the hits of their terms
  pub items_left : (items : List (Item HitPlace)) (terms : List WordTerms) → map (wanted (λ cursor. cursor)) items ≡ map (wanted_at place) terms
      → sum_by (hits_left (λ cursor. cursor)) items ≡ sum_by (hit_count place) terms
  items_left items terms same =
      sym (sum_over places_of (hits_left (λ cursor. cursor)) (wanted (λ cursor. cursor)) item_left items)
      ∙ ap (sum_by places_of) same
      ∙ sum_over places_of (hit_count place) (wanted_at place) hits_of terms

  pub aimed_price : (variant : Variant HitPlace) (terms : List WordTerms) (start end : ℕ) → variant.counts ≡ true
      → map (wanted (λ cursor. cursor)) variant.items.items ≡ map (wanted_at place) terms → end ≤ start + sum_by term_count terms
      → end + 2 * variant_left (λ cursor. cursor) variant ≤ start + sum_by (moves_for place) terms
  aimed_price variant terms start end counts same price =
      let left = ap (λ b. cond b (sum_by (hits_left (λ cursor. cursor)) variant.items.items) 0) counts in
      let hits = items_left variant.items.items terms same in
      let all = sum_with_twice term_count (hit_count place) terms in
      omega (arith, left, hits, all, price)

  pub aimed_stands : (variant : Variant HitPlace) (terms : List WordTerms) → variant.counts ≡ true
      → map (wanted (λ cursor. cursor)) variant.items.items ≡ map (wanted_at place) terms → IsAimed place terms variant
  aimed_stands variant terms counts same = λ i. (counts i, same i)

  -- ---- one variant more

  module _ (now : List (Variant HitPlace)) (terms : List (List WordTerms)) (i : ℕ) (variant : Variant HitPlace) (word : List WordTerms)
      (many : i < length now) (within : i < length terms) (is : word ≡ get_or terms i word) where
    pub more_aimed : AreAimed place (take i terms) (take i now) → IsAimed place word variant → AreAimed place (take (i + 1) terms) (take (i + 1) (set now i variant))
    more_aimed before one =
        ap (map counted_words) (take_more_set now i variant many)
        ∙ map_push counted_words (take i now) variant
        ∙ (λ j. before j ++ one j ∷ [])
        ∙ ap (λ (w : List WordTerms). map (counted_at place) (take i terms) ++ counted_at place w ∷ []) is
        ∙ sym (map_more (counted_at place) terms i word within)

    pub more_price : (start middle end : ℕ) → middle + 2 * all_left (λ cursor. cursor) (take i now) ≤ start + sum_by (sum_by (moves_for place)) (take i terms)
        → end + 2 * variant_left (λ cursor. cursor) variant ≤ middle + sum_by (moves_for place) word
        → end + 2 * all_left (λ cursor. cursor) (take (i + 1) (set now i variant)) ≤ start + sum_by (sum_by (moves_for place)) (take (i + 1) terms)
    more_price start middle end before one =
        let left = ap (all_left (λ cursor. cursor)) (take_more_set now i variant many) ∙ sum_by_push (variant_left (λ cursor. cursor)) (take i now) variant in
        let more = sum_by_more (sum_by (moves_for place)) terms i word within in
        let own = ap (sum_by (moves_for place)) is in
        omega (arith, left, more, own, before, one)
