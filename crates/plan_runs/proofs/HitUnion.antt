-- The hits of a phrase are those of its variants, each variant taken by itself.
use Rattle.std.proofs.Common.{◌≡◌, refl, sym, ap, ◌∙◌, ℕ, ◌==◌, Bool, true, false, ◌&&◌, ◌||◌, List, [], ◌∷◌, map, filter, length}
use Rattle.std.specs.List.{list_any}
use Rattle.std.proofs.lemmas.List.Folds.{list_any-append}
use Rattle.ft_base.specs.declared.hit.Hit.{Hit}
use Rattle.ft_base.specs.declared.span.Span.{Span}
use Rattle.all_matches.proofs.WayLaws.{any_or}
use Rattle.all_matches.proofs.ListTests.{list_any-alike, list_any-map, list_any-never}
use Rattle.index_meaning.specs.Documents.{Numbered, breaks_of, document_at}
use Rattle.index_phrases.specs.Phrases.{hits_in_span, phrase_hits, numbered_hit, wanted_at}
use Rattle.phrase_merges.specs.Rows.{hits_there}
use Rattle.phrase_merges.proofs.ChoiceLemmas.{any_filter}
use Rattle.place_merges.specs.Places.{Wanted, stands_before}
use Rattle.place_merges.specs.Spots.{some_at, spots_between}
use Rattle.place_merges.specs.declared.spot.Spot.{Spot}
use Rattle.window_merges.specs.Choices.{some_choice}
use Rattle.word_lists.specs.Stems.{Stem}
use Rattle.plan_compiler.specs.declared.item_matching.ItemTest.{ItemTest}
use Rattle.plan_compiler.specs.declared.looks.Looks.{Looks}
use Rattle.plan_runs.specs.steps.OpenedItems.{opened_variant}
use Rattle.plan_runs.specs.steps.Passes.{variant_aims}

-- a test of the spots of several variants
module _ (to : ℕ) (spots : List Spot) (test : Spot → Bool) where
  abbrev some_spot : List (List Wanted) → Bool
  some_spot variants = list_any (λ at. some_at to variants at && test at) spots

  one_more : (variant : List Wanted) (variants : List (List Wanted)) → some_spot (variant ∷ variants) ≡ (some_spot (variant ∷ []) || some_spot variants)
  one_more variant variants =
      list_any-alike (λ at. some_at to (variant ∷ variants) at && test at) (λ at. (some_at to (variant ∷ []) at && test at) || (some_at to variants at && test at)) spots
      (λ at. split ((length variant == at.words) && stands_before to at.place variant) (some_at to variants at) (test at))
      ∙ sym (any_or (λ at. some_at to (variant ∷ []) at && test at) (λ at. some_at to variants at && test at) spots)
    where
      split : (a b c : Bool) → ((a || b) && c) ≡ (((a || false) && c) || (b && c))
      split true true true = refl
      split true true false = refl
      split true false true = refl
      split true false false = refl
      split false b c = refl

module _ (looks : Looks) (stems : List Stem) (version : List Numbered) (number doc : ℕ) (span : Span) (test : Hit → Bool) where
  abbrev wanted : List ItemTest → List Wanted
  wanted tests = map (wanted_at version doc span) (opened_variant looks stems version tests)

  abbrev hit_at : Spot → Hit
  hit_at at = numbered_hit number (breaks_of (document_at doc version)) span at

  abbrev spots : List Spot
  spots = spots_between span.from span.to

  by_spots : (variants : List (List Wanted)) → list_any test (hits_in_span number (breaks_of (document_at doc version)) span variants) ≡ some_spot span.to spots (λ at. test (hit_at at)) variants
  by_spots variants = list_any-map test hit_at (filter (some_at span.to variants) spots) ∙ any_filter (λ at. test (hit_at at)) (some_at span.to variants) spots

  nested : (variants : List (List ItemTest)) → map (map (wanted_at version doc span)) (map (opened_variant looks stems version) variants) ≡ map wanted variants
  nested [] = refl
  nested (tests ∷ variants) = ap (λ rest. wanted tests ∷ rest) (nested variants)

  each_variant : (variants : List (List ItemTest)) → some_spot span.to spots (λ at. test (hit_at at)) (map wanted variants)
      ≡ list_any test (hits_there doc span (map (variant_aims looks stems version number) variants))
  each_variant [] = list_any-never spots
  each_variant (tests ∷ variants) =
      one_more span.to spots (λ at. test (hit_at at)) (wanted tests) (map wanted variants)
      ∙ (λ i. sym (by_spots (wanted tests ∷ [])) i || each_variant variants i)
      ∙ sym (list_any-append test ((variant_aims looks stems version number tests).hits doc span) (hits_there doc span (map (variant_aims looks stems version number) variants)))

  pub union_law : (variants : List (List ItemTest)) → list_any test (phrase_hits version number (map (opened_variant looks stems version) variants) doc span)
      ≡ list_any test (hits_there doc span (map (variant_aims looks stems version number) variants))
  union_law variants =
      ap (λ (own : List (List Wanted)). list_any test (hits_in_span number (breaks_of (document_at doc version)) span own)) (nested variants)
      ∙ by_spots (map wanted variants)
      ∙ each_variant variants

-- choices of lists that no test of an element tells apart
pub choice_alike : {X : Type 0} (f g : X → List Hit) → ((x : X) (p : Hit → Bool) → list_any p (f x) ≡ list_any p (g x)) → (test : List Hit → Bool) (xs : List X)
    → some_choice test (map f xs) ≡ some_choice test (map g xs)
choice_alike f g same test [] = refl
choice_alike f g same test (x ∷ xs) =
    same x (λ hit. some_choice (λ chosen. test (hit ∷ chosen)) (map f xs))
    ∙ list_any-alike (λ hit. some_choice (λ chosen. test (hit ∷ chosen)) (map f xs)) (λ hit. some_choice (λ chosen. test (hit ∷ chosen)) (map g xs)) (g x)
    (λ hit. choice_alike f g same (λ chosen. test (hit ∷ chosen)) xs)
