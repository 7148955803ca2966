-- Operators whose phrases have the same hits have the same Matches, as tests tell.
use Rattle.std.proofs.Common.{◌≡◌, sym, ◌∙◌, Bool, ◌||◌, map}
use Rattle.std.specs.List.{list_any}
use Rattle.std.proofs.lemmas.List.Folds.{list_any-append}
use Rattle.ft_base.specs.declared.hit.Match.{Match}
use Rattle.ft_base.specs.declared.span.Span.{Span}
use Rattle.all_matches.specs.Boolean.{both, is_clean, satisfied}
use Rattle.all_matches.specs.Filters.{filtered_match}
use Rattle.all_matches.specs.Hits.{match_of_hit}
use Rattle.all_matches.specs.Ways.{Operator, matches_of}
use Rattle.all_matches.proofs.ListTests.{list_any-alike, list_any-flat_map, list_any-map}
use Rattle.phrase_merges.specs.Near.{AreAlike, alike_phrases, alike_either, alike_together, alike_filtered}

module _ (item : Span) where
  same_tests : (a b : Operator) → AreAlike a b → (test : Match → Bool) → list_any test (matches_of item a) ≡ list_any test (matches_of item b)
  unfolding matches_of
  same_tests a b (alike_phrases found others same) test =
      list_any-map test match_of_hit found ∙ same (λ hit. test (match_of_hit hit)) ∙ sym (list_any-map test match_of_hit others)
  same_tests a b (alike_either l r m s left right) test =
      list_any-append test (matches_of item l) (matches_of item r)
      ∙ (λ i. same_tests l m left test i || same_tests r s right test i)
      ∙ sym (list_any-append test (matches_of item m) (matches_of item s))
  same_tests a b (alike_together l r m s left right) test =
      list_any-flat_map test (λ x. map (both x) (matches_of item r)) (matches_of item l)
      ∙ list_any-alike (λ x. list_any test (map (both x) (matches_of item r))) (λ x. list_any test (map (both x) (matches_of item s))) (matches_of item l)
      (λ x. list_any-map test (both x) (matches_of item r) ∙ same_tests r s right (λ y. test (both x y)) ∙ sym (list_any-map test (both x) (matches_of item s)))
      ∙ same_tests l m left (λ x. list_any test (map (both x) (matches_of item s)))
      ∙ sym (list_any-flat_map test (λ x. map (both x) (matches_of item s)) (matches_of item m))
  same_tests a b (alike_filtered kind l m same) test =
      list_any-flat_map test (filtered_match kind item) (matches_of item l)
      ∙ same_tests l m same (λ x. list_any test (filtered_match kind item x))
      ∙ sym (list_any-flat_map test (filtered_match kind item) (matches_of item m))

pub alike : (item : Span) (a b : Operator) → AreAlike a b → satisfied (matches_of item a) ≡ satisfied (matches_of item b)
alike item a b same = same_tests item a b same is_clean
