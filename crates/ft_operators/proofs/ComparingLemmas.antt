-- Going through ways for the least includes of those that pass a test.
use Rattle.std.proofs.Common.{◌≡◌, refl, ap, sym, ◌∙◌, ℕ, List, [], ◌∷◌, Bool, true, false, ◌&&◌, cond, drop, filter, map}
use Rattle.std.specs.Prelude.{Option, Some, None}
use Rattle.std.specs.List.{list_all, list_any}
use Rattle.std.proofs.lemmas.Bool.{and_parts}
use Rattle.ft_base.specs.Lists.{is_not_empty}
use Rattle.ft_base.specs.declared.hit.Hit.{Hit}
use Rattle.ft_base.specs.declared.span.Span.{Span}
use Rattle.all_matches.specs.Chain.{Link, kept_by}
use Rattle.all_matches.specs.Ways.{Operator, Way, clean_under, way_includes, ways_of}
use Rattle.all_matches.proofs.ListTests.{list_any-map}
use Rattle.best_hits.specs.Best.{spans_of}
use Rattle.best_hits.specs.Least.{comes_before, least, least_from}
use Rattle.best_hits.proofs.LeastAlike.{least-alike}
use Rattle.ft_operators.specs.declared.chain.Chain.{Chain}
use Rattle.ft_operators.specs.declared.course.Course.{Course}
use Rattle.ft_operators.specs.declared.extent.Extent.{Extent}
use Rattle.ft_operators.specs.Chains.{links_of}
use Rattle.ft_operators.specs.Course.{tellings, ways_on}
use Rattle.ft_operators.specs.Extents.{extent_beside}
use Rattle.ft_operators.specs.declared.extent.UnitExtents.{UnitExtents}
use Rattle.ft_base.specs.declared.unit.TextUnit.TheVariants.{Words}
use Rattle.ft_operators.specs.Standing.{Standing}
use Rattle.ft_operators.specs.steps.Cleaning.{tells}
use Rattle.ft_operators.specs.steps.Comparing.{Comparing, least_after, lesser_now, so_far}
use Rattle.ft_operators.specs.steps.Measuring.{are_held, holds}
use Rattle.ft_operators.specs.steps.Ordering.{is_before, rise}
use Rattle.ft_operators.proofs.CourseLemmas.{any_kept, clean_and_told}
use Rattle.ft_operators.proofs.OrderedWays.{first-stays}

-- ---- the least of ways

after_some : (test : Way → Bool) (ways : List Way) (best : List Hit) → least_after test (Some best) ways ≡ Some (least_from best (map way_includes (filter test ways)))
after_some test [] best = refl
after_some test (way ∷ rest) best = by_test (test way) (after_some test rest)
  where
    by_test : (b : Bool) → ((better : List Hit) → least_after test (Some better) rest ≡ Some (least_from better (map way_includes (filter test rest))))
        → least_after test (cond b (Some (cond (comes_before (way_includes way) best) (way_includes way) best)) (Some best)) rest
        ≡ Some (least_from best (map way_includes (cond b (way ∷ filter test rest) (filter test rest))))
    by_test true later = later (cond (comes_before (way_includes way) best) (way_includes way) best)
    by_test false later = later best

-- the least of lists, if there are any
least_found : List (List Hit) → Option (List Hit)
least_found [] = None
least_found (first ∷ rest) = Some (least_from first rest)

after_none : (test : Way → Bool) (ways : List Way) → least_after test None ways ≡ least_found (map way_includes (filter test ways))
unfolding least_found
after_none test [] = refl
after_none test (way ∷ rest) = by_test (test way) (after_none test rest)
  where
    by_test : (b : Bool) → least_after test None rest ≡ least_found (map way_includes (filter test rest))
        → least_after test (cond b (Some (way_includes way)) None) rest ≡ least_found (map way_includes (cond b (way ∷ filter test rest) (filter test rest)))
    by_test true later = after_some test rest (way_includes way)
    by_test false later = later

found_least : (any : Bool) (hits : List Hit) (lists : List (List Hit)) → so_far any hits ≡ least_found lists → (any ≡ false → hits ≡ []) → hits ≡ least lists
unfolding least_found
found_least true hits [] same none = cc
found_least true hits (first ∷ rest) same none = cc
found_least false hits [] same none = none refl
found_least false hits (first ∷ rest) same none = cc

after_end : (test : Way → Bool) (kept : Option (List Hit)) (ways : List Way) → is_not_empty ways ≡ false → kept ≡ least_after test kept ways
after_end test kept [] none = refl
after_end test kept (way ∷ rest) none = cc

-- ---- at the end of the loop

module _ (course : Course) (old now : Standing) (before after : Chain) (room now_room start end : ℕ) (there any : Bool) (hits : List Hit)
    (in_order : Bool) (l : Comparing course (clean_under (kept_by (links_of before))) old now before after room now_room start end in_order there any hits) where
  pub comparing_ends : there ≡ false → tells course old.operator ≡ true → hits ≡ least (map way_includes (filter (clean_under (kept_by (links_of before))) (ways_on course old.operator)))
  comparing_ends none told =
      let test = clean_under (kept_by (links_of before)) in
      let ways = ways_on course old.operator in
      found_least any hits (map way_includes (filter test ways))
      (after_end test (so_far any hits) now.rest (sym l.there_now ∙ none) ∙ l.passed told ∙ after_none test ways) l.none

-- ---- ways that come in order

-- the first of them that passes the test has the least
pub first_kept : (test : Way → Bool) (ways rest : List Way) (hits : List Hit) → rise rest ≡ true → least_after test None rest ≡ least_after test None ways → Some hits ≡ lesser_now test None rest
    → hits ≡ least (map way_includes (filter test ways))
first_kept test ways [] hits rising passed now = cc
first_kept test ways (way ∷ rest) hits rising passed now =
    found_least true hits (map way_includes (filter test ways)) (by (test way) now passed ∙ after_none test ways) (λ e. cc)
  where
    by : (b : Bool) → Some hits ≡ cond b (Some (way_includes way)) None → least_after test (cond b (Some (way_includes way)) None) rest ≡ least_after test None ways
        → Some hits ≡ least_after test None ways
    by true one all = one ∙ sym (first-stays test way rest (and_parts (list_all (is_before way) rest) (rise rest) rising).0) ∙ all
    by false one all = cc

-- one way further on
pub rise_on : (ways : List Way) → rise ways ≡ true → rise (drop 1 ways) ≡ true
rise_on [] h = refl
rise_on (way ∷ rest) h = (and_parts (list_all (is_before way) rest) (rise rest) h).1

-- ---- the ways that tell which are clean have the least of all ways

any_includes : (p : List Hit → Bool) (test : Way → Bool) (ways : List Way) → list_any p (map way_includes (filter test ways)) ≡ list_any (λ way. test way && p (way_includes way)) ways
any_includes p test ways = list_any-map p way_includes (filter test ways) ∙ any_kept (λ way. p (way_includes way)) test ways

pub least_told : (item : Span) (extents : UnitExtents) (beside : Option Extent) (operator : Operator) (links : List Link) → links ≡ [] → are_held extents operator ≡ true → holds beside (extent_beside Words operator) ≡ true
    → spans_of (least (map way_includes (filter (clean_under (kept_by links)) (ways_on (tellings item extents beside) operator))))
    ≡ spans_of (least (map way_includes (filter (clean_under (kept_by [])) (ways_of item operator))))
least_told item extents beside operator links none held out =
    ap (λ ls. spans_of (least (map way_includes (filter (clean_under (kept_by ls)) (ways_on (tellings item extents beside) operator))))) none
    ∙ least-alike (map way_includes (filter test told)) (map way_includes (filter test (ways_of item operator)))
    (λ p. any_includes p test told ∙ clean_and_told item extents beside operator (kept_by []) p held out ∙ sym (any_includes p test (ways_of item operator)))
  where
    test : Way → Bool
    test = clean_under (kept_by [])

    told : List Way
    told = ways_on (tellings item extents beside) operator
