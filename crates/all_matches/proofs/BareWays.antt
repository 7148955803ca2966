-- Without negated selections each way makes one Match, which has no excludes.
use Rattle.std.proofs.Common.{◌≡◌, refl, ap, sym, ◌∙◌, List, [], ◌∷◌, ◌++◌, Bool, true, false, ◌&&◌, cond}
use Rattle.std.specs.Prelude.{map, filter, flat_map, Option}
use Rattle.std.specs.List.{list_any, list_all}
use Rattle.std.proofs.lemmas.Bool.{and_parts}
use Rattle.std.proofs.lemmas.List.Folds.{list_all-append}
use Rattle.std.proofs.lemmas.List.{map-append}
use Rattle.ft_base.specs.Lists.{is_not_empty}
use Rattle.ft_base.specs.declared.hit.Hit.{Hit}
use Rattle.ft_base.specs.declared.filter.Filter.{Filter}
use Rattle.ft_base.specs.declared.span.Span.{Span}
use Rattle.all_matches.specs.declared.window.Window.{Window}
use Rattle.all_matches.specs.Hits.{match_of_hit}
use Rattle.all_matches.specs.Boolean.{both, ft_and, is_clean}
use Rattle.all_matches.specs.MildNot.{stands_out, ft_mild_not}
use Rattle.all_matches.specs.Filters.{passes, choices, through, ft_filtered}
use Rattle.all_matches.specs.Ways.{is_plain, Operator, phrase, either, together, apart, negated, through_filter, matches_of, Way, one_hit, two_ways, turned_about, by_filter, way_includes, made, standing_out, filtered_ways, ways_of, without_negation, bare_match, is_bare, is_good, after_filter}
use Rattle.all_matches.proofs.ListTests.{list_any-map}
use Rattle.all_matches.proofs.Shifted.{map-cond}

bare_phrase : (found : List Hit) → map match_of_hit found ≡ map bare_match (map one_hit found)
bare_phrase [] = refl
bare_phrase (hit ∷ rest) = ap (λ ms. match_of_hit hit ∷ ms) (bare_phrase rest)

bare_row : (a : Way) (rights : List Way) → map (both (bare_match a)) (map bare_match rights) ≡ map bare_match (map (two_ways a) rights)
bare_row a [] = refl
bare_row a (b ∷ rest) = ap (λ ms. bare_match (two_ways a b) ∷ ms) (bare_row a rest)

bare_pairs : (lefts rights : List Way) → ft_and (map bare_match lefts) (map bare_match rights) ≡ map bare_match (flat_map (λ a. map (two_ways a) rights) lefts)
bare_pairs [] rights = refl
bare_pairs (a ∷ rest) rights = (λ i. bare_row a rights i ++ bare_pairs rest rights i) ∙ sym (map-append bare_match (map (two_ways a) rights) (flat_map (λ x. map (two_ways x) rights) rest))

out_of_all : (a : Way) (rights : List Way) → list_all (λ b. stands_out (way_includes a) b.includes) (map bare_match rights) ≡ list_all (λ b. stands_out (way_includes a) (way_includes b)) rights
out_of_all a [] = refl
out_of_all a (b ∷ rest) = ap (λ t. stands_out (way_includes a) (way_includes b) && t) (out_of_all a rest)

kept_out : (lefts rights : List Way) → filter (λ a. list_all (λ b. stands_out a.includes b.includes) (map bare_match rights)) (map bare_match lefts) ≡ map bare_match (filter (λ a. list_all (λ b. stands_out (way_includes a) (way_includes b)) rights) lefts)
kept_out [] rights = refl
kept_out (a ∷ rest) rights =
    (λ i. cond (out_of_all a rights i) (bare_match a ∷ kept_out rest rights i) (kept_out rest rights i))
    ∙ sym (map-cond bare_match (list_all (λ b. stands_out (way_includes a) (way_includes b)) rights) (a ∷ filter (λ c. list_all (λ b. stands_out (way_includes c) (way_includes b)) rights) rest) (filter (λ c. list_all (λ b. stands_out (way_includes c) (way_includes b)) rights) rest))

bare_apart : (lefts rights : List Way) → ft_mild_not (map bare_match lefts) (map bare_match rights) ≡ map bare_match (standing_out lefts rights)
bare_apart lefts rights =
    (λ i. cond (list_any-map (λ m. is_not_empty m.includes) bare_match rights i) (kept_out lefts rights i) (map bare_match lefts))
    ∙ sym (map-cond bare_match (list_any (λ way. is_not_empty (way_includes way)) rights) (filter (λ a. list_all (λ b. stands_out (way_includes a) (way_includes b)) rights) lefts) lefts)

bare_choices : (kind : Filter) (way : Way) (cs : List (Option Window)) → map (through kind (bare_match way)) cs ≡ map bare_match (map (by_filter way kind) cs)
bare_choices kind way [] = refl
bare_choices kind way (c ∷ rest) = ap (λ ms. bare_match (by_filter way kind c) ∷ ms) (bare_choices kind way rest)

bare_filtered : (kind : Filter) (item : Span) (ways : List Way) → ft_filtered kind item (map bare_match ways) ≡ map bare_match (flat_map (filtered_ways kind item) ways)
bare_filtered kind item [] = refl
bare_filtered kind item (way ∷ rest) =
    (λ i. (ap (λ ms. cond (passes kind (way_includes way) item) ms []) (bare_choices kind way (choices kind (way_includes way)))
    ∙ sym (map-cond bare_match (passes kind (way_includes way) item) (map (by_filter way kind) (choices kind (way_includes way))) [])) i
    ++ bare_filtered kind item rest i)
    ∙ sym (map-append bare_match (filtered_ways kind item way) (flat_map (filtered_ways kind item) rest))

pub bare_matches : (item : Span) (operator : Operator) → without_negation operator ≡ true → matches_of item operator ≡ map bare_match (ways_of item operator)
unfolding matches_of ways_of
bare_matches item (phrase found) h = bare_phrase found
bare_matches item (either left right) h =
    let parts = and_parts (without_negation left) (without_negation right) h in
    (λ i. bare_matches item left parts.0 i ++ bare_matches item right parts.1 i) ∙ sym (map-append bare_match (ways_of item left) (ways_of item right))
bare_matches item (together left right) h =
    let parts = and_parts (without_negation left) (without_negation right) h in
    (λ i. ft_and (bare_matches item left parts.0 i) (bare_matches item right parts.1 i)) ∙ bare_pairs (ways_of item left) (ways_of item right)
bare_matches item (apart left right) h =
    let parts = and_parts (without_negation left) (without_negation right) h in
    (λ i. ft_mild_not (bare_matches item left parts.0 i) (bare_matches item right parts.1 i)) ∙ bare_apart (ways_of item left) (ways_of item right)
bare_matches item (negated operand) h = cc
bare_matches item (through_filter operand kind) h = ap (ft_filtered kind item) (bare_matches item operand h) ∙ bare_filtered kind item (ways_of item operand)

-- tests of the ways of an operator
module _ (test : Way → Bool) where
  all_found : ((hit : Hit) → test (one_hit hit) ≡ true) → (found : List Hit) → list_all test (map one_hit found) ≡ true
  all_found each [] = refl
  all_found each (hit ∷ rest) = λ i. each hit i && all_found each rest i

  all_row : ((a b : Way) → test a ≡ true → test b ≡ true → test (two_ways a b) ≡ true) → (a : Way) (rights : List Way) → test a ≡ true → list_all test rights ≡ true → list_all test (map (two_ways a) rights) ≡ true
  all_row each a [] ha hb = refl
  all_row each a (b ∷ rest) ha hb = let parts = and_parts (test b) (list_all test rest) hb in λ i. each a b ha parts.0 i && all_row each a rest ha parts.1 i

  all_pairs : ((a b : Way) → test a ≡ true → test b ≡ true → test (two_ways a b) ≡ true) → (lefts rights : List Way) → list_all test lefts ≡ true → list_all test rights ≡ true → list_all test (flat_map (λ a. map (two_ways a) rights) lefts) ≡ true
  all_pairs each [] rights ha hb = refl
  all_pairs each (a ∷ rest) rights ha hb =
      let parts = and_parts (test a) (list_all test rest) ha in
      list_all-append test (map (two_ways a) rights) (flat_map (λ x. map (two_ways x) rights) rest) ∙ (λ i. all_row each a rights parts.0 hb i && all_pairs each rest rights parts.1 hb i)

  all_cond : (b : Bool) (xs ys : List Way) → list_all test xs ≡ true → list_all test ys ≡ true → list_all test (cond b xs ys) ≡ true
  all_cond true xs ys hx hy = hx
  all_cond false xs ys hx hy = hy

  all_kept : (p : Way → Bool) (ways : List Way) → list_all test ways ≡ true → list_all test (filter p ways) ≡ true
  all_kept p [] h = refl
  all_kept p (way ∷ rest) h =
      let parts = and_parts (test way) (list_all test rest) h in
      all_cond (p way) (way ∷ filter p rest) (filter p rest) (λ i. parts.0 i && all_kept p rest parts.1 i) (all_kept p rest parts.1)

  all_choices : (kind : Filter) (way : Way) → ((c : Option Window) → test (by_filter way kind c) ≡ true) → (cs : List (Option Window)) → list_all test (map (by_filter way kind) cs) ≡ true
  all_choices kind way each [] = refl
  all_choices kind way each (c ∷ rest) = λ i. each c i && all_choices kind way each rest i

  all_filtered : (kind : Filter) (item : Span) → ((way : Way) (c : Option Window) → test way ≡ true → test (by_filter way kind c) ≡ true) → (ways : List Way) → list_all test ways ≡ true → list_all test (flat_map (filtered_ways kind item) ways) ≡ true
  all_filtered kind item each [] h = refl
  all_filtered kind item each (way ∷ rest) h =
      let parts = and_parts (test way) (list_all test rest) h in
      list_all-append test (filtered_ways kind item way) (flat_map (filtered_ways kind item) rest)
      ∙ (λ i. all_cond (passes kind (way_includes way) item) (map (by_filter way kind) (choices kind (way_includes way))) [] (all_choices kind way (λ c. each way c parts.0) (choices kind (way_includes way))) refl i
      && all_filtered kind item each rest parts.1 i)

pub bare_ways : (item : Span) (operator : Operator) → without_negation operator ≡ true → list_all is_bare (ways_of item operator) ≡ true
unfolding ways_of
bare_ways item (phrase found) h = all_found is_bare (λ hit. refl) found
bare_ways item (either left right) h =
    let parts = and_parts (without_negation left) (without_negation right) h in
    list_all-append is_bare (ways_of item left) (ways_of item right) ∙ (λ i. bare_ways item left parts.0 i && bare_ways item right parts.1 i)
bare_ways item (together left right) h =
    let parts = and_parts (without_negation left) (without_negation right) h in
    all_pairs is_bare (λ a b ha hb i. ha i && hb i) (ways_of item left) (ways_of item right) (bare_ways item left parts.0) (bare_ways item right parts.1)
bare_ways item (apart left right) h =
    let parts = and_parts (without_negation left) (without_negation right) h in
    all_cond is_bare (list_any (λ way. is_not_empty (way_includes way)) (ways_of item right)) _ (ways_of item left)
    (all_kept is_bare (λ a. list_all (λ b. stands_out (way_includes a) (way_includes b)) (ways_of item right)) (ways_of item left) (bare_ways item left parts.0)) (bare_ways item left parts.0)
bare_ways item (negated operand) h = cc
bare_ways item (through_filter operand kind) h = all_filtered is_bare kind item (λ way c e. e) (ways_of item operand) (bare_ways item operand h)

-- a bare way makes its one Match
pub made-bare : (way : Way) → is_bare way ≡ true → made way ≡ bare_match way ∷ []
made-bare (one_hit hit) h = refl
made-bare (two_ways left right) h =
    let parts = and_parts (is_bare left) (is_bare right) h in
    λ i. ft_and (made-bare left parts.0 i) (made-bare right parts.1 i)
made-bare (turned_about matches) h = cc
made-bare (by_filter way kind choice) h = ap (map (after_filter kind (way_includes way) choice)) (made-bare way h)

pub bare_good : (way : Way) → is_bare way ≡ true → is_good way ≡ true
bare_good (one_hit hit) h = refl
bare_good (two_ways left right) h = let parts = and_parts (is_bare left) (is_bare right) h in λ i. bare_good left parts.0 i && bare_good right parts.1 i
bare_good (turned_about matches) h = cc
bare_good (by_filter way kind choice) h = bare_good way h

bare_clean : (ways : List Way) → list_all is_clean (map bare_match ways) ≡ true
bare_clean [] = refl
bare_clean (way ∷ rest) = bare_clean rest

all_good : (ways : List Way) → list_all is_bare ways ≡ true → list_all is_good ways ≡ true
all_good [] h = refl
all_good (way ∷ rest) h = let parts = and_parts (is_bare way) (list_all is_bare rest) h in λ i. bare_good way parts.0 i && all_good rest parts.1 i

-- the ways of an operator whose negated selections stand neither inside one another nor inside mild not
pub good_ways : (item : Span) (operator : Operator) → is_plain operator ≡ true → list_all is_good (ways_of item operator) ≡ true
unfolding ways_of
good_ways item (phrase found) h = all_found is_good (λ hit. refl) found
good_ways item (either left right) h =
    let parts = and_parts (is_plain left) (is_plain right) h in
    list_all-append is_good (ways_of item left) (ways_of item right) ∙ (λ i. good_ways item left parts.0 i && good_ways item right parts.1 i)
good_ways item (together left right) h =
    let parts = and_parts (is_plain left) (is_plain right) h in
    all_pairs is_good (λ a b ha hb i. ha i && hb i) (ways_of item left) (ways_of item right) (good_ways item left parts.0) (good_ways item right parts.1)
good_ways item (apart left right) h = all_good (ways_of item (apart left right)) (bare_ways item (apart left right) h)
good_ways item (negated operand) h = λ i. (ap (list_all is_clean) (bare_matches item operand h) ∙ bare_clean (ways_of item operand)) i && true
good_ways item (through_filter operand kind) h = all_filtered is_good kind item (λ way c e. e) (ways_of item operand) (good_ways item operand h)
