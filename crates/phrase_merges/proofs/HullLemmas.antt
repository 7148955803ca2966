-- What is left of an operator of windows and scopes are its joined hits.
use Rattle.std.proofs.Common.{◌≡◌, refl, sym, ap, ◌∙◌, ℕ, min, max, Bool, true, false, cond, ◌&&◌, ◌||◌, List, [], ◌∷◌, ◌++◌, map, Option, Some, None, arith}
use Rattle.std.specs.Prelude.{flat_map, nat_le, option_to_list}
use Rattle.std.specs.List.{list_any, list_all}
use Rattle.std.proofs.Math.Bool.{and-true, or-false}
use Rattle.std.proofs.lemmas.Bool.{and_from, and_parts, le-leb, leb-true}
use Rattle.std.proofs.lemmas.List.Folds.{list_all-append, list_all-map, list_any-append}
use Rattle.ft_base.specs.Lists.{is_not_empty}
use Rattle.ft_base.specs.declared.filter.Filter.{Filter}
use Rattle.ft_base.specs.declared.filter.Filter.TheVariants as F
use Rattle.ft_base.specs.declared.hit.Hit.{Hit}
use Rattle.ft_base.specs.declared.span.Span.{Span}
use Rattle.ft_base.specs.declared.unit.TextUnit.{TextUnit}
use Rattle.ft_base.specs.declared.unit.TextUnit.TheVariants.{Paragraphs, Sentences, Words}
use Rattle.all_matches.specs.declared.window.Window.{Window}
use Rattle.all_matches.specs.Boolean.{is_clean, satisfied}
use Rattle.all_matches.specs.Filters.{after, choices, passes}
use Rattle.all_matches.specs.Join.{greatest, join, least}
use Rattle.all_matches.specs.Positions.{end_in, start_in}
use Rattle.all_matches.specs.Ways.{Operator, Way, phrase, either, together, apart, negated, through_filter, bare_match, by_filter, filtered_ways, matches_of, one_hit, two_ways, way_includes, ways_of, without_negation}
use Rattle.all_matches.specs.Window.{fits_window}
use Rattle.all_matches.proofs.BareWays.{bare_matches}
use Rattle.all_matches.proofs.ListTests.{list_any-alike, list_any-and_first, list_any-flat_map, list_any-map}
use Rattle.window_merges.proofs.ChoiceLemmas.{greatest_first, least_first}
use Rattle.window_merges.proofs.ChoiceTests.{any_on}
use Rattle.window_merges.proofs.FilterLemmas.{some_through}
use Rattle.phrase_merges.specs.Choices.{ends_after}
use Rattle.phrase_merges.specs.Near.{fits_field, hulls_of, is_field, is_near, phrase_hits_of}
use Rattle.phrase_merges.proofs.ChoiceLemmas.{all_with, any_filter}
use Rattle.phrase_merges.proofs.UnitLemmas.{one_window}

-- ---- lists that are made of others

-- what holds of all that is made of the elements
pub all_made : {A B : Type 0} (p : A → Bool) (q : B → Bool) (f : A → List B) (xs : List A) → ((x : A) → p x ≡ true → list_all q (f x) ≡ true) → list_all p xs ≡ true
    → list_all q (flat_map f xs) ≡ true
all_made p q f [] each h = refl
all_made p q f (x ∷ xs) each h =
    let parts = and_parts (p x) (list_all p xs) h in
    list_all-append q (f x) (flat_map f xs) ∙ (λ i. each x parts.0 i && all_made p q f xs each parts.1 i)

any_true : {A : Type 0} (xs : List A) → list_any (λ x. true) xs ≡ is_not_empty xs
any_true [] = refl
any_true (x ∷ xs) = refl

-- ---- joined hits, by their numbers alone

abbrev bare : Hit → Hit
bare hit = record (record hit { query = 0 }) { whole = true }

-- the bare hit of two
abbrev two : Hit → Hit → Hit
two a b = record {
  query = 0;
  from = min a.from b.from;
  to = max a.to b.to;
  sent_from = min a.sent_from b.sent_from;
  sent_to = max a.sent_to b.sent_to;
  para_from = min a.para_from b.para_from;
  para_to = max a.para_to b.para_to;
  whole = true;
}

-- whether there is a hit that passes a test of its numbers
abbrev joined_passes : (Hit → Bool) → Option Hit → Bool
joined_passes test None = false
joined_passes test (Some hit) = test (bare hit)

module _ (number : Hit → ℕ) where
  least_of_two : (a b : ℕ) (hits : List Hit) → least (min a b) (map number hits) ≡ min a (least b (map number hits))
  least_of_two a b [] = refl
  least_of_two a b (hit ∷ hits) = ap (λ n. least n (map number hits)) (turn a b (number hit)) ∙ least_of_two a (min b (number hit)) hits
    where
      turn : (x y z : ℕ) → min (min x y) z ≡ min x (min y z)
      turn x y z = omega arith

  least_joined : (a : ℕ) (hits : List Hit) (b : Hit) (others : List Hit) → least a (map number (hits ++ b ∷ others)) ≡ min (least a (map number hits)) (least (number b) (map number others))
  least_joined a [] b others = least_of_two a (number b) others
  least_joined a (hit ∷ hits) b others = least_joined (min a (number hit)) hits b others

  greatest_of_two : (a b : ℕ) (hits : List Hit) → greatest (max a b) (map number hits) ≡ max a (greatest b (map number hits))
  greatest_of_two a b [] = refl
  greatest_of_two a b (hit ∷ hits) = ap (λ n. greatest n (map number hits)) (turn a b (number hit)) ∙ greatest_of_two a (max b (number hit)) hits
    where
      turn : (x y z : ℕ) → max (max x y) z ≡ max x (max y z)
      turn x y z = omega arith

  greatest_joined : (a : ℕ) (hits : List Hit) (b : Hit) (others : List Hit)
      → greatest a (map number (hits ++ b ∷ others)) ≡ max (greatest a (map number hits)) (greatest (number b) (map number others))
  greatest_joined a [] b others = greatest_of_two a (number b) others
  greatest_joined a (hit ∷ hits) b others = greatest_joined (max a (number hit)) hits b others

-- the hits of two lists are joined by joining those of each
join_passes : (test : Hit → Bool) (a : Hit) (hits : List Hit) (b : Hit) (others : List Hit)
    → joined_passes test (join ((a ∷ hits) ++ b ∷ others)) ≡ joined_passes (λ x. joined_passes (λ y. test (two x y)) (join (b ∷ others))) (join (a ∷ hits))
join_passes test a hits b others = ap test (λ i. record {
  query = 0;
  from = least_joined (λ hit. hit.from) a.from hits b others i;
  to = greatest_joined (λ hit. hit.to) a.to hits b others i;
  sent_from = least_joined (λ hit. hit.sent_from) a.sent_from hits b others i;
  sent_to = greatest_joined (λ hit. hit.sent_to) a.sent_to hits b others i;
  para_from = least_joined (λ hit. hit.para_from) a.para_from hits b others i;
  para_to = greatest_joined (λ hit. hit.para_to) a.para_to hits b others i;
  whole = true;
})

-- ---- ways whose includes are well told

abbrev pub ends_well : Hit → Bool
ends_well hit = ends_after Sentences hit && ends_after Paragraphs hit

abbrev good : Way → Bool
good way = is_not_empty (way_includes way) && list_all ends_well (way_includes way)

good_two : (a b : Way) → good a ≡ true → good b ≡ true → good (two_ways a b) ≡ true
good_two a b h k = by (way_includes a) (way_includes b) h k
  where
    by : (xs ys : List Hit) → (is_not_empty xs && list_all ends_well xs) ≡ true → (is_not_empty ys && list_all ends_well ys) ≡ true
        → (is_not_empty (xs ++ ys) && list_all ends_well (xs ++ ys)) ≡ true
    by [] ys p q = cc
    by (x ∷ xs) ys p q =
        list_all-append ends_well (x ∷ xs) ys
        ∙ (λ i. p i && (and_parts (is_not_empty ys) (list_all ends_well ys) q).1 i)

joined_ends : (unit : TextUnit) (hit : Hit) (hits : List Hit) → ends_after unit hit ≡ true
    → nat_le (least (start_in unit hit) (map (λ other. start_in unit other) hits)) (greatest (end_in unit hit) (map (λ other. end_in unit other) hits)) ≡ true
joined_ends unit hit hits h =
    let low = least_first (start_in unit hit) (map (λ other. start_in unit other) hits) in
    let high = greatest_first (end_in unit hit) (map (λ other. end_in unit other) hits) in
    let own = leb-true (start_in unit hit) (end_in unit hit) h in
    le-leb _ _ (omega (arith, low, high, own))

good_after : (kind : Filter) (includes : List Hit) → is_field kind ≡ true → (is_not_empty includes && list_all ends_well includes) ≡ true
    → (is_not_empty (after kind includes) && list_all ends_well (after kind includes)) ≡ true
good_after F.Ordered includes f h = h
good_after (F.Window size unit) [] f h = cc
good_after (F.Window size unit) (hit ∷ hits) f h =
    let own = and_parts (ends_well hit) (list_all ends_well hits) h in
    let each = and_parts (ends_after Sentences hit) (ends_after Paragraphs hit) own.0 in
    let sentences = joined_ends Sentences hit hits each.0 in
    let paragraphs = joined_ends Paragraphs hit hits each.1 in
    λ i. (sentences i && paragraphs i) && true
good_after (F.Distance range unit) includes f h = cc
good_after F.SameSentence includes f h = h
good_after F.SameParagraph includes f h = h
good_after F.DifferentSentence includes f h = h
good_after F.DifferentParagraph includes f h = h
good_after F.AtStart includes f h = h
good_after F.AtEnd includes f h = h
good_after F.EntireContent includes f h = h

good_through : (kind : Filter) (item : Span) (way : Way) → is_field kind ≡ true → good way ≡ true → list_all good (filtered_ways kind item way) ≡ true
good_through kind item way f h = by (passes kind (way_includes way) item)
  where
    each : (cs : List (Option Window)) → list_all good (map (by_filter way kind) cs) ≡ true
    each [] = refl
    each (c ∷ cs) = and_from (good (by_filter way kind c)) (list_all good (map (by_filter way kind) cs)) (good_after kind (way_includes way) f h) (each cs)

    by : (kept : Bool) → list_all good (cond kept (map (by_filter way kind) (choices kind (way_includes way))) []) ≡ true
    by true = each (choices kind (way_includes way))
    by false = refl

good_hits : (found : List Hit) → list_all ends_well found ≡ true → list_all good (map one_hit found) ≡ true
good_hits found h = list_all-map good one_hit found ∙ all_with ends_well (λ hit. good (one_hit hit)) found (λ hit e. and-true (ends_well hit) ∙ e) h

good_ways : (item : Span) (operator : Operator) → is_near operator ≡ true → list_all ends_well (phrase_hits_of operator) ≡ true → list_all good (ways_of item operator) ≡ true
unfolding ways_of is_near phrase_hits_of
good_ways item (phrase found) n h = good_hits found h
good_ways item (either left right) n h =
    let near = and_parts (is_near left) (is_near right) n in
    let told = and_parts (list_all ends_well (phrase_hits_of left)) (list_all ends_well (phrase_hits_of right)) (sym (list_all-append ends_well (phrase_hits_of left) (phrase_hits_of right)) ∙ h) in
    list_all-append good (ways_of item left) (ways_of item right) ∙ (λ i. good_ways item left near.0 told.0 i && good_ways item right near.1 told.1 i)
good_ways item (together left right) n h =
    let near = and_parts (is_near left) (is_near right) n in
    let told = and_parts (list_all ends_well (phrase_hits_of left)) (list_all ends_well (phrase_hits_of right)) (sym (list_all-append ends_well (phrase_hits_of left) (phrase_hits_of right)) ∙ h) in
    let rights = good_ways item right near.1 told.1 in
    all_made good good (λ a. map (two_ways a) (ways_of item right)) (ways_of item left)
    (λ a ha. list_all-map good (two_ways a) (ways_of item right) ∙ all_with good (λ b. good (two_ways a b)) (ways_of item right) (λ b hb. good_two a b ha hb) rights)
    (good_ways item left near.0 told.0)
good_ways item (apart left right) n h = cc
good_ways item (negated operand) n h = cc
good_ways item (through_filter operand kind) n h =
    let near = and_parts (is_field kind) (is_near operand) n in
    all_made good good (filtered_ways kind item) (ways_of item operand) (λ way e. good_through kind item way near.0 e) (good_ways item operand near.1 h)

-- ---- a filter

fits_bare : (size : ℕ) (unit : TextUnit) (hit : Hit) → fits_window size unit (Some hit) ≡ fits_window size unit (Some (bare hit))
fits_bare size Words hit = refl
fits_bare size Sentences hit = refl
fits_bare size Paragraphs hit = refl

fits_as_bare : (kind : Filter) (hit : Hit) → fits_field kind (bare hit) ≡ fits_field kind hit
fits_as_bare F.Ordered hit = refl
fits_as_bare (F.Window size unit) hit = sym (fits_bare size unit hit)
fits_as_bare (F.Distance range unit) hit = refl
fits_as_bare F.SameSentence hit = refl
fits_as_bare F.SameParagraph hit = refl
fits_as_bare F.DifferentSentence hit = refl
fits_as_bare F.DifferentParagraph hit = refl
fits_as_bare F.AtStart hit = refl
fits_as_bare F.AtEnd hit = refl
fits_as_bare F.EntireContent hit = refl

module _ (item : Span) (test : Hit → Bool) where
  kept_joined : (size : ℕ) (unit : TextUnit) (joined : Option Hit)
      → (fits_window size unit joined && joined_passes test (join (option_to_list joined))) ≡ joined_passes (λ one. fits_field (F.Window size unit) one && test one) joined
  kept_joined size unit None = refl
  kept_joined size unit (Some hit) = ap (λ b. b && test (bare hit)) (fits_bare size unit hit)

  -- what passes a window or scope and then a test is a joined hit that fits and passes it
  kept_passes : (kind : Filter) (hit : Hit) (hits : List Hit) → is_field kind ≡ true → list_all ends_well (hit ∷ hits) ≡ true
      → (passes kind (hit ∷ hits) item && joined_passes test (join (after kind (hit ∷ hits)))) ≡ joined_passes (λ one. fits_field kind one && test one) (join (hit ∷ hits))
  kept_passes F.Ordered hit hits f h = cc
  kept_passes (F.Window size unit) hit hits f h = kept_joined size unit (join (hit ∷ hits))
  kept_passes (F.Distance range unit) hit hits f h = cc
  kept_passes F.SameSentence hit hits f h =
      ap (λ b. b && joined_passes test (join (hit ∷ hits))) (one_window Sentences hit hits (all_with ends_well (ends_after Sentences) (hit ∷ hits) (λ other e. (and_parts (ends_after Sentences other) (ends_after Paragraphs other) e).0) h))
  kept_passes F.SameParagraph hit hits f h =
      ap (λ b. b && joined_passes test (join (hit ∷ hits))) (one_window Paragraphs hit hits (all_with ends_well (ends_after Paragraphs) (hit ∷ hits) (λ other e. (and_parts (ends_after Sentences other) (ends_after Paragraphs other) e).1) h))
  kept_passes F.DifferentSentence hit hits f h = cc
  kept_passes F.DifferentParagraph hit hits f h = cc
  kept_passes F.AtStart hit hits f h = cc
  kept_passes F.AtEnd hit hits f h = cc
  kept_passes F.EntireContent hit hits f h = cc

  -- the ways through it that pass are those that passed
  abbrev passing : Way → Bool
  passing way = joined_passes test (join (way_includes way))

  through_one : (kind : Filter) (way : Way) → is_field kind ≡ true → good way ≡ true
      → list_any passing (filtered_ways kind item way) ≡ joined_passes (λ one. fits_field kind one && test one) (join (way_includes way))
  through_one kind way f h = by_passes (passes kind (way_includes way) item) refl ∙ by_includes (way_includes way) h
    where
      by_passes : (kept : Bool) → passes kind (way_includes way) item ≡ kept
          → list_any passing (cond kept (map (by_filter way kind) (choices kind (way_includes way))) []) ≡ (kept && joined_passes test (join (after kind (way_includes way))))
      by_passes true e =
          list_any-map passing (by_filter way kind) (choices kind (way_includes way))
          ∙ list_any-alike (λ c. passing (by_filter way kind c)) (λ c. joined_passes test (join (after kind (way_includes way))) && true) (choices kind (way_includes way))
          (λ c. sym (and-true (joined_passes test (join (after kind (way_includes way))))))
          ∙ list_any-and_first (joined_passes test (join (after kind (way_includes way)))) (λ c. true) (choices kind (way_includes way))
          ∙ ap (λ b. joined_passes test (join (after kind (way_includes way))) && b) (some_through kind (way_includes way) item e)
          ∙ and-true (joined_passes test (join (after kind (way_includes way))))
      by_passes false e = refl

      by_includes : (includes : List Hit) → (is_not_empty includes && list_all ends_well includes) ≡ true
          → (passes kind includes item && joined_passes test (join (after kind includes))) ≡ joined_passes (λ one. fits_field kind one && test one) (join includes)
      by_includes [] e = cc
      by_includes (hit ∷ hits) e = kept_passes kind hit hits f e

-- ---- the operator

-- a choice of two ways passes as their joined hits do
both_pass : (test : Hit → Bool) (a b : Way) → good a ≡ true → good b ≡ true
    → joined_passes test (join (way_includes a ++ way_includes b)) ≡ joined_passes (λ x. joined_passes (λ y. test (two x y)) (join (way_includes b))) (join (way_includes a))
both_pass test a b h k = by (way_includes a) (way_includes b) h k
  where
    by : (xs ys : List Hit) → (is_not_empty xs && list_all ends_well xs) ≡ true → (is_not_empty ys && list_all ends_well ys) ≡ true
        → joined_passes test (join (xs ++ ys)) ≡ joined_passes (λ x. joined_passes (λ y. test (two x y)) (join ys)) (join xs)
    by [] ys p q = cc
    by (x ∷ xs) [] p q = cc
    by (x ∷ xs) (y ∷ ys) p q = join_passes test x xs y ys

-- some way of the second side
some_other : (test : Hit → Hit → Bool) (ways : List Way) (joined : Option Hit)
    → list_any (λ b. joined_passes (λ x. joined_passes (test x) (join (way_includes b))) joined) ways
    ≡ joined_passes (λ x. list_any (λ b. joined_passes (test x) (join (way_includes b))) ways) joined
some_other test [] None = refl
some_other test (way ∷ ways) None = some_other test ways None
some_other test ways (Some hit) = refl

joined_alike : (p q : Hit → Bool) (joined : Option Hit) → ((hit : Hit) → p hit ≡ q hit) → joined_passes p joined ≡ joined_passes q joined
joined_alike p q None same = refl
joined_alike p q (Some hit) same = same (bare hit)

pub hulls_pass : (item : Span) (operator : Operator) → is_near operator ≡ true → list_all ends_well (phrase_hits_of operator) ≡ true → (test : Hit → Bool)
    → list_any (λ way. joined_passes test (join (way_includes way))) (ways_of item operator) ≡ list_any (λ hit. test (bare hit)) (hulls_of operator)
unfolding ways_of is_near phrase_hits_of hulls_of
hulls_pass item (phrase found) n h test = list_any-map (λ way. joined_passes test (join (way_includes way))) one_hit found
hulls_pass item (either left right) n h test =
    let near = and_parts (is_near left) (is_near right) n in
    let told = and_parts (list_all ends_well (phrase_hits_of left)) (list_all ends_well (phrase_hits_of right)) (sym (list_all-append ends_well (phrase_hits_of left) (phrase_hits_of right)) ∙ h) in
    list_any-append (λ way. joined_passes test (join (way_includes way))) (ways_of item left) (ways_of item right)
    ∙ (λ i. hulls_pass item left near.0 told.0 test i || hulls_pass item right near.1 told.1 test i)
    ∙ sym (list_any-append (λ hit. test (bare hit)) (hulls_of left) (hulls_of right))
hulls_pass item (together left right) n h test =
    let near = and_parts (is_near left) (is_near right) n in
    let told = and_parts (list_all ends_well (phrase_hits_of left)) (list_all ends_well (phrase_hits_of right)) (sym (list_all-append ends_well (phrase_hits_of left) (phrase_hits_of right)) ∙ h) in
    let lefts = good_ways item left near.0 told.0 in
    let rights = good_ways item right near.1 told.1 in
    list_any-flat_map (λ way. joined_passes test (join (way_includes way))) (λ a. map (two_ways a) (ways_of item right)) (ways_of item left)
    ∙ any_on good (λ a. list_any (λ way. joined_passes test (join (way_includes way))) (map (two_ways a) (ways_of item right)))
    (λ a. joined_passes (λ x. list_any (λ y. test (two x (bare y))) (hulls_of right)) (join (way_includes a))) (ways_of item left) lefts
    (λ a ha.
    list_any-map (λ way. joined_passes test (join (way_includes way))) (two_ways a) (ways_of item right)
    ∙ any_on good (λ b. joined_passes test (join (way_includes a ++ way_includes b)))
    (λ b. joined_passes (λ x. joined_passes (λ y. test (two x y)) (join (way_includes b))) (join (way_includes a))) (ways_of item right) rights (λ b hb. both_pass test a b ha hb)
    ∙ some_other (λ x y. test (two x y)) (ways_of item right) (join (way_includes a))
    ∙ joined_alike (λ x. list_any (λ b. joined_passes (λ y. test (two x y)) (join (way_includes b))) (ways_of item right)) (λ x. list_any (λ y. test (two x (bare y))) (hulls_of right))
    (join (way_includes a)) (λ x. hulls_pass item right near.1 told.1 (λ y. test (two x y))))
    ∙ hulls_pass item left near.0 told.0 (λ x. list_any (λ y. test (two x (bare y))) (hulls_of right))
    ∙ sym (
    list_any-flat_map (λ hit. test (bare hit)) (λ a. flat_map (λ b. option_to_list (join (a ∷ b ∷ []))) (hulls_of right)) (hulls_of left)
    ∙ list_any-alike (λ a. list_any (λ hit. test (bare hit)) (flat_map (λ b. option_to_list (join (a ∷ b ∷ []))) (hulls_of right)))
    (λ a. list_any (λ b. test (two (bare a) (bare b))) (hulls_of right)) (hulls_of left)
    (λ a. list_any-flat_map (λ hit. test (bare hit)) (λ b. option_to_list (join (a ∷ b ∷ []))) (hulls_of right)
    ∙ list_any-alike (λ b. list_any (λ hit. test (bare hit)) (option_to_list (join (a ∷ b ∷ [])))) (λ b. test (two (bare a) (bare b))) (hulls_of right)
    (λ b. or-false (test (two (bare a) (bare b))))))
hulls_pass item (apart left right) n h test = cc
hulls_pass item (negated operand) n h test = cc
hulls_pass item (through_filter operand kind) n h test =
    let near = and_parts (is_field kind) (is_near operand) n in
    list_any-flat_map (λ way. joined_passes test (join (way_includes way))) (filtered_ways kind item) (ways_of item operand)
    ∙ any_on good (λ way. list_any (λ other. joined_passes test (join (way_includes other))) (filtered_ways kind item way))
    (λ way. joined_passes (λ one. fits_field kind one && test one) (join (way_includes way))) (ways_of item operand) (good_ways item operand near.1 h) (λ way e. through_one item test kind way near.0 e)
    ∙ hulls_pass item operand near.1 h (λ one. fits_field kind one && test one)
    ∙ list_any-alike (λ hit. fits_field kind (bare hit) && test (bare hit)) (λ hit. fits_field kind hit && test (bare hit)) (hulls_of operand)
    (λ hit. ap (λ b. b && test (bare hit)) (fits_as_bare kind hit))
    ∙ sym (any_filter (λ hit. test (bare hit)) (fits_field kind) (hulls_of operand))

no_negation : (operator : Operator) → is_near operator ≡ true → without_negation operator ≡ true
unfolding is_near
no_negation (phrase found) n = refl
no_negation (either left right) n = let near = and_parts (is_near left) (is_near right) n in λ i. no_negation left near.0 i && no_negation right near.1 i
no_negation (together left right) n = let near = and_parts (is_near left) (is_near right) n in λ i. no_negation left near.0 i && no_negation right near.1 i
no_negation (apart left right) n = cc
no_negation (negated operand) n = cc
no_negation (through_filter operand kind) n = no_negation operand (and_parts (is_field kind) (is_near operand) n).1

good_passes : (way : Way) → good way ≡ true → true ≡ joined_passes (λ hit. true) (join (way_includes way))
good_passes way h = by (way_includes way) h
  where
    by : (xs : List Hit) → (is_not_empty xs && list_all ends_well xs) ≡ true → true ≡ joined_passes (λ hit. true) (join xs)
    by [] p = cc
    by (x ∷ xs) p = refl

pub near_is : (item : Span) (operator : Operator) → is_near operator ≡ true → list_all ends_well (phrase_hits_of operator) ≡ true
    → satisfied (matches_of item operator) ≡ is_not_empty (hulls_of operator)
near_is item operator n h =
    ap satisfied (bare_matches item operator (no_negation operator n))
    ∙ list_any-map is_clean bare_match (ways_of item operator)
    ∙ any_on good (λ way. true) (λ way. joined_passes (λ hit. true) (join (way_includes way))) (ways_of item operator) (good_ways item operator n h) good_passes
    ∙ hulls_pass item operator n h (λ hit. true)
    ∙ any_true (hulls_of operator)
