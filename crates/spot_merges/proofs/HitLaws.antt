-- Filters at the edges and `not in`, over hits of phrases.
use Rattle.std.proofs.Common.{◌≡◌, refl, sym, ap, ◌∙◌, ℕ, suc, ◌-◌, ◌<◌, ◌≤◌, ◌==◌, Bool, true, false, cond, ◌&&◌, ◌||◌, not, List, [], ◌∷◌, map, arith}
use Rattle.std.specs.Prelude.{nat_le, nat_lt}
use Rattle.std.specs.List.{list_all, list_any}
use Rattle.std.proofs.lemmas.Bool.{and_from, and_parts, eq-eqb, eqb-true, le-leb, leb-true, ltb-true, or_left}
use Rattle.std.proofs.Math.Bool.{and-true, or-false}
use Rattle.ft_base.specs.Lists.{is_not_empty}
use Rattle.ft_base.specs.declared.filter.Filter.{Filter}
use Rattle.ft_base.specs.declared.filter.Filter.TheVariants as F
use Rattle.ft_base.specs.declared.hit.Hit.{Hit}
use Rattle.ft_base.specs.declared.hit.Match.{Match}
use Rattle.ft_base.specs.declared.span.Span.{Span}
use Rattle.ft_base.proofs.Truth.{same_tests}
use Rattle.all_matches.specs.Boolean.{is_clean, satisfied}
use Rattle.all_matches.specs.Filters.{filtered_match, passes}
use Rattle.all_matches.specs.Hits.{match_of_hit}
use Rattle.all_matches.specs.MildNot.{stands_out}
use Rattle.all_matches.specs.Positions.{covers, places_from_to}
use Rattle.all_matches.specs.Spans.{places_in}
use Rattle.all_matches.specs.Ways.{apart, matches_of, phrase, through_filter}
use Rattle.all_matches.proofs.ListTests.{list_any-map, list_any-flat_map}
use Rattle.spot_merges.specs.Apart.{hit_lies_within, some_hit_apart}
use Rattle.spot_merges.specs.Edges.{edge_filter, hit_is_at}
use Rattle.spot_merges.specs.Phrases.{is_hit, lies_inside}
use Rattle.spot_merges.specs.declared.edge.Edge.{Edge}
use Rattle.spot_merges.specs.declared.edge.Edge.TheVariants.{Start, End, Both}
use Rattle.spot_merges.proofs.RangeTests.{all_in_range, one_of_range}
use Rattle.spot_merges.proofs.SpotTests.{any_kept, any_not_all, any_on}

-- ---- edges

-- what a filter without windows leaves of a hit has no exclude
left_of : (kind : Filter) (item : Span) (hit : Hit) → list_any is_clean (cond (passes kind (hit ∷ []) item) (match_of_hit hit ∷ []) []) ≡ passes kind (hit ∷ []) item
left_of kind item hit = elim (passes kind (hit ∷ []) item) as (λ b. list_any is_clean (cond b (match_of_hit hit ∷ []) []) ≡ b) [ true ↦ refl | false ↦ refl ]

one_hit : (edge : Edge) (item : Span) (hit : Hit) → list_any is_clean (filtered_match (edge_filter edge) item (match_of_hit hit)) ≡ passes (edge_filter edge) (hit ∷ []) item
one_hit Start item hit = left_of F.AtStart item hit
one_hit End item hit = left_of F.AtEnd item hit
one_hit Both item hit = left_of F.EntireContent item hit

-- a hit that lies in a text and has each of its words begins and ends with it
record LiesInside (item : Span) (hit : Hit) : Type 0 where
  order : hit.from ≤ hit.to
  first : item.from ≤ hit.from
  last : hit.to < item.to
  whole : hit.whole ≡ true

inside : (item : Span) (hit : Hit) → lies_inside item hit ≡ true → LiesInside item hit
inside item hit h =
    let order = and_parts (is_hit hit) (nat_le item.from hit.from && (nat_lt hit.to item.to && hit.whole)) h in
    let first = and_parts (nat_le item.from hit.from) (nat_lt hit.to item.to && hit.whole) order.1 in
    let last = and_parts (nat_lt hit.to item.to) hit.whole first.1 in
    record {
      order = leb-true hit.from hit.to order.0;
      first = leb-true item.from hit.from first.0;
      last = ltb-true hit.to item.to last.0;
      whole = last.1;
    }

entire : (item : Span) (hit : Hit) → LiesInside item hit → passes F.EntireContent (hit ∷ []) item ≡ hit_is_at Both item hit
entire item hit lies = same_tests (passes F.EntireContent (hit ∷ []) item) (hit_is_at Both item hit) ends fills
  where
    test : ℕ → Bool
    test place = list_any (λ (one : Hit). one.whole && covers one place) (hit ∷ [])

    covered : (place : ℕ) → test place ≡ true → (hit.from ≤ place) × (place ≤ hit.to)
    covered place h =
        let both = sym (or-false (hit.whole && covers hit place)) ∙ h in
        let parts = and_parts hit.whole (covers hit place) both in
        let sides = and_parts (nat_le hit.from place) (nat_le place hit.to) parts.1 in
        (leb-true hit.from place sides.0, leb-true place hit.to sides.1)

    ends : list_all test (places_in item) ≡ true → hit_is_at Both item hit ≡ true
    ends h =
        let order = lies.order in
        let low = lies.first in
        let high = lies.last in
        let first = covered item.from (one_of_range test item.from (item.to - item.from) item.from h (omega arith) (omega (arith, order, low, high))) in
        let last = covered (item.to - 1) (one_of_range test item.from (item.to - item.from) (item.to - 1) h (omega (arith, order, low, high)) (omega (arith, order, low, high))) in
        and_from (hit.from == item.from) (suc hit.to == item.to) (eq-eqb hit.from item.from (omega (arith, low, first.0))) (eq-eqb (suc hit.to) item.to (omega (arith, high, last.1)))

    fills : hit_is_at Both item hit ≡ true → list_all test (places_in item) ≡ true
    fills h =
        let parts = and_parts (hit.from == item.from) (suc hit.to == item.to) h in
        let first = eqb-true hit.from item.from parts.0 in
        let last = eqb-true (suc hit.to) item.to parts.1 in
        all_in_range test item.from (item.to - item.from) (λ place low high.
        or_left (hit.whole && covers hit place) false (and_from hit.whole (covers hit place) lies.whole
        (and_from (nat_le hit.from place) (nat_le place hit.to) (le-leb hit.from place (omega (arith, first, low))) (le-leb place hit.to (omega (arith, last, low, high))))))

one_passes : (edge : Edge) (item : Span) (hit : Hit) → lies_inside item hit ≡ true → passes (edge_filter edge) (hit ∷ []) item ≡ hit_is_at edge item hit
one_passes Start item hit h = or-false (hit.from == item.from)
one_passes End item hit h = or-false (suc hit.to == item.to)
one_passes Both item hit h = entire item hit (inside item hit h)

pub edge_law : (edge : Edge) (item : Span) (hits : List Hit) → list_all (lies_inside item) hits ≡ true
    → satisfied (matches_of item (through_filter (phrase hits) (edge_filter edge))) ≡ list_any (hit_is_at edge item) hits
unfolding matches_of
edge_law edge item hits h =
    list_any-flat_map is_clean (filtered_match (edge_filter edge) item) (map match_of_hit hits)
    ∙ list_any-map (λ m. list_any is_clean (filtered_match (edge_filter edge) item m)) match_of_hit hits
    ∙ any_on (lies_inside item) (λ hit. list_any is_clean (filtered_match (edge_filter edge) item (match_of_hit hit))) (hit_is_at edge item)
    (λ hit lies. one_hit edge item hit ∙ one_passes edge item hit lies) hits h

-- ---- `not in`

-- a hit stands out of another one but where it lies within it
out_of : (a b : Hit) → is_hit a ≡ true → stands_out (a ∷ []) (b ∷ []) ≡ not (hit_lies_within a b)
out_of a b h =
    or-false (list_any (λ place. not (covers b place || false)) (places_from_to a.from a.to))
    ∙ any_not_all (λ place. covers b place || false) (places_from_to a.from a.to)
    ∙ ap not (same_tests (list_all (λ place. covers b place || false) (places_from_to a.from a.to)) (hit_lies_within a b) within covered)
  where
    sides : (place : ℕ) → (covers b place || false) ≡ true → (b.from ≤ place) × (place ≤ b.to)
    sides place is =
        let parts = and_parts (nat_le b.from place) (nat_le place b.to) (sym (or-false (covers b place)) ∙ is) in
        (leb-true b.from place parts.0, leb-true place b.to parts.1)

    within : list_all (λ place. covers b place || false) (places_from_to a.from a.to) ≡ true → hit_lies_within a b ≡ true
    within all =
        let order = leb-true a.from a.to h in
        let first = sides a.from (one_of_range (λ place. covers b place || false) a.from (suc a.to - a.from) a.from all (omega arith) (omega (arith, order))) in
        let last = sides a.to (one_of_range (λ place. covers b place || false) a.from (suc a.to - a.from) a.to all order (omega (arith, order))) in
        and_from (nat_le b.from a.from) (nat_le a.to b.to) (le-leb b.from a.from first.0) (le-leb a.to b.to last.1)

    covered : hit_lies_within a b ≡ true → list_all (λ place. covers b place || false) (places_from_to a.from a.to) ≡ true
    covered is =
        let parts = and_parts (nat_le b.from a.from) (nat_le a.to b.to) is in
        let first = leb-true b.from a.from parts.0 in
        let last = leb-true a.to b.to parts.1 in
        let order = leb-true a.from a.to h in
        all_in_range (λ place. covers b place || false) a.from (suc a.to - a.from) (λ place low high.
        or_left (covers b place) false (and_from (nat_le b.from place) (nat_le place b.to) (le-leb b.from place (omega (arith, first, low))) (le-leb place b.to (omega (arith, last, low, high, order)))))

all_out : (a : Hit) (right : List Hit) → is_hit a ≡ true → list_all (λ (m : Match). stands_out (a ∷ []) m.includes) (map match_of_hit right) ≡ list_all (λ b. not (hit_lies_within a b)) right
all_out a [] h = refl
all_out a (b ∷ right) h = λ i. out_of a b h i && all_out a right h i

pub apart_law : (item : Span) (left right : List Hit) → list_all is_hit left ≡ true → satisfied (matches_of item (apart (phrase left) (phrase right))) ≡ some_hit_apart left right
unfolding matches_of
apart_law item left [] h = some_clean left ∙ sym (all_apart left)
  where
    some_clean : (hits : List Hit) → list_any is_clean (map match_of_hit hits) ≡ is_not_empty hits
    some_clean [] = refl
    some_clean (hit ∷ hits) = refl

    all_apart : (hits : List Hit) → some_hit_apart hits [] ≡ is_not_empty hits
    all_apart [] = refl
    all_apart (hit ∷ hits) = refl
apart_law item left (b ∷ right) h =
    let out = λ (m : Match). list_all (λ (other : Match). stands_out m.includes other.includes) (map match_of_hit (b ∷ right)) in
    any_kept is_clean out (map match_of_hit left)
    ∙ list_any-map (λ m. out m && is_clean m) match_of_hit left
    ∙ any_on is_hit (λ a. out (match_of_hit a) && true) (λ a. list_all (λ other. not (hit_lies_within a other)) (b ∷ right))
    (λ a is. and-true (out (match_of_hit a)) ∙ all_out a (b ∷ right) is) left h
