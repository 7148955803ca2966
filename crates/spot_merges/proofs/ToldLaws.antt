-- Phrases whose hits are told of spots of a span, in the span's own numbers.
use Rattle.std.proofs.Common.{◌≡◌, refl, sym, ap, ◌∙◌, ℕ, suc, ◌+◌, ◌-◌, ◌==◌, Bool, true, ◌&&◌, not, List, [], ◌∷◌, map, arith}
use Rattle.std.specs.Prelude.{nat_le, nat_lt, length}
use Rattle.std.specs.List.{list_all, list_any, range_with_len}
use Rattle.std.proofs.lemmas.Bool.{and_from, and_parts, le-leb, lt-ltb}
use Rattle.std.proofs.lemmas.Bool.Decides.{nat_tests}
use Rattle.std.proofs.lemmas.List.Folds.{list_all-map}
use Rattle.ft_base.specs.declared.filter.Filter.TheVariants as F
use Rattle.ft_base.specs.declared.hit.Hit.{Hit}
use Rattle.ft_base.specs.declared.span.Span.{Span}
use Rattle.ft_base.specs.declared.unit.TextUnit.TheVariants.{Words}
use Rattle.all_matches.specs.Boolean.{satisfied}
use Rattle.all_matches.specs.Ways.{apart, matches_of, negated, phrase, through_filter, together}
use Rattle.all_matches.proofs.ListTests.{list_any-alike, list_any-map}
use Rattle.place_merges.specs.Places.{Wanted}
use Rattle.place_merges.specs.Spots.{some_at}
use Rattle.place_merges.specs.declared.spot.Spot.{Spot}
use Rattle.spot_merges.specs.Apart.{hit_lies_within, lies_within, some_apart}
use Rattle.spot_merges.specs.Clear.{begins, has_clear_window, lies_before, some_clear}
use Rattle.spot_merges.specs.Edges.{edge_filter, hit_is_at, is_at, spots_of}
use Rattle.spot_merges.specs.Phrases.{is_hit, is_one_word, lies_inside}
use Rattle.spot_merges.specs.declared.edge.Edge.{Edge}
use Rattle.spot_merges.specs.declared.edge.Edge.TheVariants.{Start, End, Both}
use Rattle.spot_merges.proofs.ClearLaws.{clear_law}
use Rattle.spot_merges.proofs.HitLaws.{apart_law, edge_law}
use Rattle.spot_merges.proofs.SpotRanges.{kept_lie, lies_in, lying, one_word_spots}
use Rattle.spot_merges.proofs.SpotTests.{all_more, all_on, any_on}

module _ (span : Span) where
  abbrev offset : ℕ
  offset = span.from - 1

  abbrev own : Span
  own = record { from = span.from - offset; to = span.to - offset }

  -- the hit on a spot
  pub record IsTold (hit : Hit) (at : Spot) : Type 0 where
    pub from : hit.from ≡ at.place - offset
    pub to : hit.to ≡ (at.place + (at.words - 1)) - offset
    pub whole : hit.whole ≡ true

  abbrev lies : Spot → Bool
  lies at = lies_in span.from span.to at

  module _ (at : Spot) (is : lies at ≡ true) (hit : Hit) (known : IsTold hit at) where
    hit_inside : lies_inside own hit ≡ true
    hit_inside =
        let where_it_is = lying span.from span.to at is in
        let low = where_it_is.0 in
        let some = where_it_is.1.0 in
        let high = where_it_is.1.1 in
        let from = known.from in
        let to = known.to in
        and_from (is_hit hit) (nat_le own.from hit.from && (nat_lt hit.to own.to && hit.whole)) (le-leb hit.from hit.to (omega (arith, from, to, low, some)))
        (and_from (nat_le own.from hit.from) (nat_lt hit.to own.to && hit.whole) (le-leb own.from hit.from (omega (arith, from, low)))
        (and_from (nat_lt hit.to own.to) hit.whole (lt-ltb hit.to own.to (omega (arith, to, low, some, high))) known.whole))

    starts : (hit.from == own.from) ≡ (at.place == span.from)
    starts =
        let where_it_is = lying span.from span.to at is in
        grind (arith, nat_tests, where_it_is.0, known.from)

    ends : (suc hit.to == own.to) ≡ (at.place + at.words == span.to)
    ends =
        let where_it_is = lying span.from span.to at is in
        grind (arith, nat_tests, where_it_is.0, where_it_is.1.0, where_it_is.1.1, known.to)

    at_same : (edge : Edge) → hit_is_at edge own hit ≡ is_at edge span at
    at_same Start = starts
    at_same End = ends
    at_same Both = λ i. starts i && ends i

  within_same : (a b : Spot) → lies a ≡ true → lies b ≡ true → (one other : Hit) → IsTold one a → IsTold other b → hit_lies_within one other ≡ lies_within a b
  within_same a b first second one other known also =
      let left = lying span.from span.to a first in
      let right = lying span.from span.to b second in
      let begins : nat_le other.from one.from ≡ nat_le b.place a.place = grind (arith, nat_tests, left.0, right.0, known.from, also.from) in
      let ends : nat_le one.to other.to ≡ nat_le (a.place + a.words) (b.place + b.words) =
      grind (arith, nat_tests, left.0, left.1.0, right.0, right.1.0, known.to, also.to) in
      λ i. begins i && ends i

  -- the spots of a phrase, as far as they lie in the span
  all_inside : (tell : Spot → Hit) → ((at : Spot) → IsTold (tell at) at) → (spots : List Spot) → list_all lies spots ≡ true → list_all (lies_inside own) (map tell spots) ≡ true
  all_inside tell known [] h = refl
  all_inside tell known (at ∷ spots) h =
      let parts = and_parts (lies at) (list_all lies spots) h in
      λ i. hit_inside at parts.0 (tell at) (known at) i && all_inside tell known spots parts.1 i

  all_hits : (tell : Spot → Hit) → ((at : Spot) → IsTold (tell at) at) → (spots : List Spot) → list_all lies spots ≡ true → list_all is_hit (map tell spots) ≡ true
  all_hits tell known [] h = refl
  all_hits tell known (at ∷ spots) h =
      let parts = and_parts (lies at) (list_all lies spots) h in
      let one = and_parts (is_hit (tell at)) (nat_le own.from (tell at).from && (nat_lt (tell at).to own.to && (tell at).whole)) (hit_inside at parts.0 (tell at) (known at)) in
      λ i. one.0 i && all_hits tell known spots parts.1 i

  -- a phrase at an edge
  pub told_edge : (tell : Spot → Hit) → ((at : Spot) → IsTold (tell at) at) → (edge : Edge) (variants : List (List Wanted))
      → satisfied (matches_of own (through_filter (phrase (map tell (spots_of span variants))) (edge_filter edge))) ≡ list_any (is_at edge span) (spots_of span variants)
  told_edge tell known edge variants =
      let spots = spots_of span variants in
      let lie = kept_lie (some_at span.to variants) span.from span.to in
      edge_law edge own (map tell spots) (all_inside tell known spots lie)
      ∙ list_any-map (hit_is_at edge own) tell spots
      ∙ any_on lies (λ at. hit_is_at edge own (tell at)) (is_at edge span) (λ at h. at_same at h (tell at) (known at) edge) spots lie

  -- a phrase apart from another one
  pub told_apart : (tell also : Spot → Hit) → ((at : Spot) → IsTold (tell at) at) → ((at : Spot) → IsTold (also at) at) → (left right : List (List Wanted))
      → satisfied (matches_of own (apart (phrase (map tell (spots_of span left))) (phrase (map also (spots_of span right))))) ≡ some_apart (spots_of span left) (spots_of span right)
  told_apart tell also known likewise left right =
      let first = spots_of span left in
      let second = spots_of span right in
      let lie = kept_lie (some_at span.to left) span.from span.to in
      let others = kept_lie (some_at span.to right) span.from span.to in
      apart_law own (map tell first) (map also second) (all_hits tell known first lie)
      ∙ list_any-map (λ a. list_all (λ b. not (hit_lies_within a b)) (map also second)) tell first
      ∙ any_on lies (λ at. list_all (λ b. not (hit_lies_within (tell at) b)) (map also second)) (λ at. list_all (λ b. not (lies_within at b)) second)
      (λ at h. list_all-map (λ b. not (hit_lies_within (tell at) b)) also second
      ∙ all_on lies (λ b. not (hit_lies_within (tell at) (also b))) (λ b. not (lies_within at b))
      (λ b k. ap not (within_same at b h k (tell at) (also b) (known at) (likewise b))) second others) first lie

  -- a phrase of one word in a window without another one
  one_word : (tell : Spot → Hit) → ((at : Spot) → IsTold (tell at) at) → (spots : List Spot) → list_all (λ at. at.words == 1) spots ≡ true → list_all is_one_word (map tell spots) ≡ true
  one_word tell known spots h = list_all-map is_one_word tell spots ∙ all_more (λ at. at.words == 1) (λ at. is_one_word (tell at)) (λ at one. has_one at (known at) one) spots h
    where
      has_one : (at : Spot) → IsTold (tell at) at → (at.words == 1) ≡ true → is_one_word (tell at) ≡ true
      has_one at told one = grind (arith, nat_tests, told.from, told.to, one)

  before_same : (a b : Spot) → lies a ≡ true → lies b ≡ true → (hit other : Hit) → IsTold hit a → IsTold other b → (size n : ℕ)
      → lies_before size (suc hit.from + n) other.from ≡ lies_before size (suc a.place + n) b.place
  before_same a b first second hit other known also size n =
      let left = lying span.from span.to a first in
      let right = lying span.from span.to b second in
      let begins : nat_lt other.from (suc hit.from + n) ≡ nat_lt b.place (suc a.place + n) = grind (arith, nat_tests, left.0, right.0, known.from, also.from) in
      let ends : nat_le (suc hit.from + n) (other.from + size) ≡ nat_le (suc a.place + n) (b.place + size) = grind (arith, nat_tests, left.0, right.0, known.from, also.from) in
      λ i. begins i && ends i

  pub told_clear : (tell also : Spot → Hit) → ((at : Spot) → IsTold (tell at) at) → ((at : Spot) → IsTold (also at) at) → (size : ℕ) (left right : List (List Wanted))
      → list_all (λ variant. length variant == 1) left ≡ true → list_all (λ variant. length variant == 1) right ≡ true
      → satisfied (matches_of own (through_filter (together (phrase (map tell (spots_of span left))) (negated (phrase (map also (spots_of span right))))) (F.Window size Words)))
      ≡ some_clear size (begins (spots_of span left)) (begins (spots_of span right))
  told_clear tell also known likewise size left right one each =
      let first = spots_of span left in
      let second = spots_of span right in
      let lie = kept_lie (some_at span.to left) span.from span.to in
      let others = kept_lie (some_at span.to right) span.from span.to in
      let places = map (λ (hit : Hit). hit.from) (map also second) in
      clear_law size own (map tell first) (map also second) (one_word tell known first (one_word_spots span left one)) (one_word also likewise second (one_word_spots span right each))
      ∙ list_any-map (has_clear_window size places) (λ (hit : Hit). hit.from) (map tell first)
      ∙ list_any-map (λ (hit : Hit). has_clear_window size places hit.from) tell first
      ∙ any_on lies (λ at. has_clear_window size places (tell at).from) (λ at. has_clear_window size (begins second) at.place)
      (λ at h. list_any-alike (λ n. list_all (λ other. not (lies_before size (suc (tell at).from + n) other)) places) (λ n. list_all (λ other. not (lies_before size (suc at.place + n) other)) (begins second))
      (range_with_len 0 size)
      (λ n. list_all-map (λ other. not (lies_before size (suc (tell at).from + n) other)) (λ (hit : Hit). hit.from) (map also second)
      ∙ list_all-map (λ (hit : Hit). not (lies_before size (suc (tell at).from + n) hit.from)) also second
      ∙ all_on lies (λ b. not (lies_before size (suc (tell at).from + n) (also b).from)) (λ b. not (lies_before size (suc at.place + n) b.place))
      (λ b k. ap not (before_same at b h k (tell at) (also b) (known at) (likewise b) size n)) second others
      ∙ sym (list_all-map (λ other. not (lies_before size (suc at.place + n) other)) (λ (b : Spot). b.place) second))) first lie
      ∙ sym (list_any-map (has_clear_window size (begins second)) (λ (at : Spot). at.place) first)
