-- What has come in but for what has gone out is what lies in the window, of each spot, group and item, and no window needs to be tried but up to the last event.
use Rattle.std.proofs.Common.{◌≡◌, refl, sym, ap, ◌∙◌, ℕ, ◌+◌, ◌-◌, ◌<◌, ◌≤◌, max, Bool, true, false, ◌==◌, cond, ◌&&◌, ◌||◌, List, [], ◌∷◌, map, filter, flat_map, length, get_or, drop, arith, length-append}
use Rattle.std.specs.Prelude.{nat_le, nat_lt}
use Rattle.std.specs.List.{list_all, list_any}
use Rattle.std.proofs.lemmas.Bool.{and_parts, eqb-true, lt-ltb, ltb-true}
use Rattle.std.proofs.lemmas.Bool.Decides.{nat_tests}
use Rattle.std.proofs.lemmas.List.Elements.{filter-append}
use Rattle.std.proofs.lemmas.List.Folds.{list_all-append, list_all-map}
use Rattle.std.proofs.lemmas.List.Sums.{sum_by-cons}
use Rattle.ft_base.specs.declared.hit.Hit.{Hit}
use Rattle.ft_base.specs.declared.span.Span.{Span}
use Rattle.ft_base.specs.declared.unit.TextUnit.{TextUnit}
use Rattle.ft_base.specs.declared.unit.TextUnit.TheVariants.{Paragraphs, Sentences, Words}
use Rattle.ft_base.specs.Hits.{HitPlace}
use Rattle.all_matches.specs.Positions.{end_in, start_in}
use Rattle.all_matches.proofs.ListTests.{list_any-map}
use Rattle.counted_shapes.specs.Fields.{in_window}
use Rattle.counted_shapes.specs.Shapes.{all_hits, events, fit_in_window, has_enough, is_at_most}
use Rattle.counted_shapes.proofs.CountedLemmas.{some-window}
use Rattle.place_merges.specs.declared.spot.Spot.{Spot}
use Rattle.place_merges.specs.Places.{Wanted}
use Rattle.place_merges.specs.Sources.{wanted_words}
use Rattle.place_merges.specs.Spots.{some_at, spot, spots_left}
use Rattle.place_merges.proofs.SpotLemmas.{from_place}
use Rattle.spot_merges.specs.Edges.{spots_of}
use Rattle.spot_merges.proofs.SpotRanges.{kept_lie, lies_in, lying}
use Rattle.count_merges.specs.declared.item.CountedItem.{CountedItem}
use Rattle.count_merges.specs.declared.item.VariantGroup.{VariantGroup}
use Rattle.count_merges.specs.declared.window.Window.{Window}
use Rattle.count_merges.specs.Groups.{all_counted, backs_of, counted, fronts_of, group_spots, told_hit}
use Rattle.count_merges.specs.steps.Passing.{Parts, event, held, held_together, holds_all, is_passed, parts_of, started, started_parts}
use Rattle.count_merges.proofs.ListChanges.{all_through}

-- ---- numbers of told hits

module _ (unit : ℕ → ℕ) (at : Spot) where
  pub start_is : (kind : TextUnit) → start_in kind (told_hit unit at) ≡ unit at.place
  start_is Words = refl
  start_is Sentences = refl
  start_is Paragraphs = refl

  pub end_is : (kind : TextUnit) → end_in kind (told_hit unit at) ≡ unit (at.place + (at.words - 1))
  end_is Words = refl
  end_is Sentences = refl
  end_is Paragraphs = refl

-- ---- one spot: it has come in where it is held or has gone out

pub count_cons : {X : Type 0} (test : X → Bool) (x : X) (xs : List X) → length (filter test (x ∷ xs)) ≡ cond (test x) 1 0 + length (filter test xs)
count_cons test x xs = by (test x)
  where
    by : (b : Bool) → length (cond b (x ∷ filter test xs) (filter test xs)) ≡ cond b 1 0 + length (filter test xs)
    by true = omega arith
    by false = omega arith

one_held : (size last first end : ℕ) → first ≤ end
    → cond (nat_le end last && nat_lt last (first + size)) 1 0 + cond (nat_le (max end (first + size)) last) 1 0 ≡ cond (nat_le (max end (first + 0)) last) 1 0
one_held size last first end h = by (nat_le end last) (nat_lt last (first + size)) refl refl
  where
    by : (a b : Bool) → nat_le end last ≡ a → nat_lt last (first + size) ≡ b
        → cond (a && b) 1 0 + cond (nat_le (max end (first + size)) last) 1 0 ≡ cond (nat_le (max end (first + 0)) last) 1 0
    by true true ends goes =
        let here : nat_le (max end (first + 0)) last ≡ true = grind (arith, nat_tests, h, ends) in
        let gone : nat_le (max end (first + size)) last ≡ false = grind (arith, nat_tests, goes) in
        ap (λ b. 1 + cond b 1 0) gone ∙ sym (ap (λ b. cond b 1 0) here)
    by true false ends goes =
        let here : nat_le (max end (first + 0)) last ≡ true = grind (arith, nat_tests, h, ends) in
        let gone : nat_le (max end (first + size)) last ≡ true = grind (arith, nat_tests, ends, goes) in
        ap (λ b. 0 + cond b 1 0) gone ∙ sym (ap (λ b. cond b 1 0) here)
    by false b ends goes =
        let here : nat_le (max end (first + 0)) last ≡ false = grind (arith, nat_tests, ends) in
        let gone : nat_le (max end (first + size)) last ≡ false = grind (arith, nat_tests, ends) in
        ap (λ b. 0 + cond b 1 0) gone ∙ sym (ap (λ b. cond b 1 0) here)

-- ---- tests of lists

all_flat : {X Y : Type 0} (test : Y → Bool) (f : X → List Y) → ((x : X) → list_all test (f x) ≡ true) → (xs : List X) → list_all test (flat_map f xs) ≡ true
all_flat test f each [] = refl
all_flat test f each (x ∷ xs) = list_all-append test (f x) (flat_map f xs) ∙ (λ i. each x i && all_flat test f each xs i)

kept_more : {X : Type 0} (holds kept test : X → Bool) → ((x : X) → holds x ≡ true → test x ≡ true) → (xs : List X) → list_all holds xs ≡ true → list_all test (filter kept xs) ≡ true
kept_more holds kept test more [] h = refl
kept_more holds kept test more (x ∷ xs) h =
    let parts = and_parts (holds x) (list_all holds xs) h in
    by (kept x) (more x parts.0) (kept_more holds kept test more xs parts.1)
  where
    by : (b : Bool) → test x ≡ true → list_all test (filter kept xs) ≡ true → list_all test (cond b (x ∷ filter kept xs) (filter kept xs)) ≡ true
    by true here rest = λ i. here i && rest i
    by false here rest = rest

none_below : (limit : ℕ) (test : ℕ → Bool) → ((n : ℕ) → n < limit → test n ≡ false) → (xs : List ℕ) → list_all (λ n. nat_lt n limit) xs ≡ true → list_any test xs ≡ false
none_below limit test none [] h = refl
none_below limit test none (n ∷ xs) h =
    let parts = and_parts (nat_lt n limit) (list_all (λ m. nat_lt m limit) xs) h in
    λ i. none n (ltb-true n limit parts.0) i || none_below limit test none xs parts.1 i

pub each_passes : {X : Type 0} (test : X → Bool) → ((x : X) → test x ≡ true) → (xs : List X) → list_all test xs ≡ true
each_passes test all [] = refl
each_passes test all (x ∷ xs) = λ i. all x i && each_passes test all xs i

-- ---- spots, groups and items

module _ (unit : ℕ → ℕ) (rises : (first second : ℕ) → first ≤ second → unit first ≤ unit second) (size : ℕ) where
  module _ (kind : TextUnit) (last : ℕ) where
    -- of spots of so many words, those that are held and those that have gone are those that have come
    pub spots_held : (words : ℕ) (spots : List Spot)
        → length (filter (in_window size kind last) (map (told_hit unit) (filter (λ at. at.words == words) spots))) + length (filter (is_passed unit size words last) spots)
        ≡ length (filter (is_passed unit 0 words last) spots)
    spots_held words [] = refl
    spots_held words (at ∷ rest) =
        by (at.words == words) refl (spots_held words rest) (count_cons (is_passed unit size words last) at rest) (count_cons (is_passed unit 0 words last) at rest)
      where
        kept : List Spot
        kept = filter (λ other. other.words == words) rest

        by : (b : Bool) → (at.words == words) ≡ b
            → length (filter (in_window size kind last) (map (told_hit unit) kept)) + length (filter (is_passed unit size words last) rest) ≡ length (filter (is_passed unit 0 words last) rest)
            → length (filter (is_passed unit size words last) (at ∷ rest)) ≡ cond (is_passed unit size words last at) 1 0 + length (filter (is_passed unit size words last) rest)
            → length (filter (is_passed unit 0 words last) (at ∷ rest)) ≡ cond (is_passed unit 0 words last at) 1 0 + length (filter (is_passed unit 0 words last) rest)
            → length (filter (in_window size kind last) (map (told_hit unit) (cond b (at ∷ kept) kept))) + length (filter (is_passed unit size words last) (at ∷ rest))
            ≡ length (filter (is_passed unit 0 words last) (at ∷ rest))
        by false e further gone come =
            let gone_is : cond {A = ℕ} (is_passed unit size words last at) 1 0 ≡ 0 = ap (λ b. cond (b && nat_le (event unit size words at.place) last) 1 0) e in
            let come_is : cond {A = ℕ} (is_passed unit 0 words last at) 1 0 ≡ 0 = ap (λ b. cond (b && nat_le (event unit 0 words at.place) last) 1 0) e in
            omega (arith, further, gone, come, gone_is, come_is)
        by true e further gone come =
            let same = eqb-true at.words words e in
            let end : end_in kind (told_hit unit at) ≡ unit (at.place + (words - 1)) = end_is unit at kind ∙ ap (λ n. unit (at.place + (n - 1))) same in
            let here = count_cons (in_window size kind last) (told_hit unit at) (map (told_hit unit) kept) in
            let here_is : cond {A = ℕ} (in_window size kind last (told_hit unit at)) 1 0 ≡ cond {A = ℕ} (nat_le (unit (at.place + (words - 1))) last && nat_lt last (unit at.place + size)) 1 0 =
            λ i. cond (nat_le (end i) last && nat_lt last (start_is unit at kind i + size)) 1 0 in
            let gone_is : cond {A = ℕ} (is_passed unit size words last at) 1 0 ≡ cond {A = ℕ} (nat_le (event unit size words at.place) last) 1 0 = ap (λ b. cond (b && nat_le (event unit size words at.place) last) 1 0) e in
            let come_is : cond {A = ℕ} (is_passed unit 0 words last at) 1 0 ≡ cond {A = ℕ} (nat_le (event unit 0 words at.place) last) 1 0 =
            ap (λ b. cond (b && nat_le (event unit 0 words at.place) last) 1 0) e in
            let one = one_held size last (unit at.place) (unit (at.place + (words - 1))) (rises at.place (at.place + (words - 1)) (omega arith)) in
            omega (arith, further, gone, come, here, here_is, gone_is, come_is, one)

  module _ {H : Type 0} (stand : H → HitPlace) (span : Span) where
    abbrev window : Window
    window = record { size = size; to = span.to }

    abbrev start : VariantGroup H → VariantGroup H
    start group = started unit window span.from group

    abbrev front_words : VariantGroup H → List (List Wanted)
    front_words group = wanted_words stand group.front.items

    abbrev back_words : VariantGroup H → List (List Wanted)
    back_words group = wanted_words stand group.back.items

    abbrev hits_of : VariantGroup H → List Hit
    hits_of group = map (told_hit unit) (group_spots span group.words (front_words group))

    module _ (kind : TextUnit) (last : ℕ) where
      group_held : (group : VariantGroup H) → back_words group ≡ front_words group
          → held stand unit window (start group) last ≡ length (filter (in_window size kind last) (hits_of group))
      group_held group same =
          let all = from_place span.to span.from in
          let come : length (filter (is_passed unit 0 group.words last) (spots_of span (front_words group)))
          ≡ length (filter (is_passed unit 0 group.words last) (spots_left span.to (front_words group) (spot span.from 0))) =
          λ i. length (filter (is_passed unit 0 group.words last) (filter (some_at span.to (front_words group)) (all i))) in
          let gone : length (filter (is_passed unit size group.words last) (spots_of span (front_words group)))
          ≡ length (filter (is_passed unit size group.words last) (spots_left span.to (back_words group) (spot span.from 0))) =
          λ i. length (filter (is_passed unit size group.words last) (filter (some_at span.to (sym same i)) (all i))) in
          let is = spots_held kind last group.words (spots_of span (front_words group)) in
          omega (arith, come, gone, is)

      groups_held : (groups : List (VariantGroup H)) → map back_words groups ≡ map front_words groups
          → held_together stand unit window (map start groups) last ≡ length (filter (in_window size kind last) (flat_map hits_of groups))
      groups_held [] same = refl
      groups_held (group ∷ rest) same =
          sum_by-cons (λ other. held stand unit window other last) (start group) (map start rest)
          ∙ (λ i. group_held group (ap (λ xs. get_or xs 0 (back_words group)) same) i + groups_held rest (ap (drop 1) same) i)
          ∙ sym (ap length (filter-append (in_window size kind last) (hits_of group) (flat_map hits_of rest))
          ∙ length-append (filter (in_window size kind last) (hits_of group)) (filter (in_window size kind last) (flat_map hits_of rest)))

      abbrev parts_hold : Parts (VariantGroup H) → Bool
      parts_hold item = nat_le item.least (held_together stand unit window item.groups last) && is_at_most item.most (held_together stand unit window item.groups last)

      items_hold : (items : List (CountedItem H)) → backs_of stand items ≡ fronts_of stand items
          → list_all (λ item. parts_hold (started_parts unit window span.from (parts_of item))) items ≡ list_all (has_enough (in_window size kind last)) (all_counted stand unit span items)
      items_hold [] same = refl
      items_hold (item ∷ rest) same =
          let first = groups_held item.groups.items (ap (λ xs. get_or xs 0 (map back_words item.groups.items)) same) in
          λ i. (nat_le item.least (first i) && is_at_most item.most (first i)) && items_hold rest (ap (drop 1) same) i

      -- before the first window an item holds what lies there
      pub started_hold : (now items : List (CountedItem H)) → map parts_of now ≡ map (started_parts unit window span.from) (map parts_of items)
          → backs_of stand items ≡ fronts_of stand items
          → holds_all stand unit window now last ≡ list_all (has_enough (in_window size kind last)) (all_counted stand unit span items)
      started_hold now items is same = all_through parts_of (started_parts unit window span.from) now items is parts_hold ∙ items_hold items same

    -- ---- tests of the hits

    module _ (test : Hit → Bool) (each : (at : Spot) → lies_in span.from span.to at ≡ true → test (told_hit unit at) ≡ true) where
      group_passes : (group : VariantGroup H) → list_all test (hits_of group) ≡ true
      group_passes group =
          list_all-map test (told_hit unit) (group_spots span group.words (front_words group))
          ∙ kept_more (lies_in span.from span.to) (λ at. at.words == group.words) (λ at. test (told_hit unit at)) each (spots_of span (front_words group))
          (kept_lie (some_at span.to (front_words group)) span.from span.to)

      pub hits_pass : (items : List (CountedItem H)) → list_all test (all_hits (all_counted stand unit span items)) ≡ true
      hits_pass [] = refl
      hits_pass (item ∷ rest) =
          list_all-append test (flat_map hits_of item.groups.items) (all_hits (all_counted stand unit span rest))
          ∙ (λ i. all_flat test hits_of group_passes item.groups.items i && hits_pass rest i)

    -- ---- events are below a number that those of the hits are below

    -- where a text has no places, none is, and else those of its last place are
    pub in_no_text : span.to ≤ span.from → (at : Spot) → lies_in span.from span.to at ≡ true → (unit (at.place + (at.words - 1)) < 0) × (unit at.place + size < 0)
    in_no_text none at lies = let bounds = lying span.from span.to at lies in absurd (omega (arith, none, bounds.0, bounds.1.0, bounds.1.1))

    pub in_text : (limit : ℕ) → unit (span.to - 1) + size < limit → (at : Spot) → lies_in span.from span.to at ≡ true
        → (unit (at.place + (at.words - 1)) < limit) × (unit at.place + size < limit)
    in_text limit last at lies =
        let bounds = lying span.from span.to at lies in
        let ends = rises (at.place + (at.words - 1)) (span.to - 1) (omega (arith, bounds.1.0, bounds.1.1)) in
        let starts = rises at.place (span.to - 1) (omega (arith, bounds.1.0, bounds.1.1)) in
        (omega (arith, last, ends), omega (arith, last, starts))

    module _ (kind : TextUnit) (limit : ℕ) (within : (at : Spot) → lies_in span.from span.to at ≡ true → (unit (at.place + (at.words - 1)) < limit) × (unit at.place + size < limit)) where
      abbrev below : Hit → Bool
      below hit = nat_lt (end_in kind hit) limit && nat_lt (start_in kind hit + size) limit

      spot_below : (at : Spot) → lies_in span.from span.to at ≡ true → below (told_hit unit at) ≡ true
      spot_below at lies =
          let both = within at lies in
          let end = lt-ltb (unit (at.place + (at.words - 1))) limit both.0 in
          let start = lt-ltb (unit at.place + size) limit both.1 in
          λ i. (ap (λ n. nat_lt n limit) (end_is unit at kind) ∙ end) i && (ap (λ n. nat_lt (n + size) limit) (start_is unit at kind) ∙ start) i

      events_below : (hits : List Hit) → list_all below hits ≡ true → list_all (λ n. nat_lt n limit) (events size kind hits) ≡ true
      events_below [] h = refl
      events_below (hit ∷ rest) h =
          let parts = and_parts (below hit) (list_all below rest) h in
          let both = and_parts (nat_lt (end_in kind hit) limit) (nat_lt (start_in kind hit + size) limit) parts.0 in
          λ i. both.0 i && (both.1 i && events_below rest parts.1 i)

      pub none_fits : (items : List (CountedItem H))
          → ((other : ℕ) → other < limit → list_all (has_enough (in_window size kind other)) (all_counted stand unit span items) ≡ false)
          → fit_in_window size kind (all_counted stand unit span items) ≡ false
      none_fits items none =
          none_below limit (λ other. list_all (has_enough (in_window size kind other)) (all_counted stand unit span items)) none
          (events size kind (all_hits (all_counted stand unit span items))) (events_below (all_hits (all_counted stand unit span items)) (hits_pass below spot_below items))

    pub one_fits : (kind : TextUnit) (last : ℕ) (items : List (CountedItem H)) → list_any (λ item. nat_lt 0 item.least) items ≡ true
        → list_all (has_enough (in_window size kind last)) (all_counted stand unit span items) ≡ true
        → fit_in_window size kind (all_counted stand unit span items) ≡ true
    one_fits kind last items asks fits =
        (some-window size kind (all_counted stand unit span items) (list_any-map (λ item. nat_lt 0 item.least) (counted stand unit span) items ∙ asks)).1 (last, fits)
