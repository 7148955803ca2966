-- Spots that a window has passed: how many they are, and up to which end of a window no other one is.
use Rattle.std.proofs.Common.{◌≡◌, refl, sym, ap, ◌∙◌, ℕ, zero, suc, ◌+◌, ◌-◌, ◌*◌, ◌^◌, ◌<◌, ◌≤◌, max, Bool, true, false, ◌==◌, cond, ◌&&◌, ◌||◌, List, [], ◌∷◌, map, filter, flat_map, length, arith}
use Rattle.std.specs.Prelude.{nat_le, nat_lt}
use Rattle.std.specs.List.{list_all, range_with_len}
use Rattle.std.proofs.lemmas.Bool.{and_from, and_parts, eq-eqb, eqb-true, le-leb, leb-true}
use Rattle.std.proofs.lemmas.Bool.Decides.{nat_tests}
use Rattle.std.proofs.lemmas.List.Folds.{list_all-append}
use Rattle.ft_base.specs.Hits.{HitPlace}
use Rattle.place_merges.specs.declared.item.Variant.{Variant}
use Rattle.place_merges.specs.declared.spot.Spot.{Spot}
use Rattle.place_merges.specs.Sources.{wanted_words}
use Rattle.place_merges.specs.Spots.{from_lead, some_at, spot, spots_after, spots_at, spots_between, spots_left}
use Rattle.place_merges.specs.steps.Spotting.{is_before}
use Rattle.spot_merges.specs.steps.Covering.{spots_ahead}
use Rattle.spot_merges.proofs.SpotRanges.{lies_in, lying}
use Rattle.count_merges.specs.declared.passing.Passed.{Passed}
use Rattle.count_merges.specs.steps.Passing.{count_with, event, is_passed, is_sound, next_event, passed_by}

-- ---- the spots after one lie in the text, and none begins before it

row_lies : (from to place n k : ℕ) → from ≤ place → 1 ≤ n → ((m : ℕ) → n ≤ m → m < n + k → place + m ≤ to)
    → list_all (lies_in from to) (map (spot place) (range_with_len n k)) ≡ true
row_lies from to place n zero first some last = refl
row_lies from to place n (suc k) first some last =
    let here = last n (omega arith) (omega arith) in
    let one : lies_in from to (spot place n) ≡ true =
    and_from (nat_le from place) (nat_le 1 n && nat_le (place + n) to) (le-leb from place first)
    (and_from (nat_le 1 n) (nat_le (place + n) to) (le-leb 1 n some) (le-leb (place + n) to here)) in
    λ i. one i && row_lies from to place (n + 1) k first (omega arith) (λ m a b. last m (omega (arith, a)) (omega (arith, b))) i

pub rows_lie : (from to place k : ℕ) → from ≤ place → list_all (lies_in from to) (flat_map (spots_at to) (range_with_len place k)) ≡ true
rows_lie from to place zero first = refl
rows_lie from to place (suc k) first =
    list_all-append (lies_in from to) (spots_at to place) (flat_map (spots_at to) (range_with_len (place + 1) k))
    ∙ (λ i. row_lies from to place 1 (to - place) first (omega arith) (λ m a b. omega (arith, a, b)) i && rows_lie from to (place + 1) k (omega (arith, first)) i)

spots_lie : (to : ℕ) (at : Spot) → list_all (lies_in at.place to) (spots_after to at) ≡ true
spots_lie to at =
    list_all-append (lies_in at.place to) (map (spot at.place) (range_with_len (suc at.words) ((to - at.place) - at.words))) (spots_between (suc at.place) to)
    ∙ (λ i. row_lies at.place to at.place (suc at.words) ((to - at.place) - at.words) (omega arith) (omega arith) (λ m a b. omega (arith, a, b)) i
    && rows_lie at.place to (suc at.place) (to - suc at.place) (omega arith) i)

none_pass : {X : Type 0} (ok kept test : X → Bool) → ((x : X) → ok x ≡ true → test x ≡ false) → (xs : List X) → list_all ok xs ≡ true
    → length (filter test (filter kept xs)) ≡ 0
none_pass ok kept test none [] h = refl
none_pass ok kept test none (x ∷ xs) h =
    let parts = and_parts (ok x) (list_all ok xs) h in
    by (kept x) (none x parts.0) (none_pass ok kept test none xs parts.1)
  where
    by : (b : Bool) → test x ≡ false → length (filter test (filter kept xs)) ≡ 0 → length (filter test (cond b (x ∷ filter kept xs) (filter kept xs))) ≡ 0
    by true is rest = ap (λ c. length (cond c (x ∷ filter test (filter kept xs)) (filter test (filter kept xs)))) is ∙ rest
    by false is rest = rest

-- ---- each step leads to a spot of a greater number

more_before : (was count : ℕ) (lead next : Spot) → lead.words < 2 ^ 32 → is_before lead next ≡ true → was ≤ lead.place * 2 ^ 32 + lead.words → count ≤ was + 1
    → count ≤ next.place * 2 ^ 32 + next.words
more_before was count lead next small past bound more = grind (arith, nat_tests, small, past, bound, more)

-- ---- up to the next event none is passed

later_event : (a b c d other : ℕ) → a ≤ c → b ≤ d → other < max a b → nat_le (max c d) other ≡ false
later_event a b c d other low high before = grind (arith, nat_tests, low, high, before)

fits_in : (words to place first : ℕ) → 1 ≤ words → place ≤ first → first + words ≤ to → ((words == 0) || nat_lt (to - place) words) ≡ false
fits_in words to place first some low last =
    let much : words ≤ to - place = omega (arith, low, last) in
    grind (arith, nat_tests, some, much)

module _ (unit : ℕ → ℕ) (rises : (first second : ℕ) → first ≤ second → unit first ≤ unit second) (size words to : ℕ) where
  not_passed : (place other : ℕ) (at : Spot) → other < next_event unit size words to place → lies_in place to at ≡ true → is_passed unit size words other at ≡ false
  not_passed place other at before lies = by (at.words == words) refl
    where
      by : (b : Bool) → (at.words == words) ≡ b → (b && nat_le (event unit size words at.place) other) ≡ false
      by false is = refl
      by true is =
          let bounds = lying place to at lies in
          let same = eqb-true at.words words is in
          let some : 1 ≤ words = omega (arith, bounds.1.0, same) in
          let fits = fits_in words to place at.place some bounds.0 (omega (arith, bounds.1.1, same)) in
          let next = ap (λ b. cond b (2 ^ 64 - 1) (event unit size words place)) fits in
          let before_event : other < event unit size words place = omega (arith, before, next) in
          let ends = rises (place + (words - 1)) (at.place + (words - 1)) (omega (arith, bounds.0)) in
          let starts = rises place at.place bounds.0 in
          later_event (unit (place + (words - 1))) (unit place + size) (unit (at.place + (words - 1))) (unit at.place + size) other ends (omega (arith, starts)) before_event

  -- what is known of a pass
  record Known (passed : Passed) : Type 0 where
    within : passed.lead.place + passed.lead.words ≤ to
    count : passed.count ≤ passed.lead.place * 2 ^ 32 + passed.lead.words
    event : passed.event ≡ next_event unit size words to passed.lead.place

  known : (passed : Passed) → is_sound unit size words to passed ≡ true → Known passed
  known passed sound =
      let first = and_parts (nat_le (passed.lead.place + passed.lead.words) to)
      (nat_le passed.count (passed.lead.place * 2 ^ 32 + passed.lead.words) && (passed.event == next_event unit size words to passed.lead.place)) sound in
      let rest = and_parts (nat_le passed.count (passed.lead.place * 2 ^ 32 + passed.lead.words)) (passed.event == next_event unit size words to passed.lead.place) first.1 in
      record {
        within = leb-true (passed.lead.place + passed.lead.words) to first.0;
        count = leb-true passed.count (passed.lead.place * 2 ^ 32 + passed.lead.words) rest.0;
        event = eqb-true passed.event (next_event unit size words to passed.lead.place) rest.1;
      }

  module _ {H : Type 0} (stand : H → HitPlace) where
    abbrev left : List (Variant H) → Spot → List Spot
    left variants lead = spots_left to (wanted_words stand variants) lead

    quiet_left : (variants : List (Variant H)) (lead : Spot) (other : ℕ) → other < next_event unit size words to lead.place
        → length (filter (is_passed unit size words other) (left variants lead)) ≡ 0
    quiet_left variants lead other before =
        none_pass (lies_in lead.place to) (some_at to (wanted_words stand variants)) (is_passed unit size words other)
        (λ at. not_passed lead.place other at before) (spots_after to lead) (spots_lie to lead)

    quiet_ahead : (variants : List (Variant H)) (lead : Spot) (other : ℕ) → lead.place + lead.words ≤ to → other < next_event unit size words to lead.place
        → length (filter (is_passed unit size words other) (spots_ahead stand to variants lead)) ≡ 0
    quiet_ahead variants lead other last before = by (nat_lt 0 lead.words) refl (quiet_left variants lead other before)
      where
        by : (b : Bool) → nat_lt 0 lead.words ≡ b → length (filter (is_passed unit size words other) (left variants lead)) ≡ 0
            → length (filter (is_passed unit size words other) (cond b (lead ∷ left variants lead) (left variants lead))) ≡ 0
        by false some rest = rest
        by true some rest =
            let here : lies_in lead.place to lead ≡ true = grind (arith, nat_tests, last, some) in
            ap (λ c. length (cond c (lead ∷ filter (is_passed unit size words other) (left variants lead)) (filter (is_passed unit size words other) (left variants lead))))
            (not_passed lead.place other lead before here)
            ∙ rest

    -- up to the event as many are passed as were
    pub quiet : (variants : List (Variant H)) (passed : Passed) (other : ℕ) → is_sound unit size words to passed ≡ true → other < passed.event
        → passed_by stand unit size words to variants passed other ≡ passed.count
    quiet variants passed other sound before =
        let is = known passed sound in
        let event = is.event in
        let none = quiet_ahead variants passed.lead other is.within (omega (arith, before, event)) in
        omega (arith, none)

    -- ---- one step to the next spot, where the event has come

    module _ (passed : Passed) (last : ℕ) (sound : is_sound unit size words to passed ≡ true) (due : passed.event ≤ last) (below : last < 2 ^ 64 - 1) where
      fitting : ((words == 0) || nat_lt (to - passed.lead.place) words) ≡ false
      fitting = by ((words == 0) || nat_lt (to - passed.lead.place) words) refl (known passed sound).event
        where
          by : (b : Bool) → ((words == 0) || nat_lt (to - passed.lead.place) words) ≡ b → passed.event ≡ cond b (2 ^ 64 - 1) (event unit size words passed.lead.place) → b ≡ false
          by true is same = absurd (omega (arith, due, below, same))
          by false is same = refl

      pub lead_within : passed.lead.place < to
      lead_within = grind (arith, nat_tests, fitting)

      pub count_within : to < 2 ^ 32 → passed.count < 2 ^ 64 - 1
      count_within small = let count = (known passed sound).count in let within = (known passed sound).within in omega (arith, count, within, small)

      passes_lead : (other : ℕ) → last ≤ other → nat_le (event unit size words passed.lead.place) other ≡ true
      passes_lead other past =
          let next = ap (λ b. cond b (2 ^ 64 - 1) (event unit size words passed.lead.place)) fitting in
          let is = (known passed sound).event in
          le-leb (event unit size words passed.lead.place) other (omega (arith, next, is, due, past))

      -- as many are passed of windows from there on as were
      pub one_passed : (variants after : List (Variant H)) (next : Spot) (count ahead : ℕ) → count ≡ count_with words passed.count passed.lead
          → left variants passed.lead ≡ from_lead (left after) next
          → (other : ℕ) → last ≤ other
          → passed_by stand unit size words to after (record { count = count; lead = next; event = ahead }) other ≡ passed_by stand unit size words to variants passed other
      one_passed variants after next count ahead is led other past =
          ap (λ spots. count + length (filter (is_passed unit size words other) spots)) (sym led)
          ∙ ap (λ n. n + length (filter (is_passed unit size words other) (left variants passed.lead))) is
          ∙ by (nat_lt 0 passed.lead.words) (passed.lead.words == words) refl
        where
          rest : ℕ
          rest = length (filter (is_passed unit size words other) (left variants passed.lead))

          here : (b : Bool) → is_passed unit size words other passed.lead ≡ b
              → length (filter (is_passed unit size words other) (passed.lead ∷ left variants passed.lead)) ≡ cond b (suc rest) rest
          here true e = ap (λ b. length (cond b (passed.lead ∷ filter (is_passed unit size words other) (left variants passed.lead)) (filter (is_passed unit size words other) (left variants passed.lead)))) e
          here false e = ap (λ b. length (cond b (passed.lead ∷ filter (is_passed unit size words other) (left variants passed.lead)) (filter (is_passed unit size words other) (left variants passed.lead)))) e

          by : (some same : Bool) → (passed.lead.words == words) ≡ same → cond (some && same) (passed.count + 1) passed.count + rest
              ≡ passed.count + length (filter (is_passed unit size words other) (cond some (passed.lead ∷ left variants passed.lead) (left variants passed.lead)))
          by false same e = refl
          by true false e = let one = here false (ap (λ b. b && nat_le (event unit size words passed.lead.place) other) e) in omega (arith, one)
          by true true e =
              let one = here true (ap (λ b. b && nat_le (event unit size words passed.lead.place) other) e ∙ passes_lead other past) in
              omega (arith, one)

      pub step_sound : (next : Spot) (count ahead : ℕ) → count ≡ count_with words passed.count passed.lead → to < 2 ^ 32
          → is_before passed.lead next ≡ true → next.place + next.words ≤ to → ahead ≡ next_event unit size words to next.place
          → is_sound unit size words to (record { count = count; lead = next; event = ahead }) ≡ true
      step_sound next count ahead is small past last event =
          and_from (nat_le (next.place + next.words) to) (nat_le count (next.place * 2 ^ 32 + next.words) && (ahead == next_event unit size words to next.place)) (le-leb (next.place + next.words) to last)
          (and_from (nat_le count (next.place * 2 ^ 32 + next.words)) (ahead == next_event unit size words to next.place)
          (le-leb count (next.place * 2 ^ 32 + next.words) (more_before passed.count count passed.lead next (omega (arith, small, within)) past (known passed sound).count one_more))
          (eq-eqb ahead (next_event unit size words to next.place) event))
        where
          within : passed.lead.place + passed.lead.words ≤ to
          within = (known passed sound).within

          one_more : count ≤ passed.count + 1
          one_more = by (nat_lt 0 passed.lead.words && (passed.lead.words == words)) is
            where
              by : (b : Bool) → count ≡ cond b (passed.count + 1) passed.count → count ≤ passed.count + 1
              by true e = omega (arith, e)
              by false e = omega (arith, e)
