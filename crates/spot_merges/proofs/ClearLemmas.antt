-- Windows between the last spot that was passed and the next one.
use Rattle.std.proofs.Common.{◌≡◌, refl, sym, ap, ◌∙◌, ℕ, suc, ◌+◌, ◌-◌, ◌<◌, ◌≤◌, Bool, true, false, true≢false, cond, ◌&&◌, not, List, ◌∷◌, ◌++◌, filter, Option, Some, None, subst, arith, inl, inr}
use Rattle.std.specs.Prelude.{min, nat_lt, option_to_list}
use Rattle.std.specs.List.{list_all, list_any, range_with_len}
use Rattle.std.specs.Option.{ForSome}
use Rattle.std.proofs.lemmas.Bool.{and_from, and_parts, cases_lt}
use Rattle.std.proofs.lemmas.Bool.Decides.{nat_tests}
use Rattle.std.proofs.lemmas.Option.{same_Some}
use Rattle.std.proofs.lemmas.List.Folds.{list_all-map}
use Rattle.ft_base.specs.Hits.{HitPlace}
use Rattle.ft_base.proofs.Truth.{same_tests}
use Rattle.all_matches.proofs.ListTests.{list_any-alike, list_any-map}
use Rattle.place_merges.specs.Sources.{wanted_words}
use Rattle.place_merges.specs.Spots.{some_at, spot, spots_left}
use Rattle.place_merges.specs.declared.item.Variant.{Variant}
use Rattle.place_merges.specs.declared.spot.Spot.{Spot}
use Rattle.place_merges.specs.steps.Spotting.{is_before}
use Rattle.place_merges.proofs.SpotLemmas.{no_spots}
use Rattle.spot_merges.specs.Clear.{begins, has_clear_window, lies_before, some_clear}
use Rattle.spot_merges.specs.declared.clear.Passed.{Passed}
use Rattle.spot_merges.specs.steps.Clearing.{IsLed, has_room, has_window, is_clear, last_with}
use Rattle.spot_merges.specs.steps.Covering.{SameAt, spots_ahead}
use Rattle.spot_merges.proofs.RangeTests.{found_in_range, some_in_range}
use Rattle.spot_merges.proofs.SpotTests.{all_after}

-- with one more spot, the last of those that were passed is still at or before a place
pub last_before : (passed : Passed) (last : Option ℕ) (place : ℕ) → last ≡ last_with passed.last passed.lead → ForSome passed.last (λ before. before ≤ place) → passed.lead.place ≤ place
    → ForSome last (λ before. before ≤ place)
last_before passed last place is behind here = λ before some. by (nat_lt 0 passed.lead.words) before (sym is ∙ some)
  where
    by : (b : Bool) → ForSome (cond b (Some passed.lead.place) passed.last) (λ before. before ≤ place)
    by true before some = subst (λ n. n ≤ place) (same_Some passed.lead.place before some) here
    by false before some = behind before some

module _ (size : ℕ) where
  -- whether none of the others is one of the places of the window that ends before a place
  abbrev holds_none : List ℕ → ℕ → Bool
  holds_none others after = list_all (λ other. not (lies_before size after other)) others

  -- ---- the last of the places that were passed

  dropped : (earlier later rest : Bool) → (earlier ≡ true → later ≡ true) → (not later && rest) ≡ (not earlier && (not later && rest))
  dropped true true rest h = refl
  dropped true false rest h = absurd (true≢false (sym (h refl)))
  dropped false later rest h = refl

  without_earlier : (earlier later place : ℕ) (rest : List ℕ) → earlier ≤ later → later ≤ place
      → has_clear_window size (later ∷ rest) place ≡ has_clear_window size (earlier ∷ later ∷ rest) place
  without_earlier earlier later place rest order behind =
      list_any-alike (λ n. holds_none (later ∷ rest) (suc place + n)) (λ n. holds_none (earlier ∷ later ∷ rest) (suc place + n)) (range_with_len 0 size)
      (λ n. dropped (lies_before size (suc place + n) earlier) (lies_before size (suc place + n) later) (holds_none rest (suc place + n)) (holds_later n))
    where
      holds_later : (n : ℕ) → lies_before size (suc place + n) earlier ≡ true → lies_before size (suc place + n) later ≡ true
      holds_later n h = grind (arith, nat_tests, h, order, behind)

  module _ {H : Type 0} (stand : H → HitPlace) (to : ℕ) where
    abbrev left : List (Variant H) → Spot → List Spot
    left variants lead = spots_left to (wanted_words stand variants) lead

    -- ---- one more spot is passed

    pub one_passed : (old now : List (Variant H)) (passed : Passed) (last : Option ℕ) (lead : Spot) (place : ℕ) → last ≡ last_with passed.last passed.lead
        → left old passed.lead ≡ spots_ahead stand to now lead
        → ForSome passed.last (λ before. before ≤ passed.lead.place) → passed.lead.place ≤ place
        → SameAt place (is_clear stand to size now (record { last = last; lead = lead })) (is_clear stand to size old passed)
    one_passed old now passed last lead place is spots behind here = record {
      same = λ other past.
          (λ i. has_clear_window size (option_to_list (is i) ++ begins (sym spots i)) other.place)
          ∙ by (nat_lt 0 passed.lead.words) passed.last behind other past;
    }
      where
        by : (b : Bool) (last : Option ℕ) → ForSome last (λ before. before ≤ passed.lead.place) → (other : Spot) → place ≤ other.place
            → has_clear_window size (option_to_list (cond b (Some passed.lead.place) last) ++ begins (left old passed.lead)) other.place
            ≡ has_clear_window size (option_to_list last ++ begins (cond b (passed.lead ∷ left old passed.lead) (left old passed.lead))) other.place
        by true None behind other past = refl
        by true (Some before) behind other past =
            without_earlier before passed.lead.place other.place (begins (left old passed.lead)) (behind before refl) (omega (arith, here, past))
        by false last behind other past = refl

    -- ---- the next spot

    -- a window that ends before the place to which the search led has none of those that are ahead
    none_ahead : (variants : List (Variant H)) (lead : Spot) (after : ℕ) → after ≤ lead.place → holds_none (begins (spots_ahead stand to variants lead)) after ≡ true
    none_ahead variants lead after past = by (nat_lt 0 lead.words)
      where
        beyond : (place : ℕ) → after ≤ place → not (lies_before size after place) ≡ true
        beyond place h = grind (arith, nat_tests, h)

        further : (other : Spot) → is_before lead other ≡ true → after ≤ other.place
        further other later = grind (arith, nat_tests, later, past)

        rest : holds_none (begins (left variants lead)) after ≡ true
        rest =
            list_all-map (λ other. not (lies_before size after other)) (λ (other : Spot). other.place) (left variants lead)
            ∙ all_after to lead (some_at to (wanted_words stand variants)) (λ other. not (lies_before size after other.place)) (λ other later. beyond other.place (further other later))

        by : (b : Bool) → holds_none (begins (cond b (lead ∷ left variants lead) (left variants lead))) after ≡ true
        by true = λ i. beyond lead.place past i && rest i
        by false = rest

    -- none is ahead where it led to the end
    none_to_the_end : (variants : List (Variant H)) (lead : Spot) (after : ℕ) → nat_lt 0 lead.words ≡ false → to ≤ lead.place
        → holds_none (begins (spots_ahead stand to variants lead)) after ≡ true
    none_to_the_end variants lead after none end =
        ap (λ b. holds_none (begins (cond b (lead ∷ left variants lead) (left variants lead))) after) none
        ∙ ap (λ spots. holds_none (begins (filter (some_at to (wanted_words stand variants)) spots)) after) (no_spots to lead.place lead.words end)

    -- one that holds none of them, and begins after a place, has room before it
    room_before : (variants : List (Variant H)) (lead : Spot) (last place after : ℕ) → place < lead.place → last + size < after → after ≤ place + size
        → holds_none (begins (spots_ahead stand to variants lead)) after ≡ true → has_room size last lead ≡ true
    room_before variants lead last place after ahead begin end h = by (nat_lt 0 lead.words) h
      where
        by : (b : Bool) → holds_none (begins (cond b (lead ∷ left variants lead) (left variants lead))) after ≡ true → cond b (nat_lt (last + size) lead.place) true ≡ true
        by true h =
            let first = (and_parts (not (lies_before size after lead.place)) (holds_none (begins (left variants lead)) after) h).0 in
            grind (arith, nat_tests, first, ahead, begin, end)
        by false h = refl

    module _ (variants : List (Variant H)) (lead : Spot) (place : ℕ) (ahead : place < lead.place) where
      abbrev others : List ℕ
      others = begins (spots_ahead stand to variants lead)

      pub window_is : (last : Option ℕ) → ForSome last (λ before. before ≤ place) → ForSome last (λ before. before < place → IsLed (min (suc (before + size)) to) lead)
          → has_clear_window size (option_to_list last ++ others) place ≡ has_window size last lead place
      window_is None behind led =
          same_tests (has_clear_window size others place) (nat_lt 0 size)
          (λ h. let found = found_in_range (λ n. holds_none others (suc place + n)) 0 size h in let high = found.high in grind (arith, nat_tests, high))
          (λ h. some_in_range (λ n. holds_none others (suc place + n)) 0 size 0 (omega arith) (grind (arith, nat_tests, h)) (none_ahead variants lead (suc place + 0) (omega (arith, ahead))))
      window_is (Some last) behind led =
          same_tests (has_clear_window size (last ∷ others) place) (nat_lt 0 size && (nat_lt last place && has_room size last lead)) fits found
        where
          order : last ≤ place
          order = behind last refl

          fits : has_clear_window size (last ∷ others) place ≡ true → (nat_lt 0 size && (nat_lt last place && has_room size last lead)) ≡ true
          fits h =
              let found = found_in_range (λ n. holds_none (last ∷ others) (suc place + n)) 0 size h in
              let n = found.number in
              let high = found.high in
              let parts = and_parts (not (lies_before size (suc place + n) last)) (holds_none others (suc place + n)) found.holds in
              let none = parts.0 in
              let begin : last + size < suc place + n = grind (arith, nat_tests, none, order) in
              and_from (nat_lt 0 size) (nat_lt last place && has_room size last lead) (grind (arith, nat_tests, high))
              (and_from (nat_lt last place) (has_room size last lead) (grind (arith, nat_tests, begin, high))
              (room_before variants lead last place (suc place + n) ahead begin (omega (arith, high)) parts.1))

          -- the window after the last one has none of those that are ahead
          room : last < place → (b : Bool) → nat_lt 0 lead.words ≡ b → cond b (nat_lt (last + size) lead.place) true ≡ true → holds_none others (suc place + ((last + size) - place)) ≡ true
          room less true is h = none_ahead variants lead (suc place + ((last + size) - place)) (grind (arith, nat_tests, h, ahead))
          room less false is h = elim (cases_lt lead.place to) [
            | inl before ↦
                let far = (led last refl less).far (grind (arith, nat_tests, is)) in
                none_ahead variants lead (suc place + ((last + size) - place)) (omega (arith, far, before, ahead))
            | inr end ↦ none_to_the_end variants lead (suc place + ((last + size) - place)) is end
          ]

          found : (nat_lt 0 size && (nat_lt last place && has_room size last lead)) ≡ true → has_clear_window size (last ∷ others) place ≡ true
          found h =
              let parts = and_parts (nat_lt 0 size) (nat_lt last place && has_room size last lead) h in
              let rest = and_parts (nat_lt last place) (has_room size last lead) parts.1 in
              let some = parts.0 in
              let less = rest.0 in
              let n = (last + size) - place in
              some_in_range (λ n. holds_none (last ∷ others) (suc place + n)) 0 size n (omega arith) (grind (arith, nat_tests, some, less))
              (and_from (not (lies_before size (suc place + n) last)) (holds_none others (suc place + n)) (grind (arith, nat_tests, some, less))
              (room (grind (arith, nat_tests, less)) (nat_lt 0 lead.words) refl rest.1))

    -- ---- the spots of the left side

    -- before the first
    pub clear_starts : (from : ℕ) (first right : List (Variant H))
        → list_any (is_clear stand to size right (record { last = None; lead = spot from 0 })) (left first (spot from 0))
        ≡ some_clear size (begins (left first (spot from 0))) (begins (left right (spot from 0)))
    clear_starts from first right =
        sym (list_any-map (has_clear_window size (begins (left right (spot from 0)))) (λ (at : Spot). at.place) (left first (spot from 0)))
