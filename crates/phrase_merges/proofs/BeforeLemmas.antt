-- What a tree of lists keeps before a place, and how a step to the next end keeps it.
use Rattle.std.proofs.Common.{◌≡◌, refl, sym, ap, ◌∙◌, ℕ, suc, ◌≤◌, max, Bool, true, false, cond, ◌&&◌, ◌||◌, List, [], ◌∷◌, map, filter, Option, Some, arith, inl, inr}
use Rattle.std.specs.Prelude.{flat_map, nat_le, nat_lt}
use Rattle.std.specs.List.{list_all}
use Rattle.std.proofs.lemmas.Bool.{and_from, and_parts, cases_lt, lt-leb, lt-ltb, ltb-false, ltb-true}
use Rattle.std.proofs.lemmas.List.Elements.{filter-append}
use Rattle.std.proofs.lemmas.List.Folds.{list_all-append}
use Rattle.ft_base.specs.declared.hit.Hit.{Hit}
use Rattle.ft_base.specs.declared.unit.TextUnit.TheVariants.{Words}
use Rattle.ft_operators.specs.Phrases.{PhraseState}
use Rattle.phrase_merges.specs.Near.{DoRise, Units, fits_field, hulls_of, is_told, phrase_hits_of}
use Rattle.phrase_merges.specs.NearTrees.{Passage, lists_at, either_at, both_at, within_at, filter_of}
use Rattle.phrase_merges.specs.Rows.{goes_on, is_rising}
use Rattle.phrase_merges.specs.declared.edge.Edge.TheVariants.{End}
use Rattle.phrase_merges.specs.steps.Ahead.{from_on}
use Rattle.phrase_merges.specs.steps.Passing.{before, behind, earlier, greater, later, latest_before, left_behind, list_before, list_behind, operator_at, position_in, size_of, start_at, start_before, start_behind, start_of, start_of_lists, start_within, states_at, unit_of}
use Rattle.phrase_merges.proofs.AheadLemmas.{from_again, reached}
use Rattle.phrase_merges.proofs.ChoiceLemmas.{all_both}
use Rattle.phrase_merges.proofs.StartLemmas.{greater_turn, keep, latest_append, latest_joined, latest_on, latest_within}
use Rattle.phrase_merges.proofs.ToldLemmas.{Joins, all_kept, all_left, at, earlier_at, fits_told, greater_none, hulls_all, later_at, none_before, number_of, number_rises, rising_kept, room_in, start_told, start_within_at, told_joins}

-- the hits of some lists, and whether each list rises
abbrev pub hits_of : List PhraseState → List Hit
hits_of states = flat_map (λ s. s.hits) states

abbrev pub all_rise : List PhraseState → Bool
all_rise states = list_all (λ s. is_rising s.hits) states

-- the hits of all phrases of a tree
abbrev pub hits_at : Passage → List Hit
hits_at passage = phrase_hits_of (operator_at passage)

-- whether a hit doesn't end between a place and the end
abbrev pub ends_at : ℕ → ℕ → Hit → Bool
ends_at place end hit = nat_lt hit.to place || nat_le end hit.to

module _ (units : Units) where
  -- what a tree tells before a place
  pub tells_before : (place : ℕ) (passage : Passage) → start_at (before units place passage) ≡ start_before units place (operator_at passage)
  unfolding start_at before operator_at hulls_of
  tells_before place (lists_at states start) = refl
  tells_before place (either_at left right) =
      (λ i. later (tells_before place left i) (tells_before place right i))
      ∙ later_at units (latest_before place (hulls_of (operator_at left))) (latest_before place (hulls_of (operator_at right)))
      ∙ ap (at units) (sym (latest_append place (hulls_of (operator_at left)) (hulls_of (operator_at right))))
  tells_before place (both_at left right) =
      (λ i. earlier (tells_before place left i) (tells_before place right i))
      ∙ earlier_at units (latest_before place (hulls_of (operator_at left))) (latest_before place (hulls_of (operator_at right)))
      ∙ ap (at units) (sym (latest_joined place (hulls_of (operator_at left)) (hulls_of (operator_at right))))
  tells_before place (within_at operand field start) = refl

  -- ---- one list

  start_behind_at : (end : ℕ) (start : Option ℕ) (hits : List Hit) → is_rising hits ≡ true → list_all (is_told units) hits ≡ true
      → start_behind (position_in units end) (at units start) hits ≡ at units (greater start (latest_before (suc end) hits))
  start_behind_at end start [] h told = ap (at units) (greater_none start)
  start_behind_at end start (hit ∷ hits) h told =
      by (λ first. start_behind_at end first hits rises.1 each.1) (nat_lt end hit.to) refl
    where
      rises : (list_all (goes_on hit) hits ≡ true) × (is_rising hits ≡ true)
      rises = and_parts (list_all (goes_on hit) hits) (is_rising hits) h

      each : (is_told units hit ≡ true) × (list_all (is_told units) hits ≡ true)
      each = and_parts (is_told units hit) (list_all (is_told units) hits) told

      by : ((first : Option ℕ) → start_behind (position_in units end) (at units first) hits ≡ at units (greater first (latest_before (suc end) hits)))
          → (left : Bool) → nat_lt end hit.to ≡ left
          → cond left (at units start) (start_behind (position_in units end) (later (at units start) (Some (start_of hit))) hits)
          ≡ at units (greater start (latest_before (suc end) (hit ∷ hits)))
      by rest true e =
          let behind_end = ltb-true end hit.to e in
          ap (at units) (greater_none start ∙ ap (greater start) (sym (none_before (suc end) (hit ∷ hits) (all_left (suc end) hit hits h (omega (arith, behind_end))))))
      by rest false e =
          let ends = ltb-false end hit.to e in
          ap (λ one. start_behind (position_in units end) (later (at units start) (Some one)) hits) (start_told units hit each.0)
          ∙ ap (λ one. start_behind (position_in units end) one hits) (later_at units start (Some hit.from))
          ∙ rest (greater start (Some hit.from))
          ∙ ap (at units) (greater_turn start (Some hit.from) (latest_before (suc end) hits))
          ∙ ap (λ t. at units (greater start (cond t (greater (Some hit.from) (latest_before (suc end) hits)) (latest_before (suc end) hits)))) (sym (lt-ltb hit.to (suc end) (omega (arith, ends))))

  left_behind_is : (end : ℕ) (hits : List Hit) → is_rising hits ≡ true → left_behind (position_in units end) hits ≡ from_on End Words (suc end) hits
  left_behind_is end [] h = refl
  left_behind_is end (hit ∷ hits) h = by (left_behind_is end hits (and_parts (list_all (goes_on hit) hits) (is_rising hits) h).1) (nat_lt end hit.to) refl
    where
      by : left_behind (position_in units end) hits ≡ from_on End Words (suc end) hits → (left : Bool) → nat_lt end hit.to ≡ left
          → cond left (hit ∷ hits) (left_behind (position_in units end) hits) ≡ from_on End Words (suc end) (hit ∷ hits)
      by rest true e =
          let behind_end = ltb-true end hit.to e in
          sym (reached End Words (suc end) (hit ∷ hits) hit h refl (omega (arith, behind_end)))
      by rest false e =
          let ends = ltb-false end hit.to e in
          rest ∙ ap (λ t. cond t (hit ∷ from_on End Words (suc end) hits) (from_on End Words (suc end) hits)) (sym (lt-leb (suc end) hit.to (omega (arith, ends))))

  list_step : (place end : ℕ) (s : PhraseState) → place ≤ end → is_rising s.hits ≡ true → list_behind (position_in units end) (list_before place s) ≡ list_before (suc end) s
  list_step place end s h rises =
      let rest =
      left_behind_is end (from_on End Words place s.hits) (rising_kept (λ hit. nat_le place hit.to) s.hits rises)
      ∙ from_again End Words place (suc end) (omega (arith, h)) s.hits in
      λ i. record { aims = s.aims; hits = s.hits; rest = rest i }

  -- ---- the lists of a phrase

  lists_step : (place end : ℕ) (states : List PhraseState) → place ≤ end → all_rise states ≡ true
      → map (list_behind (position_in units end)) (map (list_before place) states) ≡ map (list_before (suc end)) states
  lists_step place end [] h rises = refl
  lists_step place end (s ∷ states) h rises =
      let parts = and_parts (is_rising s.hits) (all_rise states) rises in
      λ i. list_step place end s h parts.0 i ∷ lists_step place end states h parts.1 i

  lists_start : (place end : ℕ) (start : Option ℕ) (states : List PhraseState) → all_rise states ≡ true → list_all (is_told units) (hits_of states) ≡ true
      → start_of_lists (position_in units end) (at units start) (map (list_before place) states)
      ≡ at units (greater start (latest_before (suc end) (from_on End Words place (hits_of states))))
  lists_start place end start [] rises told = ap (at units) (greater_none start)
  lists_start place end start (s ∷ states) rises told =
      let parts = and_parts (is_rising s.hits) (all_rise states) rises in
      let each = and_parts (list_all (is_told units) s.hits) (list_all (is_told units) (hits_of states)) (sym (list_all-append (is_told units) s.hits (hits_of states)) ∙ told) in
      let own = from_on End Words place s.hits in
      let rest = from_on End Words place (hits_of states) in
      ap (λ one. start_of_lists (position_in units end) one (map (list_before place) states))
      (start_behind_at end start own (rising_kept (λ hit. nat_le place hit.to) s.hits parts.0) (all_kept (is_told units) (λ hit. nat_le place hit.to) s.hits each.0))
      ∙ lists_start place end (greater start (latest_before (suc end) own)) states parts.1 each.1
      ∙ ap (at units) (greater_turn start (latest_before (suc end) own) (latest_before (suc end) rest)
      ∙ ap (greater start) (sym (latest_append (suc end) own rest) ∙ ap (latest_before (suc end)) (sym (filter-append (λ hit. nat_le place hit.to) s.hits (hits_of states)))))

  -- ---- the tree

  next_joins : DoRise units → (place end : ℕ) → Joins (λ hit. is_told units hit && ends_at place end hit)
  next_joins rise place end a b ha hb =
      let one = and_parts (is_told units a) (ends_at place end a) ha in
      let other = and_parts (is_told units b) (ends_at place end b) hb in
      with_both _ _ (told_joins units rise a b one.0 other.0) (of_max a.to b.to one.1 other.1)
    where
      with_both : (x y : Bool) → (x && true) ≡ true → y ≡ true → ((x && y) && true) ≡ true
      with_both true true p q = refl
      with_both true false p q = cc
      with_both false y p q = cc

      of_max : (x y : ℕ) → (nat_lt x place || nat_le end x) ≡ true → (nat_lt y place || nat_le end y) ≡ true → (nat_lt (max x y) place || nat_le end (max x y)) ≡ true
      of_max x y p q =
          elim (cases_lt x y) [
            | inl less ↦ let is : y ≡ max x y = omega (arith, less) in ap (λ n. nat_lt n place || nat_le end n) (sym is) ∙ q
            | inr le ↦ let is : x ≡ max x y = omega (arith, le) in ap (λ n. nat_lt n place || nat_le end n) (sym is) ∙ p
          ]

  pub step_is : DoRise units → (place end : ℕ) (passage : Passage) → place ≤ end → all_rise (states_at passage) ≡ true → list_all (is_told units) (hits_at passage) ≡ true
      → list_all (ends_at place end) (hits_at passage) ≡ true → behind (position_in units end) (before units place passage) ≡ before units (suc end) passage
  unfolding behind before operator_at states_at phrase_hits_of hulls_of
  step_is rise place end (lists_at states start) h rises told next =
      (λ i. lists_at (lists_step place end states h rises i) (lists_start place end (latest_before place (hits_of states)) states rises told i))
      ∙ ap (λ one. lists_at (map (list_before (suc end)) states) (at units one)) (latest_on place (suc end) (hits_of states) (omega (arith, h)))
  step_is rise place end (either_at left right) h rises told next =
      let up = and_parts (all_rise (states_at left)) (all_rise (states_at right)) (sym (list_all-append (λ (s : PhraseState). is_rising s.hits) (states_at left) (states_at right)) ∙ rises) in
      let each = and_parts (list_all (is_told units) (hits_at left)) (list_all (is_told units) (hits_at right)) (sym (list_all-append (is_told units) (hits_at left) (hits_at right)) ∙ told) in
      let ends = and_parts (list_all (ends_at place end) (hits_at left)) (list_all (ends_at place end) (hits_at right)) (sym (list_all-append (ends_at place end) (hits_at left) (hits_at right)) ∙ next) in
      λ i. either_at (step_is rise place end left h up.0 each.0 ends.0 i) (step_is rise place end right h up.1 each.1 ends.1 i)
  step_is rise place end (both_at left right) h rises told next =
      let up = and_parts (all_rise (states_at left)) (all_rise (states_at right)) (sym (list_all-append (λ (s : PhraseState). is_rising s.hits) (states_at left) (states_at right)) ∙ rises) in
      let each = and_parts (list_all (is_told units) (hits_at left)) (list_all (is_told units) (hits_at right)) (sym (list_all-append (is_told units) (hits_at left) (hits_at right)) ∙ told) in
      let ends = and_parts (list_all (ends_at place end) (hits_at left)) (list_all (ends_at place end) (hits_at right)) (sym (list_all-append (ends_at place end) (hits_at left) (hits_at right)) ∙ next) in
      λ i. both_at (step_is rise place end left h up.0 each.0 ends.0 i) (step_is rise place end right h up.1 each.1 ends.1 i)
  step_is rise place end (within_at operand field start) h rises told next =
      let inside = step_is rise place end operand h rises told next in
      let hulls = hulls_of (operator_at operand) in
      let kept = latest_before place (filter (fits_field (filter_of field)) hulls) in
      let hulls_next = hulls_all (λ hit. is_told units hit && ends_at place end hit) (next_joins rise place end) (operator_at operand)
      (all_both (is_told units) (ends_at place end) (λ hit. is_told units hit && ends_at place end hit) (hits_at operand) (λ hit a b. and_from (is_told units hit) (ends_at place end hit) a b) told next) in
      (λ i. within_at (inside i) field (later (at units kept) (start_within field (position_in units end) (start_at (inside i)))))
      ∙ ap (λ one. within_at (before units (suc end) operand) field (later (at units kept) one))
      (ap (start_within field (position_in units end)) (tells_before (suc end) operand) ∙ start_within_at units field end (latest_before (suc end) hulls))
      ∙ ap (within_at (before units (suc end) operand) field)
      (later_at units kept (keep (room_in units field end) (latest_before (suc end) hulls))
      ∙ ap (at units) (latest_within (number_of units (unit_of field)) (number_rises units rise (unit_of field)) (size_of field) (is_told units) (fits_field (filter_of field))
      (λ hit e. fits_told units hit e field) place end hulls h hulls_next))
