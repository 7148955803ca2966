-- The next end that a tree tells before a place is the first of the hits that it has left.
use Rattle.std.proofs.Common.{◌≡◌, refl, sym, ◌∙◌, ℕ, ◌<◌, ◌≤◌, Bool, true, false, cond, ◌&&◌, ◌||◌, List, [], ◌∷◌, ◌++◌, map, Option, Some, None, option_map, arith}
use Rattle.std.specs.Prelude.{nat_le, nat_lt}
use Rattle.std.specs.List.{list_all}
use Rattle.std.proofs.lemmas.Bool.{and_from, and_parts, le-leb, leb-false, leb-true, lt-ltb, or_left, or_right}
use Rattle.std.proofs.lemmas.List.Folds.{list_all-append}
use Rattle.ft_base.specs.declared.hit.Hit.{Hit}
use Rattle.ft_base.specs.declared.unit.TextUnit.TheVariants.{Words}
use Rattle.ft_operators.specs.Phrases.{PhraseState, first_hit}
use Rattle.phrase_merges.specs.Near.{Units, is_told, phrase_hits_of}
use Rattle.phrase_merges.specs.NearTrees.{Passage, lists_at, either_at, both_at, within_at}
use Rattle.phrase_merges.specs.Rows.{goes_on, is_rising}
use Rattle.phrase_merges.specs.declared.edge.Edge.TheVariants.{End}
use Rattle.phrase_merges.specs.declared.position.Position.{Position}
use Rattle.phrase_merges.specs.steps.Ahead.{from_on}
use Rattle.phrase_merges.specs.steps.Passing.{before, end_of, list_before, next_at, next_of_lists, operator_at, position_in, soonest, states_at}
use Rattle.phrase_merges.proofs.AheadLemmas.{goes_at}
use Rattle.phrase_merges.proofs.BeforeLemmas.{all_rise, ends_at, hits_at, hits_of}
use Rattle.phrase_merges.proofs.ChoiceLemmas.{all_with}
use Rattle.phrase_merges.proofs.ToldLemmas.{end_told}

-- the first end of some hits from a place on; where there is none, all end before the place
pub record IsNext (units : Units) (place : ℕ) (end : Position) (hits : List Hit) : Type 0 where
  pub from : place ≤ end.word
  pub told : end ≡ position_in units end.word
  pub ends : list_all (ends_at place end.word) hits ≡ true

abbrev pub AreAhead : Units → ℕ → List Hit → Option Position → Type 0
AreAhead units place hits None = list_all (λ hit. nat_lt hit.to place) hits ≡ true
AreAhead units place hits (Some end) = IsNext units place end hits

module _ (units : Units) (place : ℕ) where
  all_passed : (end : ℕ) (hits : List Hit) → list_all (λ hit. nat_lt hit.to place) hits ≡ true → list_all (ends_at place end) hits ≡ true
  all_passed end hits h = all_with (λ hit. nat_lt hit.to place) (ends_at place end) hits (λ hit e. or_left (nat_lt hit.to place) (nat_le end hit.to) e) h

  sooner_end : (end later : ℕ) → end ≤ later → (hits : List Hit) → list_all (ends_at place later) hits ≡ true → list_all (ends_at place end) hits ≡ true
  sooner_end end later h hits e = all_with (ends_at place later) (ends_at place end) hits (λ hit k. one hit.to k) e
    where
      one : (to : ℕ) → (nat_lt to place || nat_le later to) ≡ true → (nat_lt to place || nat_le end to) ≡ true
      one to k = by (nat_lt to place) k
        where
          by : (passed : Bool) → (passed || nat_le later to) ≡ true → (passed || nat_le end to) ≡ true
          by true p = refl
          by false p = let from = leb-true later to p in le-leb end to (omega (arith, h, from))

  -- of two lists of hits
  both_ahead : (xs ys : List Hit) (a b : Option Position) → AreAhead units place xs a → AreAhead units place ys b → AreAhead units place (xs ++ ys) (soonest a b)
  both_ahead xs ys None None h k = list_all-append (λ hit. nat_lt hit.to place) xs ys ∙ (λ i. h i && k i)
  both_ahead xs ys None (Some b) h k = record {
    from = k.from;
    told = k.told;
    ends = list_all-append (ends_at place b.word) xs ys ∙ (λ i. all_passed b.word xs h i && k.ends i);
  }
  both_ahead xs ys (Some a) None h k = record {
    from = h.from;
    told = h.told;
    ends = list_all-append (ends_at place a.word) xs ys ∙ (λ i. h.ends i && all_passed a.word ys k i);
  }
  both_ahead xs ys (Some a) (Some b) h k = by (nat_le a.word b.word) refl
    where
      by : (first : Bool) → nat_le a.word b.word ≡ first → AreAhead units place (xs ++ ys) (cond first (Some a) (Some b))
      by true e =
          let order = leb-true a.word b.word e in
          record {
            from = h.from;
            told = h.told;
            ends = list_all-append (ends_at place a.word) xs ys ∙ (λ i. h.ends i && sooner_end a.word b.word order ys k.ends i);
          }
      by false e =
          let order = leb-false a.word b.word e in
          record {
            from = k.from;
            told = k.told;
            ends = list_all-append (ends_at place b.word) xs ys ∙ (λ i. sooner_end b.word a.word (omega (arith, order)) xs h.ends i && k.ends i);
          }

  -- one more hit, which ends before the place
  one_passed : (hit : Hit) (hits : List Hit) (next : Option Position) → hit.to < place → AreAhead units place hits next → AreAhead units place (hit ∷ hits) next
  one_passed hit hits None less h = and_from (nat_lt hit.to place) (list_all (λ other. nat_lt other.to place) hits) (lt-ltb hit.to place less) h
  one_passed hit hits (Some end) less h = record {
    from = h.from;
    told = h.told;
    ends = and_from (ends_at place end.word hit) (list_all (ends_at place end.word) hits) (or_left (nat_lt hit.to place) (nat_le end.word hit.to) (lt-ltb hit.to place less)) h.ends;
  }

  -- of a list that rises
  list_ahead : (hits : List Hit) → is_rising hits ≡ true → list_all (is_told units) hits ≡ true → AreAhead units place hits (option_map end_of (first_hit (from_on End Words place hits)))
  list_ahead [] h told = refl
  list_ahead (hit ∷ hits) h told = by (list_ahead hits rises.1 each.1) (nat_le place hit.to) refl
    where
      rises : (list_all (goes_on hit) hits ≡ true) × (is_rising hits ≡ true)
      rises = and_parts (list_all (goes_on hit) hits) (is_rising hits) h

      each : (is_told units hit ≡ true) × (list_all (is_told units) hits ≡ true)
      each = and_parts (is_told units hit) (list_all (is_told units) hits) told

      by : AreAhead units place hits (option_map end_of (first_hit (from_on End Words place hits))) → (left : Bool) → nat_le place hit.to ≡ left
          → AreAhead units place (hit ∷ hits) (option_map end_of (first_hit (cond left (hit ∷ from_on End Words place hits) (from_on End Words place hits))))
      by rest true e = record {
        from = leb-true place hit.to e;
        told = end_told units hit each.0;
        ends =
            and_from (ends_at place hit.to hit) (list_all (ends_at place hit.to) hits) (or_right (nat_lt hit.to place) (nat_le hit.to hit.to) (le-leb hit.to hit.to (omega arith)))
            (all_with (goes_on hit) (ends_at place hit.to) hits
            (λ other on. or_right (nat_lt other.to place) (nat_le hit.to other.to) (le-leb hit.to other.to (goes_at End Words hit other on))) rises.0);
      }
      by rest false e = one_passed hit hits (option_map end_of (first_hit (from_on End Words place hits))) (leb-false place hit.to e) rest

  lists_ahead : (states : List PhraseState) → all_rise states ≡ true → list_all (is_told units) (hits_of states) ≡ true
      → AreAhead units place (hits_of states) (next_of_lists (map (list_before place) states))
  lists_ahead [] rises told = refl
  lists_ahead (s ∷ states) rises told =
      let up = and_parts (is_rising s.hits) (all_rise states) rises in
      let each = and_parts (list_all (is_told units) s.hits) (list_all (is_told units) (hits_of states)) (sym (list_all-append (is_told units) s.hits (hits_of states)) ∙ told) in
      both_ahead s.hits (hits_of states) (option_map end_of (first_hit (from_on End Words place s.hits))) (next_of_lists (map (list_before place) states))
      (list_ahead s.hits up.0 each.0) (lists_ahead states up.1 each.1)

  sides_ahead : (left right : Passage) → AreAhead units place (hits_at left) (next_at (before units place left)) → AreAhead units place (hits_at right) (next_at (before units place right))
      → AreAhead units place (hits_at left ++ hits_at right) (soonest (next_at (before units place left)) (next_at (before units place right)))
  sides_ahead left right h k = both_ahead (hits_at left) (hits_at right) (next_at (before units place left)) (next_at (before units place right)) h k

  pub next_is : (passage : Passage) → all_rise (states_at passage) ≡ true → list_all (is_told units) (hits_at passage) ≡ true
      → AreAhead units place (hits_at passage) (next_at (before units place passage))
  unfolding next_at before operator_at states_at phrase_hits_of
  next_is (lists_at states start) rises told = lists_ahead states rises told
  next_is (either_at left right) rises told =
      let up = and_parts (all_rise (states_at left)) (all_rise (states_at right)) (sym (list_all-append (λ (s : PhraseState). is_rising s.hits) (states_at left) (states_at right)) ∙ rises) in
      let each = and_parts (list_all (is_told units) (hits_at left)) (list_all (is_told units) (hits_at right)) (sym (list_all-append (is_told units) (hits_at left) (hits_at right)) ∙ told) in
      sides_ahead left right (next_is left up.0 each.0) (next_is right up.1 each.1)
  next_is (both_at left right) rises told =
      let up = and_parts (all_rise (states_at left)) (all_rise (states_at right)) (sym (list_all-append (λ (s : PhraseState). is_rising s.hits) (states_at left) (states_at right)) ∙ rises) in
      let each = and_parts (list_all (is_told units) (hits_at left)) (list_all (is_told units) (hits_at right)) (sym (list_all-append (is_told units) (hits_at left) (hits_at right)) ∙ told) in
      sides_ahead left right (next_is left up.0 each.0) (next_is right up.1 each.1)
  next_is (within_at operand field start) rises told = next_is operand rises told
