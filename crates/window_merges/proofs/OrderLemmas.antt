-- Words in order: the first hit that doesn't stand before the last one serves best.
use Rattle.std.proofs.Common.{◌≡◌, refl, sym, ap, ◌∙◌, ℕ, suc, ◌+◌, ◌<◌, ◌≤◌, Bool, true, false, ◌&&◌, eqb, List, [], ◌∷◌, map, length, get_or, set, drop, arith, inl, inr}
use Rattle.std.specs.Prelude.{nat_le, nat_lt}
use Rattle.std.specs.List.{list_any, list_all}
use Rattle.std.proofs.lemmas.Bool.{and_from, and_left, and_parts, and_right, both_ways, cases_Bool, cases_lt, false_from_ne_true, le-leb, leb-true, ne_eqb}
use Rattle.std.proofs.lemmas.List.{drop_more, drop_all, get_or_read}
use Rattle.ft_base.proofs.Truth.{same_tests}
use Rattle.all_matches.proofs.ListTests.{list_any-alike, list_any-and_first}
use Rattle.place_merges.specs.steps.Searching.{Shown, Leads, SameFrom, Moved, shown_all, has}
use Rattle.place_merges.proofs.MoveLemmas.{unmoved, moved_on, moved_in}
use Rattle.window_merges.specs.Choices.{are_in_order, some_choice}
use Rattle.window_merges.specs.steps.Reaching.{SameWords}
use Rattle.window_merges.proofs.ChoiceLemmas.{from_member, member, any_weaker}
use Rattle.window_merges.proofs.ChoiceTests.{choice_same}
use Rattle.window_merges.proofs.CloseLemmas.{Told, told_from, told_there}
use Rattle.window_merges.proofs.WordLemmas.{same_after, same_later, same_set, same_words}

-- a test with a part that doesn't look at the choice
pub choice_of_and : {A : Type 0} (b : Bool) (test : List A → Bool) (lists : List (List A)) → some_choice (λ chosen. b && test chosen) lists ≡ (b && some_choice test lists)
choice_of_and b test [] = refl
choice_of_and b test (xs ∷ lists) =
    list_any-alike (λ x. some_choice (λ chosen. b && test (x ∷ chosen)) lists) (λ x. b && some_choice (λ chosen. test (x ∷ chosen)) lists) xs
    (λ x. choice_of_and b (λ chosen. test (x ∷ chosen)) lists)
    ∙ list_any-and_first b (λ x. some_choice (λ chosen. test (x ∷ chosen)) lists) xs

-- places after one are after each before it
pub later_all : (place first : ℕ) (chosen : List ℕ) → place ≤ first → list_all (nat_le first) chosen ≡ true → list_all (nat_le place) chosen ≡ true
later_all place first [] h e = refl
later_all place first (p ∷ chosen) h e =
    let parts = and_parts (nat_le first p) (list_all (nat_le first) chosen) e in
    let from = leb-true first p parts.0 in
    and_from (nat_le place p) (list_all (nat_le place) chosen) (le-leb place p (omega (arith, h, from))) (later_all place first chosen h parts.1)

module _ {A : Type 0} (places : A → List ℕ) where
  -- whether places that rise from one on can be chosen
  abbrev pub rising : ℕ → List A → Bool
  rising place [] = true
  rising place (x ∷ words) = list_any (λ p. nat_le place p && rising p words) (places x)

  -- the places that rise from one that isn't later
  sooner : (words : List A) (place later : ℕ) → place ≤ later → rising later words ≡ true → rising place words ≡ true
  sooner [] place later h e = refl
  sooner (x ∷ words) place later h e = any_weaker (λ p. nat_le later p && rising p words) (λ p. nat_le place p && rising p words) (places x) weaker e
    where
      weaker : (p : ℕ) → (nat_le later p && rising p words) ≡ true → (nat_le place p && rising p words) ≡ true
      weaker p b =
          let parts = and_parts (nat_le later p) (rising p words) b in
          let from = leb-true later p parts.0 in
          and_from (nat_le place p) (rising p words) (le-leb place p (omega (arith, h, from))) parts.1

  pub first_serves : (x : A) (words : List A) (place first : ℕ) → place ≤ first → has (places x) first ≡ true
      → ((p : ℕ) → place ≤ p → p < first → has (places x) p ≡ true → ⊥) → rising place (x ∷ words) ≡ rising first words
  first_serves x words place first h there none = same_tests (rising place (x ∷ words)) (rising first words) to back
    where
      to : rising place (x ∷ words) ≡ true → rising first words ≡ true
      to e =
          let found = member (λ p. nat_le place p && rising p words) (places x) e in
          let parts = and_parts (nat_le place found.place) (rising found.place words) found.passes in
          let from = leb-true place found.place parts.0 in
          sooner words first found.place (not_before found.place from found.in_list) parts.1
        where
          not_before : (p : ℕ) → place ≤ p → has (places x) p ≡ true → first ≤ p
          not_before p from in_list = elim (cases_lt p first) [
            | inl less ↦ absurd (none p from less in_list)
            | inr le ↦ le
          ]

      back : rising first words ≡ true → rising place (x ∷ words) ≡ true
      back e = from_member (λ p. nat_le place p && rising p words) (places x) first there (and_from (nat_le place first) (rising first words) (le-leb place first h) e)

  pub none_serves : (x : A) (words : List A) (place : ℕ) → ((p : ℕ) → place ≤ p → has (places x) p ≡ true → ⊥) → rising place (x ∷ words) ≡ false
  none_serves x words place none = false_from_ne_true (rising place (x ∷ words)) (λ e. no e)
    where
      no : rising place (x ∷ words) ≡ true → ⊥
      no e =
          let found = member (λ p. nat_le place p && rising p words) (places x) e in
          let parts = and_parts (nat_le place found.place) (rising found.place words) found.passes in
          none found.place (leb-true place found.place parts.0) found.in_list

  -- ---- choices in order are those that rise

  abbrev from_on : ℕ → List ℕ → Bool
  from_on place chosen = list_all (nat_le place) chosen && are_in_order chosen

  one_more : (place first : ℕ) (chosen : List ℕ) → from_on place (first ∷ chosen) ≡ (nat_le place first && from_on first chosen)
  one_more place first chosen = elim (cases_Bool (nat_le place first)) [
    | inl order ↦ ap (λ b. (b && list_all (nat_le place) chosen) && from_on first chosen) order ∙ after (leb-true place first order) ∙ ap (λ b. b && from_on first chosen) (sym order)
    | inr none ↦ ap (λ b. (b && list_all (nat_le place) chosen) && from_on first chosen) none ∙ ap (λ b. b && from_on first chosen) (sym none)
  ]
    where
      after : place ≤ first → (list_all (nat_le place) chosen && from_on first chosen) ≡ from_on first chosen
      after h = elim (cases_Bool (list_all (nat_le first) chosen)) [
        | inl all ↦ ap (λ b. b && from_on first chosen) (later_all place first chosen h all)
        | inr not_all ↦
            let never : from_on first chosen ≡ false = and_left (list_all (nat_le first) chosen) (are_in_order chosen) not_all in
            and_right (list_all (nat_le place) chosen) (from_on first chosen) never ∙ sym never
      ]

  rising_choices : (place : ℕ) (words : List A) → some_choice (from_on place) (map places words) ≡ rising place words
  rising_choices place [] = refl
  rising_choices place (x ∷ words) =
      list_any-alike (λ p. some_choice (λ chosen. from_on place (p ∷ chosen)) (map places words)) (λ p. nat_le place p && rising p words) (places x)
      (λ p. choice_same (λ chosen. from_on place (p ∷ chosen)) (λ chosen. nat_le place p && from_on p chosen) (map places words) (one_more place p)
      ∙ choice_of_and (nat_le place p) (from_on p) (map places words)
      ∙ ap (λ b. nat_le place p && b) (rising_choices p words))

  pub in_order_rises : (from : ℕ) (words : List A) → ((x : A) (p : ℕ) → has (places x) p ≡ true → from ≤ p) → some_choice are_in_order (map places words) ≡ rising from words
  in_order_rises from [] all = refl
  in_order_rises from (x ∷ words) all =
      list_any-alike (λ p. some_choice (λ chosen. are_in_order (p ∷ chosen)) (map places words)) (λ p. rising p words) (places x) (λ p. rising_choices p words)
      ∙ same_tests (list_any (λ p. rising p words) (places x)) (rising from (x ∷ words)) to back
    where
      to : list_any (λ p. rising p words) (places x) ≡ true → rising from (x ∷ words) ≡ true
      to e =
          let found = member (λ p. rising p words) (places x) e in
          from_member (λ p. nat_le from p && rising p words) (places x) found.place found.in_list
          (and_from (nat_le from found.place) (rising found.place words) (le-leb from found.place (all x found.place found.in_list)) found.passes)

      back : rising from (x ∷ words) ≡ true → list_any (λ p. rising p words) (places x) ≡ true
      back e = any_weaker (λ p. nat_le from p && rising p words) (λ p. rising p words) (places x) (λ p b. (and_parts (nat_le from p) (rising p words) b).1) e

-- ---- word after word

-- the words before the number have hits that rise up to the place, and whether all can rise is whether the others can from there on
pub record Rising {A L : Type 0} (passes : A → ℕ → Bool) (places : A → List ℕ) (shown : A → Shown L) (old now : List A) (first last place number start end : ℕ) : Type 0 where
  pub same : SameWords passes place now old
  pub from : first ≤ place
  pub below : place < last
  pub left : rising places first old ≡ rising places place (drop number old)
  pub moved : Moved (shown_all shown old) (shown_all shown now) start end

module _ {A L : Type 0} (passes : A → ℕ → Bool) (places : A → List ℕ) (shown : A → Shown L) (from to : ℕ)
    (known : (word : A) (place : ℕ) → has (places word) place ≡ ((nat_le from place && nat_lt place to) && passes word place)) where
  pub rising_starts : (words : List A) (steps : ℕ) → from < to → Rising passes places shown words words from to from 0 steps steps
  rising_starts words steps h = record {
    same = same_words passes words from;
    from = omega arith;
    below = h;
    left = refl;
    moved = unmoved (shown_all shown words) steps;
  }

  all_from : (word : A) (place : ℕ) → has (places word) place ≡ true → from ≤ place
  all_from word place h = let t : Told passes from to word place = told_there passes places from to known word place h in t.from

  pub in_order_is : (words : List A) → some_choice are_in_order (map places words) ≡ rising places from words
  in_order_is words = in_order_rises places from words all_from

  module _ (old now : List A) (place number start middle end : ℕ) (so_far : Rising passes places shown old now from to place number start middle)
      (x y : A) (within : number < length now) (read : x ≡ get_or now number x) (first : ℕ) (leads : Leads (passes x) place to first)
      (same : SameFrom place (passes y) (passes x)) (moved : Moved (shown x) (shown y) middle end) where
    pub rising_moved : Moved (shown_all shown old) (shown_all shown (set now number y)) start end
    rising_moved = moved_on (shown_all shown old) (shown_all shown now) (shown_all shown (set now number y)) start middle end so_far.moved (moved_in shown now number x y middle end within read moved)

    abbrev word : A
    word = get_or old number x

    was : (p : ℕ) → place ≤ p → passes x p ≡ passes word p
    was p le =
        ap (λ a. passes a p) (get_or_read now number x within read x)
        ∙ (so_far.same.same number x (omega (arith, within, so_far.same.long))).same p le

    here : rising places from old ≡ rising places place (word ∷ drop (number + 1) old)
    here = so_far.left ∙ ap (rising places place) (drop_more old number x (omega (arith, within, so_far.same.long)))

    none : (p : ℕ) → place ≤ p → p < first → has (places word) p ≡ true → ⊥
    none p le less h =
        let t : Told passes from to word p = told_there passes places from to known word p h in
        both_ways (passes word p) (sym (was p le) ∙ leads.none p le less) t.there

    pub rising_goes_on : (first < to → passes x first ≡ true) → first < to → Rising passes places shown old (set now number y) from to first (number + 1) start end
    rising_goes_on there less =
        let from_place = leads.from in
        let from_first = so_far.from in
        record {
          same = same_later passes (set now number y) old place first from_place
              (same_after passes old now (set now number y) place so_far.same (same_set passes now number place x y within read same));
          from = omega (arith, from_place, from_first);
          below = less;
          left = here ∙ first_serves places word (drop (number + 1) old) place first from_place
              (told_from passes places from to known word first (omega (arith, from_place, from_first)) less (sym (was first from_place) ∙ there less)) none;
          moved = rising_moved;
        }

    pub rising_fails : to ≤ first → some_choice are_in_order (map places old) ≡ false
    rising_fails h = in_order_is old ∙ here ∙ none_serves places word (drop (number + 1) old) place no
      where
        no : (p : ℕ) → place ≤ p → has (places word) p ≡ true → ⊥
        no p le e =
            let t : Told passes from to word p = told_there passes places from to known word p e in
            none p le (omega (arith, h, t.to)) e

  pub rising_ends : (old now : List A) (place number start end : ℕ) → Rising passes places shown old now from to place number start end → length now ≤ number
      → some_choice are_in_order (map places old) ≡ true
  rising_ends old now place number start end so_far h =
      in_order_is old ∙ so_far.left ∙ ap (rising places place) (drop_all number old (omega (arith, h, so_far.same.long)))

  -- a span without places
  pub nowhere_in_order : (words : List A) → to ≤ from → some_choice are_in_order (map places words) ≡ eqb (length words) 0
  nowhere_in_order [] h = refl
  nowhere_in_order (x ∷ words) h = in_order_is (x ∷ words) ∙ none_serves places x words from no ∙ sym (ne_eqb (suc (length words)) 0 (λ e. absurd (omega (arith, e))))
    where
      no : (p : ℕ) → from ≤ p → has (places x) p ≡ true → ⊥
      no p le e = let t : Told passes from to x p = told_there passes places from to known x p e in absurd (omega (arith, h, t.from, t.to))
