-- Words that stand together: the hits that a search reaches, and the choices that are left as the places that count become fewer.
use Rattle.std.proofs.Common.{◌≡◌, refl, sym, ap, subst, ◌∙◌, ℕ, suc, ◌+◌, ◌<◌, ◌≤◌, min, max, Bool, true, false, ◌&&◌, eqb, List, [], ◌∷◌, map, length, get_or, set, arith, inl, inr}
use Rattle.std.specs.Prelude.{nat_le, nat_lt}
use Rattle.std.proofs.lemmas.Bool.{and_from, and_parts, both_ways, cases_eq, cases_lt, eqb-true, false_from_ne_true, le-leb, lt-ltb, leb-true, ltb-true, or_cases}
use Rattle.std.proofs.lemmas.List.{get_or_read}
use Rattle.place_merges.specs.steps.Searching.{Shown, Leads, SameFrom, Moved, shown_all, has}
use Rattle.place_merges.proofs.MoveLemmas.{unmoved, moved_on, moved_in}
use Rattle.window_merges.specs.Choices.{some_choice}
use Rattle.window_merges.specs.steps.Reaching.{Between, Lacks, Reaches, SameWords}
use Rattle.window_merges.proofs.ChoiceLemmas.{Chosen, all_between, choice, chosen_at, from_choice, is_chosen}
use Rattle.window_merges.proofs.WordLemmas.{same_after, same_later, same_set, same_words}

-- ---- one search through all words

-- the words before the number have a hit from the nearest to the farthest, and where this is farther than the place, one of them has none
-- before it
pub record Reaching {A L : Type 0} (passes : A → ℕ → Bool) (shown : A → Shown L) (old now : List A) (place limit near far number start end : ℕ) : Type 0 where
  pub same : SameWords passes place now old
  pub from : place ≤ far
  pub below : far < limit
  pub begins : place ≤ near
  pub each : (i : ℕ) (other : A) → i < number → Between (passes (get_or old i other)) near far
  pub lacks : place < far → Lacks passes place far old number
  pub moved : Moved (shown_all shown old) (shown_all shown now) start end

module _ {A L : Type 0} (passes : A → ℕ → Bool) (shown : A → Shown L) where
  module _ (old now : List A) (place limit near far number start middle end : ℕ) (so_far : Reaching passes shown old now place limit near far number start middle)
      (x y : A) (within : number < length now) (read : x ≡ get_or now number x) (first : ℕ) (leads : Leads (passes x) place limit first)
      (same : SameFrom place (passes y) (passes x)) (moved : Moved (shown x) (shown y) middle end) where
    pub reached_same : SameWords passes place (set now number y) old
    reached_same = same_after passes old now (set now number y) place so_far.same (same_set passes now number place x y within read same)

    pub reached_moved : Moved (shown_all shown old) (shown_all shown (set now number y)) start end
    reached_moved = moved_on (shown_all shown old) (shown_all shown now) (shown_all shown (set now number y)) start middle end so_far.moved (moved_in shown now number x y middle end within read moved)

    -- the word as it was
    was : (other : A) (p : ℕ) → place ≤ p → passes x p ≡ passes (get_or old number other) p
    was other p le =
        ap (λ a. passes a p) (get_or_read now number x within read other)
        ∙ (so_far.same.same number other (omega (arith, within, so_far.same.long))).same p le

    lacks_word : Lacks passes place first old (number + 1)
    lacks_word = record { number = number; within = omega arith; none = λ other p le less. sym (was other p le) ∙ leads.none p le less }

    pub reaching_goes_on : (first < limit → passes x first ≡ true) → first < limit → (nearer farther : ℕ) → nearer ≡ min near first → farther ≡ max far first
        → Reaching passes shown old (set now number y) place limit nearer farther (number + 1) start end
    reaching_goes_on there less nearer farther n e =
        let below = so_far.below in
        let from = so_far.from in
        let begins = so_far.begins in
        let leads_from = leads.from in
        record {
          same = reached_same;
          from = omega (arith, e, from);
          below = omega (arith, e, below, less);
          begins = omega (arith, n, begins, leads_from);
          each = each;
          lacks = lacks;
          moved = reached_moved;
        }
      where
        each : (i : ℕ) (other : A) → i < number + 1 → Between (passes (get_or old i other)) nearer farther
        each i other inside = elim (cases_eq i number) [
          | inl here ↦ record {
            place = first;
            from = omega (arith, n);
            to = omega (arith, e);
            there = ap (λ n. passes (get_or old n other) first) here ∙ sym (was other first leads.from) ∙ there less;
          }
          | inr ne ↦
              let b = so_far.each i other (omega (arith, inside, ne)) in
              record { place = b.place; from = omega (arith, n, b.from); to = omega (arith, e, b.to); there = b.there }
        ]

        lacks : place < farther → Lacks passes place farther old (number + 1)
        lacks h = elim (cases_lt far first) [
          | inl beyond ↦ let is : first ≡ farther = omega (arith, e, beyond) in subst (λ f. Lacks passes place f old (number + 1)) is lacks_word
          | inr not_beyond ↦
              let is : far ≡ farther = omega (arith, e, not_beyond) in
              let l = so_far.lacks (omega (arith, is, h)) in
              subst (λ f. Lacks passes place f old (number + 1)) is (record { number = l.number; within = omega (arith, l.within); none = l.none })
        ]

    pub reaching_fails : place < limit → limit ≤ first → Reaches passes old place limit limit limit
    reaching_fails order h =
        let to = leads.to in
        let is : first ≡ limit = omega (arith, to, h) in
        record {
          from = omega (arith, order);
          to = omega arith;
          begins = omega (arith, order);
          each = λ less number other inside. absurd (omega (arith, less));
          lacks = λ less.
              let l = subst (λ f. Lacks passes place f old (number + 1)) is lacks_word in
              record { number = l.number; within = omega (arith, l.within, within, so_far.same.long); none = l.none };
        }

-- the nearest of the first hits is not after the farthest
pub reaches_order : {A : Type 0} (passes : A → ℕ → Bool) (words : List A) (place limit near far : ℕ) → 0 < length words → Reaches passes words place limit near far → far < limit → near ≤ far
reaches_order passes [] place limit near far some reaches below = absurd (omega (arith, some))
reaches_order passes (x ∷ words) place limit near far some reaches below = let first = reaches.each below 0 x (omega arith) in omega (arith, first.from, first.to)

-- ---- the places that count

-- a place of a span at which a word passes
pub record Told {A : Type 0} (passes : A → ℕ → Bool) (first last : ℕ) (word : A) (place : ℕ) : Type 0 where
  pub from : first ≤ place
  pub to : place < last
  pub there : passes word place ≡ true

-- a choice of places between two others
pub record Gathered {A : Type 0} (places : A → List ℕ) (words : List A) (low high : ℕ) : Type 0 where
  pub chosen : List ℕ
  pub each : is_chosen places words chosen ≡ true
  pub within : all_between low high chosen ≡ true
  pub long : length chosen ≡ length words

-- all places of a choice that passes are at or after a place
pub record Ahead {A : Type 0} (places : A → List ℕ) (good : List ℕ → Bool) (low : ℕ) (words : List A) : Type 0 where
  pub ahead : (chosen : List ℕ) → is_chosen places words chosen ≡ true → good chosen ≡ true → (place : ℕ) → has chosen place ≡ true → low ≤ place

-- a chosen place that is as far as another one
pub record Beyond (chosen : List ℕ) (far last : ℕ) : Type 0 where
  pub place : ℕ
  pub in_choice : has chosen place ≡ true
  pub beyond : far ≤ place
  pub below : place < last

-- no choice that passes has a place before this one
pub record Narrowing {A L : Type 0} (passes : A → ℕ → Bool) (places : A → List ℕ) (shown : A → Shown L) (old now : List A) (good : List ℕ → Bool) (first low start end : ℕ) : Type 0 where
  pub some : 0 < length old
  pub from : first ≤ low
  pub same : SameWords passes low now old
  pub ahead : Ahead places good low old
  pub moved : Moved (shown_all shown old) (shown_all shown now) start end

module _ {A : Type 0} (passes : A → ℕ → Bool) (places : A → List ℕ) (from to : ℕ)
    (known : (word : A) (place : ℕ) → has (places word) place ≡ ((nat_le from place && nat_lt place to) && passes word place)) where
  pub told_there : (word : A) (place : ℕ) → has (places word) place ≡ true → Told passes from to word place
  told_there word place h =
      let parts = and_parts (nat_le from place && nat_lt place to) (passes word place) (sym (known word place) ∙ h) in
      let bounds = and_parts (nat_le from place) (nat_lt place to) parts.0 in
      record { from = leb-true from place bounds.0; to = ltb-true place to bounds.1; there = parts.1 }

  pub told_from : (word : A) (place : ℕ) → from ≤ place → place < to → passes word place ≡ true → has (places word) place ≡ true
  told_from word place a b h =
      known word place ∙ and_from (nat_le from place && nat_lt place to) (passes word place) (and_from (nat_le from place) (nat_lt place to) (le-leb from place a) (lt-ltb place to b)) h

  -- ---- a choice where each word has a hit near enough

  pub gather : (words : List A) (low high : ℕ) → from ≤ low → high < to → ((number : ℕ) (other : A) → number < length words → Between (passes (get_or words number other)) low high) → Gathered places words low high
  gather [] low high a b near = record { chosen = []; each = refl; within = refl; long = refl }
  gather (x ∷ words) low high a b near =
      let here : Between (passes x) low high = near 0 x (omega arith) in
      let rest = gather words low high a b (λ number other h. near (suc number) other (omega (arith, h))) in
      record {
        chosen = here.place ∷ rest.chosen;
        each = and_from (has (places x) here.place) (is_chosen places words rest.chosen) (told_from x here.place (omega (arith, a, here.from)) (omega (arith, b, here.to)) here.there) rest.each;
        within = and_from (nat_le low here.place && nat_le here.place high) (all_between low high rest.chosen)
            (and_from (nat_le low here.place) (nat_le here.place high) (le-leb low here.place here.from) (le-leb here.place high here.to)) rest.within;
        long = ap suc rest.long;
      }

  module _ (good : List ℕ → Bool) where
    choice_found : (words now : List A) (low near far : ℕ) → 0 < length words → from ≤ low → SameWords passes low now words → Reaches passes now low to near far → far < to
        → ((chosen : List ℕ) → 0 < length chosen → all_between near far chosen ≡ true → good chosen ≡ true) → some_choice good (map places words) ≡ true
    choice_found words now low near far some order same reaches below enough =
        let g = gather words near far (omega (arith, order, reaches.begins)) below old_each in
        from_choice places good words g.chosen g.each (enough g.chosen (omega (arith, some, g.long)) g.within)
      where
        old_each : (number : ℕ) (other : A) → number < length words → Between (passes (get_or words number other)) near far
        old_each number other h =
            let b = reaches.each below number other (omega (arith, h, same.long)) in
            record { place = b.place; from = b.from; to = b.to; there = sym ((same.same number other h).same b.place (omega (arith, reaches.begins, b.from))) ∙ b.there }

    -- where a word lacks a hit up to a place, the place that is chosen for it is not before that
    module _ (words now : List A) (low : ℕ) (ahead : Ahead places good low words) (same : SameWords passes low now words) (chosen : List ℕ) (each : is_chosen places words chosen ≡ true)
        (passed : good chosen ≡ true) where
      beyond_lack : (far : ℕ) → Lacks passes low far now (length now) → Beyond chosen far to
      beyond_lack far lacks =
          let inside : lacks.number < length words = omega (arith, lacks.within, same.long) in
          let at = chosen_at places words chosen lacks.number each inside in
          let there = told_there at.element at.place at.in_list in
          let past = ahead.ahead chosen each passed at.place at.in_choice in
          record {
            place = at.place;
            in_choice = at.in_choice;
            beyond = elim (cases_lt at.place far) [
              | inl less ↦
                  let none = lacks.none at.element at.place past less in
                  let was = (same.same lacks.number at.element inside).same at.place past in
                  let is : passes (get_or words lacks.number at.element) at.place ≡ true = ap (λ a. passes a at.place) (at.is at.element) ∙ there.there in
                  absurd (both_ways (passes (get_or now lacks.number at.element) at.place) none (was ∙ is))
              | inr le ↦ le
            ];
            below = there.to;
          }

    choice_fails : (words now : List A) (low near far : ℕ) → low < to → to ≤ far → Ahead places good low words → SameWords passes low now words → Reaches passes now low to near far
        → some_choice good (map places words) ≡ false
    choice_fails words now low near far order h ahead same reaches =
        false_from_ne_true (some_choice good (map places words)) (λ e. none (choice places good words e))
      where
        none : Chosen places good words → ⊥
        none c =
            let b = beyond_lack words now low ahead same c.chosen c.each c.passes far (reaches.lacks (omega (arith, order, h))) in
            let far_place = b.beyond in
            let below = b.below in
            absurd (omega (arith, far_place, below, h))

    choice_ends : (words : List A) (low : ℕ) → 0 < length words → to ≤ low → Ahead places good low words → some_choice good (map places words) ≡ false
    choice_ends words low some h ahead = false_from_ne_true (some_choice good (map places words)) (λ e. none (choice places good words e))
      where
        none : Chosen places good words → ⊥
        none c =
            let at = chosen_at places words c.chosen 0 c.each some in
            let there = told_there at.element at.place at.in_list in
            let past = ahead.ahead c.chosen c.each c.passes at.place at.in_choice in
            let below = there.to in
            absurd (omega (arith, past, below, h))

    -- a choice that passes has a place as far as the farthest hit, and so none before what that one allows
    ahead_goes_on : (words now : List A) (low near far next : ℕ) → Ahead places good low words → SameWords passes low now words → Reaches passes now low to near far
        → ((chosen : List ℕ) → good chosen ≡ true → (p q : ℕ) → has chosen p ≡ true → has chosen q ≡ true → far ≤ q → next ≤ p) → Ahead places good next words
    ahead_goes_on words now low near far next ahead same reaches rule = record { ahead = later }
      where
        later : (chosen : List ℕ) → is_chosen places words chosen ≡ true → good chosen ≡ true → (place : ℕ) → has chosen place ≡ true → next ≤ place
        later chosen each passed place e = elim (cases_lt low far) [
          | inl less ↦
              let b = beyond_lack words now low ahead same chosen each passed far (reaches.lacks less) in
              rule chosen passed place b.place e b.in_choice b.beyond
          | inr le ↦ let past = ahead.ahead chosen each passed place e in rule chosen passed place place e e (omega (arith, le, past))
        ]

    ahead_starts : (words : List A) → Ahead places good from words
    ahead_starts words = record { ahead = λ chosen each passed place e. in_span words chosen place each e }
      where
        in_span : (words : List A) (chosen : List ℕ) (place : ℕ) → is_chosen places words chosen ≡ true → has chosen place ≡ true → from ≤ place
        in_span words [] place each e = cc
        in_span [] (p ∷ chosen) place each e = cc
        in_span (x ∷ words) (p ∷ chosen) place each e =
            let parts = and_parts (has (places x) p) (is_chosen places words chosen) each in
            elim (or_cases (eqb p place) (has chosen place) e) [
              | inl here ↦ let same = eqb-true p place here in let there = told_there x p parts.0 in omega (arith, same, there.from)
              | inr later ↦ in_span words chosen place parts.1 later
            ]

    module _ {L : Type 0} (shown : A → Shown L) where
      pub narrowing_starts : (words : List A) (steps : ℕ) → 0 < length words → Narrowing passes places shown words words good from from steps steps
      narrowing_starts words steps some = record {
        some = some;
        from = omega arith;
        same = same_words passes words from;
        ahead = ahead_starts words;
        moved = unmoved (shown_all shown words) steps;
      }

      module _ (old now after : List A) (low start middle end : ℕ) (so_far : Narrowing passes places shown old now good from low start middle) (near far : ℕ)
          (reaches : Reaches passes now low to near far) (same : SameWords passes low after now) (moved : Moved (shown_all shown now) (shown_all shown after) middle end) where
        narrowing_moved : Moved (shown_all shown old) (shown_all shown after) start end
        narrowing_moved = moved_on (shown_all shown old) (shown_all shown now) (shown_all shown after) start middle end so_far.moved moved

        pub narrowing_found : far < to → ((chosen : List ℕ) → 0 < length chosen → all_between near far chosen ≡ true → good chosen ≡ true) → some_choice good (map places old) ≡ true
        narrowing_found below enough = choice_found old now low near far so_far.some so_far.from so_far.same reaches below enough

        pub narrowing_fails : low < to → to ≤ far → some_choice good (map places old) ≡ false
        narrowing_fails order h = choice_fails old now low near far order h so_far.ahead so_far.same reaches

        pub narrowing_goes_on : (next : ℕ) → ((chosen : List ℕ) → good chosen ≡ true → (p q : ℕ) → has chosen p ≡ true → has chosen q ≡ true → far ≤ q → next ≤ p) → low ≤ next
            → Narrowing passes places shown old after good from next start end
        narrowing_goes_on next rule later = record {
          some = so_far.some;
          from = omega (arith, later, so_far.from);
          same = same_later passes after old low next later (same_after passes old now after low so_far.same same);
          ahead = ahead_goes_on old now low near far next so_far.ahead so_far.same reaches rule;
          moved = narrowing_moved;
        }

      pub narrowing_ends : (old now : List A) (low start end : ℕ) → Narrowing passes places shown old now good from low start end → to ≤ low → some_choice good (map places old) ≡ false
      narrowing_ends old now low start end so_far h = choice_ends old low so_far.some h so_far.ahead
