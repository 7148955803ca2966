-- Choices of one element of each list: each is made of elements of the lists, and no choice is left out.
use Rattle.std.proofs.Common.{◌≡◌, refl, sym, ap, ◌∙◌, ℕ, zero, suc, ◌+◌, ◌-◌, ◌<◌, ◌≤◌, min, max, Bool, true, false, ◌&&◌, eqb, List, [], ◌∷◌, map, length, get_or, arith, inl, inr}
use Rattle.std.specs.Prelude.{nat_le}
use Rattle.std.specs.List.{list_any, list_all}
use Rattle.std.proofs.lemmas.Bool.{and_from, and_parts, or_left, or_right, or_cases, eqb-true, eq-eqb, lt-ltb, ltb-true, leb-true}
use Rattle.std.proofs.lemmas.List.Folds.{Any-from_list_any, list_any_at}
use Rattle.ft_base.proofs.Truth.{same_tests}
use Rattle.all_matches.specs.Join.{least, greatest}
use Rattle.place_merges.specs.steps.Searching.{has}
use Rattle.window_merges.specs.Choices.{some_choice, are_close}

-- an element of a list at which a test holds
pub record Member (test : ℕ → Bool) (places : List ℕ) : Type 0 where
  pub place : ℕ
  pub in_list : has places place ≡ true
  pub passes : test place ≡ true

pub member : (test : ℕ → Bool) (places : List ℕ) → list_any test places ≡ true → Member test places
member test places h =
    let found = Any-from_list_any test places h in
    record {
      place = found.1;
      in_list = list_any_at (λ other. eqb other found.1) places found.0 found.1 found.2 (eq-eqb (get_or places found.0 found.1) found.1 found.3);
      passes = found.4;
    }

pub from_member : (test : ℕ → Bool) (places : List ℕ) (place : ℕ) → has places place ≡ true → test place ≡ true → list_any test places ≡ true
from_member test places place h passes =
    let found = Any-from_list_any (λ other. eqb other place) places h in
    let same : found.1 ≡ place = eqb-true found.1 place found.4 in
    list_any_at test places found.0 found.1 found.2 (ap test found.3 ∙ ap test same ∙ passes)

-- a test of which another follows at each element
pub any_weaker : (p q : ℕ → Bool) (places : List ℕ) → ((place : ℕ) → p place ≡ true → q place ≡ true) → list_any p places ≡ true → list_any q places ≡ true
any_weaker p q places follows h =
    let found = member p places h in
    from_member q places found.place found.in_list (follows found.place found.passes)

any_of_same : (test : ℕ → Bool) (xs ys : List ℕ) → ((place : ℕ) → has xs place ≡ has ys place) → list_any test xs ≡ true → list_any test ys ≡ true
any_of_same test xs ys same h =
    let found = member test xs h in
    from_member test ys found.place (sym (same found.place) ∙ found.in_list) found.passes

pub same_places : (test : List ℕ → Bool) (lists others : List (List ℕ)) → length lists ≡ length others
    → ((number place : ℕ) → has (get_or lists number []) place ≡ has (get_or others number []) place)
    → some_choice test lists ≡ some_choice test others
same_places test [] [] long same = refl
same_places test [] (ys ∷ others) long same = absurd (omega (arith, long))
same_places test (xs ∷ lists) [] long same = absurd (omega (arith, long))
same_places test (xs ∷ lists) (ys ∷ others) long same =
    let here : (place : ℕ) → has xs place ≡ has ys place = same 0 in
    let rest : (p : ℕ) → some_choice (λ chosen. test (p ∷ chosen)) lists ≡ some_choice (λ chosen. test (p ∷ chosen)) others =
    λ p. same_places (λ chosen. test (p ∷ chosen)) lists others (omega (arith, long)) (λ number place. same (suc number) place) in
    same_tests (list_any (λ p. some_choice (λ chosen. test (p ∷ chosen)) lists) xs) (list_any (λ p. some_choice (λ chosen. test (p ∷ chosen)) others) ys)
    (λ h. any_of_same (λ p. some_choice (λ chosen. test (p ∷ chosen)) others) xs ys here
    (any_weaker (λ p. some_choice (λ chosen. test (p ∷ chosen)) lists) (λ p. some_choice (λ chosen. test (p ∷ chosen)) others) xs (λ p e. sym (rest p) ∙ e) h))
    (λ h. any_of_same (λ p. some_choice (λ chosen. test (p ∷ chosen)) lists) ys xs (λ place. sym (here place))
    (any_weaker (λ p. some_choice (λ chosen. test (p ∷ chosen)) others) (λ p. some_choice (λ chosen. test (p ∷ chosen)) lists) ys (λ p e. rest p ∙ e) h))

-- ---- choices of places, one for each of some elements

module _ {A : Type 0} (places : A → List ℕ) where
  -- whether a list has one place of each
  abbrev pub is_chosen : List A → List ℕ → Bool
  is_chosen [] [] = true
  is_chosen [] (p ∷ ps) = false
  is_chosen (x ∷ xs) [] = false
  is_chosen (x ∷ xs) (p ∷ ps) = has (places x) p && is_chosen xs ps

  pub record Chosen (test : List ℕ → Bool) (xs : List A) : Type 0 where
    pub chosen : List ℕ
    pub each : is_chosen xs chosen ≡ true
    pub passes : test chosen ≡ true

  pub choice : (test : List ℕ → Bool) (xs : List A) → some_choice test (map places xs) ≡ true → Chosen test xs
  choice test [] h = record { chosen = []; each = refl; passes = h }
  choice test (x ∷ xs) h =
      let first = member (λ p. some_choice (λ chosen. test (p ∷ chosen)) (map places xs)) (places x) h in
      let rest = choice (λ chosen. test (first.place ∷ chosen)) xs first.passes in
      record {
        chosen = first.place ∷ rest.chosen;
        each = and_from (has (places x) first.place) (is_chosen xs rest.chosen) first.in_list rest.each;
        passes = rest.passes;
      }

  pub from_choice : (test : List ℕ → Bool) (xs : List A) (chosen : List ℕ) → is_chosen xs chosen ≡ true → test chosen ≡ true → some_choice test (map places xs) ≡ true
  from_choice test [] [] each h = h
  from_choice test [] (p ∷ ps) each h = cc
  from_choice test (x ∷ xs) [] each h = cc
  from_choice test (x ∷ xs) (p ∷ ps) each h =
      let parts = and_parts (has (places x) p) (is_chosen xs ps) each in
      from_member (λ q. some_choice (λ chosen. test (q ∷ chosen)) (map places xs)) (places x) p parts.0
      (from_choice (λ chosen. test (p ∷ chosen)) xs ps parts.1 h)

  -- the place that was chosen for one of them
  pub record ChosenAt (xs : List A) (chosen : List ℕ) (number : ℕ) : Type 0 where
    pub element : A
    pub is : (other : A) → get_or xs number other ≡ element
    pub place : ℕ
    pub in_choice : has chosen place ≡ true
    pub in_list : has (places element) place ≡ true

  pub chosen_at : (xs : List A) (chosen : List ℕ) (number : ℕ) → is_chosen xs chosen ≡ true → number < length xs → ChosenAt xs chosen number
  chosen_at [] chosen number each h = absurd (omega arith)
  chosen_at (x ∷ xs) [] number each h = cc
  chosen_at (x ∷ xs) (p ∷ ps) zero each h = record {
    element = x;
    is = λ other. refl;
    place = p;
    in_choice = or_left (eqb p p) (has ps p) (eq-eqb p p refl);
    in_list = (and_parts (has (places x) p) (is_chosen xs ps) each).0;
  }
  chosen_at (x ∷ xs) (p ∷ ps) (suc number) each h =
      let rest = chosen_at xs ps number (and_parts (has (places x) p) (is_chosen xs ps) each).1 (omega arith) in
      record {
        element = rest.element;
        is = rest.is;
        place = rest.place;
        in_choice = or_right (eqb p rest.place) (has ps rest.place) rest.in_choice;
        in_list = rest.in_list;
      }

-- ---- the least and the greatest of some places

pub least_first : (first : ℕ) (rest : List ℕ) → least first rest ≤ first
least_first first [] = omega arith
least_first first (p ∷ rest) = let less = least_first (min first p) rest in omega (arith, less)

pub greatest_first : (first : ℕ) (rest : List ℕ) → first ≤ greatest first rest
greatest_first first [] = omega arith
greatest_first first (p ∷ rest) = let less = greatest_first (max first p) rest in omega (arith, less)

pub least_of : (first : ℕ) (rest : List ℕ) (place : ℕ) → has rest place ≡ true → least first rest ≤ place
least_of first [] place h = cc
least_of first (p ∷ rest) place h = elim (or_cases (eqb p place) (has rest place) h) [
  | inl e ↦ let same = eqb-true p place e in let less = least_first (min first p) rest in omega (arith, same, less)
  | inr later ↦ least_of (min first p) rest place later
]

pub greatest_of : (first : ℕ) (rest : List ℕ) (place : ℕ) → has rest place ≡ true → place ≤ greatest first rest
greatest_of first [] place h = cc
greatest_of first (p ∷ rest) place h = elim (or_cases (eqb p place) (has rest place) h) [
  | inl e ↦ let same = eqb-true p place e in let less = greatest_first (max first p) rest in omega (arith, same, less)
  | inr later ↦ greatest_of (max first p) rest place later
]

-- all places from the first to the last
abbrev pub all_between : ℕ → ℕ → List ℕ → Bool
all_between low high places = list_all (λ place. nat_le low place && nat_le place high) places

least_from : (low high first : ℕ) (rest : List ℕ) → low ≤ first → all_between low high rest ≡ true → low ≤ least first rest
least_from low high first [] a h = a
least_from low high first (p ∷ rest) a h =
    let parts = and_parts (nat_le low p && nat_le p high) (all_between low high rest) h in
    let from = leb-true low p (and_parts (nat_le low p) (nat_le p high) parts.0).0 in
    least_from low high (min first p) rest (omega (arith, from)) parts.1

greatest_to : (low high first : ℕ) (rest : List ℕ) → first ≤ high → all_between low high rest ≡ true → greatest first rest ≤ high
greatest_to low high first [] a h = a
greatest_to low high first (p ∷ rest) a h =
    let parts = and_parts (nat_le low p && nat_le p high) (all_between low high rest) h in
    let to = leb-true p high (and_parts (nat_le low p) (nat_le p high) parts.0).1 in
    greatest_to low high (max first p) rest (omega (arith, to)) parts.1

-- places between two that are near are near
pub close_between : (size low high : ℕ) (places : List ℕ) → 0 < length places → all_between low high places ≡ true → high < low + size → are_close size places ≡ true
close_between size low high [] some h near = absurd (omega arith)
close_between size low high (p ∷ rest) some h near =
    let parts = and_parts (nat_le low p && nat_le p high) (all_between low high rest) h in
    let bounds = and_parts (nat_le low p) (nat_le p high) parts.0 in
    let first = least_from low high p rest (leb-true low p bounds.0) parts.1 in
    let last = greatest_to low high p rest (leb-true p high bounds.1) parts.1 in
    lt-ltb (greatest p rest) (least p rest + size) (omega (arith, first, last, near))

-- of near places no one is far after another
pub close_pair : (size : ℕ) (places : List ℕ) → are_close size places ≡ true → (p q : ℕ) → has places p ≡ true → has places q ≡ true → q < p + size
close_pair size [] h p q a b = cc
close_pair size (first ∷ rest) h p q a b =
    let near = ltb-true (greatest first rest) (least first rest + size) h in
    let low = from_least p a in
    let high = to_greatest q b in
    omega (arith, near, low, high)
  where
    from_least : (place : ℕ) → has (first ∷ rest) place ≡ true → least first rest ≤ place
    from_least place e = elim (or_cases (eqb first place) (has rest place) e) [
      | inl here ↦ let same = eqb-true first place here in let less = least_first first rest in omega (arith, same, less)
      | inr later ↦ least_of first rest place later
    ]

    to_greatest : (place : ℕ) → has (first ∷ rest) place ≡ true → place ≤ greatest first rest
    to_greatest place e = elim (or_cases (eqb first place) (has rest place) e) [
      | inl here ↦ let same = eqb-true first place here in let less = greatest_first first rest in omega (arith, same, less)
      | inr later ↦ greatest_of first rest place later
    ]

-- where the farthest of the first hits is near enough, all choices of hits up to it are near
pub close_enough : (size low near far : ℕ) → low ≤ near → low ≤ far → far - low < size → (chosen : List ℕ) → 0 < length chosen → all_between near far chosen ≡ true → are_close size chosen ≡ true
close_enough size low near far begins order less chosen some within = close_between size near far chosen some within (omega (arith, begins, order, less))

-- a choice that is near has no place too far before one that is as far as the farthest
pub close_rule : (size low far : ℕ) → size ≤ far - low → (chosen : List ℕ) → are_close size chosen ≡ true → (p q : ℕ) → has chosen p ≡ true → has chosen q ≡ true → far ≤ q → far - size + 1 ≤ p
close_rule size low far h chosen close p q a b beyond = let near = close_pair size chosen close p q a b in omega (arith, near, beyond, h)
