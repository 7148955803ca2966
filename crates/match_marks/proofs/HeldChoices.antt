-- Of lists of hits that rise, the first hits tell the least choice that a window holds, or from where on each hit of one has to begin.
use Rattle.std.proofs.Common.{◌≡◌, refl, sym, ap, subst, ◌∙◌, ℕ, zero, suc, ◌+◌, ◌-◌, ◌==◌, ◌<◌, ◌≤◌, min, max, Bool, true, false, true≢false, not, ◌&&◌, ◌||◌, cond, List, [], ◌∷◌, ◌++◌, map, filter, flat_map, fold, length, arith, inl, inr, Option, Some, None}
use Rattle.std.specs.Prelude.{nat_le, nat_lt}
use Rattle.std.specs.List.{list_all, list_any, sum_by}
use Rattle.std.proofs.lemmas.Bool.{and_from, and_parts, cases_Bool, le-leb, leb-true, lt-ltb, ltb-false, ltb-true, or_cases}
use Rattle.std.proofs.lemmas.Bool.Decides.{nat_tests}
use Rattle.std.proofs.lemmas.Grind.{flat_map-append}
use Rattle.std.proofs.lemmas.List.{append-nil, map-append}
use Rattle.std.proofs.lemmas.List.Elements.{filter-append}
use Rattle.std.proofs.lemmas.List.Folds.{list_all-append}
use Rattle.std.proofs.lemmas.List.Sums.{sum_by-cons}
use Rattle.std.proofs.lemmas.Option.{none-some, same_Some}
use Rattle.ft_base.specs.Lists.{is_not_empty}
use Rattle.ft_base.specs.declared.hit.Hit.{Hit}
use Rattle.ft_base.specs.declared.unit.TextUnit.TheVariants.{Words}
use Rattle.all_matches.specs.Join.{join}
use Rattle.best_hits.specs.Best.{spans_of}
use Rattle.best_hits.specs.Least.{comes_before, least, least_from}
use Rattle.phrase_merges.specs.Rows.{goes_on_in}
use Rattle.match_marks.specs.declared.window.FirstHits.{FirstHits}
use Rattle.match_marks.specs.declared.window.Joined.{Joined}
use Rattle.match_marks.specs.steps.WindowRuns.{choices_of, held_choices, hits_from, is_held, is_rising, joined_alone, joined_firsts, least_held, none_yet, places_of, where_each, wider, with_first}

-- ---- lists

list_all-flat : {X Y : Type 0} (p : Y → Bool) (f : X → List Y) (q : X → Bool) (xs : List X) → ((x : X) → q x ≡ true → list_all p (f x) ≡ true) → list_all q xs ≡ true → list_all p (flat_map f xs) ≡ true
list_all-flat p f q [] each h = refl
list_all-flat p f q (x ∷ xs) each h =
    let parts = and_parts (q x) (list_all q xs) h in
    list_all-append p (f x) (flat_map f xs) ∙ and_from (list_all p (f x)) (list_all p (flat_map f xs)) (each x parts.0) (list_all-flat p f q xs each parts.1)

filter_all : {X : Type 0} (p : X → Bool) (xs : List X) → list_all p xs ≡ true → filter p xs ≡ xs
filter_all p [] h = refl
filter_all p (x ∷ xs) h =
    let parts = and_parts (p x) (list_all p xs) h in
    (λ i. cond (parts.0 i) (x ∷ filter_all p xs parts.1 i) (filter_all p xs parts.1 i))

-- what no kept element fails need not be asked before
filter_twice : {X : Type 0} (p r t : X → Bool) (xs : List X) → ((x : X) → t x ≡ true → p x ≡ true → r x ≡ true) → list_all t xs ≡ true → filter p (filter r xs) ≡ filter p xs
filter_twice p r t [] follows h = refl
filter_twice p r t (x ∷ xs) follows h =
    let parts = and_parts (t x) (list_all t xs) h in
    by (p x) (r x) refl refl (follows x parts.0) (filter_twice p r t xs follows parts.1)
  where
    by : (b c : Bool) → p x ≡ b → r x ≡ c → (p x ≡ true → r x ≡ true) → filter p (filter r xs) ≡ filter p xs
        → filter p (cond (r x) (x ∷ filter r xs) (filter r xs)) ≡ cond (p x) (x ∷ filter p xs) (filter p xs)
    by true true e f g rest = (λ i. filter p (cond (f i) (x ∷ filter r xs) (filter r xs))) ∙ (λ i. cond (e i) (x ∷ rest i) (rest i)) ∙ (λ i. cond (sym e i) (x ∷ filter p xs) (filter p xs))
    by true false e f g rest = absurd (true≢false (sym (g e) ∙ f))
    by false true e f g rest = (λ i. filter p (cond (f i) (x ∷ filter r xs) (filter r xs))) ∙ (λ i. cond (e i) (x ∷ rest i) (rest i)) ∙ (λ i. cond (sym e i) (x ∷ filter p xs) (filter p xs))
    by false false e f g rest = (λ i. filter p (cond (f i) (x ∷ filter r xs) (filter r xs))) ∙ rest ∙ (λ i. cond (sym e i) (x ∷ filter p xs) (filter p xs))

-- ---- choices

-- the choices of hits that pass a test are those that pass it
module _ (q : Hit → Bool) where
  with_one : (hit : Hit) (choices : List (List Hit)) → filter (list_all q) (map (λ chosen. hit ∷ chosen) choices) ≡ cond (q hit) (map (λ chosen. hit ∷ chosen) (filter (list_all q) choices)) []
  with_one hit choices = elim (cases_Bool (q hit)) [
    | inl holds ↦ kept choices holds ∙ (λ i. cond (sym holds i) (map (λ chosen. hit ∷ chosen) (filter (list_all q) choices)) [])
    | inr fails ↦ left_out choices fails ∙ (λ i. cond (sym fails i) (map (λ chosen. hit ∷ chosen) (filter (list_all q) choices)) [])
  ]
    where
      kept : (own : List (List Hit)) → q hit ≡ true → filter (list_all q) (map (λ chosen. hit ∷ chosen) own) ≡ map (λ chosen. hit ∷ chosen) (filter (list_all q) own)
      kept [] holds = refl
      kept (chosen ∷ own) holds =
          (λ i. cond (holds i && list_all q chosen) ((hit ∷ chosen) ∷ kept own holds i) (kept own holds i))
          ∙ by (list_all q chosen)
        where
          by : (b : Bool) → cond b ((hit ∷ chosen) ∷ map (λ other. hit ∷ other) (filter (list_all q) own)) (map (λ other. hit ∷ other) (filter (list_all q) own))
              ≡ map (λ other. hit ∷ other) (cond b (chosen ∷ filter (list_all q) own) (filter (list_all q) own))
          by true = refl
          by false = refl

      left_out : (own : List (List Hit)) → q hit ≡ false → filter (list_all q) (map (λ chosen. hit ∷ chosen) own) ≡ []
      left_out [] fails = refl
      left_out (chosen ∷ own) fails = (λ i. cond (fails i && list_all q chosen) ((hit ∷ chosen) ∷ left_out own fails i) (left_out own fails i))

  over_hits : (hits : List Hit) (choices : List (List Hit)) → filter (list_all q) (flat_map (λ hit. map (λ chosen. hit ∷ chosen) choices) hits)
      ≡ flat_map (λ hit. map (λ chosen. hit ∷ chosen) (filter (list_all q) choices)) (filter q hits)
  over_hits [] choices = refl
  over_hits (hit ∷ rest) choices =
      filter-append (list_all q) (map (λ chosen. hit ∷ chosen) choices) (flat_map (λ other. map (λ chosen. other ∷ chosen) choices) rest)
      ∙ (λ i. with_one hit choices i ++ over_hits rest choices i)
      ∙ by (q hit)
    where
      by : (b : Bool) → cond b (map (λ chosen. hit ∷ chosen) (filter (list_all q) choices)) [] ++ flat_map (λ other. map (λ chosen. other ∷ chosen) (filter (list_all q) choices)) (filter q rest)
          ≡ flat_map (λ other. map (λ chosen. other ∷ chosen) (filter (list_all q) choices)) (cond b (hit ∷ filter q rest) (filter q rest))
      by true = refl
      by false = refl

  choices_filtered : (lists : List (List Hit)) → filter (list_all q) (choices_of lists) ≡ choices_of (map (filter q) lists)
  choices_filtered [] = refl
  choices_filtered (hits ∷ lists) =
      over_hits hits (choices_of lists) ∙ ap (λ (choices : List (List Hit)). flat_map (λ hit. map (λ chosen. hit ∷ chosen) choices) (filter q hits)) (choices_filtered lists)

-- ---- lists that rise

abbrev later_hit : Hit → Hit → Bool
later_hit first hit = goes_on_in Words first hit

later_itself : (hit : Hit) → later_hit hit hit ≡ true
later_itself hit = and_from (nat_le hit.from hit.from) (nat_le hit.to hit.to) (le-leb hit.from hit.from (omega arith)) (le-leb hit.to hit.to (omega arith))

-- from a word on
abbrev from_word : ℕ → Hit → Bool
from_word from hit = nat_le from hit.from

all_from : (from : ℕ) (first : Hit) (hits : List Hit) → from ≤ first.from → list_all (later_hit first) hits ≡ true → list_all (from_word from) hits ≡ true
all_from from first [] le h = refl
all_from from first (hit ∷ hits) le h =
    let parts = and_parts (later_hit first hit) (list_all (later_hit first) hits) h in
    let own = and_parts (nat_le first.from hit.from) (nat_le first.to hit.to) parts.0 in
    let more = leb-true first.from hit.from own.0 in
    and_from (from_word from hit) (list_all (from_word from) hits) (le-leb from hit.from (omega (arith, le, more))) (all_from from first hits le parts.1)

pub from_filtered : (from : ℕ) (hits : List Hit) → is_rising hits ≡ true → hits_from from hits ≡ filter (from_word from) hits
from_filtered from [] h = refl
from_filtered from (hit ∷ rest) h =
    let parts = and_parts (list_all (later_hit hit) rest) (is_rising rest) h in
    elim (cases_Bool (nat_lt hit.from from)) [
      | inl holds ↦
          let lt = ltb-true hit.from from holds in
          let fails : nat_le from hit.from ≡ false = grind (arith, nat_tests, lt) in
          (λ i. cond (holds i) (hits_from from rest) (hit ∷ rest)) ∙ from_filtered from rest parts.1 ∙ (λ i. cond (sym fails i) (hit ∷ filter (from_word from) rest) (filter (from_word from) rest))
      | inr fails ↦
          let le = ltb-false hit.from from fails in
          let holds : nat_le from hit.from ≡ true = le-leb from hit.from (omega (arith, le)) in
          (λ i. cond (fails i) (hits_from from rest) (hit ∷ rest))
          ∙ sym (λ i. cond (holds i) (hit ∷ filter_all (from_word from) rest (all_from from hit rest (omega (arith, le)) parts.0) i) (filter (from_word from) rest))
    ]

pub still_rising : (from : ℕ) (hits : List Hit) → is_rising hits ≡ true → is_rising (hits_from from hits) ≡ true
still_rising from [] h = refl
still_rising from (hit ∷ rest) h =
    let parts = and_parts (list_all (later_hit hit) rest) (is_rising rest) h in
    elim (cases_Bool (nat_lt hit.from from)) [
      | inl holds ↦ ap (λ b. is_rising (cond b (hits_from from rest) (hit ∷ rest))) holds ∙ still_rising from rest parts.1
      | inr fails ↦ ap (λ b. is_rising (cond b (hits_from from rest) (hit ∷ rest))) fails ∙ h
    ]

pub all_still_rising : (from : ℕ) (lists : List (List Hit)) → list_all is_rising lists ≡ true → list_all is_rising (map (hits_from from) lists) ≡ true
all_still_rising from [] h = refl
all_still_rising from (hits ∷ lists) h =
    let parts = and_parts (is_rising hits) (list_all is_rising lists) h in
    and_from (is_rising (hits_from from hits)) (list_all is_rising (map (hits_from from) lists)) (still_rising from hits parts.0) (all_still_rising from lists parts.1)

all_filtered : (from : ℕ) (lists : List (List Hit)) → list_all is_rising lists ≡ true → map (hits_from from) lists ≡ map (filter (from_word from)) lists
all_filtered from [] h = refl
all_filtered from (hits ∷ lists) h =
    let parts = and_parts (is_rising hits) (list_all is_rising lists) h in
    λ i. from_filtered from hits parts.0 i ∷ all_filtered from lists parts.1 i

-- ---- the first hits

abbrev first_hits : List (List Hit) → List Hit
first_hits [] = []
first_hits ([] ∷ lists) = first_hits lists
first_hits ((hit ∷ rest) ∷ lists) = hit ∷ first_hits lists

abbrev all_there : List (List Hit) → Bool
all_there lists = list_all is_not_empty lists

-- hit by hit later, or the same
abbrev are_later : List Hit → List Hit → Bool
are_later [] [] = true
are_later [] (hit ∷ hits) = false
are_later (first ∷ firsts) [] = false
are_later (first ∷ firsts) (hit ∷ hits) = later_hit first hit && are_later firsts hits

row_later : (first : Hit) (firsts : List Hit) (hit : Hit) (choices : List (List Hit)) → later_hit first hit ≡ true → list_all (are_later firsts) choices ≡ true
    → list_all (are_later (first ∷ firsts)) (map (λ chosen. hit ∷ chosen) choices) ≡ true
row_later first firsts hit [] h all = refl
row_later first firsts hit (chosen ∷ choices) h all =
    let parts = and_parts (are_later firsts chosen) (list_all (are_later firsts) choices) all in
    and_from (later_hit first hit && are_later firsts chosen) (list_all (are_later (first ∷ firsts)) (map (λ own. hit ∷ own) choices))
    (and_from (later_hit first hit) (are_later firsts chosen) h parts.0) (row_later first firsts hit choices h parts.1)

choices_later : (lists : List (List Hit)) → all_there lists ≡ true → list_all is_rising lists ≡ true → list_all (are_later (first_hits lists)) (choices_of lists) ≡ true
choices_later [] there rise = refl
choices_later ([] ∷ lists) there rise = absurd (true≢false (sym there))
choices_later ((first ∷ rest) ∷ lists) there rise =
    let parts = and_parts (is_rising (first ∷ rest)) (list_all is_rising lists) rise in
    let own = and_parts (list_all (later_hit first) rest) (is_rising rest) parts.0 in
    list_all-flat (are_later (first ∷ first_hits lists)) (λ hit. map (λ chosen. hit ∷ chosen) (choices_of lists)) (later_hit first) (first ∷ rest)
    (λ hit h. row_later first (first_hits lists) hit (choices_of lists) h (choices_later lists there parts.1))
    (and_from (later_hit first first) (list_all (later_hit first) rest) (later_itself first) own.0)

-- the first choice is that of the first hits
record Others (lists : List (List Hit)) : Type 0 where
  others : List (List Hit)
  is : choices_of lists ≡ first_hits lists ∷ others

first_choice : (lists : List (List Hit)) → all_there lists ≡ true → Others lists
first_choice [] there = record { others = []; is = refl }
first_choice ([] ∷ lists) there = absurd (true≢false (sym there))
first_choice ((first ∷ rest) ∷ lists) there =
    let inner = first_choice lists there in
    record {
      others = map (λ chosen. first ∷ chosen) inner.others ++ flat_map (λ hit. map (λ chosen. hit ∷ chosen) (choices_of lists)) rest;
      is = ap (λ (choices : List (List Hit)). map (λ chosen. first ∷ chosen) choices ++ flat_map (λ hit. map (λ chosen. hit ∷ chosen) (choices_of lists)) rest) inner.is;
    }

none_chosen : (lists : List (List Hit)) → all_there lists ≡ false → choices_of lists ≡ []
none_chosen [] none = absurd (true≢false none)
none_chosen ([] ∷ lists) none = refl
none_chosen ((first ∷ rest) ∷ lists) none = ap (λ (choices : List (List Hit)). flat_map (λ hit. map (λ chosen. hit ∷ chosen) choices) (first ∷ rest)) (none_chosen lists none) ∙ nothing rest
  where
    nothing : (hits : List Hit) → flat_map (λ (hit : Hit). map (λ (chosen : List Hit). hit ∷ chosen) []) hits ≡ []
    nothing [] = refl
    nothing (hit ∷ hits) = nothing hits

-- ---- joined

from_least : (a b : ℕ) (firsts hits : List Hit) → a ≤ b → are_later firsts hits ≡ true → fold min a (map (λ hit. hit.from) firsts) ≤ fold min b (map (λ hit. hit.from) hits)
from_least a b [] [] le h = le
from_least a b [] (hit ∷ hits) le h = absurd (true≢false (sym h))
from_least a b (first ∷ firsts) [] le h = absurd (true≢false (sym h))
from_least a b (first ∷ firsts) (hit ∷ hits) le h =
    let parts = and_parts (later_hit first hit) (are_later firsts hits) h in
    let own = and_parts (nat_le first.from hit.from) (nat_le first.to hit.to) parts.0 in
    let more = leb-true first.from hit.from own.0 in
    from_least (min a first.from) (min b hit.from) firsts hits (omega (arith, le, more)) parts.1

to_greatest : (a b : ℕ) (firsts hits : List Hit) → a ≤ b → are_later firsts hits ≡ true → fold max a (map (λ hit. hit.to) firsts) ≤ fold max b (map (λ hit. hit.to) hits)
to_greatest a b [] [] le h = le
to_greatest a b [] (hit ∷ hits) le h = absurd (true≢false (sym h))
to_greatest a b (first ∷ firsts) [] le h = absurd (true≢false (sym h))
to_greatest a b (first ∷ firsts) (hit ∷ hits) le h =
    let parts = and_parts (later_hit first hit) (are_later firsts hits) h in
    let own = and_parts (nat_le first.from hit.from) (nat_le first.to hit.to) parts.0 in
    let more = leb-true first.to hit.to own.1 in
    to_greatest (max a first.to) (max b hit.to) firsts hits (omega (arith, le, more)) parts.1

each_from : (from a : ℕ) (hits : List Hit) → from ≤ fold min a (map (λ hit. hit.from) hits) → (from ≤ a) × (list_all (from_word from) hits ≡ true)
each_from from a [] h = (h, refl)
each_from from a (hit ∷ hits) h =
    let rest = each_from from (min a hit.from) hits h in
    (omega (arith, rest.0), and_from (from_word from hit) (list_all (from_word from) hits) (le-leb from hit.from (omega (arith, rest.0))) rest.1)

-- a joined hit of hits
abbrev joined_on : Joined → List Hit → Joined
joined_on joined hits = record { from = fold min joined.from (map (λ hit. hit.from) hits); to = fold max joined.to (map (λ hit. hit.to) hits) }

firsts_on : (joined : Joined) (lists : List (List Hit)) → all_there lists ≡ true
    → fold with_first (record { each = true; joined = Some joined }) lists ≡ record { each = true; joined = Some (joined_on joined (first_hits lists)) }
firsts_on joined [] there = refl
firsts_on joined ([] ∷ lists) there = absurd (true≢false (sym there))
firsts_on joined ((first ∷ rest) ∷ lists) there = firsts_on (wider (Some joined) first) lists there

some_lack : (so_far : Option Joined) (lists : List (List Hit)) → where_each (fold with_first (record { each = false; joined = so_far }) lists) ≡ None
some_lack so_far [] = refl
some_lack so_far ([] ∷ lists) = some_lack so_far lists
some_lack so_far ((first ∷ rest) ∷ lists) = some_lack (Some (wider so_far first)) lists

some_missing : (so_far : Option Joined) (lists : List (List Hit)) → all_there lists ≡ false → where_each (fold with_first (record { each = true; joined = so_far }) lists) ≡ None
some_missing so_far [] none = absurd (true≢false none)
some_missing so_far ([] ∷ lists) none = some_lack so_far lists
some_missing so_far ((first ∷ rest) ∷ lists) none = some_missing (Some (wider so_far first)) lists none

abbrev first_joined : Hit → Joined
first_joined hit = record { from = hit.from; to = hit.to }

-- what the joined first hits are: there is a first list, with a first hit, and each has one
record FirstsOf (lists : List (List Hit)) (joined : Joined) : Type 0 where
  first : Hit
  rest : List Hit
  others : List (List Hit)
  is : lists ≡ (first ∷ rest) ∷ others
  there : all_there others ≡ true
  joins : joined_on (first_joined first) (first_hits others) ≡ joined

firsts_of : (lists : List (List Hit)) (joined : Joined) → joined_firsts lists ≡ Some joined → FirstsOf lists joined
firsts_of [] joined h = absurd (none-some joined h)
firsts_of ([] ∷ lists) joined h = absurd (none-some joined (sym (some_lack None lists) ∙ h))
firsts_of ((first ∷ rest) ∷ lists) joined h = elim (cases_Bool (all_there lists)) [
  | inl holds ↦ record {
    first = first;
    rest = rest;
    others = lists;
    is = refl;
    there = holds;
    joins = same_Some (joined_on (first_joined first) (first_hits lists)) joined (sym (ap where_each (firsts_on (first_joined first) lists holds)) ∙ h);
  }
  | inr fails ↦ absurd (none-some joined (sym (some_missing (Some (first_joined first)) lists fails) ∙ h))
]

-- ---- where a list has none

pub held_none : (size : ℕ) (lists : List (List Hit)) → joined_firsts lists ≡ None → held_choices size lists ≡ []
held_none size [] h = refl
held_none size ([] ∷ lists) h = refl
held_none size ((first ∷ rest) ∷ lists) h = elim (cases_Bool (all_there lists)) [
  | inl holds ↦ absurd (none-some (joined_on (first_joined first) (first_hits lists)) (sym h ∙ ap where_each (firsts_on (first_joined first) lists holds)))
  | inr fails ↦ ap (filter (is_held size)) (none_chosen ((first ∷ rest) ∷ lists) fails)
]

-- ---- where the window holds the first hits

not_earlier : (a b c d : ℕ) → a ≤ c → b ≤ d → ((nat_lt c a || (c == a && nat_lt d b)) || ((c == a && d == b) && false)) ≡ false
not_earlier a b c d h k = grind (arith, nat_tests, h, k)

none_before : (first : Hit) (firsts : List Hit) (chosen : List Hit) → are_later (first ∷ firsts) chosen ≡ true → comes_before (joined_alone chosen) (joined_alone (first ∷ firsts)) ≡ false
none_before first firsts [] h = absurd (true≢false (sym h))
none_before first firsts (hit ∷ hits) h =
    let parts = and_parts (later_hit first hit) (are_later firsts hits) h in
    let own = and_parts (nat_le first.from hit.from) (nat_le first.to hit.to) parts.0 in
    not_earlier (fold min first.from (map (λ one. one.from) firsts)) (fold max first.to (map (λ one. one.to) firsts))
    (fold min hit.from (map (λ one. one.from) hits)) (fold max hit.to (map (λ one. one.to) hits))
    (from_least first.from hit.from firsts hits (leb-true first.from hit.from own.0) parts.1)
    (to_greatest first.to hit.to firsts hits (leb-true first.to hit.to own.1) parts.1)

stays : (size : ℕ) (first : Hit) (firsts : List Hit) (others : List (List Hit)) → list_all (are_later (first ∷ firsts)) others ≡ true
    → least_from (joined_alone (first ∷ firsts)) (map joined_alone (filter (is_held size) others)) ≡ joined_alone (first ∷ firsts)
stays size first firsts [] h = refl
stays size first firsts (chosen ∷ others) h =
    let parts = and_parts (are_later (first ∷ firsts) chosen) (list_all (are_later (first ∷ firsts)) others) h in
    by (is_held size chosen) (none_before first firsts chosen parts.0) (stays size first firsts others parts.1)
  where
    by : (b : Bool) → comes_before (joined_alone chosen) (joined_alone (first ∷ firsts)) ≡ false
        → least_from (joined_alone (first ∷ firsts)) (map joined_alone (filter (is_held size) others)) ≡ joined_alone (first ∷ firsts)
        → least_from (joined_alone (first ∷ firsts)) (map joined_alone (cond b (chosen ∷ filter (is_held size) others) (filter (is_held size) others))) ≡ joined_alone (first ∷ firsts)
    by true none rest = ap (λ c. least_from (cond c (joined_alone chosen) (joined_alone (first ∷ firsts))) (map joined_alone (filter (is_held size) others))) none ∙ rest
    by false none rest = rest

found_in : (size : ℕ) (first : Hit) (rest : List Hit) (lists : List (List Hit)) (joined : Joined) → list_all is_rising ((first ∷ rest) ∷ lists) ≡ true → all_there lists ≡ true
    → joined_on (first_joined first) (first_hits lists) ≡ joined → nat_lt joined.to (joined.from + size) ≡ true → places_of (Some joined) ≡ spans_of (least_held size ((first ∷ rest) ∷ lists))
found_in size first rest lists joined rise there joins held =
    let whole = first_choice ((first ∷ rest) ∷ lists) there in
    let later : list_all (are_later (first ∷ first_hits lists)) ((first ∷ first_hits lists) ∷ whole.others) ≡ true =
    ap (list_all (are_later (first ∷ first_hits lists))) (sym whole.is) ∙ choices_later ((first ∷ rest) ∷ lists) there rise in
    let parts = and_parts (are_later (first ∷ first_hits lists) (first ∷ first_hits lists)) (list_all (are_later (first ∷ first_hits lists)) whole.others) later in
    let is_in : is_held size (first ∷ first_hits lists) ≡ true = ap (λ (own : Joined). nat_lt own.to (own.from + size)) joins ∙ held in
    ap (λ own. places_of (Some own)) (sym joins)
    ∙ ap spans_of
    (sym (stays size first (first_hits lists) whole.others parts.1)
    ∙ (λ i. least_held_of (cond (sym is_in i) ((first ∷ first_hits lists) ∷ filter (is_held size) whole.others) (filter (is_held size) whole.others)))
    ∙ ap (λ (choices : List (List Hit)). least_held_of (filter (is_held size) choices)) (sym whole.is))
  where
    least_held_of : List (List Hit) → List Hit
    least_held_of choices = least (map joined_alone choices)

pub held_found : (size : ℕ) (lists : List (List Hit)) (joined : Joined) → list_all is_rising lists ≡ true → joined_firsts lists ≡ Some joined → nat_lt joined.to (joined.from + size) ≡ true
    → places_of (Some joined) ≡ spans_of (least_held size lists)
held_found size lists joined rise h held =
    let firsts = firsts_of lists joined h in
    found_in size firsts.first firsts.rest firsts.others joined (ap (list_all is_rising) (sym firsts.is) ∙ rise) firsts.there firsts.joins held
    ∙ ap (λ own. spans_of (least_held size own)) (sym firsts.is)

-- ---- where it doesn't

-- each hit of a choice that it holds begins so late
begins_late : (size from : ℕ) (first : Hit) (firsts chosen : List Hit) → from ≤ suc (fold max first.to (map (λ hit. hit.to) firsts)) - size
    → are_later (first ∷ firsts) chosen ≡ true → is_held size chosen ≡ true → list_all (from_word from) chosen ≡ true
begins_late size from first firsts [] le h held = absurd (true≢false (sym h))
begins_late size from first firsts (hit ∷ hits) le h held =
    let parts = and_parts (later_hit first hit) (are_later firsts hits) h in
    let own = and_parts (nat_le first.from hit.from) (nat_le first.to hit.to) parts.0 in
    let far = to_greatest first.to hit.to firsts hits (leb-true first.to hit.to own.1) parts.1 in
    let near = ltb-true (fold max hit.to (map (λ one. one.to) hits)) (fold min hit.from (map (λ one. one.from) hits) + size) held in
    let each = each_from from hit.from hits (omega (arith, le, far, near)) in
    and_from (from_word from hit) (list_all (from_word from) hits) (le-leb from hit.from each.0) each.1

late_in : (size from : ℕ) (first : Hit) (rest : List Hit) (lists : List (List Hit)) (joined : Joined) → list_all is_rising ((first ∷ rest) ∷ lists) ≡ true → all_there lists ≡ true
    → joined_on (first_joined first) (first_hits lists) ≡ joined → from ≤ suc joined.to - size
    → held_choices size (map (hits_from from) ((first ∷ rest) ∷ lists)) ≡ held_choices size ((first ∷ rest) ∷ lists)
late_in size from first rest lists joined rise there joins le =
    let to = ap (λ (own : Joined). own.to) joins in
    ap (held_choices size) (all_filtered from ((first ∷ rest) ∷ lists) rise)
    ∙ ap (filter (is_held size)) (sym (choices_filtered (from_word from) ((first ∷ rest) ∷ lists)))
    ∙ filter_twice (is_held size) (list_all (from_word from)) (are_later (first ∷ first_hits lists)) (choices_of ((first ∷ rest) ∷ lists))
    (λ chosen later held. begins_late size from first (first_hits lists) chosen (omega (arith, le, to)) later held) (choices_later ((first ∷ rest) ∷ lists) there rise)

pub held_on : (size from : ℕ) (lists : List (List Hit)) (joined : Joined) → list_all is_rising lists ≡ true → joined_firsts lists ≡ Some joined → from ≤ suc joined.to - size
    → held_choices size (map (hits_from from) lists) ≡ held_choices size lists
held_on size from lists joined rise h le =
    let firsts = firsts_of lists joined h in
    ap (λ own. held_choices size (map (hits_from from) own)) firsts.is
    ∙ late_in size from firsts.first firsts.rest firsts.others joined (ap (list_all is_rising) (sym firsts.is) ∙ rise) firsts.there firsts.joins le
    ∙ ap (held_choices size) (sym firsts.is)

-- ---- fewer hits are left

abbrev pub count_left : List (List Hit) → ℕ
count_left lists = sum_by (λ (hits : List Hit). length hits) lists

shorter : (from : ℕ) (hits : List Hit) → length (hits_from from hits) ≤ length hits
shorter from [] = omega arith
shorter from (hit ∷ rest) = elim (cases_Bool (nat_lt hit.from from)) [
  | inl holds ↦
      let is = ap (λ b. length (cond b (hits_from from rest) (hit ∷ rest))) holds in
      let less = shorter from rest in
      omega (arith, is, less)
  | inr fails ↦
      let is = ap (λ b. length (cond b (hits_from from rest) (hit ∷ rest))) fails in
      omega (arith, is)
]

all_shorter : (from : ℕ) (lists : List (List Hit)) → count_left (map (hits_from from) lists) ≤ count_left lists
all_shorter from [] = omega arith
all_shorter from (hits ∷ lists) =
    let one = shorter from hits in
    let rest = all_shorter from lists in
    let now = sum_by-cons (λ (own : List Hit). length own) (hits_from from hits) (map (hits_from from) lists) in
    let old = sum_by-cons (λ (own : List Hit). length own) hits lists in
    omega (arith, one, rest, now, old)

one_passed : (from : ℕ) (hit : Hit) (rest : List Hit) (lists : List (List Hit)) → hit.from < from → count_left (map (hits_from from) ((hit ∷ rest) ∷ lists)) < count_left ((hit ∷ rest) ∷ lists)
one_passed from hit rest lists lt =
    let holds = lt-ltb hit.from from lt in
    let is = ap (λ b. length (cond b (hits_from from rest) (hit ∷ rest))) holds in
    let one = shorter from rest in
    let more = all_shorter from lists in
    let now = sum_by-cons (λ (own : List Hit). length own) (hits_from from (hit ∷ rest)) (map (hits_from from) lists) in
    let old = sum_by-cons (λ (own : List Hit). length own) (hit ∷ rest) lists in
    omega (arith, is, one, more, now, old)

one_of_firsts : (from a : ℕ) (lists : List (List Hit)) → all_there lists ≡ true → from ≤ a → fold min a (map (λ hit. hit.from) (first_hits lists)) < from
    → count_left (map (hits_from from) lists) < count_left lists
one_of_firsts from a [] there le h = absurd (omega (arith, le, h))
one_of_firsts from a ([] ∷ lists) there le h = absurd (true≢false (sym there))
one_of_firsts from a ((hit ∷ rest) ∷ lists) there le h = elim (cases_Bool (nat_lt hit.from from)) [
  | inl holds ↦ one_passed from hit rest lists (ltb-true hit.from from holds)
  | inr fails ↦
      let later = ltb-false hit.from from fails in
      let one = shorter from (hit ∷ rest) in
      let more = one_of_firsts from (min a hit.from) lists there (omega (arith, le, later)) h in
      let now = sum_by-cons (λ (own : List Hit). length own) (hits_from from (hit ∷ rest)) (map (hits_from from) lists) in
      let old = sum_by-cons (λ (own : List Hit). length own) (hit ∷ rest) lists in
      omega (arith, one, more, now, old)
]

fewer_in : (from : ℕ) (first : Hit) (rest : List Hit) (lists : List (List Hit)) → all_there lists ≡ true → fold min first.from (map (λ hit. hit.from) (first_hits lists)) < from
    → count_left (map (hits_from from) ((first ∷ rest) ∷ lists)) < count_left ((first ∷ rest) ∷ lists)
fewer_in from first rest lists there h = elim (cases_Bool (nat_lt first.from from)) [
  | inl holds ↦ one_passed from first rest lists (ltb-true first.from from holds)
  | inr fails ↦
      let later = ltb-false first.from from fails in
      let one = shorter from (first ∷ rest) in
      let more = one_of_firsts from first.from lists there (omega (arith, later)) h in
      let now = sum_by-cons (λ (own : List Hit). length own) (hits_from from (first ∷ rest)) (map (hits_from from) lists) in
      let old = sum_by-cons (λ (own : List Hit). length own) (first ∷ rest) lists in
      omega (arith, one, more, now, old)
]

pub fewer_left : (from : ℕ) (lists : List (List Hit)) (joined : Joined) → joined_firsts lists ≡ Some joined → joined.from < from → count_left (map (hits_from from) lists) < count_left lists
fewer_left from lists joined h lt =
    let firsts = firsts_of lists joined h in
    let is = ap (λ (own : Joined). own.from) firsts.joins in
    subst (λ (own : List (List Hit)). count_left (map (hits_from from) own) < count_left own) (sym firsts.is) (fewer_in from firsts.first firsts.rest firsts.others firsts.there (omega (arith, lt, is)))
