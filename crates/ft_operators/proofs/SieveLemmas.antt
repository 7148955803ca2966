-- The ways through a filter: for each way of the operand that the filter keeps, one for each choice.
use Rattle.std.proofs.Common.{◌≡◌, refl, ap, sym, ◌∙◌, ℕ, ◌+◌, ◌<◌, ◌≤◌, List, [], ◌∷◌, ◌++◌, Bool, true, false, map, drop, length, arith, cond}
use Rattle.std.specs.Prelude.{flat_map, Option}
use Rattle.std.proofs.lemmas.List.{drop-drop, length-drop}
use Rattle.ft_base.specs.Lists.{is_not_empty}
use Rattle.ft_base.specs.declared.filter.Filter.{Filter}
use Rattle.all_matches.specs.declared.window.Window.{Window}
use Rattle.all_matches.specs.Filters.{passes, choices}
use Rattle.all_matches.specs.Ways.{Way, by_filter, way_includes}
use Rattle.ft_operators.specs.declared.course.Course.{Course}
use Rattle.ft_operators.specs.Course.{asked_for, course_inside, filtered_on, ways_on}
use Rattle.ft_operators.specs.Standing.{Standing, at_prefix, one_on}
use Rattle.ft_operators.specs.steps.Forms.{sieve_of, sieve_left, chosen_left, choices_at, count_now, sifted}

with_rest : Standing → List Way → Standing
with_rest s rest = record { aims = s.aims; shape = s.shape; operator = s.operator; rest = rest }

-- the ways through a filter are its choices
ways_at : (kind : Filter) (course : Course) (way : Way) → filtered_on kind course way ≡ map (by_filter way kind) (choices_at kind course way)
ways_at kind course way = by_test (passes kind (way_includes way) course.item)
  where
    asked : List (Option Window)
    asked = asked_for course.windows (choices kind (way_includes way))

    by_test : (b : Bool) → cond b (map (by_filter way kind) asked) [] ≡ map (by_filter way kind) (cond b asked [])
    by_test true = refl
    by_test false = refl

chosen_some : (kind : Filter) (way : Way) (cs : List (Option Window)) (later : List Way) → 0 < length cs → chosen_left kind way cs later ≡ map (by_filter way kind) cs ++ later
chosen_some kind way [] later h = absurd (omega (arith, h))
chosen_some kind way (c ∷ cs) later h = refl

-- the first choice, where there is one
settled : (kind : Filter) (course : Course) (ways : List Way) → 0 < count_now kind course ways → sieve_left kind course 0 ways ≡ flat_map (filtered_on kind course) ways
settled kind course [] h = absurd (omega (arith, h))
settled kind course (way ∷ more) h =
    chosen_some kind way (choices_at kind course way) (flat_map (filtered_on kind course) more) h ∙ ap (λ ws. ws ++ flat_map (filtered_on kind course) more) (sym (ways_at kind course way))

-- a way without choices is passed over
none_of : (kind : Filter) (way : Way) (cs : List (Option Window)) → length cs ≡ 0 → map (by_filter way kind) cs ≡ []
none_of kind way [] h = refl
none_of kind way (c ∷ cs) h = absurd (omega (arith, h))

passed_over : (kind : Filter) (course : Course) (ways : List Way) → count_now kind course ways ≡ 0 → flat_map (filtered_on kind course) (drop 1 ways) ≡ flat_map (filtered_on kind course) ways
passed_over kind course [] h = refl
passed_over kind course (way ∷ more) h =
    sym (ap (λ ws. ws ++ flat_map (filtered_on kind course) more) (ways_at kind course way ∙ none_of kind way (choices_at kind course way) h))

at_end : (kind : Filter) (course : Course) (lead : ℕ) (ways : List Way) → is_not_empty ways ≡ false → sieve_left kind course lead ways ≡ flat_map (filtered_on kind course) ways
at_end kind course lead [] h = refl
at_end kind course lead (way ∷ more) h = cc

-- from one choice to the next, and from the last one to the ways after
chosen_on : (kind : Filter) (way : Way) (cs : List (Option Window)) (later : List Way) → 1 < length cs → chosen_left kind way (drop 1 cs) later ≡ drop 1 (chosen_left kind way cs later)
chosen_on kind way [] later h = absurd (omega (arith, h))
chosen_on kind way (c ∷ []) later h = absurd (omega (arith, h))
chosen_on kind way (c ∷ d ∷ cs) later h = refl

chosen_over : (kind : Filter) (way : Way) (cs : List (Option Window)) (later : List Way) → length cs ≡ 1 → later ≡ drop 1 (chosen_left kind way cs later)
chosen_over kind way [] later h = absurd (omega (arith, h))
chosen_over kind way (c ∷ []) later h = refl
chosen_over kind way (c ∷ d ∷ cs) later h = absurd (omega (arith, h))

chosen_some_there : (kind : Filter) (way : Way) (cs : List (Option Window)) (later : List Way) → 0 < length cs → is_not_empty (chosen_left kind way cs later) ≡ true
chosen_some_there kind way [] later h = absurd (omega (arith, h))
chosen_some_there kind way (c ∷ cs) later h = refl

chosen_length : (kind : Filter) (way : Way) (cs : List (Option Window)) (later : List Way) → is_not_empty (chosen_left kind way cs later) ≡ true → 0 < length cs
chosen_length kind way [] later h = cc
chosen_length kind way (c ∷ cs) later h = omega arith

one_more : (kind : Filter) (course : Course) (lead : ℕ) (ways : List Way) → lead + 1 < count_now kind course ways → sieve_left kind course (lead + 1) ways ≡ drop 1 (sieve_left kind course lead ways)
one_more kind course lead [] h = absurd (omega (arith, h))
one_more kind course lead (way ∷ more) h =
    let later = flat_map (filtered_on kind course) more in
    let cs = choices_at kind course way in
    ap (λ ds. chosen_left kind way ds later) (sym (drop-drop 1 lead cs)) ∙ chosen_on kind way (drop lead cs) later (omega (arith, length-drop lead cs, h))

-- the choice that was used last is one of the filter's
pub lead_below : (kind : Filter) (course : Course) (lead : ℕ) (ways : List Way) → is_not_empty (sieve_left kind course lead ways) ≡ true → lead < count_now kind course ways
lead_below kind course lead [] there = cc
lead_below kind course lead (way ∷ more) there =
    let some = chosen_length kind way (drop lead (choices_at kind course way)) (flat_map (filtered_on kind course) more) there in
    omega (arith, length-drop lead (choices_at kind course way), some)

last_one : (kind : Filter) (course : Course) (lead : ℕ) (ways : List Way) → is_not_empty (sieve_left kind course lead ways) ≡ true → count_now kind course ways ≤ lead + 1
    → flat_map (filtered_on kind course) (drop 1 ways) ≡ drop 1 (sieve_left kind course lead ways)
last_one kind course lead [] there h = cc
last_one kind course lead (way ∷ more) there h =
    let cs = choices_at kind course way in
    let some = chosen_length kind way (drop lead cs) (flat_map (filtered_on kind course) more) there in
    chosen_over kind way (drop lead cs) (flat_map (filtered_on kind course) more) (omega (arith, length-drop lead cs, h, some))

pub sieve_operand_there : (kind : Filter) (course : Course) (lead : ℕ) (ways : List Way) → is_not_empty (sieve_left kind course lead ways) ≡ true → is_not_empty ways ≡ true
sieve_operand_there kind course lead [] there = there
sieve_operand_there kind course lead (way ∷ more) there = refl

first_there : (kind : Filter) (course : Course) (ways : List Way) → 0 < count_now kind course ways → true ≡ is_not_empty (sieve_left kind course 0 ways)
first_there kind course [] h = absurd (omega (arith, h))
first_there kind course (way ∷ more) h = sym (chosen_some_there kind way (choices_at kind course way) (flat_map (filtered_on kind course) more) h)

next_there : (kind : Filter) (course : Course) (lead : ℕ) (ways : List Way) → lead + 1 < count_now kind course ways → true ≡ is_not_empty (sieve_left kind course (lead + 1) ways)
next_there kind course lead [] h = absurd (omega (arith, h))
next_there kind course lead (way ∷ more) h =
    let cs = choices_at kind course way in
    sym (chosen_some_there kind way (drop (lead + 1) cs) (flat_map (filtered_on kind course) more) (omega (arith, length-drop (lead + 1) cs, h)))

none_there : (kind : Filter) (course : Course) (lead : ℕ) (ways : List Way) → is_not_empty ways ≡ false → false ≡ is_not_empty (sieve_left kind course lead ways)
none_there kind course lead [] h = refl
none_there kind course lead (way ∷ more) h = cc

module _ (course : Course) (kind : Filter) (operand : Standing) where
  pub sieve_prefix : (lead : ℕ) → sifted course kind (at_prefix (course_inside kind course) operand) ≡ at_prefix course (sieve_of course kind lead operand)
  unfolding ways_on
  sieve_prefix lead = refl

  pub sieve_settled : 0 < count_now kind course operand.rest → sieve_of course kind 0 operand ≡ sifted course kind operand
  unfolding with_rest
  sieve_settled some = ap (with_rest (sifted course kind operand)) (settled kind course operand.rest some)

  pub sieve_skip : count_now kind course operand.rest ≡ 0 → sifted course kind (one_on operand) ≡ sifted course kind operand
  unfolding with_rest
  sieve_skip none = ap (with_rest (sifted course kind operand)) (passed_over kind course operand.rest none)

  pub sieve_end : (lead : ℕ) → is_not_empty operand.rest ≡ false → sieve_of course kind lead operand ≡ sifted course kind operand
  unfolding with_rest
  sieve_end lead none = ap (with_rest (sifted course kind operand)) (at_end kind course lead operand.rest none)

  pub sieve_on : (lead : ℕ) → lead + 1 < count_now kind course operand.rest → sieve_of course kind (lead + 1) operand ≡ one_on (sieve_of course kind lead operand)
  unfolding with_rest
  sieve_on lead more = ap (with_rest (sifted course kind operand)) (one_more kind course lead operand.rest more)

  pub sieve_over : (lead : ℕ) → is_not_empty ((sieve_of course kind lead operand).rest) ≡ true → count_now kind course operand.rest ≤ lead + 1
      → sifted course kind (one_on operand) ≡ one_on (sieve_of course kind lead operand)
  unfolding with_rest
  sieve_over lead there last = ap (with_rest (sifted course kind operand)) (last_one kind course lead operand.rest there last)

  pub sieve_there_first : 0 < count_now kind course operand.rest → true ≡ is_not_empty ((sieve_of course kind 0 operand).rest)
  sieve_there_first some = first_there kind course operand.rest some

  pub sieve_there_next : (lead : ℕ) → lead + 1 < count_now kind course operand.rest → true ≡ is_not_empty ((sieve_of course kind (lead + 1) operand).rest)
  sieve_there_next lead more = next_there kind course lead operand.rest more

  pub sieve_none : (lead : ℕ) → is_not_empty operand.rest ≡ false → false ≡ is_not_empty ((sieve_of course kind lead operand).rest)
  sieve_none lead none = none_there kind course lead operand.rest none

-- a walk that is passed has fewer ways left
pub fewer : (ways : List Way) → is_not_empty ways ≡ true → length (drop 1 ways) < length ways
fewer [] there = cc
fewer (way ∷ more) there = omega arith
