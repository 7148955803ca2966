-- An operator is satisfied alike where its choices of phrases are united, whatever their numbers, and stays plain.
use Rattle.std.proofs.Common.{◌≡◌, refl, ap, sym, ◌∙◌, ℕ, suc, List, [], ◌∷◌, ◌++◌, Bool, true, false, ◌&&◌, ◌||◌, cond, arith}
use Rattle.std.specs.Prelude.{map, nat_le, nat_lt}
use Rattle.std.specs.List.{list_any, list_all}
use Rattle.std.proofs.Math.Bool.{or_comm}
use Rattle.std.proofs.lemmas.Bool.{and_from, and_parts}
use Rattle.std.proofs.lemmas.Bool.Decides.{nat_tests}
use Rattle.std.proofs.lemmas.List.{map-append}
use Rattle.std.proofs.lemmas.List.Folds.{list_all-map}
use Rattle.ft_base.specs.Hits.{every_two}
use Rattle.ft_base.specs.Lists.{is_empty}
use Rattle.ft_base.specs.declared.filter.Filter.{Filter}
use Rattle.ft_base.specs.declared.hit.Hit.{Hit}
use Rattle.ft_base.specs.declared.hit.Match.{Match}
use Rattle.ft_base.specs.declared.span.Span.{Span}
use Rattle.all_matches.specs.Boolean.{both, ft_or, ft_and, ft_not, is_clean, satisfied}
use Rattle.all_matches.specs.Hits.{match_of_hit}
use Rattle.all_matches.specs.MildNot.{ft_mild_not}
use Rattle.all_matches.specs.Ways.{Operator, Way, phrase, either, together, apart, negated, through_filter, bare_match, is_plain, matches_of, ways_of, without_negation}
use Rattle.all_matches.proofs.BareWays.{bare_matches}
use Rattle.all_matches.proofs.ListTests.{list_any-alike, list_any-map}
use Rattle.all_matches.proofs.PlainOperators.{plain-positive}
use Rattle.match_sets.specs.Alike.{is_left, Alike}
use Rattle.match_sets.specs.Numbers.{renumbered_hit, renumbered_match, renumbered, are_in_turn, has_numbers, is_between, keeps_turns}
use Rattle.match_sets.specs.United.{IsNumbered, IsOnePhrase, IsUnited, one_phrase, one_side, both_sides, without_side, of_negated, of_filtered, choice_hits, is_choice, with_number}
use Rattle.match_sets.proofs.AlikeLemmas.{alike_and, alike_filtered, alike_mild_not, alike_not, alike_or, alike_satisfied}
use Rattle.match_sets.proofs.NumberedFilters.{filtered_same}
use Rattle.match_sets.proofs.NumberedMatches.{and_same, mild_not_same, not_same, or_same}
use Rattle.match_sets.proofs.TestedMatches.{all_append, all_filtered, all_mild_not, all_pairs, all_weaker, no_includes, numbers_both, numbers_not, numbers_through, turns_alone, turns_and, turns_through}

-- ---- what is negated stays where it was

choice_positive : (operator : Operator) → is_choice operator ≡ true → without_negation operator ≡ true
choice_positive (phrase found) h = refl
choice_positive (either left right) h = let parts = and_parts (is_choice left) (is_choice right) h in and_from (without_negation left) (without_negation right) (choice_positive left parts.0) (choice_positive right parts.1)
choice_positive (together left right) h = cc
choice_positive (apart left right) h = cc
choice_positive (negated operand) h = cc
choice_positive (through_filter operand kind) h = cc

without_same : (first next : ℕ) (operator united : Operator) → IsUnited first next operator united → without_negation united ≡ without_negation operator
without_same first next operator united (one_phrase _ choice found one) = sym (choice_positive choice one.of_phrases)
without_same first next operator united (one_side _ middle _ left right a b one two) = λ i. without_same first middle left a one i && without_same middle next right b two i
without_same first next operator united (both_sides _ middle _ left right a b one two) = λ i. without_same first middle left a one i && without_same middle next right b two i
without_same first next operator united (without_side _ middle _ left right a b one two) = λ i. without_same first middle left a one i && without_same middle next right b two i
without_same first next operator united (of_negated _ _ operand a one) = refl
without_same first next operator united (of_filtered _ _ operand a kind one) = without_same first next operand a one

pub plain_same : (first next : ℕ) (operator united : Operator) → IsUnited first next operator united → is_plain united ≡ is_plain operator
plain_same first next operator united (one_phrase _ choice found one) = sym (plain-positive choice (choice_positive choice one.of_phrases))
plain_same first next operator united (one_side _ middle _ left right a b one two) = λ i. plain_same first middle left a one i && plain_same middle next right b two i
plain_same first next operator united (both_sides _ middle _ left right a b one two) = λ i. plain_same first middle left a one i && plain_same middle next right b two i
plain_same first next operator united (without_side _ middle _ left right a b one two) = λ i. without_same first middle left a one i && without_same middle next right b two i
plain_same first next operator united (of_negated _ _ operand a one) = without_same first next operand a one
plain_same first next operator united (of_filtered _ _ operand a kind one) = plain_same first next operand a one

-- ---- numbers

in_left : (first middle next n : ℕ) → nat_le middle next ≡ true → is_between first middle n ≡ true → is_between first next n ≡ true
in_left first middle next n rise h = grind (arith, nat_tests)

in_right : (first middle next n : ℕ) → nat_le first middle ≡ true → is_between middle next n ≡ true → is_between first next n ≡ true
in_right first middle next n rise h = grind (arith, nat_tests)

not_left : (middle next n : ℕ) → is_between middle next n ≡ true → nat_lt n middle ≡ false
not_left middle next n h = grind (arith, nat_tests)

right_of : (first middle next n : ℕ) → is_between first next n ≡ true → nat_lt n middle ≡ false → is_between middle next n ≡ true
right_of first middle next n h e = grind (arith, nat_tests)

below : (first middle next m n : ℕ) → is_between first middle m ≡ true → is_between middle next n ≡ true → nat_lt m n ≡ true
below first middle next m n left right = grind (arith, nat_tests)

two_rise : (first middle next : ℕ) → nat_le first middle ≡ true → nat_le middle next ≡ true → nat_le first next ≡ true
two_rise first middle next one two = grind (arith, nat_tests)

rises : (first next : ℕ) (operator : Operator) → IsNumbered first next operator → nat_le first next ≡ true
rises first next (phrase found) is = is.0
rises first next (either left right) is = two_rise first is.0 next (rises first is.0 left is.1) (rises is.0 next right is.2)
rises first next (together left right) is = two_rise first is.0 next (rises first is.0 left is.1) (rises is.0 next right is.2)
rises first next (apart left right) is = two_rise first is.0 next (rises first is.0 left is.1) (rises is.0 next right is.2)
rises first next (negated operand) is = rises first next operand is
rises first next (through_filter operand kind) is = rises first next operand is

own_number : (first : ℕ) → is_between first (suc first) first ≡ true
own_number first = grind (arith, nat_tests)

one_more : (first : ℕ) → nat_le first (suc first) ≡ true
one_more first = grind (arith, nat_tests)

united_rises : (first next : ℕ) (operator united : Operator) → IsUnited first next operator united → nat_le first next ≡ true
united_rises first next operator united (one_phrase _ choice found one) = one_more first
united_rises first next operator united (one_side _ middle _ left right a b one two) = two_rise first middle next (united_rises first middle left a one) (united_rises middle next right b two)
united_rises first next operator united (both_sides _ middle _ left right a b one two) = two_rise first middle next (united_rises first middle left a one) (united_rises middle next right b two)
united_rises first next operator united (without_side _ middle _ left right a b one two) = two_rise first middle next (united_rises first middle left a one) (united_rises middle next right b two)
united_rises first next operator united (of_negated _ _ operand a one) = united_rises first next operand a one
united_rises first next operator united (of_filtered _ _ operand a kind one) = united_rises first next operand a one

choice_numbers : (first next : ℕ) (choice : Operator) → is_choice choice ≡ true → IsNumbered first next choice → list_all (λ hit. is_between first next hit.query) (choice_hits choice) ≡ true
choice_numbers first next (phrase found) h is = is.1
choice_numbers first next (either left right) h is =
    let parts = and_parts (is_choice left) (is_choice right) h in
    let middle = is.0 in
    all_append (λ hit. is_between first next hit.query) (choice_hits left) (choice_hits right)
    (all_weaker (λ hit. is_between first middle hit.query) (λ hit. is_between first next hit.query) (λ hit. in_left first middle next hit.query (rises middle next right is.2)) (choice_hits left) (choice_numbers first middle left parts.0 is.1))
    (all_weaker (λ hit. is_between middle next hit.query) (λ hit. is_between first next hit.query) (λ hit. in_right first middle next hit.query (rises first middle left is.1)) (choice_hits right) (choice_numbers middle next right parts.1 is.2))
choice_numbers first next (together left right) h is = cc
choice_numbers first next (apart left right) h is = cc
choice_numbers first next (negated operand) h is = cc
choice_numbers first next (through_filter operand kind) h is = cc

-- two ways to number that agree on the numbers of Matches
module _ (test : ℕ → Bool) (f g : ℕ → ℕ) (same : (n : ℕ) → test n ≡ true → f n ≡ g n) where
  hits_again : (hits : List Hit) → list_all (λ hit. test hit.query) hits ≡ true → map (renumbered_hit f) hits ≡ map (renumbered_hit g) hits
  hits_again [] h = refl
  hits_again (hit ∷ rest) h =
      let parts = and_parts (test hit.query) (list_all (λ x. test x.query) rest) h in
      λ i. record hit { query = same hit.query parts.0 i } ∷ hits_again rest parts.1 i

  again : (ms : List Match) → list_all (has_numbers test) ms ≡ true → renumbered f ms ≡ renumbered g ms
  again [] h = refl
  again (m ∷ rest) h =
      let parts = and_parts (has_numbers test m) (list_all (has_numbers test) rest) h in
      let sides = and_parts (list_all (λ x. test x.query) m.includes) (list_all (λ x. test x.query) m.excludes) parts.0 in
      λ i. record { includes = hits_again m.includes sides.0 i; excludes = hits_again m.excludes sides.1 i } ∷ again rest parts.1 i

  turn_again : (a b : Hit) → test a.query ≡ true → test b.query ≡ true → are_in_turn f a b ≡ are_in_turn g a b
  turn_again a b ha hb =
      λ i. (nat_lt a.query b.query && nat_lt (same a.query ha i) (same b.query hb i)) || (nat_lt b.query a.query && nat_lt (same b.query hb i) (same a.query ha i))

  row_again : (hit : Hit) (hits : List Hit) → test hit.query ≡ true → list_all (λ x. test x.query) hits ≡ true → list_all (are_in_turn f hit) hits ≡ list_all (are_in_turn g hit) hits
  row_again hit [] one h = refl
  row_again hit (other ∷ rest) one h =
      let parts = and_parts (test other.query) (list_all (λ x. test x.query) rest) h in
      λ i. turn_again hit other one parts.0 i && row_again hit rest one parts.1 i

  two_again : (hits : List Hit) → list_all (λ x. test x.query) hits ≡ true → every_two (are_in_turn f) hits ≡ every_two (are_in_turn g) hits
  two_again [] h = refl
  two_again (hit ∷ rest) h = let parts = and_parts (test hit.query) (list_all (λ x. test x.query) rest) h in λ i. row_again hit rest parts.0 parts.1 i && two_again rest parts.1 i

  rows_again : (hits includes : List Hit) → list_all (λ x. test x.query) hits ≡ true → list_all (λ x. test x.query) includes ≡ true
      → list_all (λ hit. list_all (are_in_turn f hit) includes) hits ≡ list_all (λ hit. list_all (are_in_turn g hit) includes) hits
  rows_again [] includes h own = refl
  rows_again (hit ∷ rest) includes h own = let parts = and_parts (test hit.query) (list_all (λ x. test x.query) rest) h in λ i. row_again hit includes parts.0 own i && rows_again rest includes parts.1 own i

  turns_again : (ms : List Match) → list_all (has_numbers test) ms ≡ true → list_all (keeps_turns f) ms ≡ list_all (keeps_turns g) ms
  turns_again [] h = refl
  turns_again (m ∷ rest) h =
      let parts = and_parts (has_numbers test m) (list_all (has_numbers test) rest) h in
      let sides = and_parts (list_all (λ x. test x.query) m.includes) (list_all (λ x. test x.query) m.excludes) parts.0 in
      λ i. (two_again m.includes sides.0 i && rows_again m.excludes m.includes sides.1 sides.0 i) && turns_again rest parts.1 i

-- ---- the Matches of an operator, with other numbers, are alike those of the united one

record Renumbers (item : Span) (first next start end : ℕ) (operator united : Operator) : Type 0 where
  number : ℕ → ℕ
  within : (n : ℕ) → is_between first next n ≡ true → is_between start end (number n) ≡ true
  numbers : list_all (has_numbers (is_between first next)) (matches_of item operator) ≡ true
  turns : list_all (keeps_turns number) (matches_of item operator) ≡ true
  alike : Alike (renumbered number (matches_of item operator)) (matches_of item united)

choice_matches : (item : Span) (choice : Operator) → is_choice choice ≡ true → matches_of item choice ≡ map match_of_hit (choice_hits choice)
unfolding matches_of
choice_matches item (phrase found) h = refl
choice_matches item (either left right) h =
    let parts = and_parts (is_choice left) (is_choice right) h in
    (λ i. choice_matches item left parts.0 i ++ choice_matches item right parts.1 i) ∙ sym (map-append match_of_hit (choice_hits left) (choice_hits right))
choice_matches item (together left right) h = cc
choice_matches item (apart left right) h = cc
choice_matches item (negated operand) h = cc
choice_matches item (through_filter operand kind) h = cc

-- numbers that pass one test pass a weaker one
wider : (p q : ℕ → Bool) → ((n : ℕ) → p n ≡ true → q n ≡ true) → (ms : List Match) → list_all (has_numbers p) ms ≡ true → list_all (has_numbers q) ms ≡ true
wider p q weaker ms h = all_weaker (has_numbers p) (has_numbers q) (λ m e.
    let sides = and_parts (list_all (λ hit. p hit.query) m.includes) (list_all (λ hit. p hit.query) m.excludes) e in
    and_from (list_all (λ hit. q hit.query) m.includes) (list_all (λ hit. q hit.query) m.excludes) (hits_wider m.includes sides.0) (hits_wider m.excludes sides.1)) ms h
  where
    hits_wider : (hits : List Hit) → list_all (λ hit. p hit.query) hits ≡ true → list_all (λ hit. q hit.query) hits ≡ true
    hits_wider hits e = all_weaker (λ hit. p hit.query) (λ hit. q hit.query) (λ hit. weaker hit.query) hits e

-- excludes with other numbers are as many
clean_one : (number : ℕ → ℕ) (m : Match) → is_clean (renumbered_match number m) ≡ is_clean m
clean_one number m = by_excludes m.includes m.excludes
  where
    by_excludes : (includes excludes : List Hit) → is_clean (renumbered_match number (record { includes = includes; excludes = excludes })) ≡ is_clean (record { includes = includes; excludes = excludes })
    by_excludes includes [] = refl
    by_excludes includes (hit ∷ rest) = refl

clean_again : (number : ℕ → ℕ) (ms : List Match) → list_all is_clean ms ≡ true → list_all is_clean (renumbered number ms) ≡ true
clean_again number ms h = list_all-map is_clean (renumbered_match number) ms ∙ all_weaker is_clean (λ m. is_clean (renumbered_match number m)) (λ m e. clean_one number m ∙ e) ms h

satisfied_again : (number : ℕ → ℕ) (ms : List Match) → satisfied (renumbered number ms) ≡ satisfied ms
satisfied_again number ms = list_any-map is_clean (renumbered_match number) ms ∙ list_any-alike (λ m. is_clean (renumbered_match number m)) is_clean ms (clean_one number)

-- the numbers and turns of the Matches of hits
single_numbers : (test : ℕ → Bool) (hits : List Hit) → list_all (λ hit. test hit.query) hits ≡ true → list_all (has_numbers test) (map match_of_hit hits) ≡ true
single_numbers test [] h = refl
single_numbers test (hit ∷ rest) h =
    let parts = and_parts (test hit.query) (list_all (λ x. test x.query) rest) h in
    and_from ((test hit.query && true) && true) (list_all (has_numbers test) (map match_of_hit rest)) (and_from (test hit.query && true) true (and_from (test hit.query) true parts.0 refl) refl) (single_numbers test rest parts.1)

single_turns : (number : ℕ → ℕ) (hits : List Hit) → list_all (keeps_turns number) (map match_of_hit hits) ≡ true
single_turns number [] = refl
single_turns number (hit ∷ rest) = single_turns number rest

single_again : (number : ℕ → ℕ) (hits : List Hit) → renumbered number (map match_of_hit hits) ≡ map match_of_hit (map (renumbered_hit number) hits)
single_again number [] = refl
single_again number (hit ∷ rest) = ap (λ ms. renumbered_match number (match_of_hit hit) ∷ ms) (single_again number rest)

module _ (item : Span) where
  phrase_again : (first next start : ℕ) (choice : Operator) (found : List Hit) → IsNumbered first next choice → IsOnePhrase start choice found → Renumbers item first next start (suc start) choice (phrase found)
  unfolding matches_of
  phrase_again first next start choice found is one =
      let matches = choice_matches item choice one.of_phrases in
      record {
        number = λ n. start;
        within = λ n h. own_number start;
        numbers = ap (list_all (has_numbers (is_between first next))) matches ∙ single_numbers (is_between first next) (choice_hits choice) (choice_numbers first next choice one.of_phrases is);
        turns = ap (list_all (keeps_turns (λ n. start))) matches ∙ single_turns (λ n. start) (choice_hits choice);
        alike = λ tests.
            ap (λ ms. list_any (is_left tests) (renumbered (λ n. start) ms)) matches
            ∙ ap (list_any (is_left tests)) (single_again (λ n. start) (choice_hits choice))
            ∙ list_any-map (is_left tests) match_of_hit (map (with_number start) (choice_hits choice))
            ∙ one.same_hits (λ hit. is_left tests (match_of_hit hit))
            ∙ sym (list_any-map (is_left tests) match_of_hit found);
      }

  -- two sides, of which those numbers below the middle are the left one's
  module _ (first middle next start between end : ℕ) (left right a b : Operator) (own : IsNumbered first middle left) (other : IsNumbered middle next right) (new_low : nat_le start between ≡ true) (new_high : nat_le between end ≡ true) (one : Renumbers item first middle start between left a) (two : Renumbers item middle next between end right b) where
    abbrev low : nat_le first middle ≡ true
    low = rises first middle left own

    abbrev high : nat_le middle next ≡ true
    high = rises middle next right other

    abbrev number : ℕ → ℕ
    number n = cond (nat_lt n middle) (one.number n) (two.number n)

    abbrev lefts : List Match
    lefts = matches_of item left

    abbrev rights : List Match
    rights = matches_of item right

    on_left : (n : ℕ) → is_between first middle n ≡ true → number n ≡ one.number n
    on_left n h = ap (λ t. cond t (one.number n) (two.number n)) (and_parts (nat_le first n) (nat_lt n middle) h).1

    on_right : (n : ℕ) → is_between middle next n ≡ true → number n ≡ two.number n
    on_right n h = ap (λ t. cond t (one.number n) (two.number n)) (not_left middle next n h)

    stays_within : (n : ℕ) → is_between first next n ≡ true → is_between start end (number n) ≡ true
    stays_within n h = by_side (nat_lt n middle) refl
      where
        by_side : (t : Bool) → nat_lt n middle ≡ t → is_between start end (cond t (one.number n) (two.number n)) ≡ true
        by_side true e = in_left start between end (one.number n) new_high (one.within n (and_from (nat_le first n) (nat_lt n middle) (and_parts (nat_le first n) (nat_lt n next) h).0 e))
        by_side false e = in_right start between end (two.number n) new_low (two.within n (right_of first middle next n h e))

    left_numbers : list_all (has_numbers (is_between first next)) lefts ≡ true
    left_numbers = wider (is_between first middle) (is_between first next) (λ n. in_left first middle next n high) lefts one.numbers

    right_numbers : list_all (has_numbers (is_between first next)) rights ≡ true
    right_numbers = wider (is_between middle next) (is_between first next) (λ n. in_right first middle next n low) rights two.numbers

    left_turns : list_all (keeps_turns number) lefts ≡ true
    left_turns = turns_again (is_between first middle) number one.number on_left lefts one.numbers ∙ one.turns

    right_turns : list_all (keeps_turns number) rights ≡ true
    right_turns = turns_again (is_between middle next) number two.number on_right rights two.numbers ∙ two.turns

    left_again : renumbered number lefts ≡ renumbered one.number lefts
    left_again = again (is_between first middle) number one.number on_left lefts one.numbers

    right_again : renumbered number rights ≡ renumbered two.number rights
    right_again = again (is_between middle next) number two.number on_right rights two.numbers

    left_between : (n : ℕ) → is_between first middle n ≡ true → is_between start between (number n) ≡ true
    left_between n h = ap (is_between start between) (on_left n h) ∙ one.within n h

    right_between : (n : ℕ) → is_between middle next n ≡ true → is_between between end (number n) ≡ true
    right_between n h = ap (is_between between end) (on_right n h) ∙ two.within n h

    in_turn : (x y : Hit) → is_between first middle x.query ≡ true → is_between middle next y.query ≡ true → are_in_turn number x y ≡ true
    in_turn x y hx hy =
        λ i. (below first middle next x.query y.query hx hy i && below start between end (number x.query) (number y.query) (left_between x.query hx) (right_between y.query hy) i)
        || (nat_lt y.query x.query && nat_lt (number y.query) (number x.query))

    turned : (x y : Hit) → is_between middle next x.query ≡ true → is_between first middle y.query ≡ true → are_in_turn number x y ≡ true
    turned x y hx hy = or_comm (nat_lt x.query y.query && nat_lt (number x.query) (number y.query)) (nat_lt y.query x.query && nat_lt (number y.query) (number x.query)) ∙ in_turn y x hy hx

    or_again : Renumbers item first next start end (either left right) (either a b)
    unfolding matches_of
    or_again = record {
      number = number;
      within = stays_within;
      numbers = all_append (has_numbers (is_between first next)) lefts rights left_numbers right_numbers;
      turns = all_append (keeps_turns number) lefts rights left_turns right_turns;
      alike = λ tests.
          ap (list_any (is_left tests)) (or_same number lefts rights ∙ (λ i. ft_or (left_again i) (right_again i)))
          ∙ alike_or (renumbered one.number lefts) (matches_of item a) (renumbered two.number rights) (matches_of item b) one.alike two.alike tests;
    }

    and_again : Renumbers item first next start end (together left right) (together a b)
    unfolding matches_of
    and_again = record {
      number = number;
      within = stays_within;
      numbers = all_pairs (has_numbers (is_between first next)) (has_numbers (is_between first next)) (has_numbers (is_between first next)) both (numbers_both (is_between first next)) lefts rights left_numbers right_numbers;
      turns = turns_and number (is_between first middle) (is_between middle next) in_turn turned lefts rights one.numbers two.numbers left_turns right_turns;
      alike = λ tests.
          ap (list_any (is_left tests)) (and_same number lefts rights ∙ (λ i. ft_and (left_again i) (right_again i)))
          ∙ alike_and (renumbered one.number lefts) (matches_of item a) (renumbered two.number rights) (matches_of item b) one.alike two.alike tests;
    }

    mild_not_again : Renumbers item first next start end (apart left right) (apart a b)
    unfolding matches_of
    mild_not_again = record {
      number = number;
      within = stays_within;
      numbers = all_mild_not (has_numbers (is_between first next)) lefts rights left_numbers;
      turns = all_mild_not (keeps_turns number) lefts rights left_turns;
      alike = λ tests.
          ap (list_any (is_left tests)) (mild_not_same number lefts rights ∙ (λ i. ft_mild_not (left_again i) (right_again i)))
          ∙ alike_mild_not (renumbered one.number lefts) (matches_of item a) (renumbered two.number rights) (matches_of item b) one.alike two.alike tests;
    }

  -- an operator without negated ones has no excludes
  clean_matches : (operator : Operator) → without_negation operator ≡ true → list_all is_clean (matches_of item operator) ≡ true
  clean_matches operator h = ap (list_all is_clean) (bare_matches item operator h) ∙ bare_clean (ways_of item operator)
    where
      bare_clean : (ways : List Way) → list_all is_clean (map bare_match ways) ≡ true
      bare_clean [] = refl
      bare_clean (way ∷ rest) = bare_clean rest

  negated_again : (first next start end : ℕ) (operand a : Operator) → without_negation operand ≡ true → without_negation a ≡ true → Renumbers item first next start end operand a → Renumbers item first next start end (negated operand) (negated a)
  unfolding matches_of
  negated_again first next start end operand a bare clean one =
      let matches = matches_of item operand in
      record {
        number = one.number;
        within = one.within;
        numbers = numbers_not (is_between first next) matches one.numbers;
        turns = all_weaker (λ m. is_empty m.includes) (keeps_turns one.number) (turns_alone one.number) (ft_not matches) (no_includes matches (clean_matches operand bare));
        alike = λ tests.
            ap (list_any (is_left tests)) (not_same one.number matches)
            ∙ alike_not (renumbered one.number matches) (matches_of item a) (clean_again one.number matches (clean_matches operand bare)) (clean_matches a clean) one.alike tests;
      }

  filtered_again : (first next start end : ℕ) (operand a : Operator) (kind : Filter) → Renumbers item first next start end operand a → Renumbers item first next start end (through_filter operand kind) (through_filter a kind)
  unfolding matches_of
  filtered_again first next start end operand a kind one =
      let matches = matches_of item operand in
      record {
        number = one.number;
        within = one.within;
        numbers = all_filtered (has_numbers (is_between first next)) kind item (numbers_through (is_between first next) kind) matches one.numbers;
        turns = all_filtered (keeps_turns one.number) kind item (turns_through one.number kind) matches one.turns;
        alike = λ tests.
            ap (list_any (is_left tests)) (sym (filtered_same one.number kind item matches one.turns))
            ∙ alike_filtered kind item (renumbered one.number matches) (matches_of item a) one.alike tests;
      }

  united_again : (first next start end : ℕ) (operator united : Operator) → IsNumbered first next operator → IsUnited start end operator united → is_plain operator ≡ true → Renumbers item first next start end operator united
  united_again first next start end operator united is (one_phrase _ choice found one) plain = phrase_again first next start choice found is one
  united_again first next start end operator united is (one_side _ between _ left right a b one two) plain =
      let parts = and_parts (is_plain left) (is_plain right) plain in
      or_again first is.0 next start between end left right a b is.1 is.2 (united_rises start between left a one) (united_rises between end right b two)
      (united_again first is.0 start between left a is.1 one parts.0) (united_again is.0 next between end right b is.2 two parts.1)
  united_again first next start end operator united is (both_sides _ between _ left right a b one two) plain =
      let parts = and_parts (is_plain left) (is_plain right) plain in
      and_again first is.0 next start between end left right a b is.1 is.2 (united_rises start between left a one) (united_rises between end right b two)
      (united_again first is.0 start between left a is.1 one parts.0) (united_again is.0 next between end right b is.2 two parts.1)
  united_again first next start end operator united is (without_side _ between _ left right a b one two) plain =
      let parts = and_parts (without_negation left) (without_negation right) plain in
      mild_not_again first is.0 next start between end left right a b is.1 is.2 (united_rises start between left a one) (united_rises between end right b two)
      (united_again first is.0 start between left a is.1 one (plain-positive left parts.0)) (united_again is.0 next between end right b is.2 two (plain-positive right parts.1))
  united_again first next start end operator united is (of_negated _ _ operand a one) plain =
      negated_again first next start end operand a plain (without_same start end operand a one ∙ plain) (united_again first next start end operand a is one (plain-positive operand plain))
  united_again first next start end operator united is (of_filtered _ _ operand a kind one) plain = filtered_again first next start end operand a kind (united_again first next start end operand a is one plain)

  pub satisfied_same : (first next start end : ℕ) (operator united : Operator) → IsNumbered first next operator → IsUnited start end operator united → is_plain operator ≡ true
      → satisfied (matches_of item united) ≡ satisfied (matches_of item operator)
  satisfied_same first next start end operator united is one plain =
      let new = united_again first next start end operator united is one plain in
      sym (alike_satisfied (renumbered new.number (matches_of item operator)) (matches_of item united) new.alike) ∙ satisfied_again new.number (matches_of item operator)
