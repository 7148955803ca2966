-- What passes a test in each hit, in each Match, and what is made of such Matches by Or, And, Not, mild not and filters.
use Rattle.std.proofs.Common.{◌≡◌, refl, ◌∙◌, ℕ, List, [], ◌∷◌, ◌++◌, Bool, true, false, ◌&&◌, cond}
use Rattle.std.specs.Prelude.{map, filter, flat_map, Option, option_to_list}
use Rattle.std.specs.List.{list_any, list_all}
use Rattle.std.proofs.lemmas.Bool.{and_from, and_parts}
use Rattle.std.proofs.lemmas.List.Elements.{All-filter, All-weaker}
use Rattle.std.proofs.lemmas.List.Folds.{list_all-append, list_all-map}
use Rattle.std.proofs.lemmas.List.Sums.{AllPass-from_list_all, list_all-from_AllPass}
use Rattle.ft_base.specs.Hits.{every_two}
use Rattle.ft_base.specs.Lists.{is_empty, is_not_empty}
use Rattle.ft_base.specs.declared.filter.Filter.{Filter}
use Rattle.ft_base.specs.declared.filter.Filter.TheVariants as F
use Rattle.ft_base.specs.declared.hit.Hit.{Hit}
use Rattle.ft_base.specs.declared.hit.Match.{Match}
use Rattle.ft_base.specs.declared.span.Span.{Span}
use Rattle.all_matches.specs.declared.window.Window.{Window}
use Rattle.all_matches.specs.Boolean.{both, with_include, with_exclude, ft_and, ft_not, is_clean}
use Rattle.all_matches.specs.Filters.{passes, choices, keeps, after, through, filtered_match, ft_filtered}
use Rattle.all_matches.specs.Join.{join}
use Rattle.all_matches.specs.MildNot.{stands_out, ft_mild_not}
use Rattle.match_sets.specs.Numbers.{are_in_turn, has_numbers, keeps_turns}

-- ---- lists

pub all_weaker : {X : Type 0} (p q : X → Bool) → ((x : X) → p x ≡ true → q x ≡ true) → (xs : List X) → list_all p xs ≡ true → list_all q xs ≡ true
all_weaker p q weaker xs h = list_all-from_AllPass q xs (All-weaker (λ x. p x ≡ true) (λ x. q x ≡ true) weaker xs (AllPass-from_list_all p xs h))

pub all_filter : {X : Type 0} (p q : X → Bool) (xs : List X) → list_all p xs ≡ true → list_all p (filter q xs) ≡ true
all_filter p q xs h = list_all-from_AllPass p (filter q xs) (All-filter q (λ x. p x ≡ true) xs (AllPass-from_list_all p xs h))

pub all_append : {X : Type 0} (p : X → Bool) (xs ys : List X) → list_all p xs ≡ true → list_all p ys ≡ true → list_all p (xs ++ ys) ≡ true
all_append p xs ys hx hy = list_all-append p xs ys ∙ and_from (list_all p xs) (list_all p ys) hx hy

pub all_true : {X : Type 0} (xs : List X) → list_all (λ x. true) xs ≡ true
all_true [] = refl
all_true (x ∷ xs) = all_true xs

-- what is made of each pair
module _ {X Y Z : Type 0} (p : X → Bool) (q : Y → Bool) (r : Z → Bool) (op : X → Y → Z) (made : (x : X) (y : Y) → p x ≡ true → q y ≡ true → r (op x y) ≡ true) where
  pub all_pairs : (xs : List X) (ys : List Y) → list_all p xs ≡ true → list_all q ys ≡ true → list_all r (flat_map (λ x. map (op x) ys) xs) ≡ true
  all_pairs [] ys hx hy = refl
  all_pairs (x ∷ xs) ys hx hy =
      let parts = and_parts (p x) (list_all p xs) hx in
      all_append r (map (op x) ys) (flat_map (λ z. map (op z) ys) xs) (list_all-map r (op x) ys ∙ all_weaker q (λ y. r (op x y)) (λ y h. made x y parts.0 h) ys hy) (all_pairs xs ys parts.1 hy)

-- ---- mild not and filters leave Matches, with less

pub all_mild_not : (p : Match → Bool) (left right : List Match) → list_all p left ≡ true → list_all p (ft_mild_not left right) ≡ true
all_mild_not p left right h = by_test (list_any (λ m. is_not_empty m.includes) right)
  where
    by_test : (b : Bool) → list_all p (cond b (filter (λ a. list_all (λ other. stands_out a.includes other.includes) right) left) left) ≡ true
    by_test true = all_filter p (λ a. list_all (λ other. stands_out a.includes other.includes) right) left h
    by_test false = h

module _ (p : Match → Bool) (kind : Filter) (item : Span) (kept : (m : Match) (choice : Option Window) → p m ≡ true → p (through kind m choice) ≡ true) where
  by_choices : (m : Match) (choices : List (Option Window)) → p m ≡ true → list_all p (map (through kind m) choices) ≡ true
  by_choices m [] h = refl
  by_choices m (choice ∷ rest) h = and_from (p (through kind m choice)) (list_all p (map (through kind m) rest)) (kept m choice h) (by_choices m rest h)

  pub all_filtered : (ms : List Match) → list_all p ms ≡ true → list_all p (ft_filtered kind item ms) ≡ true
  all_filtered [] h = refl
  all_filtered (m ∷ rest) h =
      let parts = and_parts (p m) (list_all p rest) h in
      all_append p (filtered_match kind item m) (ft_filtered kind item rest) (by_test (passes kind m.includes item) m parts.0) (all_filtered rest parts.1)
    where
      by_test : (b : Bool) (m : Match) → p m ≡ true → list_all p (cond b (map (through kind m) (choices kind m.includes)) []) ≡ true
      by_test true m h = by_choices m (choices kind m.includes) h
      by_test false m h = refl

-- the includes after a filter are those before it, or the joined hit
after_by : (kind : Filter) (includes : List Hit) (p : List Hit → Bool) → p includes ≡ true → p (option_to_list (join includes)) ≡ true → p (after kind includes) ≡ true
after_by F.Ordered includes p same joined = same
after_by (F.Window size unit) includes p same joined = joined
after_by (F.Distance range unit) includes p same joined = joined
after_by F.SameSentence includes p same joined = same
after_by F.SameParagraph includes p same joined = same
after_by F.DifferentSentence includes p same joined = same
after_by F.DifferentParagraph includes p same joined = same
after_by F.AtStart includes p same joined = same
after_by F.AtEnd includes p same joined = same
after_by F.EntireContent includes p same joined = same

-- ---- numbers of hits

module _ (test : ℕ → Bool) where
  abbrev passed : Hit → Bool
  passed hit = test hit.query

  passed_joined : (includes : List Hit) → list_all passed includes ≡ true → list_all passed (option_to_list (join includes)) ≡ true
  passed_joined [] h = refl
  passed_joined (hit ∷ rest) h = and_from (passed hit) true (and_parts (passed hit) (list_all passed rest) h).0 refl

  abbrev sides : (m : Match) → has_numbers test m ≡ true → (list_all passed m.includes ≡ true) × (list_all passed m.excludes ≡ true)
  sides m h = and_parts (list_all passed m.includes) (list_all passed m.excludes) h

  pub numbers_both : (a b : Match) → has_numbers test a ≡ true → has_numbers test b ≡ true → has_numbers test (both a b) ≡ true
  numbers_both a b one two =
      and_from (list_all passed (a.includes ++ b.includes)) (list_all passed (a.excludes ++ b.excludes)) (all_append passed a.includes b.includes (sides a one).0 (sides b two).0)
      (all_append passed a.excludes b.excludes (sides a one).1 (sides b two).1)

  numbers_exclude : (hit : Hit) (m : Match) → passed hit ≡ true → has_numbers test m ≡ true → has_numbers test (with_exclude hit m) ≡ true
  numbers_exclude hit m one two =
      and_from (list_all passed m.includes) (passed hit && list_all passed m.excludes) (sides m two).0 (and_from (passed hit) (list_all passed m.excludes) one (sides m two).1)

  numbers_include : (hit : Hit) (m : Match) → passed hit ≡ true → has_numbers test m ≡ true → has_numbers test (with_include hit m) ≡ true
  numbers_include hit m one two =
      and_from (passed hit && list_all passed m.includes) (list_all passed m.excludes) (and_from (passed hit) (list_all passed m.includes) one (sides m two).0) (sides m two).1

  pub numbers_not : (ms : List Match) → list_all (has_numbers test) ms ≡ true → list_all (has_numbers test) (ft_not ms) ≡ true
  numbers_not [] h = refl
  numbers_not (m ∷ rest) h =
      let parts = and_parts (has_numbers test m) (list_all (has_numbers test) rest) h in
      all_append (has_numbers test) (flat_map (λ hit. map (with_exclude hit) (ft_not rest)) m.includes) (flat_map (λ hit. map (with_include hit) (ft_not rest)) m.excludes)
      (all_pairs passed (has_numbers test) (has_numbers test) with_exclude numbers_exclude m.includes (ft_not rest) (sides m parts.0).0 (numbers_not rest parts.1))
      (all_pairs passed (has_numbers test) (has_numbers test) with_include numbers_include m.excludes (ft_not rest) (sides m parts.0).1 (numbers_not rest parts.1))

  pub numbers_through : (kind : Filter) (m : Match) (choice : Option Window) → has_numbers test m ≡ true → has_numbers test (through kind m choice) ≡ true
  numbers_through kind m choice h =
      and_from (list_all passed (after kind m.includes)) (list_all passed (filter (keeps kind m.includes choice) m.excludes))
      (after_by kind m.includes (list_all passed) (sides m h).0 (passed_joined m.includes (sides m h).0)) (all_filter passed (keeps kind m.includes choice) m.excludes (sides m h).1)

-- ---- hits in turn

-- Not of Matches without excludes has no includes
pub no_includes : (ms : List Match) → list_all is_clean ms ≡ true → list_all (λ m. is_empty m.includes) (ft_not ms) ≡ true
no_includes [] clean = refl
no_includes (m ∷ rest) clean =
    let parts = and_parts (is_clean m) (list_all is_clean rest) clean in
    all_append (λ n. is_empty n.includes) (flat_map (λ hit. map (with_exclude hit) (ft_not rest)) m.includes) (flat_map (λ hit. map (with_include hit) (ft_not rest)) m.excludes)
    (all_pairs (λ hit. true) (λ n. is_empty n.includes) (λ n. is_empty n.includes) with_exclude (λ hit n one two. two) m.includes (ft_not rest) (all_true m.includes) (no_includes rest parts.1))
    (none_turned m.includes m.excludes parts.0)
  where
    none_turned : (includes excludes : List Hit) → is_clean (record { includes = includes; excludes = excludes }) ≡ true
        → list_all (λ n. is_empty n.includes) (flat_map (λ hit. map (with_include hit) (ft_not rest)) excludes) ≡ true
    none_turned includes [] h = refl
    none_turned includes (hit ∷ more) h = cc

module _ (number : ℕ → ℕ) where
  abbrev turn : Hit → Hit → Bool
  turn = are_in_turn number

  abbrev turn_sides : (m : Match) → keeps_turns number m ≡ true → (every_two turn m.includes ≡ true) × (list_all (λ hit. list_all (turn hit) m.includes) m.excludes ≡ true)
  turn_sides m h = and_parts (every_two turn m.includes) (list_all (λ hit. list_all (turn hit) m.includes) m.excludes) h

  pub turns_alone : (m : Match) → is_empty m.includes ≡ true → keeps_turns number m ≡ true
  turns_alone m h = by_includes m.includes m.excludes h
    where
      by_includes : (includes excludes : List Hit) → is_empty includes ≡ true → (every_two turn includes && list_all (λ hit. list_all (turn hit) includes) excludes) ≡ true
      by_includes [] excludes e = all_true excludes
      by_includes (hit ∷ rest) excludes e = cc

  one_joined : (includes : List Hit) → every_two turn (option_to_list (join includes)) ≡ true
  one_joined [] = refl
  one_joined (hit ∷ rest) = refl

  turn_joined : (hit : Hit) (includes : List Hit) → list_all (turn hit) includes ≡ true → list_all (turn hit) (option_to_list (join includes)) ≡ true
  turn_joined hit [] h = refl
  turn_joined hit (first ∷ rest) h = and_from (turn hit first) true (and_parts (turn hit first) (list_all (turn hit) rest) h).0 refl

  pub turns_through : (kind : Filter) (m : Match) (choice : Option Window) → keeps_turns number m ≡ true → keeps_turns number (through kind m choice) ≡ true
  turns_through kind m choice h =
      let left = filter (keeps kind m.includes choice) m.excludes in
      let kept = all_filter (λ hit. list_all (turn hit) m.includes) (keeps kind m.includes choice) m.excludes (turn_sides m h).1 in
      and_from (every_two turn (after kind m.includes)) (list_all (λ hit. list_all (turn hit) (after kind m.includes)) left)
      (after_by kind m.includes (every_two turn) (turn_sides m h).0 (one_joined m.includes))
      (after_by kind m.includes (λ includes. list_all (λ hit. list_all (turn hit) includes) left) kept
      (all_weaker (λ hit. list_all (turn hit) m.includes) (λ hit. list_all (turn hit) (option_to_list (join m.includes))) (λ hit. turn_joined hit m.includes) left kept))

-- ---- And, whose sides have numbers of which those on the left are all less

two_append : (turn : Hit → Hit → Bool) (xs ys : List Hit) → every_two turn xs ≡ true → every_two turn ys ≡ true → list_all (λ x. list_all (turn x) ys) xs ≡ true → every_two turn (xs ++ ys) ≡ true
two_append turn [] ys hx hy cross = hy
two_append turn (x ∷ xs) ys hx hy cross =
    let own = and_parts (list_all (turn x) xs) (every_two turn xs) hx in
    let other = and_parts (list_all (turn x) ys) (list_all (λ z. list_all (turn z) ys) xs) cross in
    and_from (list_all (turn x) (xs ++ ys)) (every_two turn (xs ++ ys)) (all_append (turn x) xs ys own.0 other.0) (two_append turn xs ys own.1 hy other.1)

module _ (number : ℕ → ℕ) (low high : ℕ → Bool) (apart : (a b : Hit) → low a.query ≡ true → high b.query ≡ true → are_in_turn number a b ≡ true) (turned : (a b : Hit) → high a.query ≡ true → low b.query ≡ true → are_in_turn number a b ≡ true) where
  across : (p q : ℕ → Bool) → ((a b : Hit) → p a.query ≡ true → q b.query ≡ true → are_in_turn number a b ≡ true) → (xs ys : List Hit) → list_all (passed p) xs ≡ true → list_all (passed q) ys ≡ true
      → list_all (λ x. list_all (are_in_turn number x) ys) xs ≡ true
  across p q held xs ys hx hy = all_weaker (passed p) (λ x. list_all (are_in_turn number x) ys) (λ x px. all_weaker (passed q) (are_in_turn number x) (λ y qy. held x y px qy) ys hy) xs hx

  -- each exclude and each include of both
  four_sides : (es is other_es other_is : List Hit) → list_all (passed low) es ≡ true → list_all (passed low) is ≡ true → list_all (passed high) other_es ≡ true → list_all (passed high) other_is ≡ true
      → list_all (λ hit. list_all (are_in_turn number hit) is) es ≡ true → list_all (λ hit. list_all (are_in_turn number hit) other_is) other_es ≡ true
      → list_all (λ hit. list_all (are_in_turn number hit) (is ++ other_is)) (es ++ other_es) ≡ true
  four_sides es is other_es other_is le li he hi own other =
      all_append (λ hit. list_all (are_in_turn number hit) (is ++ other_is)) es other_es (each es is other_is own (across low high apart es other_is le hi))
      (each other_es is other_is (across high low turned other_es is he li) other)
    where
      each : (hits xs ys : List Hit) → list_all (λ hit. list_all (are_in_turn number hit) xs) hits ≡ true → list_all (λ hit. list_all (are_in_turn number hit) ys) hits ≡ true
          → list_all (λ hit. list_all (are_in_turn number hit) (xs ++ ys)) hits ≡ true
      each [] xs ys one two = refl
      each (hit ∷ rest) xs ys one two =
          let a = and_parts (list_all (are_in_turn number hit) xs) (list_all (λ h. list_all (are_in_turn number h) xs) rest) one in
          let b = and_parts (list_all (are_in_turn number hit) ys) (list_all (λ h. list_all (are_in_turn number h) ys) rest) two in
          and_from (list_all (are_in_turn number hit) (xs ++ ys)) (list_all (λ h. list_all (are_in_turn number h) (xs ++ ys)) rest) (all_append (are_in_turn number hit) xs ys a.0 b.0) (each rest xs ys a.1 b.1)

  abbrev is_sound : (ℕ → Bool) → Match → Bool
  is_sound test m = has_numbers test m && keeps_turns number m

  turns_both : (a b : Match) → is_sound low a ≡ true → is_sound high b ≡ true → keeps_turns number (both a b) ≡ true
  turns_both a b one two =
      let left = and_parts (has_numbers low a) (keeps_turns number a) one in
      let right = and_parts (has_numbers high b) (keeps_turns number b) two in
      let own = sides low a left.0 in
      let other = sides high b right.0 in
      let turns = turn_sides number a left.1 in
      let more = turn_sides number b right.1 in
      and_from (every_two (are_in_turn number) (a.includes ++ b.includes)) (list_all (λ hit. list_all (are_in_turn number hit) (a.includes ++ b.includes)) (a.excludes ++ b.excludes))
      (two_append (are_in_turn number) a.includes b.includes turns.0 more.0 (across low high apart a.includes b.includes own.0 other.0))
      (four_sides a.excludes a.includes b.excludes b.includes own.1 own.0 other.1 other.0 turns.1 more.1)

  sound_all : (test : ℕ → Bool) (ms : List Match) → list_all (has_numbers test) ms ≡ true → list_all (keeps_turns number) ms ≡ true → list_all (is_sound test) ms ≡ true
  sound_all test [] one two = refl
  sound_all test (m ∷ rest) one two =
      let a = and_parts (has_numbers test m) (list_all (has_numbers test) rest) one in
      let b = and_parts (keeps_turns number m) (list_all (keeps_turns number) rest) two in
      and_from (is_sound test m) (list_all (is_sound test) rest) (and_from (has_numbers test m) (keeps_turns number m) a.0 b.0) (sound_all test rest a.1 b.1)

  pub turns_and : (left right : List Match) → list_all (has_numbers low) left ≡ true → list_all (has_numbers high) right ≡ true → list_all (keeps_turns number) left ≡ true
      → list_all (keeps_turns number) right ≡ true → list_all (keeps_turns number) (ft_and left right) ≡ true
  turns_and left right nl nr tl tr = all_pairs (is_sound low) (is_sound high) (keeps_turns number) both turns_both left right (sound_all low left nl tl) (sound_all high right nr tr)
