-- Or, And, Not, mild not and filters of AllMatches that are alike are alike.
use Rattle.std.proofs.Common.{◌≡◌, refl, ap, sym, ◌∙◌, List, [], ◌∷◌, ◌++◌, Bool, true, false, not, ◌&&◌, ◌||◌, cond}
use Rattle.std.specs.Prelude.{map, filter, flat_map, Option}
use Rattle.std.specs.List.{list_any, list_all}
use Rattle.std.proofs.Math.Bool.{and_comm, or-false}
use Rattle.std.proofs.lemmas.Bool.{and_parts}
use Rattle.std.proofs.lemmas.List.Folds.{list_any-append, list_all-append}
use Rattle.ft_base.specs.Lists.{is_not_empty}
use Rattle.ft_base.specs.declared.filter.Filter.{Filter}
use Rattle.ft_base.specs.declared.hit.Hit.{Hit}
use Rattle.ft_base.specs.declared.hit.Match.{Match}
use Rattle.ft_base.specs.declared.span.Span.{Span}
use Rattle.all_matches.specs.declared.window.Window.{Window}
use Rattle.all_matches.specs.Boolean.{both, with_exclude, with_include, ft_or, ft_and, ft_not, is_clean, satisfied, survives}
use Rattle.all_matches.specs.Filters.{passes, choices, keeps, after, through, filtered_match, ft_filtered}
use Rattle.all_matches.specs.MildNot.{stands_out, ft_mild_not}
use Rattle.all_matches.proofs.BooleanLaws.{neither}
use Rattle.all_matches.proofs.ListTests.{list_any-alike, list_any-map, list_any-flat_map, list_any-and}
use Rattle.all_matches.proofs.WayLaws.{any_swap}
use Rattle.match_sets.specs.Alike.{is_left, Alike}

-- some element that passes one test passes another
pub any_filter : {X : Type 0} (p q : X → Bool) (xs : List X) → list_any p (filter q xs) ≡ list_any (λ x. q x && p x) xs
any_filter p q [] = refl
any_filter p q (x ∷ xs) = by_test (q x) (any_filter p q xs)
  where
    by_test : (b : Bool) → list_any p (filter q xs) ≡ list_any (λ y. q y && p y) xs → list_any p (cond b (x ∷ filter q xs) (filter q xs)) ≡ ((b && p x) || list_any (λ y. q y && p y) xs)
    by_test true e = ap (λ b. p x || b) e
    by_test false e = e

-- ---- Or and And

pub alike_or : (a b c d : List Match) → Alike a b → Alike c d → Alike (ft_or a c) (ft_or b d)
alike_or a b c d one two tests = list_any-append (is_left tests) a c ∙ (λ i. one tests i || two tests i) ∙ sym (list_any-append (is_left tests) b d)

survives_both : (kept : Hit → Bool) (a b : Match) → survives kept (both a b) ≡ (survives kept a && survives kept b)
survives_both kept a b = list_all-append (λ hit. not (kept hit)) a.excludes b.excludes

-- the tests that are left for a Match on the right, where the one on the left is chosen
abbrev beside : (List Hit → List (Hit → Bool)) → Match → List Hit → List (Hit → Bool)
beside tests a includes = filter (λ kept. survives kept a) (tests (a.includes ++ includes))

left_beside : (tests : List Hit → List (Hit → Bool)) (a b : Match) → is_left tests (both a b) ≡ is_left (beside tests a) b
left_beside tests a b =
    list_any-alike (λ kept. survives kept (both a b)) (λ kept. survives kept a && survives kept b) (tests (a.includes ++ b.includes)) (λ kept. survives_both kept a b)
    ∙ sym (any_filter (λ kept. survives kept b) (λ kept. survives kept a) (tests (a.includes ++ b.includes)))

-- and those for one on the left, where that on the right is one of these
abbrev before : (List Hit → List (Hit → Bool)) → List Match → List Hit → List (Hit → Bool)
before tests right includes = flat_map (λ b. filter (λ kept. survives kept b) (tests (includes ++ b.includes))) right

left_before : (tests : List Hit → List (Hit → Bool)) (right : List Match) (a : Match) → list_any (λ b. is_left tests (both a b)) right ≡ is_left (before tests right) a
left_before tests right a =
    list_any-alike (λ b. is_left tests (both a b)) (λ b. list_any (λ kept. survives kept a) (filter (λ kept. survives kept b) (tests (a.includes ++ b.includes)))) right
    (λ b.
    list_any-alike (λ kept. survives kept (both a b)) (λ kept. survives kept b && survives kept a) (tests (a.includes ++ b.includes))
    (λ kept. survives_both kept a b ∙ and_comm (survives kept a) (survives kept b))
    ∙ sym (any_filter (λ kept. survives kept a) (λ kept. survives kept b) (tests (a.includes ++ b.includes))))
    ∙ sym (list_any-flat_map (λ kept. survives kept a) (λ b. filter (λ kept. survives kept b) (tests (a.includes ++ b.includes))) right)

left_and : (tests : List Hit → List (Hit → Bool)) (left right : List Match) → list_any (is_left tests) (ft_and left right) ≡ list_any (is_left (before tests right)) left
left_and tests left right =
    list_any-flat_map (is_left tests) (λ a. map (both a) right) left
    ∙ list_any-alike (λ a. list_any (is_left tests) (map (both a) right)) (is_left (before tests right)) left (λ a. list_any-map (is_left tests) (both a) right ∙ left_before tests right a)

-- one right side in the place of another
right_alike : (tests : List Hit → List (Hit → Bool)) (c d : List Match) → Alike c d → (a : Match) → is_left (before tests c) a ≡ is_left (before tests d) a
right_alike tests c d two a =
    sym (left_before tests c a)
    ∙ list_any-alike (λ b. is_left tests (both a b)) (is_left (beside tests a)) c (left_beside tests a)
    ∙ two (beside tests a)
    ∙ sym (list_any-alike (λ b. is_left tests (both a b)) (is_left (beside tests a)) d (left_beside tests a))
    ∙ left_before tests d a

pub alike_and : (a b c d : List Match) → Alike a b → Alike c d → Alike (ft_and a c) (ft_and b d)
alike_and a b c d one two tests =
    left_and tests a c
    ∙ one (before tests c)
    ∙ list_any-alike (is_left (before tests c)) (is_left (before tests d)) b (right_alike tests c d two)
    ∙ sym (left_and tests b d)

-- ---- Not

-- one exclude for all Matches
left_with : (tests : List Hit → List (Hit → Bool)) (hit : Hit) (m : Match) → is_left tests (with_exclude hit m) ≡ is_left (λ includes. filter (λ kept. not (kept hit)) (tests includes)) m
left_with tests hit m = sym (any_filter (λ kept. survives kept m) (λ kept. not (kept hit)) (tests m.includes))

some_fails : (kept : Hit → Bool) (hits : List Hit) → list_any (λ hit. not (kept hit)) hits ≡ not (list_all kept hits)
some_fails kept [] = refl
some_fails kept (hit ∷ rest) = ap (λ b. not (kept hit) || b) (some_fails kept rest) ∙ not_both (kept hit) (list_all kept rest)
  where
    not_both : (a b : Bool) → (not a || not b) ≡ not (a && b)
    not_both true b = refl
    not_both false b = refl

abbrev is_hit_free : (Hit → Bool) → List Match → Bool
is_hit_free kept ms = not (list_any (λ m. list_all kept m.includes) ms)

nothing_turned : (tests : List Hit → List (Hit → Bool)) (includes excludes : List Hit) (ms : List Match) → is_clean (record { includes = includes; excludes = excludes }) ≡ true
    → list_any (is_left tests) (flat_map (λ hit. map (with_include hit) ms) excludes) ≡ false
nothing_turned tests includes [] ms clean = refl
nothing_turned tests includes (hit ∷ rest) ms clean = cc

-- some choice is left where under a test no Match has all its includes kept
left_not : (ms : List Match) → list_all is_clean ms ≡ true → (tests : List Hit → List (Hit → Bool)) → list_any (is_left tests) (ft_not ms) ≡ list_any (λ kept. is_hit_free kept ms) (tests [])
left_not [] clean tests = or-false (list_any (λ kept. true) (tests []))
left_not (m ∷ rest) clean tests =
    let parts = and_parts (is_clean m) (list_all is_clean rest) clean in
    list_any-append (is_left tests) (flat_map (λ hit. map (with_exclude hit) (ft_not rest)) m.includes) (flat_map (λ hit. map (with_include hit) (ft_not rest)) m.excludes)
    ∙ ap (λ b. list_any (is_left tests) (flat_map (λ hit. map (with_exclude hit) (ft_not rest)) m.includes) || b) (nothing_turned tests m.includes m.excludes (ft_not rest) parts.0)
    ∙ or-false (list_any (is_left tests) (flat_map (λ hit. map (with_exclude hit) (ft_not rest)) m.includes))
    ∙ list_any-flat_map (is_left tests) (λ hit. map (with_exclude hit) (ft_not rest)) m.includes
    ∙ list_any-alike (λ hit. list_any (is_left tests) (map (with_exclude hit) (ft_not rest))) (λ hit. list_any (λ kept. not (kept hit) && is_hit_free kept rest) (tests [])) m.includes
    (λ hit.
    list_any-map (is_left tests) (with_exclude hit) (ft_not rest)
    ∙ list_any-alike (λ n. is_left tests (with_exclude hit n)) (is_left (λ includes. filter (λ kept. not (kept hit)) (tests includes))) (ft_not rest) (left_with tests hit)
    ∙ left_not rest parts.1 (λ includes. filter (λ kept. not (kept hit)) (tests includes))
    ∙ any_filter (λ kept. is_hit_free kept rest) (λ kept. not (kept hit)) (tests []))
    ∙ any_swap (λ hit kept. not (kept hit) && is_hit_free kept rest) m.includes (tests [])
    ∙ list_any-alike (λ kept. list_any (λ hit. not (kept hit) && is_hit_free kept rest) m.includes) (λ kept. is_hit_free kept (m ∷ rest)) (tests [])
    (λ kept.
    list_any-and (λ hit. not (kept hit)) (is_hit_free kept rest) m.includes
    ∙ ap (λ b. b && is_hit_free kept rest) (some_fails kept m.includes)
    ∙ neither (list_all kept m.includes) (list_any (λ n. list_all kept n.includes) rest))

-- a test of includes alone
abbrev by_includes : (List Hit → Bool) → List Hit → List (Hit → Bool)
by_includes test includes = cond (test includes) ((λ hit. false) ∷ []) []

none_kept : (hits : List Hit) → list_all (λ hit. not false) hits ≡ true
none_kept [] = refl
none_kept (hit ∷ rest) = none_kept rest

left_by_includes : (test : List Hit → Bool) (m : Match) → is_left (by_includes test) m ≡ test m.includes
left_by_includes test m = by_test (test m.includes)
  where
    by_test : (b : Bool) → list_any (λ kept. survives kept m) (cond b ((λ hit. false) ∷ []) []) ≡ b
    by_test true = ap (λ b. b || false) (none_kept m.excludes)
    by_test false = refl

pub alike_includes : (a b : List Match) → Alike a b → (test : List Hit → Bool) → list_any (λ m. test m.includes) a ≡ list_any (λ m. test m.includes) b
alike_includes a b one test =
    sym (list_any-alike (is_left (by_includes test)) (λ m. test m.includes) a (left_by_includes test))
    ∙ one (by_includes test)
    ∙ list_any-alike (is_left (by_includes test)) (λ m. test m.includes) b (left_by_includes test)

pub alike_not : (a b : List Match) → list_all is_clean a ≡ true → list_all is_clean b ≡ true → Alike a b → Alike (ft_not a) (ft_not b)
alike_not a b clean bare one tests =
    left_not a clean tests
    ∙ list_any-alike (λ kept. is_hit_free kept a) (λ kept. is_hit_free kept b) (tests []) (λ kept. ap not (alike_includes a b one (list_all kept)))
    ∙ sym (left_not b bare tests)

-- ---- mild not

all_alike : (a b : List Match) → Alike a b → (test : List Hit → Bool) → list_all (λ m. test m.includes) a ≡ list_all (λ m. test m.includes) b
all_alike a b one test = turned a ∙ ap not (alike_includes a b one (λ includes. not (test includes))) ∙ sym (turned b)
  where
    not_either : (p q : Bool) → (p && not q) ≡ not (not p || q)
    not_either true q = refl
    not_either false q = refl

    turned : (ms : List Match) → list_all (λ m. test m.includes) ms ≡ not (list_any (λ m. not (test m.includes)) ms)
    turned [] = refl
    turned (m ∷ rest) = ap (λ c. test m.includes && c) (turned rest) ∙ not_either (test m.includes) (list_any (λ n. not (test n.includes)) rest)

-- the tests of a Match that stays where its includes pass
abbrev where_stays : (List Hit → Bool) → (List Hit → List (Hit → Bool)) → List Hit → List (Hit → Bool)
where_stays stays tests includes = cond (stays includes) (tests includes) []

left_where : (stays : List Hit → Bool) (tests : List Hit → List (Hit → Bool)) (m : Match) → is_left (where_stays stays tests) m ≡ (stays m.includes && is_left tests m)
left_where stays tests m = by_test (stays m.includes)
  where
    by_test : (b : Bool) → list_any (λ kept. survives kept m) (cond b (tests m.includes) []) ≡ (b && list_any (λ kept. survives kept m) (tests m.includes))
    by_test true = refl
    by_test false = refl

left_kept : (stays : List Hit → Bool) (tests : List Hit → List (Hit → Bool)) (ms : List Match) → list_any (is_left tests) (filter (λ m. stays m.includes) ms) ≡ list_any (is_left (where_stays stays tests)) ms
left_kept stays tests ms =
    any_filter (is_left tests) (λ m. stays m.includes) ms ∙ sym (list_any-alike (is_left (where_stays stays tests)) (λ m. stays m.includes && is_left tests m) ms (left_where stays tests))

-- whether a Match with these includes stands out of each on the right
abbrev is_outside : List Match → List Hit → Bool
is_outside right includes = list_all (λ b. stands_out includes b.includes) right

pub alike_mild_not : (a b c d : List Match) → Alike a b → Alike c d → Alike (ft_mild_not a c) (ft_mild_not b d)
alike_mild_not a b c d one two tests =
    by_includes_of (list_any (λ m. is_not_empty m.includes) c)
    ∙ ap (λ t. list_any (is_left tests) (cond t (filter (λ x. is_outside d x.includes) b) b)) (alike_includes c d two is_not_empty)
  where
    by_includes_of : (t : Bool) → list_any (is_left tests) (cond t (filter (λ x. is_outside c x.includes) a) a) ≡ list_any (is_left tests) (cond t (filter (λ x. is_outside d x.includes) b) b)
    by_includes_of true =
        left_kept (is_outside c) tests a
        ∙ one (where_stays (is_outside c) tests)
        ∙ list_any-alike (is_left (where_stays (is_outside c) tests)) (is_left (where_stays (is_outside d) tests)) b
        (λ m. ap (λ t. list_any (λ kept. survives kept m) (cond t (tests m.includes) [])) (all_alike c d two (stands_out m.includes)))
        ∙ sym (left_kept (is_outside d) tests b)
    by_includes_of false = one tests

-- ---- filters

-- the tests before a filter: for each choice that it leaves those after it, of the excludes that it keeps
abbrev tests_before : Filter → Span → (List Hit → List (Hit → Bool)) → List Hit → List (Hit → Bool)
tests_before kind item tests includes =
    cond (passes kind includes item) (flat_map (λ choice. map (λ kept hit. keeps kind includes choice hit && kept hit) (tests (after kind includes))) (choices kind includes)) []

survives_filter : (keep kept : Hit → Bool) (hits : List Hit) → list_all (λ hit. not (kept hit)) (filter keep hits) ≡ list_all (λ hit. not (keep hit && kept hit)) hits
survives_filter keep kept [] = refl
survives_filter keep kept (hit ∷ rest) = by_test (keep hit) (survives_filter keep kept rest)
  where
    by_test : (b : Bool) → list_all (λ x. not (kept x)) (filter keep rest) ≡ list_all (λ x. not (keep x && kept x)) rest
        → list_all (λ x. not (kept x)) (cond b (hit ∷ filter keep rest) (filter keep rest)) ≡ (not (b && kept hit) && list_all (λ x. not (keep x && kept x)) rest)
    by_test true e = ap (λ b. not (kept hit) && b) e
    by_test false e = e

left_through : (kind : Filter) (item : Span) (tests : List Hit → List (Hit → Bool)) (m : Match) → list_any (is_left tests) (filtered_match kind item m) ≡ is_left (tests_before kind item tests) m
left_through kind item tests m = by_test (passes kind m.includes item)
  where
    by_choice : (choice : Option Window) → is_left tests (through kind m choice) ≡ list_any (λ kept. survives kept m) (map (λ kept hit. keeps kind m.includes choice hit && kept hit) (tests (after kind m.includes)))
    by_choice choice =
        list_any-alike (λ kept. survives kept (through kind m choice)) (λ kept. survives (λ hit. keeps kind m.includes choice hit && kept hit) m) (tests (after kind m.includes))
        (λ kept. survives_filter (keeps kind m.includes choice) kept m.excludes)
        ∙ sym (list_any-map (λ kept. survives kept m) (λ kept hit. keeps kind m.includes choice hit && kept hit) (tests (after kind m.includes)))

    by_test : (b : Bool)
        → list_any (is_left tests) (cond b (map (through kind m) (choices kind m.includes)) [])
        ≡ list_any (λ kept. survives kept m) (cond b (flat_map (λ choice. map (λ kept hit. keeps kind m.includes choice hit && kept hit) (tests (after kind m.includes))) (choices kind m.includes)) [])
    by_test true =
        list_any-map (is_left tests) (through kind m) (choices kind m.includes)
        ∙ list_any-alike (λ choice. is_left tests (through kind m choice))
        (λ choice. list_any (λ kept. survives kept m) (map (λ kept hit. keeps kind m.includes choice hit && kept hit) (tests (after kind m.includes)))) (choices kind m.includes) by_choice
        ∙ sym (list_any-flat_map (λ kept. survives kept m) (λ choice. map (λ kept hit. keeps kind m.includes choice hit && kept hit) (tests (after kind m.includes))) (choices kind m.includes))
    by_test false = refl

left_filtered : (kind : Filter) (item : Span) (tests : List Hit → List (Hit → Bool)) (ms : List Match) → list_any (is_left tests) (ft_filtered kind item ms) ≡ list_any (is_left (tests_before kind item tests)) ms
left_filtered kind item tests ms =
    list_any-flat_map (is_left tests) (filtered_match kind item) ms
    ∙ list_any-alike (λ m. list_any (is_left tests) (filtered_match kind item m)) (is_left (tests_before kind item tests)) ms (left_through kind item tests)

pub alike_filtered : (kind : Filter) (item : Span) (a b : List Match) → Alike a b → Alike (ft_filtered kind item a) (ft_filtered kind item b)
alike_filtered kind item a b one tests = left_filtered kind item tests a ∙ one (tests_before kind item tests) ∙ sym (left_filtered kind item tests b)

-- ---- what satisfies

clean_left : (m : Match) → is_clean m ≡ is_left (λ includes. (λ hit. true) ∷ []) m
clean_left m = by_excludes m.includes m.excludes
  where
    by_excludes : (includes excludes : List Hit) → is_clean (record { includes = includes; excludes = excludes }) ≡ (list_all (λ hit. false) excludes || false)
    by_excludes includes [] = refl
    by_excludes includes (hit ∷ rest) = refl

pub alike_satisfied : (a b : List Match) → Alike a b → satisfied a ≡ satisfied b
alike_satisfied a b one =
    list_any-alike is_clean (is_left (λ includes. (λ hit. true) ∷ [])) a clean_left ∙ one (λ includes. (λ hit. true) ∷ []) ∙ sym (list_any-alike is_clean (is_left (λ includes. (λ hit. true) ∷ [])) b clean_left)
