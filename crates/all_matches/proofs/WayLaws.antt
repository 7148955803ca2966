-- Some Match of a selection survives a test exactly where some way of it is clean under that test.
use Rattle.std.proofs.Common.{◌≡◌, refl, ap, sym, ◌∙◌, List, [], ◌∷◌, ◌++◌, Bool, true, false, not, ◌&&◌, ◌||◌, cond}
use Rattle.std.specs.Prelude.{map, filter, flat_map, Option}
use Rattle.std.specs.List.{list_any, list_all, AllByRecursion}
use Rattle.std.proofs.lemmas.Bool.{and_parts}
use Rattle.std.proofs.Math.Bool.{or-false}
use Rattle.std.proofs.lemmas.List.Folds.{list_any-append, list_all-append}
use Rattle.ft_base.specs.declared.hit.Hit.{Hit}
use Rattle.ft_base.specs.declared.hit.Match.{Match}
use Rattle.ft_base.specs.declared.filter.Filter.{Filter}
use Rattle.ft_base.specs.declared.span.Span.{Span}
use Rattle.all_matches.specs.declared.window.Window.{Window}
use Rattle.all_matches.specs.Hits.{match_of_hit}
use Rattle.all_matches.specs.Boolean.{both, with_include, with_exclude, ft_and, ft_not, is_clean, survives}
use Rattle.all_matches.specs.Filters.{passes, choices, keeps, after, filtered_match}
use Rattle.all_matches.specs.Ways.{Operator, phrase, either, together, apart, negated, through_filter, matches_of, Way, one_hit, two_ways, turned_about, by_filter, way_includes, made, filtered_ways, ways_of, clean_under, is_plain, bare_match, is_bare, is_good, after_filter}
use Rattle.all_matches.proofs.ListTests.{list_any-alike, list_any-map, list_any-flat_map, list_any-and, list_any-and_first, list_any-never}
use Rattle.all_matches.proofs.BareWays.{bare_matches, bare_ways, made-bare, good_ways}
use Rattle.all_matches.proofs.Choices.{some_choice}

any_on : {X : Type 0} (P : X → Type 0) (f g : X → Bool) → ((x : X) → P x → f x ≡ g x) → (xs : List X) → AllByRecursion P xs → list_any f xs ≡ list_any g xs
any_on P f g same [] h = refl
any_on P f g same (x ∷ xs) h = λ i. same x h.0 i || any_on P f g same xs h.1 i

pub any_of : (test f g : Way → Bool) → ((way : Way) → test way ≡ true → f way ≡ g way) → (ways : List Way) → list_all test ways ≡ true → list_any f ways ≡ list_any g ways
any_of test f g same [] h = refl
any_of test f g same (way ∷ rest) h = let parts = and_parts (test way) (list_all test rest) h in λ i. same way parts.0 i || any_of test f g same rest parts.1 i

pub any_or : {Y : Type 0} (p q : Y → Bool) (ys : List Y) → (list_any p ys || list_any q ys) ≡ list_any (λ y. p y || q y) ys
any_or p q [] = refl
any_or p q (y ∷ ys) = exchange (p y) (list_any p ys) (q y) (list_any q ys) ∙ ap (λ b. (p y || q y) || b) (any_or p q ys)
  where
    exchange : (a b c d : Bool) → ((a || b) || (c || d)) ≡ ((a || c) || (b || d))
    exchange true b c d = refl
    exchange false true true d = refl
    exchange false true false d = refl
    exchange false false c d = refl

pub any_swap : {X Y : Type 0} (f : X → Y → Bool) (xs : List X) (ys : List Y) → list_any (λ x. list_any (f x) ys) xs ≡ list_any (λ y. list_any (λ x. f x y) xs) ys
any_swap f [] ys = sym (list_any-never ys)
any_swap f (x ∷ xs) ys = ap (λ b. list_any (f x) ys || b) (any_swap f xs ys) ∙ any_or (f x) (λ y. list_any (λ z. f z y) xs) ys

-- the Matches of a way have its includes
module _ {X : Type 0} (P : X → Type 0) where
  all_append : (xs ys : List X) → AllByRecursion P xs → AllByRecursion P ys → AllByRecursion P (xs ++ ys)
  all_append [] ys hx hy = hy
  all_append (x ∷ xs) ys hx hy = (hx.0, all_append xs ys hx.1 hy)

pair_row : (left right : List Hit) (a : Match) (ms : List Match) → a.includes ≡ left → AllByRecursion (λ m. m.includes ≡ right) ms → AllByRecursion (λ m. m.includes ≡ left ++ right) (map (both a) ms)
pair_row left right a [] ha hm = tt
pair_row left right a (m ∷ rest) ha hm = ((λ i. ha i ++ hm.0 i), pair_row left right a rest ha hm.1)

pair_includes : (left right : List Hit) (xs ys : List Match) → AllByRecursion (λ m. m.includes ≡ left) xs → AllByRecursion (λ m. m.includes ≡ right) ys → AllByRecursion (λ m. m.includes ≡ left ++ right) (ft_and xs ys)
pair_includes left right [] ys hx hy = tt
pair_includes left right (x ∷ xs) ys hx hy = all_append (λ m. m.includes ≡ left ++ right) (map (both x) ys) (ft_and xs ys) (pair_row left right x ys hx.0 hy) (pair_includes left right xs ys hx.1 hy)

exclude_row : (hit : Hit) (ms : List Match) → AllByRecursion (λ m. m.includes ≡ []) ms → AllByRecursion (λ m. m.includes ≡ []) (map (with_exclude hit) ms)
exclude_row hit [] h = tt
exclude_row hit (m ∷ rest) h = (h.0, exclude_row hit rest h.1)

exclude_rows : (hits : List Hit) (ms : List Match) → AllByRecursion (λ m. m.includes ≡ []) ms → AllByRecursion (λ m. m.includes ≡ []) (flat_map (λ hit. map (with_exclude hit) ms) hits)
exclude_rows [] ms h = tt
exclude_rows (hit ∷ rest) ms h = all_append (λ m. m.includes ≡ []) (map (with_exclude hit) ms) (flat_map (λ x. map (with_exclude x) ms) rest) (exclude_row hit ms h) (exclude_rows rest ms h)

no_includes : (is es : List Hit) (ms : List Match) → is_clean (record { includes = is; excludes = es }) ≡ true → AllByRecursion (λ m. m.includes ≡ []) (flat_map (λ hit. map (with_include hit) ms) es)
no_includes is [] ms c = tt
no_includes is (hit ∷ rest) ms c = cc

turned_includes : (ms : List Match) → list_all is_clean ms ≡ true → AllByRecursion (λ m. m.includes ≡ []) (ft_not ms)
turned_includes [] c = (refl, tt)
turned_includes (m ∷ rest) c =
    let parts = and_parts (is_clean m) (list_all is_clean rest) c in
    all_append (λ n. n.includes ≡ []) (flat_map (λ hit. map (with_exclude hit) (ft_not rest)) m.includes) (flat_map (λ hit. map (with_include hit) (ft_not rest)) m.excludes)
    (exclude_rows m.includes (ft_not rest) (turned_includes rest parts.1)) (no_includes m.includes m.excludes (ft_not rest) parts.0)

filter_includes : (kind : Filter) (includes : List Hit) (choice : Option Window) (ms : List Match) → AllByRecursion (λ m. m.includes ≡ after kind includes) (map (after_filter kind includes choice) ms)
filter_includes kind includes choice [] = tt
filter_includes kind includes choice (m ∷ rest) = (refl, filter_includes kind includes choice rest)

pub made_includes : (way : Way) → is_good way ≡ true → AllByRecursion (λ m. m.includes ≡ way_includes way) (made way)
made_includes (one_hit hit) h = (refl, tt)
made_includes (two_ways left right) h =
    let parts = and_parts (is_good left) (is_good right) h in
    pair_includes (way_includes left) (way_includes right) (made left) (made right) (made_includes left parts.0) (made_includes right parts.1)
made_includes (turned_about matches) h = turned_includes matches h
made_includes (by_filter way kind choice) h = filter_includes kind (way_includes way) choice (made way)

-- some Match of an And passes a test
and_any : (p : Match → Bool) (left right : List Match) → list_any p (ft_and left right) ≡ list_any (λ a. list_any (λ b. p (both a b)) right) left
and_any p left right =
    list_any-flat_map p (λ a. map (both a) right) left
    ∙ list_any-alike (λ a. list_any p (map (both a) right)) (λ a. list_any (λ b. p (both a b)) right) left (λ a. list_any-map p (both a) right)

-- what a filter makes of a Match whose includes are known
made_by_filter : Filter → Span → List Hit → Match → List Match
made_by_filter kind item includes m = cond (passes kind includes item) (map (λ c. after_filter kind includes c m) (choices kind includes)) []

filter_known : (kind : Filter) (item : Span) (includes : List Hit) (m : Match) → m.includes ≡ includes → filtered_match kind item m ≡ made_by_filter kind item includes m
unfolding made_by_filter
filter_known kind item includes m e = ap (λ xs. cond (passes kind xs item) (map (λ c. after_filter kind xs c m) (choices kind xs)) []) e

some_choices : (p : Match → Bool) (way : Way) (kind : Filter) (ms : List Match) (b : Bool) (cs : List (Option Window)) → made way ≡ ms
    → list_any (λ m. list_any p (cond b (map (λ c. after_filter kind (way_includes way) c m) cs) [])) ms ≡ list_any (λ u. list_any p (made u)) (cond b (map (by_filter way kind) cs) [])
some_choices p way kind ms false cs e = list_any-never ms
some_choices p way kind ms true cs e =
    list_any-alike (λ m. list_any p (map (λ c. after_filter kind (way_includes way) c m) cs)) (λ m. list_any (λ c. p (after_filter kind (way_includes way) c m)) cs) ms
    (λ m. list_any-map p (λ c. after_filter kind (way_includes way) c m) cs)
    ∙ any_swap (λ m c. p (after_filter kind (way_includes way) c m)) ms cs
    ∙ list_any-alike (λ c. list_any (λ m. p (after_filter kind (way_includes way) c m)) ms) (λ c. list_any p (made (by_filter way kind c))) cs
    (λ c. sym (list_any-map p (after_filter kind (way_includes way) c) ms) ∙ ap (λ ns. list_any p (map (after_filter kind (way_includes way) c) ns)) (sym e))
    ∙ sym (list_any-map (λ u. list_any p (made u)) (by_filter way kind) cs)

filter_any : (p : Match → Bool) (kind : Filter) (item : Span) (way : Way) → is_good way ≡ true → list_any (λ m. list_any p (filtered_match kind item m)) (made way) ≡ list_any (λ u. list_any p (made u)) (filtered_ways kind item way)
unfolding made_by_filter
filter_any p kind item way h =
    any_on (λ m. m.includes ≡ way_includes way) (λ m. list_any p (filtered_match kind item m)) (λ m. list_any p (made_by_filter kind item (way_includes way) m))
    (λ m e. ap (list_any p) (filter_known kind item (way_includes way) m e)) (made way) (made_includes way h)
    ∙ some_choices p way kind (made way) (passes kind (way_includes way) item) (choices kind (way_includes way)) refl

found_any : (p : Match → Bool) (found : List Hit) → list_any p (map match_of_hit found) ≡ list_any (λ w. list_any p (made w)) (map one_hit found)
found_any p [] = refl
found_any p (hit ∷ rest) = λ i. sym (or-false (p (match_of_hit hit))) i || found_any p rest i

-- some Match of a selection passes a test exactly where some Match of one of its ways does
pub any_way : (item : Span) (operator : Operator) → is_plain operator ≡ true → (p : Match → Bool) → list_any p (matches_of item operator) ≡ list_any (λ w. list_any p (made w)) (ways_of item operator)
unfolding matches_of ways_of
any_way item (phrase found) h p = found_any p found
any_way item (either left right) h p =
    let parts = and_parts (is_plain left) (is_plain right) h in
    list_any-append p (matches_of item left) (matches_of item right)
    ∙ (λ i. any_way item left parts.0 p i || any_way item right parts.1 p i)
    ∙ sym (list_any-append (λ w. list_any p (made w)) (ways_of item left) (ways_of item right))
any_way item (together left right) h p =
    let parts = and_parts (is_plain left) (is_plain right) h in
    and_any p (matches_of item left) (matches_of item right)
    ∙ any_way item left parts.0 (λ a. list_any (λ b. p (both a b)) (matches_of item right))
    ∙ list_any-alike (λ w. list_any (λ a. list_any (λ b. p (both a b)) (matches_of item right)) (made w)) (λ w. list_any (λ v. list_any p (made (two_ways w v))) (ways_of item right)) (ways_of item left) (λ w.
    list_any-alike (λ a. list_any (λ b. p (both a b)) (matches_of item right)) (λ a. list_any (λ v. list_any (λ b. p (both a b)) (made v)) (ways_of item right)) (made w) (λ a. any_way item right parts.1 (λ b. p (both a b)))
    ∙ any_swap (λ a v. list_any (λ b. p (both a b)) (made v)) (made w) (ways_of item right)
    ∙ list_any-alike (λ v. list_any (λ a. list_any (λ b. p (both a b)) (made v)) (made w)) (λ v. list_any p (made (two_ways w v))) (ways_of item right) (λ v. sym (and_any p (made w) (made v))))
    ∙ sym (list_any-flat_map (λ u. list_any p (made u)) (λ a. map (two_ways a) (ways_of item right)) (ways_of item left)
    ∙ list_any-alike (λ w. list_any (λ u. list_any p (made u)) (map (two_ways w) (ways_of item right))) (λ w. list_any (λ v. list_any p (made (two_ways w v))) (ways_of item right)) (ways_of item left) (λ w. list_any-map (λ u. list_any p (made u)) (two_ways w) (ways_of item right)))
any_way item (apart left right) h p =
    ap (list_any p) (bare_matches item (apart left right) h)
    ∙ list_any-map p bare_match (ways_of item (apart left right))
    ∙ any_of is_bare (λ w. p (bare_match w)) (λ w. list_any p (made w)) (λ w e. sym (ap (list_any p) (made-bare w e) ∙ or-false (p (bare_match w)))) (ways_of item (apart left right)) (bare_ways item (apart left right) h)
any_way item (negated operand) h p = sym (or-false (list_any p (ft_not (matches_of item operand))))
any_way item (through_filter operand kind) h p =
    list_any-flat_map p (filtered_match kind item) (matches_of item operand)
    ∙ any_way item operand h (λ m. list_any p (filtered_match kind item m))
    ∙ any_of is_good (λ w. list_any (λ m. list_any p (filtered_match kind item m)) (made w)) (λ w. list_any (λ u. list_any p (made u)) (filtered_ways kind item w)) (λ w e. filter_any p kind item w e) (ways_of item operand) (good_ways item operand h)
    ∙ sym (list_any-flat_map (λ u. list_any p (made u)) (filtered_ways kind item) (ways_of item operand))

-- a test that looks at excludes alone, under And and after a filter
survives-both : (kept : Hit → Bool) (a b : Match) → survives kept (both a b) ≡ (survives kept a && survives kept b)
survives-both kept a b = list_all-append (λ hit. not (kept hit)) a.excludes b.excludes

survives-and : (kept : Hit → Bool) (left right : List Match) → list_any (survives kept) (ft_and left right) ≡ (list_any (survives kept) left && list_any (survives kept) right)
survives-and kept left right =
    and_any (survives kept) left right
    ∙ list_any-alike (λ a. list_any (λ b. survives kept (both a b)) right) (λ a. survives kept a && list_any (survives kept) right) left
    (λ a. list_any-alike (λ b. survives kept (both a b)) (λ b. survives kept a && survives kept b) right (survives-both kept a) ∙ list_any-and_first (survives kept a) (survives kept) right)
    ∙ list_any-and (survives kept) (list_any (survives kept) right) left

kept_after : (keep kept : Hit → Bool) (hits : List Hit) → list_all (λ hit. not (kept hit)) (filter keep hits) ≡ list_all (λ hit. not (keep hit && kept hit)) hits
kept_after keep kept [] = refl
kept_after keep kept (hit ∷ rest) = one (keep hit) ∙ ap (λ b. not (keep hit && kept hit) && b) (kept_after keep kept rest)
  where
    one : (b : Bool) → list_all (λ h. not (kept h)) (cond b (hit ∷ filter keep rest) (filter keep rest)) ≡ (not (b && kept hit) && list_all (λ h. not (kept h)) (filter keep rest))
    one true = refl
    one false = refl

-- some Match of a way survives a test exactly where the way is clean under it
pub clean_way : (kept : Hit → Bool) (way : Way) → is_good way ≡ true → list_any (survives kept) (made way) ≡ clean_under kept way
clean_way kept (one_hit hit) h = refl
clean_way kept (two_ways left right) h =
    let parts = and_parts (is_good left) (is_good right) h in
    survives-and kept (made left) (made right) ∙ (λ i. clean_way kept left parts.0 i && clean_way kept right parts.1 i)
clean_way kept (turned_about matches) h = some_choice kept matches h
clean_way kept (by_filter way kind choice) h =
    list_any-map (survives kept) (after_filter kind (way_includes way) choice) (made way)
    ∙ list_any-alike (λ m. survives kept (after_filter kind (way_includes way) choice m)) (survives (λ hit. keeps kind (way_includes way) choice hit && kept hit)) (made way)
    (λ m. kept_after (keeps kind (way_includes way) choice) kept m.excludes)
    ∙ clean_way (λ hit. keeps kind (way_includes way) choice hit && kept hit) way h

pub some_way : (item : Span) (operator : Operator) (kept : Hit → Bool) → is_plain operator ≡ true → list_any (survives kept) (matches_of item operator) ≡ list_any (clean_under kept) (ways_of item operator)
some_way item operator kept h =
    any_way item operator h (survives kept)
    ∙ any_of is_good (λ w. list_any (survives kept) (made w)) (clean_under kept) (clean_way kept) (ways_of item operator) (good_ways item operator h)
