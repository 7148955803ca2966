-- Some way passes a test exactly where one of those does through which a walk goes.
use Rattle.std.proofs.Common.{◌≡◌, refl, ap, sym, ◌∙◌, List, [], ◌∷◌, ◌++◌, Bool, true, false, not, ◌&&◌, ◌||◌, cond, map}
use Rattle.std.specs.Prelude.{flat_map, filter, Option, ⊤}
use Rattle.ft_base.proofs.Truth.{fails_below}
use Rattle.std.specs.List.{list_any, list_all}
use Rattle.std.proofs.lemmas.Bool.{and_parts}
use Rattle.std.proofs.lemmas.List.Folds.{list_any-append}
use Rattle.ft_base.specs.Lists.{is_not_empty}
use Rattle.ft_base.specs.declared.filter.Filter.{Filter}
use Rattle.ft_base.specs.declared.hit.Hit.{Hit}
use Rattle.ft_base.specs.declared.span.Span.{Span}
use Rattle.ft_base.specs.declared.unit.TextUnit.TheVariants.{Words}
use Rattle.all_matches.specs.declared.window.Window.{Window}
use Rattle.all_matches.specs.Filters.{passes, choices, after}
use Rattle.all_matches.specs.MildNot.{stands_out}
use Rattle.all_matches.specs.Ways.{Operator, phrase, either, together, apart, negated, through_filter}
use Rattle.all_matches.specs.Ways.{Way, one_hit, two_ways, by_filter, way_includes, standing_out, filtered_ways, ways_of, clean_under}
use Rattle.all_matches.proofs.ListTests.{list_any-alike, list_any-map, list_any-flat_map}
use Rattle.ft_operators.specs.declared.course.Course.{Course}
use Rattle.ft_operators.specs.declared.course.Windows.{Windows}
use Rattle.ft_operators.specs.declared.course.Windows.TheVariants.{Each, Telling, First}
use Rattle.ft_operators.specs.Chains.{all_kept}
use Rattle.ft_operators.specs.Bounds.{agrees, are_within, bounds_inside, everywhere, lies_in, reach_inside, round_hits}
use Rattle.ft_operators.specs.Extents.{extent_beside, extent_of, extent_of_either}
use Rattle.ft_operators.specs.Starts.{hits_of}
use Rattle.ft_operators.specs.Course.{admitted, asked_for, course_beside, course_out, passes_out, stands_on, course_inside, filtered_on, ways_on, without_bounds, every, tellings, firsts}
use Rattle.ft_operators.specs.declared.bounds.Bounds.{Bounds}
use Rattle.ft_operators.specs.declared.extent.Extent.{Extent}
use Rattle.ft_operators.specs.declared.extent.UnitExtents.{UnitExtents}
use Rattle.ft_operators.specs.declared.reach.Reach.{Reach}
use Rattle.ft_operators.specs.steps.Measuring.{are_held, holds}
use Rattle.ft_operators.proofs.BoundLemmas.{all_lie, all_more, all_pass, few_at, filter_within, sides_within}
use Rattle.ft_operators.proofs.ApartLemmas.{out_is}
use Rattle.ft_operators.proofs.ExtentLemmas.{few_before, few_inside, few_more, few_ways, held_apart, held_both, held_either, held_inside, holds_both}
use Rattle.ft_operators.proofs.OutLemmas.{admitted_out, has_word, lies_beside_all, out_still, out_wordless}
use Rattle.ft_operators.proofs.ServeLemmas.{Asks, Respects, choices_tell, serves_filtered, serves_left, serves_right}
use Rattle.ft_operators.proofs.SpreadLemmas.{are_few}
use Rattle.ft_operators.proofs.StartLemmas.{words_rise}
use Rattle.ft_operators.proofs.TellingLemmas.{any_more}

-- ---- every way

-- nothing is narrowed where each window is gone through
still : (item : Span) (hits : List Hit) → course_beside (every item) hits ≡ every item
still item [] = refl
still item (hit ∷ hits) = still item hits

pub ways_every : (item : Span) (operator : Operator) → ways_on (every item) operator ≡ ways_of item operator
unfolding ways_on ways_of
ways_every item (phrase found) = ap (map one_hit) (all_there found)
  where
    all_there : (hits : List Hit) → filter (lies_in everywhere) hits ≡ hits
    all_there [] = refl
    all_there (hit ∷ hits) = (λ i. cond (all_lie hit i) (hit ∷ filter (lies_in everywhere) hits) (filter (lies_in everywhere) hits)) ∙ ap (λ rest. hit ∷ rest) (all_there hits)
ways_every item (either left right) = λ i. ways_every item left i ++ ways_every item right i
ways_every item (together left right) =
    λ i. flat_map (λ a. map (two_ways a) ((ap (λ course. ways_on course right) (still item (way_includes a)) ∙ ways_every item right) i)) (ways_every item left i)
ways_every item (apart left right) =
    (λ i. filter (λ a. admitted ((ap (λ course. ways_on course right) (out_still item (way_includes a)) ∙ ways_every item right) i) (way_includes a)) (ways_every item left i))
    ∙ sym (out_is (ways_of item left) (ways_of item right))
ways_every item (negated operand) = refl
ways_every item (through_filter operand kind) = ap (flat_map (filtered_ways kind item)) (ways_every item operand)

-- ---- the ways of an operator

any_pairs : (test : Way → Bool) (rights lefts : List Way)
    → list_any test (flat_map (λ a. map (two_ways a) rights) lefts) ≡ list_any (λ a. list_any (λ b. test (two_ways a b)) rights) lefts
any_pairs test rights lefts =
    list_any-flat_map test (λ a. map (two_ways a) rights) lefts
    ∙ list_any-alike (λ a. list_any test (map (two_ways a) rights)) (λ a. list_any (λ b. test (two_ways a b)) rights) lefts (λ a. list_any-map test (two_ways a) rights)

pub any_kept : (test kept : Way → Bool) (ways : List Way) → list_any test (filter kept ways) ≡ list_any (λ a. kept a && test a) ways
any_kept test kept [] = refl
any_kept test kept (way ∷ rest) = by_test (kept way) (any_kept test kept rest)
  where
    by_test : (b : Bool) → list_any test (filter kept rest) ≡ list_any (λ a. kept a && test a) rest → list_any test (cond b (way ∷ filter kept rest) (filter kept rest)) ≡ ((b && test way) || list_any (λ a. kept a && test a) rest)
    by_test true same = ap (λ b. test way || b) same
    by_test false same = same

any_apart : (test : Way → Bool) (lefts rights : List Way) → list_any test (standing_out lefts rights) ≡ list_any (λ a. admitted rights (way_includes a) && test a) lefts
any_apart test lefts rights = ap (list_any test) (out_is lefts rights) ∙ any_kept test (λ a. admitted rights (way_includes a)) lefts

all_by_any : (p : Way → Bool) (ways : List Way) → list_all p ways ≡ not (list_any (λ w. not (p w)) ways)
all_by_any p [] = refl
all_by_any p (way ∷ rest) = by_test (p way) (all_by_any p rest)
  where
    by_test : (b : Bool) → list_all p rest ≡ not (list_any (λ w. not (p w)) rest) → (b && list_all p rest) ≡ not (not b || list_any (λ w. not (p w)) rest)
    by_test true same = same
    by_test false same = refl

-- a test of the includes alone
pub of_includes : (asked : Type 0) (test : List Hit → Bool) → Respects asked (λ way. test (way_includes way))
of_includes asked test better way s h = ap test s.same ∙ h

any_filtered : (kind : Filter) (course : Course) (test : Way → Bool) (ways : List Way)
    → list_any test (flat_map (filtered_on kind course) ways)
    ≡ list_any (λ way. passes kind (way_includes way) course.item && list_any (λ c. test (by_filter way kind c)) (asked_for course.windows (choices kind (way_includes way)))) ways
any_filtered kind course test ways =
    list_any-flat_map test (filtered_on kind course) ways
    ∙ list_any-alike (λ way. list_any test (filtered_on kind course way)) _ ways (λ way. by_test way (passes kind (way_includes way) course.item) (asked_for course.windows (choices kind (way_includes way))))
  where
    by_test : (way : Way) (b : Bool) (cs : List (Option Window)) → list_any test (cond b (map (by_filter way kind) cs) []) ≡ (b && list_any (λ c. test (by_filter way kind c)) cs)
    by_test way true cs = list_any-map test (by_filter way kind) cs
    by_test way false cs = refl

-- ---- ways that a course leaves out

-- whether a course leaves ways out
abbrev pub Narrows : Windows → Type 0
Narrows Each = ⊥
Narrows Telling = ⊤
Narrows First = ⊤

-- a test that only ways pass whose includes lie in the bounds and agree, with as few before their distances as the course says
abbrev pub Bounded : Course → (Way → Bool) → Type 0
Bounded course test = (way : Way) → test way ≡ true → (are_within course.bounds course.reach (way_includes way) && few_before course.extents way) ≡ true

-- the same of a test of ways that are so few, and without bounds
abbrev pub few_and : Course → (Way → Bool) → Way → Bool
few_and course test way = few_before course.extents way && test way

pub bounded_nowhere : (course : Course) (test : Way → Bool) → Bounded (without_bounds course) (few_and course test)
bounded_nowhere course test way h =
    let hits = way_includes way in
    let few = and_parts (few_before course.extents way) (test way) h in
    λ i. (all_pass (lies_in everywhere) all_lie hits i && all_pass (λ hit. list_all (λ other. true) hits) (λ hit. all_pass (λ other. true) (λ other. refl) hits) hits i) && few.0 i

few_respects : (asked : Type 0) (course : Course) (test : Way → Bool) → Respects asked test → Respects asked (few_and course test)
few_respects asked course test respects better way s h =
    let parts = and_parts (few_before course.extents way) (test way) h in
    λ i. s.few course.extents parts.0 i && respects better way s parts.1 i

any_few : (few test : Way → Bool) (ways : List Way) → list_all few ways ≡ true → list_any (λ way. few way && test way) ways ≡ list_any test ways
any_few few test [] h = refl
any_few few test (way ∷ rest) h = let parts = and_parts (few way) (list_all few rest) h in λ i. (parts.0 i && test way) || any_few few test rest parts.1 i

-- each way is so few where the extent holds
told_few : (course : Course) (operator : Operator) (test : Way → Bool) → are_held course.extents operator ≡ true
    → list_any (few_and course test) (ways_on course operator) ≡ list_any (few_and course test) (ways_of course.item operator)
    → list_any test (ways_on course operator) ≡ list_any test (ways_of course.item operator)
told_few course operator test held same =
    let few = few_before course.extents in
    sym (any_few few test (ways_on course operator) (few_inside operator course course.extents held)) ∙ same
    ∙ any_few few test (ways_of course.item operator) (ap (list_all few) (sym (ways_every course.item operator)) ∙ few_inside operator (every course.item) course.extents held)

hits_within : (course : Course) (test : Way → Bool) → Bounded course test → (found : List Hit) → list_any test (map one_hit (filter (lies_in course.bounds) found)) ≡ list_any test (map one_hit found)
hits_within course test bounded [] = refl
hits_within course test bounded (hit ∷ rest) = by_test (lies_in course.bounds hit) refl (hits_within course test bounded rest)
  where
    inside : test (one_hit hit) ≡ true → lies_in course.bounds hit ≡ true
    inside h =
        let within = and_parts ((lies_in course.bounds hit && true) && ((agrees course.reach hit hit && true) && true)) true (bounded (one_hit hit) h) in
        (and_parts (lies_in course.bounds hit) true (and_parts (lies_in course.bounds hit && true) ((agrees course.reach hit hit && true) && true) within.0).0).0

    by_test : (b : Bool) → lies_in course.bounds hit ≡ b → list_any test (map one_hit (filter (lies_in course.bounds) rest)) ≡ list_any test (map one_hit rest)
        → list_any test (map one_hit (cond b (hit ∷ filter (lies_in course.bounds) rest) (filter (lies_in course.bounds) rest))) ≡ (test (one_hit hit) || list_any test (map one_hit rest))
    by_test true is same = ap (λ b. test (one_hit hit) || b) same
    by_test false is same = same ∙ sym (ap (λ b. b || list_any test (map one_hit rest)) (fails_below (test (one_hit hit)) (lies_in course.bounds hit) inside is))

-- what each element that passes gives, some element gives
any_gives : {X : Type 0} (p : X → Bool) (c : Bool) → ((x : X) → p x ≡ true → c ≡ true) → (xs : List X) → list_any p xs ≡ true → c ≡ true
any_gives p c each [] h = cc
any_gives p c each (x ∷ xs) h = by_test (p x) (each x) (any_gives p c each xs) h
  where
    by_test : (b : Bool) → (b ≡ true → c ≡ true) → (list_any p xs ≡ true → c ≡ true) → (b || list_any p xs) ≡ true → c ≡ true
    by_test true here later e = here refl
    by_test false here later e = later e

inside_within : (windows : Windows) → Narrows windows → (extents : UnitExtents) (kind : Filter) (item : Span) (bounds : Bounds) (reach : Reach) (hits : List Hit) → passes kind hits item ≡ true
    → few_at extents kind hits ≡ true → are_within bounds reach (after kind hits) ≡ true → are_within (bounds_inside windows kind bounds) (reach_inside windows extents kind reach) hits ≡ true
inside_within Each narrows extents kind item bounds reach hits p few h = absurd narrows
inside_within Telling narrows extents kind item bounds reach hits p few h = filter_within extents kind item bounds reach hits p few h
inside_within First narrows extents kind item bounds reach hits p few h = filter_within extents kind item bounds reach hits p few h

-- two ways whose includes lie in the bounds and agree, with few before their distances
pair_bounded : (course : Course) (a b : Way) → (are_within course.bounds course.reach (way_includes a ++ way_includes b) && (few_before course.extents a && few_before course.extents b)) ≡ true
    → ((are_within course.bounds course.reach (way_includes a) && few_before course.extents a) ≡ true)
    × ((are_within (round_hits course.reach course.bounds (way_includes a)) course.reach (way_includes b) && few_before course.extents b) ≡ true)
pair_bounded course a b h =
    let parts = and_parts (are_within course.bounds course.reach (way_includes a ++ way_includes b)) (few_before course.extents a && few_before course.extents b) h in
    let sides = sides_within course.bounds course.reach (way_includes a) (way_includes b) parts.0 in
    let few = and_parts (few_before course.extents a) (few_before course.extents b) parts.1 in
    (λ i. sides.0 i && few.0 i, λ i. sides.1 i && few.1 i)

-- ---- the right side of a mild not

-- whether hits don't stand out of includes which are as few as is said
abbrev pub bars : Option Extent → List Hit → List Hit → Bool
bars beside hits includes = are_few Words beside includes && not (stands_out hits includes)

abbrev pub barring : Course → List Hit → Way → Bool
barring course hits = few_and course (λ way. bars course.beside hits (way_includes way))

bounded_out : (course : Course) (hits : List Hit) → Bounded (course_out course hits) (barring course hits)
bounded_out course hits way h =
    let includes = way_includes way in
    let parts = and_parts (few_before course.extents way) (bars course.beside hits includes) h in
    let both = and_parts (are_few Words course.beside includes) (not (stands_out hits includes)) parts.1 in
    λ i. (lies_beside_all course.beside hits includes both.0 both.1 i && all_pass (λ hit. list_all (λ other. true) includes) (λ hit. all_pass (λ other. true) (λ other. refl) includes) includes i)
    && parts.0 i

-- each way of the right side is as few as is said
beside_few : (course other : Course) (right : Operator) → holds course.beside (extent_of Words right) ≡ true → list_all (λ way. are_few Words course.beside (way_includes way)) (ways_on other right) ≡ true
beside_few course other right held =
    all_more (λ way. are_few Words (extent_of Words right) (way_includes way)) (λ way. are_few Words course.beside (way_includes way))
    (λ way h. few_more Words course.beside (extent_of Words right) (way_includes way) held h) (ways_on other right) (few_ways Words right other (words_rise (hits_of right)))

-- whether hits stand out of each way of the right side is told by those that a course leaves
out_told : (course : Course) (right : Operator) (hits : List Hit) → are_held course.extents right ≡ true → holds course.beside (extent_of Words right) ≡ true
    → ((of : List Hit → Bool) → list_any (few_and course (λ way. of (way_includes way))) (ways_on (without_bounds course) right) ≡ list_any (few_and course (λ way. of (way_includes way))) (ways_of course.item right))
    → list_any (barring course hits) (ways_on (course_out course hits) right) ≡ list_any (barring course hits) (ways_of course.item right)
    → passes_out course right hits ≡ admitted (ways_of course.item right) hits
out_told course right hits held few all some = by_test (has_word hits) refl
  where
    rights : List Way
    rights = ways_of course.item right

    ways : List Way
    ways = ways_on (course_out course hits) right

    told : (of : List Hit → Bool) → list_any (λ way. of (way_includes way)) (ways_on (without_bounds course) right) ≡ list_any (λ way. of (way_includes way)) rights
    told of = told_few (without_bounds course) right (λ way. of (way_includes way)) held (all of)

    barred : list_any (λ way. not (stands_out hits (way_includes way))) ways ≡ list_any (λ way. not (stands_out hits (way_includes way))) rights
    barred =
        sym (any_few (λ way. are_few Words course.beside (way_includes way)) (λ way. not (stands_out hits (way_includes way))) ways (beside_few course (course_out course hits) right few))
        ∙ told_few (course_out course hits) right (λ way. bars course.beside hits (way_includes way)) held some
        ∙ any_few (λ way. are_few Words course.beside (way_includes way)) (λ way. not (stands_out hits (way_includes way))) rights
        (ap (list_all (λ way. are_few Words course.beside (way_includes way))) (sym (ways_every course.item right)) ∙ beside_few course (every course.item) right few)

    by_test : (b : Bool) → has_word hits ≡ b → admitted ways hits ≡ admitted rights hits
    by_test true word =
        admitted_out hits word ways
        ∙ all_by_any (λ way. stands_out hits (way_includes way)) ways ∙ ap not barred ∙ sym (all_by_any (λ way. stands_out hits (way_includes way)) rights)
        ∙ sym (admitted_out hits word rights)
    by_test false word =
        ap (λ c. admitted (ways_on c right) hits) (out_wordless course hits word)
        ∙ (λ i. not (told is_not_empty i)
        || (all_by_any (λ way. stands_out hits (way_includes way)) (ways_on (without_bounds course) right)
        ∙ ap not (told (λ includes. not (stands_out hits includes)))
        ∙ sym (all_by_any (λ way. stands_out hits (way_includes way)) rights)) i)

pub ways_tell : (operator : Operator) (course : Course) (test : Way → Bool) → Narrows course.windows → are_held course.extents operator ≡ true → holds course.beside (extent_beside Words operator) ≡ true
    → Respects (Asks course.windows) test → Bounded course test → list_any test (ways_on course operator) ≡ list_any test (ways_of course.item operator)
unfolding ways_on ways_of
ways_tell (phrase found) course test narrows held out respects bounded = hits_within course test bounded found
ways_tell (either left right) course test narrows held out respects bounded =
    let parts = held_either left right course.extents held in
    let outs = holds_both course.beside (extent_beside Words left) (extent_beside Words right) out in
    list_any-append test (ways_on course left) (ways_on course right)
    ∙ (λ i. ways_tell left course test narrows parts.0 outs.0 respects bounded i || ways_tell right course test narrows parts.1 outs.1 respects bounded i)
    ∙ sym (list_any-append test (ways_of course.item left) (ways_of course.item right))
ways_tell (together left right) course test narrows held out respects bounded =
    let parts = held_both left right course.extents held in
    let outs = holds_both course.beside (extent_beside Words left) (extent_beside Words right) out in
    let asked = Asks course.windows in
    let rights = ways_of course.item right in
    let beside = λ (a : Way). course_beside course (way_includes a) in
    let sides = λ (a b : Way) (h : test (two_ways a b) ≡ true).
    pair_bounded course a b (bounded (two_ways a b) h) in
    list_any-flat_map test (λ a. map (two_ways a) (ways_on (beside a) right)) (ways_on course left)
    ∙ list_any-alike (λ a. list_any test (map (two_ways a) (ways_on (beside a) right))) (λ a. list_any (λ b. test (two_ways a b)) rights) (ways_on course left)
    (λ a.
    list_any-map test (two_ways a) (ways_on (beside a) right)
    ∙ ways_tell right (beside a) (λ b. test (two_ways a b)) narrows parts.1 outs.1
    (λ better way s h. respects (two_ways a better) (two_ways a way) (serves_right asked better way a s) h)
    (λ b h. (sides a b h).1))
    ∙ ways_tell left course (λ a. list_any (λ b. test (two_ways a b)) rights) narrows parts.0 outs.0
    (λ better way s h. any_more (λ b. test (two_ways way b)) (λ b. test (two_ways better b)) (λ b e. respects (two_ways better b) (two_ways way b) (serves_left asked better way b s) e) rights h)
    (λ a h. any_gives (λ b. test (two_ways a b)) (are_within course.bounds course.reach (way_includes a) && few_before course.extents a) (λ b e. (sides a b e).0) rights h)
    ∙ sym (any_pairs test rights (ways_of course.item left))
ways_tell (apart left right) course test narrows held out respects bounded =
    let parts = held_apart left right course.extents held in
    let more = holds_both course.beside (extent_of Words right) (extent_of_either (extent_beside Words left) (extent_beside Words right)) out in
    let outs = holds_both course.beside (extent_beside Words left) (extent_beside Words right) more.1 in
    let asked = Asks course.windows in
    let rights = ways_of course.item right in
    any_kept test (stands_on course right) (ways_on course left)
    ∙ list_any-alike (λ a. stands_on course right a && test a) (λ a. admitted rights (way_includes a) && test a) (ways_on course left)
    (λ a i.
    out_told course right (way_includes a) parts.1 more.0
    (λ of. ways_tell right (without_bounds course) (few_and course (λ way. of (way_includes way))) narrows parts.1 outs.1
    (few_respects asked course (λ way. of (way_includes way)) (of_includes asked of)) (bounded_nowhere course (λ way. of (way_includes way))))
    (ways_tell right (course_out course (way_includes a)) (barring course (way_includes a)) narrows parts.1 outs.1
    (few_respects asked course (λ way. bars course.beside (way_includes a) (way_includes way)) (of_includes asked (bars course.beside (way_includes a)))) (bounded_out course (way_includes a))) i
    && test a)
    ∙ ways_tell left course (λ a. admitted rights (way_includes a) && test a) narrows parts.0 outs.0
    (λ better way s h.
    let both = and_parts (admitted rights (way_includes way)) (test way) h in
    λ i. (ap (admitted rights) s.same ∙ both.0) i && respects better way s both.1 i)
    (λ a h. bounded a (and_parts (admitted rights (way_includes a)) (test a) h).1)
    ∙ sym (any_apart test (ways_of course.item left) rights)
ways_tell (negated operand) course test narrows held out respects bounded = refl
ways_tell (through_filter operand kind) course test narrows held out respects bounded =
    let inside = course_inside kind course in
    any_filtered kind course test (ways_on inside operand)
    ∙ list_any-alike (λ way. passes kind (way_includes way) course.item && list_any (λ c. test (by_filter way kind c)) (asked_for course.windows (choices kind (way_includes way)))) (chosen course.item)
    (ways_on inside operand) (λ way. ap (λ b. passes kind (way_includes way) course.item && b) (choices_tell course.windows test respects way kind (way_includes way)))
    ∙ ways_tell operand inside (chosen course.item) narrows (held_inside operand kind course.extents held) out
    (λ better way s h.
    let parts = and_parts (passes kind (way_includes way) course.item) (list_any (λ c. test (by_filter way kind c)) (choices kind (way_includes way))) h in
    λ i. (ap (λ hits. passes kind hits course.item) s.same ∙ parts.0) i && (ap (λ hits. list_any (λ c. test (by_filter better kind c)) (choices kind hits)) s.same
    ∙ any_more (λ c. test (by_filter way kind c)) (λ c. test (by_filter better kind c))
    (λ c e. respects (by_filter better kind c) (by_filter way kind c) (serves_filtered (Asks course.windows) better way kind c s) e) (choices kind (way_includes way)) parts.1) i)
    (λ way h.
    let parts = and_parts (passes kind (way_includes way) course.item) (list_any (λ c. test (by_filter way kind c)) (choices kind (way_includes way))) h in
    let behind = are_within course.bounds course.reach (after kind (way_includes way)) in
    let few = few_at course.extents kind (way_includes way) && few_before course.extents way in
    let said = and_parts behind few (any_gives (λ c. test (by_filter way kind c)) (behind && few) (λ c e. bounded (by_filter way kind c) e) (choices kind (way_includes way)) parts.1) in
    let fewer = and_parts (few_at course.extents kind (way_includes way)) (few_before course.extents way) said.1 in
    λ i. inside_within course.windows narrows course.extents kind course.item course.bounds course.reach (way_includes way) parts.0 fewer.0 said.0 i && fewer.1 i)
    ∙ sym (any_filtered kind (every course.item) test (ways_of course.item operand))
  where
    chosen : Span → Way → Bool
    chosen item way = passes kind (way_includes way) item && list_any (λ c. test (by_filter way kind c)) (choices kind (way_includes way))

-- ---- what a walk asks

pub clean_told : (item : Span) (extents : UnitExtents) (beside : Option Extent) (operator : Operator) (kept : Hit → Bool) → are_held extents operator ≡ true → holds beside (extent_beside Words operator) ≡ true
    → list_any (clean_under kept) (ways_on (tellings item extents beside) operator) ≡ list_any (clean_under kept) (ways_of item operator)
clean_told item extents beside operator kept held out =
    let course = tellings item extents beside in
    told_few course operator (clean_under kept) held
    (ways_tell operator course (few_and course (clean_under kept)) tt held out (few_respects ⊤ course (clean_under kept) (λ better way s h. s.clean tt kept h)) (bounded_nowhere course (clean_under kept)))

-- the same of clean ways whose includes pass a test
pub clean_and_told : (item : Span) (extents : UnitExtents) (beside : Option Extent) (operator : Operator) (kept : Hit → Bool) (of : List Hit → Bool) → are_held extents operator ≡ true → holds beside (extent_beside Words operator) ≡ true
    → list_any (λ way. clean_under kept way && of (way_includes way)) (ways_on (tellings item extents beside) operator) ≡ list_any (λ way. clean_under kept way && of (way_includes way)) (ways_of item operator)
clean_and_told item extents beside operator kept of held out =
    let course = tellings item extents beside in
    told_few course operator (λ way. clean_under kept way && of (way_includes way)) held
    (ways_tell operator course (few_and course (λ way. clean_under kept way && of (way_includes way))) tt held out
    (few_respects ⊤ course (λ way. clean_under kept way && of (way_includes way)) respects) (bounded_nowhere course (λ way. clean_under kept way && of (way_includes way))))
  where
    respects : Respects ⊤ (λ way. clean_under kept way && of (way_includes way))
    respects better way s h =
        let parts = and_parts (clean_under kept way) (of (way_includes way)) h in
        λ i. s.clean tt kept parts.0 i && (ap of s.same ∙ parts.1) i

-- those that are kept lie in bounds
pub kept_told : (item : Span) (bounds : Bounds) (extents : UnitExtents) (beside : Option Extent) (operator : Operator) (kept : Hit → Bool) → ((hit : Hit) → kept hit ≡ true → lies_in bounds hit ≡ true)
    → are_held extents operator ≡ true → holds beside (extent_beside Words operator) ≡ true
    → list_any (all_kept kept) (ways_on (firsts item bounds extents beside) operator) ≡ list_any (all_kept kept) (ways_of item operator)
kept_told item bounds extents beside operator kept lie held out =
    let course = firsts item bounds extents beside in
    told_few course operator (all_kept kept) held
    (ways_tell operator course (few_and course (all_kept kept)) tt held out (few_respects ⊥ course (all_kept kept) (of_includes ⊥ (list_all kept)))
    (λ way h.
    let hits = way_includes way in
    let parts = and_parts (few_before extents way) (all_kept kept way) h in
    λ i. (all_more kept (lies_in bounds) lie hits parts.1 i && all_pass (λ hit. list_all (λ other. true) hits) (λ hit. all_pass (λ other. true) (λ other. refl) hits) hits i) && parts.0 i))
