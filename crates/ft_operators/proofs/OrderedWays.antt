-- The ways of an operator that chooses one hit of each of some phrases come in the order of their includes: the first clean one has the least.
use Rattle.std.proofs.Common.{◌≡◌, refl, ap, sym, subst, ◌∙◌, ℕ, ◌+◌, List, [], ◌∷◌, ◌++◌, length, Bool, true, false, true≢false, ◌&&◌, ◌||◌, cond, filter, flat_map, map, arith}
use Rattle.std.specs.Prelude.{◌==◌, nat_lt, Option, Some, None}
use Rattle.std.specs.List.{list_all, list_any, AllByRecursion}
use Rattle.std.proofs.lemmas.Bool.{and_from, and_parts, or_left, or_parts}
use Rattle.std.proofs.lemmas.Bool.Decides.{nat_tests}
use Rattle.std.proofs.lemmas.List.{length-append}
use Rattle.std.proofs.lemmas.List.Folds.{list_all-append}
use Rattle.ft_base.specs.declared.filter.Filter.{Filter}
use Rattle.ft_base.specs.declared.filter.Filter.TheVariants as F
use Rattle.ft_base.specs.declared.hit.Hit.{Hit}
use Rattle.all_matches.specs.Filters.{after, choices, passes}
use Rattle.all_matches.specs.Ways.{Operator, phrase, either, together, apart, negated, through_filter}
use Rattle.all_matches.specs.Ways.{Way, one_hit, two_ways, by_filter, way_includes}
use Rattle.best_hits.specs.Least.{comes_before, has_same_places, is_earlier}
use Rattle.best_hits.proofs.LeastLemmas.{none-before}
use Rattle.ft_operators.specs.declared.course.Course.{Course}
use Rattle.ft_operators.specs.declared.course.Windows.{Windows}
use Rattle.ft_operators.specs.declared.course.Windows.TheVariants.{Each, Telling, First}
use Rattle.ft_operators.specs.Bounds.{lies_in}
use Rattle.ft_operators.specs.Course.{asked_for, course_beside, course_inside, filtered_on, stands_on, ways_on}
use Rattle.ft_operators.specs.Ordered.{comes_in_order, is_after, leaves_includes, rise_after}
use Rattle.ft_operators.specs.steps.Comparing.{least_after}
use Rattle.ft_operators.specs.steps.Ordering.{is_before, rise}

-- ---- hits that rise

earlier-on : (a b c d e f : ℕ) → (nat_lt a c || (a == c && nat_lt b d)) ≡ true → (nat_lt c e || (c == e && nat_lt d f)) ≡ true → (nat_lt a e || (a == e && nat_lt b f)) ≡ true
earlier-on a b c d e f h k = grind (arith, nat_tests)

after-too : (last hit : Hit) (rest : List Hit) → is_earlier last hit ≡ true → rise_after (Some hit) rest ≡ true → rise_after (Some last) rest ≡ true
after-too last hit [] h k = refl
after-too last hit (next ∷ rest) h k =
    let parts = and_parts (is_earlier hit next) (rise_after (Some next) rest) k in
    and_from (is_earlier last next) (rise_after (Some next) rest) (earlier-on last.from last.to hit.from hit.to next.from next.to h parts.0) parts.1

without-first : (last : Option Hit) (hit : Hit) (rest : List Hit) → is_after last hit ≡ true → rise_after (Some hit) rest ≡ true → rise_after last rest ≡ true
without-first None hit [] h k = refl
without-first None hit (next ∷ rest) h k = (and_parts (is_earlier hit next) (rise_after (Some next) rest) k).1
without-first (Some last) hit rest h k = after-too last hit rest h k

hits-kept : (keep : Hit → Bool) (last : Option Hit) (found : List Hit) → rise_after last found ≡ true → rise_after last (filter keep found) ≡ true
hits-kept keep last [] h = refl
hits-kept keep last (hit ∷ rest) h =
    let parts = and_parts (is_after last hit) (rise_after (Some hit) rest) h in
    by (keep hit) parts.0 (hits-kept keep (Some hit) rest parts.1) (hits-kept keep last rest (without-first last hit rest parts.0 parts.1))
  where
    by : (b : Bool) → is_after last hit ≡ true → rise_after (Some hit) (filter keep rest) ≡ true → rise_after last (filter keep rest) ≡ true
        → rise_after last (cond b (hit ∷ filter keep rest) (filter keep rest)) ≡ true
    by true first more skipped = and_from (is_after last hit) (rise_after (Some hit) (filter keep rest)) first more
    by false first more skipped = skipped

one-hits : (hit : Hit) (found : List Hit) → rise_after (Some hit) found ≡ true → list_all (is_before (one_hit hit)) (map one_hit found) ≡ true
one-hits hit [] h = refl
one-hits hit (next ∷ rest) h =
    let parts = and_parts (is_earlier hit next) (rise_after (Some next) rest) h in
    and_from (is_before (one_hit hit) (one_hit next)) (list_all (is_before (one_hit hit)) (map one_hit rest))
    (or_left (is_earlier hit next) (has_same_places hit next && false) parts.0) (one-hits hit rest (after-too hit next rest parts.0 parts.1))

hits-rise : (last : Option Hit) (found : List Hit) → rise_after last found ≡ true → rise (map one_hit found) ≡ true
hits-rise last [] h = refl
hits-rise last (hit ∷ rest) h =
    let parts = and_parts (is_after last hit) (rise_after (Some hit) rest) h in
    and_from (list_all (is_before (one_hit hit)) (map one_hit rest)) (rise (map one_hit rest)) (one-hits hit rest parts.1) (hits-rise (Some hit) rest parts.1)

-- ---- hits behind others

at-itself : (a b : ℕ) → (a == a && b == b) ≡ true
at-itself a b = grind (arith, nat_tests)

or-second : (e s r : Bool) → s ≡ true → r ≡ true → (e || (s && r)) ≡ true
or-second true s r h k = refl
or-second false s r h k = and_from s r h k

or-further : (e s r q : Bool) → (r ≡ true → q ≡ true) → (e || (s && r)) ≡ true → (e || (s && q)) ≡ true
or-further true s r q f h = refl
or-further false true r q f h = f h
or-further false false r q f h = h

before-behind : (hits xs ys : List Hit) → comes_before xs ys ≡ true → comes_before (hits ++ xs) (hits ++ ys) ≡ true
before-behind [] xs ys h = h
before-behind (hit ∷ hits) xs ys h =
    or-second (is_earlier hit hit) (has_same_places hit hit) (comes_before (hits ++ xs) (hits ++ ys)) (at-itself hit.from hit.to) (before-behind hits xs ys h)

before-in-front : (xs ys us vs : List Hit) → length xs ≡ length ys → comes_before xs ys ≡ true → comes_before (xs ++ us) (ys ++ vs) ≡ true
before-in-front [] [] us vs l h = absurd (true≢false (sym h))
before-in-front [] (y ∷ ys) us vs l h = absurd (omega (arith, l))
before-in-front (x ∷ xs) [] us vs l h = absurd (true≢false (sym h))
before-in-front (x ∷ xs) (y ∷ ys) us vs l h =
    or-further (is_earlier x y) (has_same_places x y) (comes_before xs ys) (comes_before (xs ++ us) (ys ++ vs)) (before-in-front xs ys us vs (omega (arith, l))) h

-- ---- ways with others beside them

abbrev pairs : (Way → List Way) → List Way → List Way
pairs rights lefts = flat_map (λ a. map (two_ways a) (rights a)) lefts

-- ways that have so many includes
abbrev Wide : ℕ → List Way → Type 0
Wide n ways = AllByRecursion (λ way. length (way_includes way) ≡ n) ways

row-before : (a b : Way) (rest : List Way) → list_all (is_before b) rest ≡ true → list_all (is_before (two_ways a b)) (map (two_ways a) rest) ≡ true
row-before a b [] h = refl
row-before a b (c ∷ rest) h =
    let parts = and_parts (is_before b c) (list_all (is_before b) rest) h in
    and_from (is_before (two_ways a b) (two_ways a c)) (list_all (is_before (two_ways a b)) (map (two_ways a) rest))
    (before-behind (way_includes a) (way_includes b) (way_includes c) parts.0) (row-before a b rest parts.1)

row-rises : (a : Way) (rights : List Way) → rise rights ≡ true → rise (map (two_ways a) rights) ≡ true
row-rises a [] h = refl
row-rises a (b ∷ rest) h =
    let parts = and_parts (list_all (is_before b) rest) (rise rest) h in
    and_from (list_all (is_before (two_ways a b)) (map (two_ways a) rest)) (rise (map (two_ways a) rest)) (row-before a b rest parts.0) (row-rises a rest parts.1)

row-first : (a b other : Way) (rights : List Way) → length (way_includes a) ≡ length (way_includes other) → is_before a other ≡ true
    → list_all (is_before (two_ways a b)) (map (two_ways other) rights) ≡ true
row-first a b other [] l h = refl
row-first a b other (c ∷ rest) l h =
    and_from (is_before (two_ways a b) (two_ways other c)) (list_all (is_before (two_ways a b)) (map (two_ways other) rest))
    (before-in-front (way_includes a) (way_includes other) (way_includes b) (way_includes c) l h) (row-first a b other rest l h)

pairs-first : (rights : Way → List Way) (a b : Way) (lefts : List Way) → AllByRecursion (λ way. length (way_includes a) ≡ length (way_includes way)) lefts
    → list_all (is_before a) lefts ≡ true → list_all (is_before (two_ways a b)) (pairs rights lefts) ≡ true
pairs-first rights a b [] l h = refl
pairs-first rights a b (other ∷ rest) l h =
    let parts = and_parts (is_before a other) (list_all (is_before a) rest) h in
    list_all-append (is_before (two_ways a b)) (map (two_ways other) (rights other)) (pairs rights rest)
    ∙ and_from (list_all (is_before (two_ways a b)) (map (two_ways other) (rights other))) (list_all (is_before (two_ways a b)) (pairs rights rest))
    (row-first a b other (rights other) l.0 parts.0) (pairs-first rights a b rest l.1 parts.1)

row-all : (rights : Way → List Way) (a : Way) (row lefts : List Way) → AllByRecursion (λ way. length (way_includes a) ≡ length (way_includes way)) lefts
    → list_all (is_before a) lefts ≡ true → list_all (λ x. list_all (is_before x) (pairs rights lefts)) (map (two_ways a) row) ≡ true
row-all rights a [] lefts l h = refl
row-all rights a (b ∷ row) lefts l h =
    and_from (list_all (is_before (two_ways a b)) (pairs rights lefts)) (list_all (λ x. list_all (is_before x) (pairs rights lefts)) (map (two_ways a) row))
    (pairs-first rights a b lefts l h) (row-all rights a row lefts l h)

rise-joined : (xs ys : List Way) → rise xs ≡ true → rise ys ≡ true → list_all (λ x. list_all (is_before x) ys) xs ≡ true → rise (xs ++ ys) ≡ true
rise-joined [] ys h k all = k
rise-joined (x ∷ xs) ys h k all =
    let parts = and_parts (list_all (is_before x) xs) (rise xs) h in
    let each = and_parts (list_all (is_before x) ys) (list_all (λ z. list_all (is_before z) ys) xs) all in
    and_from (list_all (is_before x) (xs ++ ys)) (rise (xs ++ ys))
    (list_all-append (is_before x) xs ys ∙ and_from (list_all (is_before x) xs) (list_all (is_before x) ys) parts.0 each.0) (rise-joined xs ys parts.1 k each.1)

as-wide : (n : ℕ) (a : Way) (ways : List Way) → length (way_includes a) ≡ n → Wide n ways → AllByRecursion (λ way. length (way_includes a) ≡ length (way_includes way)) ways
as-wide n a [] h l = tt
as-wide n a (way ∷ rest) h l = (h ∙ sym l.0, as-wide n a rest h l.1)

pairs-rise : (rights : Way → List Way) → ((a : Way) → rise (rights a) ≡ true) → (n : ℕ) (lefts : List Way) → Wide n lefts → rise lefts ≡ true → rise (pairs rights lefts) ≡ true
pairs-rise rights each n [] l h = refl
pairs-rise rights each n (a ∷ rest) l h =
    let parts = and_parts (list_all (is_before a) rest) (rise rest) h in
    rise-joined (map (two_ways a) (rights a)) (pairs rights rest) (row-rises a (rights a) (each a)) (pairs-rise rights each n rest l.1 parts.1)
    (row-all rights a (rights a) rest (as-wide n a rest l.0 l.1) parts.0)

-- ---- ways that are left out, and those behind a filter

all-kept : (test keep : Way → Bool) (ways : List Way) → list_all test ways ≡ true → list_all test (filter keep ways) ≡ true
all-kept test keep [] h = refl
all-kept test keep (way ∷ rest) h =
    let parts = and_parts (test way) (list_all test rest) h in
    by (keep way) parts.0 (all-kept test keep rest parts.1)
  where
    by : (b : Bool) → test way ≡ true → list_all test (filter keep rest) ≡ true → list_all test (cond b (way ∷ filter keep rest) (filter keep rest)) ≡ true
    by true one more = and_from (test way) (list_all test (filter keep rest)) one more
    by false one more = more

kept-rise : (keep : Way → Bool) (ways : List Way) → rise ways ≡ true → rise (filter keep ways) ≡ true
kept-rise keep [] h = refl
kept-rise keep (way ∷ rest) h =
    let parts = and_parts (list_all (is_before way) rest) (rise rest) h in
    by (keep way) (all-kept (is_before way) keep rest parts.0) (kept-rise keep rest parts.1)
  where
    by : (b : Bool) → list_all (is_before way) (filter keep rest) ≡ true → rise (filter keep rest) ≡ true → rise (cond b (way ∷ filter keep rest) (filter keep rest)) ≡ true
    by true one more = and_from (list_all (is_before way) (filter keep rest)) (rise (filter keep rest)) one more
    by false one more = more

module _ (made : Way → Way) (same : (way : Way) → way_includes (made way) ≡ way_includes way) where
  all-same : (a : Way) (ways : List Way) → list_all (is_before (made a)) (map made ways) ≡ list_all (is_before a) ways
  all-same a [] = refl
  all-same a (way ∷ rest) = λ i. comes_before (same a i) (same way i) && all-same a rest i

  rise-same : (ways : List Way) → rise (map made ways) ≡ rise ways
  rise-same [] = refl
  rise-same (way ∷ rest) = λ i. all-same way rest i && rise-same rest i

  wide-same : (n : ℕ) (ways : List Way) → Wide n ways → Wide n (map made ways)
  wide-same n [] l = tt
  wide-same n (way ∷ rest) l = (ap length (same way) ∙ l.0, wide-same n rest l.1)

left-alone : (kind : Filter) (hits : List Hit) → leaves_includes kind ≡ true → after kind hits ≡ hits
left-alone F.Ordered hits h = refl
left-alone (F.Window size unit) hits h = cc
left-alone (F.Distance range unit) hits h = cc
left-alone F.SameSentence hits h = refl
left-alone F.SameParagraph hits h = refl
left-alone F.DifferentSentence hits h = refl
left-alone F.DifferentParagraph hits h = refl
left-alone F.AtStart hits h = refl
left-alone F.AtEnd hits h = refl
left-alone F.EntireContent hits h = refl

no-choice : (kind : Filter) (hits : List Hit) → leaves_includes kind ≡ true → choices kind hits ≡ None ∷ []
no-choice F.Ordered hits h = refl
no-choice (F.Window size unit) hits h = cc
no-choice (F.Distance range unit) hits h = cc
no-choice F.SameSentence hits h = refl
no-choice F.SameParagraph hits h = refl
no-choice F.DifferentSentence hits h = refl
no-choice F.DifferentParagraph hits h = refl
no-choice F.AtStart hits h = refl
no-choice F.AtEnd hits h = refl
no-choice F.EntireContent hits h = refl

asked-none : (windows : Windows) → asked_for windows (None ∷ []) ≡ None ∷ []
asked-none Each = refl
asked-none Telling = refl
asked-none First = refl

behind : Filter → Way → Way
behind kind way = by_filter way kind None

module _ (kind : Filter) (course : Course) (leaves : leaves_includes kind ≡ true) where
  one-behind : (way : Way) → filtered_on kind course way ≡ cond (passes kind (way_includes way) course.item) (behind kind way ∷ []) []
  unfolding behind
  one-behind way =
      ap (λ cs. cond (passes kind (way_includes way) course.item) (map (by_filter way kind) cs) [])
      (ap (asked_for course.windows) (no-choice kind (way_includes way) leaves) ∙ asked-none course.windows)

  all-behind : (ways : List Way) → flat_map (filtered_on kind course) ways ≡ map (behind kind) (filter (λ way. passes kind (way_includes way) course.item) ways)
  all-behind [] = refl
  all-behind (way ∷ rest) = (λ i. one-behind way i ++ all-behind rest i) ∙ by (passes kind (way_includes way) course.item)
    where
      by : (b : Bool) → cond b (behind kind way ∷ []) [] ++ map (behind kind) (filter (λ v. passes kind (way_includes v) course.item) rest)
          ≡ map (behind kind) (cond b (way ∷ filter (λ v. passes kind (way_includes v) course.item) rest) (filter (λ v. passes kind (way_includes v) course.item) rest))
      by true = refl
      by false = refl

  same-behind : (way : Way) → way_includes (behind kind way) ≡ way_includes way
  unfolding behind
  same-behind way = left-alone kind (way_includes way) leaves

-- ---- how many includes they have

wide-hits : (found : List Hit) → Wide 1 (map one_hit found)
wide-hits [] = tt
wide-hits (hit ∷ rest) = (refl, wide-hits rest)

wide-joined : (n : ℕ) (xs ys : List Way) → Wide n xs → Wide n ys → Wide n (xs ++ ys)
wide-joined n [] ys l r = r
wide-joined n (x ∷ xs) ys l r = (l.0, wide-joined n xs ys l.1 r)

wide-row : (n m : ℕ) (a : Way) (row : List Way) → length (way_includes a) ≡ n → Wide m row → Wide (n + m) (map (two_ways a) row)
wide-row n m a [] h l = tt
wide-row n m a (b ∷ row) h l = (length-append (way_includes a) (way_includes b) ∙ (λ i. h i + l.0 i), wide-row n m a row h l.1)

wide-pairs : (rights : Way → List Way) (n m : ℕ) → ((a : Way) → Wide m (rights a)) → (lefts : List Way) → Wide n lefts → Wide (n + m) (pairs rights lefts)
wide-pairs rights n m each [] l = tt
wide-pairs rights n m each (a ∷ rest) l =
    wide-joined (n + m) (map (two_ways a) (rights a)) (pairs rights rest) (wide-row n m a (rights a) l.0 (each a)) (wide-pairs rights n m each rest l.1)

wide-kept : (keep : Way → Bool) (n : ℕ) (ways : List Way) → Wide n ways → Wide n (filter keep ways)
wide-kept keep n [] l = tt
wide-kept keep n (way ∷ rest) l = by (keep way) l.0 (wide-kept keep n rest l.1)
  where
    by : (b : Bool) → length (way_includes way) ≡ n → Wide n (filter keep rest) → Wide n (cond b (way ∷ filter keep rest) (filter keep rest))
    by true one more = (one, more)
    by false one more = more

abbrev width : Operator → ℕ
width (phrase found) = 1
width (either left right) = 0
width (together left right) = width left + width right
width (apart left right) = width left
width (negated operand) = 0
width (through_filter operand kind) = width operand

ways-wide : (course : Course) (operator : Operator) → comes_in_order operator ≡ true → Wide (width operator) (ways_on course operator)
unfolding ways_on
ways-wide course (phrase found) h = wide-hits (filter (lies_in course.bounds) found)
ways-wide course (either left right) h = cc
ways-wide course (together left right) h =
    let parts = and_parts (comes_in_order left) (comes_in_order right) h in
    wide-pairs (λ a. ways_on (course_beside course (way_includes a)) right) (width left) (width right)
    (λ a. ways-wide (course_beside course (way_includes a)) right parts.1) (ways_on course left) (ways-wide course left parts.0)
ways-wide course (apart left right) h = wide-kept (stands_on course right) (width left) (ways_on course left) (ways-wide course left h)
ways-wide course (negated operand) h = (refl, tt)
ways-wide course (through_filter operand kind) h =
    let parts = and_parts (leaves_includes kind) (comes_in_order operand) h in
    let inside = ways_on (course_inside kind course) operand in
    let passed = filter (λ way. passes kind (way_includes way) course.item) inside in
    subst (λ ways. Wide (width operand) ways) (sym (all-behind kind course parts.0 inside))
    (wide-same (behind kind) (same-behind kind course parts.0) (width operand) passed
    (wide-kept (λ way. passes kind (way_includes way) course.item) (width operand) inside (ways-wide (course_inside kind course) operand parts.1)))

-- ---- in order

pub ways-rise : (course : Course) (operator : Operator) → comes_in_order operator ≡ true → rise (ways_on course operator) ≡ true
unfolding ways_on
ways-rise course (phrase found) h = hits-rise None (filter (lies_in course.bounds) found) (hits-kept (lies_in course.bounds) None found h)
ways-rise course (either left right) h = cc
ways-rise course (together left right) h =
    let parts = and_parts (comes_in_order left) (comes_in_order right) h in
    pairs-rise (λ a. ways_on (course_beside course (way_includes a)) right) (λ a. ways-rise (course_beside course (way_includes a)) right parts.1)
    (width left) (ways_on course left) (ways-wide course left parts.0) (ways-rise course left parts.0)
ways-rise course (apart left right) h = kept-rise (stands_on course right) (ways_on course left) (ways-rise course left h)
ways-rise course (negated operand) h = refl
ways-rise course (through_filter operand kind) h =
    let parts = and_parts (leaves_includes kind) (comes_in_order operand) h in
    let inside = ways_on (course_inside kind course) operand in
    let passed = filter (λ way. passes kind (way_includes way) course.item) inside in
    ap rise (all-behind kind course parts.0 inside)
    ∙ rise-same (behind kind) (same-behind kind course parts.0) passed
    ∙ kept-rise (λ way. passes kind (way_includes way) course.item) inside (ways-rise (course_inside kind course) operand parts.1)

-- ---- the first has the least

not-back : (xs ys : List Hit) → comes_before xs ys ≡ true → comes_before ys xs ≡ false
not-back xs ys h = by (comes_before ys xs) (none-before (xs ∷ ys ∷ []))
  where
    by : (b : Bool) → list_any (λ l. comes_before l (cond b ys xs)) (xs ∷ ys ∷ []) ≡ false → b ≡ false
    by true none = absurd (true≢false (sym h ∙ (or_parts (comes_before xs ys) (comes_before ys ys || false) none).0))
    by false none = refl

pub first-stays : (test : Way → Bool) (way : Way) (rest : List Way) → list_all (is_before way) rest ≡ true → least_after test (Some (way_includes way)) rest ≡ Some (way_includes way)
first-stays test way [] h = refl
first-stays test way (next ∷ rest) h =
    let parts = and_parts (is_before way next) (list_all (is_before way) rest) h in
    by (test next) (not-back (way_includes way) (way_includes next) parts.0) (first-stays test way rest parts.1)
  where
    by : (b : Bool) → comes_before (way_includes next) (way_includes way) ≡ false → least_after test (Some (way_includes way)) rest ≡ Some (way_includes way)
        → least_after test (cond b (Some (cond (comes_before (way_includes next) (way_includes way)) (way_includes next) (way_includes way))) (Some (way_includes way))) rest ≡ Some (way_includes way)
    by true back stays = ap (λ c. least_after test (Some (cond c (way_includes next) (way_includes way))) rest) back ∙ stays
    by false back stays = stays
