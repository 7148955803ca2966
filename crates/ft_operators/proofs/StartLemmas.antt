-- The includes of ways begin in the order of sentences or paragraphs where the hits of all phrases do.
use Rattle.std.proofs.Common.{◌≡◌, refl, ap, sym, ◌∙◌, ℕ, min, List, [], ◌∷◌, ◌++◌, Bool, true, false, ◌&&◌, ◌||◌, cond, map, arith}
use Rattle.std.specs.Prelude.{nat_le, nat_lt, filter, flat_map, Option, Some, None, option_to_list}
use Rattle.std.specs.List.{list_all}
use Rattle.std.proofs.lemmas.Bool.{and_parts, le-leb}
use Rattle.std.proofs.lemmas.Bool.Decides.{nat_tests}
use Rattle.std.proofs.lemmas.List.Folds.{list_all-append}
use Rattle.ft_base.specs.declared.filter.Filter.{Filter}
use Rattle.ft_base.specs.declared.filter.Filter.TheVariants as F
use Rattle.ft_base.specs.declared.hit.Hit.{Hit}
use Rattle.ft_base.specs.declared.unit.TextUnit.{TextUnit}
use Rattle.ft_base.specs.declared.unit.TextUnit.TheVariants.{Words, Sentences, Paragraphs}
use Rattle.all_matches.specs.declared.window.Window.{Window}
use Rattle.all_matches.specs.Filters.{passes, choices, after}
use Rattle.all_matches.specs.Join.{join, least}
use Rattle.all_matches.specs.Ways.{Operator, phrase, either, together, apart, negated, through_filter}
use Rattle.all_matches.specs.Ways.{Way, one_hit, two_ways, turned_about, by_filter, way_includes}
use Rattle.ft_operators.specs.declared.course.Course.{Course}
use Rattle.ft_operators.specs.Bounds.{lies_in}
use Rattle.ft_operators.specs.Course.{asked_for, course_beside, course_inside, filtered_on, stands_on, ways_on}
use Rattle.ft_operators.specs.Starts.{hits_of, rises_to, starts_rise}
use Rattle.ft_operators.proofs.BoundLemmas.{all_both, all_more, all_pass, first_part, last_part}

-- ---- tests of all elements of lists that were made of others

module _ {X Y : Type 0} (p : X → Bool) (q : Y → Bool) where
  pub all_made : (f : X → List Y) → ((x : X) → p x ≡ true → list_all q (f x) ≡ true) → (xs : List X) → list_all p xs ≡ true → list_all q (flat_map f xs) ≡ true
  all_made f each [] h = refl
  all_made f each (x ∷ xs) h =
      let parts = and_parts (p x) (list_all p xs) h in
      list_all-append q (f x) (flat_map f xs) ∙ (λ i. each x parts.0 i && all_made f each xs parts.1 i)

  pub all_mapped : (f : X → Y) → ((x : X) → p x ≡ true → q (f x) ≡ true) → (xs : List X) → list_all p xs ≡ true → list_all q (map f xs) ≡ true
  all_mapped f each [] h = refl
  all_mapped f each (x ∷ xs) h = let parts = and_parts (p x) (list_all p xs) h in λ i. each x parts.0 i && all_mapped f each xs parts.1 i

pub all_left : {X : Type 0} (p keep : X → Bool) (xs : List X) → list_all p xs ≡ true → list_all p (filter keep xs) ≡ true
all_left p keep [] h = refl
all_left {X = X} p keep (x ∷ xs) h = let parts = and_parts (p x) (list_all p xs) h in one parts.0 (keep x) (all_left p keep xs parts.1)
  where
    one : p x ≡ true → (b : Bool) → list_all p (filter keep xs) ≡ true → list_all p (cond b (x ∷ filter keep xs) (filter keep xs)) ≡ true
    one first true rest = λ i. first i && rest i
    one first false rest = rest

all_swapped : {X Y : Type 0} (r : X → Y → Bool) (xs : List X) (ys : List Y) → list_all (λ x. list_all (r x) ys) xs ≡ true → list_all (λ y. list_all (λ x. r x y) xs) ys ≡ true
all_swapped r [] ys h = all_pass (λ y. true) (λ y. refl) ys
all_swapped r (x ∷ xs) ys h =
    let parts = and_parts (list_all (r x) ys) (list_all (λ x. list_all (r x) ys) xs) h in
    all_both (r x) (λ y. list_all (λ x. r x y) xs) (λ y. r x y && list_all (λ x. r x y) xs) (λ y a b i. a i && b i) ys parts.0 (all_swapped r xs ys parts.1)

-- of each with itself
all_diagonal : {X : Type 0} (r : X → X → Bool) (xs : List X) → list_all (λ x. list_all (r x) xs) xs ≡ true → list_all (λ x. r x x) xs ≡ true
all_diagonal r [] h = refl
all_diagonal r (x ∷ xs) h =
    let parts = and_parts (r x x && list_all (r x) xs) (list_all (λ y. r y x && list_all (r y) xs) xs) h in
    λ i. (and_parts (r x x) (list_all (r x) xs) parts.0).0 i
    && all_diagonal r xs (all_more (λ y. r y x && list_all (r y) xs) (λ y. list_all (r y) xs) (λ y k. (and_parts (r y x) (list_all (r y) xs) k).1) xs parts.1) i

-- ---- words, and parts of lists

pub words_rise : (hits : List Hit) → starts_rise Words hits ≡ true
words_rise hits = all_pass (λ other. list_all (λ hit. rises_to Words hit other) hits) (λ other. all_pass (λ hit. rises_to Words hit other) (λ hit. one hit.from other.from) hits) hits
  where
    one : (n m : ℕ) → (nat_lt m n || nat_le n m) ≡ true
    one n m = grind (arith, nat_tests)

pub rise_first : (kind : TextUnit) (xs ys : List Hit) → starts_rise kind (xs ++ ys) ≡ true → starts_rise kind xs ≡ true
rise_first kind xs ys h =
    all_more (λ other. list_all (λ hit. rises_to kind hit other) (xs ++ ys)) (λ other. list_all (λ hit. rises_to kind hit other) xs)
    (λ other k. first_part (λ hit. rises_to kind hit other) xs ys k) xs (first_part (λ other. list_all (λ hit. rises_to kind hit other) (xs ++ ys)) xs ys h)

pub rise_last : (kind : TextUnit) (xs ys : List Hit) → starts_rise kind (xs ++ ys) ≡ true → starts_rise kind ys ≡ true
rise_last kind xs ys h =
    all_more (λ other. list_all (λ hit. rises_to kind hit other) (xs ++ ys)) (λ other. list_all (λ hit. rises_to kind hit other) ys)
    (λ other k. last_part (λ hit. rises_to kind hit other) xs ys k) ys (last_part (λ other. list_all (λ hit. rises_to kind hit other) (xs ++ ys)) xs ys h)

-- ---- the joined hit

module _ (number : Hit → ℕ) where
  lower : (from n low bound : ℕ) (rest : List Hit) → (nat_lt low from || nat_le n bound) ≡ true → list_all (λ hit. nat_lt low hit.from || nat_le (number hit) bound) rest ≡ true
      → (nat_lt low (least from (map (λ hit. hit.from) rest)) || nat_le (least n (map number rest)) bound) ≡ true
  lower from n low bound [] h all = h
  lower from n low bound (hit ∷ rest) h all =
      let parts = and_parts (nat_lt low hit.from || nat_le (number hit) bound) (list_all (λ hit. nat_lt low hit.from || nat_le (number hit) bound) rest) all in
      lower (min from hit.from) (min n (number hit)) low bound rest (both from hit.from n (number hit) h parts.0) parts.1
    where
      both : (a b k m : ℕ) → (nat_lt low a || nat_le k bound) ≡ true → (nat_lt low b || nat_le m bound) ≡ true → (nat_lt low (min a b) || nat_le (min k m) bound) ≡ true
      both a b k m h l = grind (arith, nat_tests)

  upper : (from n high bound : ℕ) (rest : List Hit) → (nat_lt from high || nat_le bound n) ≡ true → list_all (λ hit. nat_lt hit.from high || nat_le bound (number hit)) rest ≡ true
      → (nat_lt (least from (map (λ hit. hit.from) rest)) high || nat_le bound (least n (map number rest))) ≡ true
  upper from n high bound [] h all = h
  upper from n high bound (hit ∷ rest) h all =
      let parts = and_parts (nat_lt hit.from high || nat_le bound (number hit)) (list_all (λ hit. nat_lt hit.from high || nat_le bound (number hit)) rest) all in
      upper (min from hit.from) (min n (number hit)) high bound rest (both from hit.from n (number hit) h parts.0) parts.1
    where
      both : (a b k m : ℕ) → (nat_lt a high || nat_le bound k) ≡ true → (nat_lt b high || nat_le bound m) ≡ true → (nat_lt (min a b) high || nat_le bound (min k m)) ≡ true
      both a b k m h l = grind (arith, nat_tests)

rises_joined : (kind : TextUnit) (other : Hit) (hits : List Hit) → list_all (λ hit. rises_to kind hit other) hits ≡ true → list_all (λ hit. rises_to kind hit other) (option_to_list (join hits)) ≡ true
rises_joined kind other [] h = refl
rises_joined Words other (first ∷ rest) h =
    let parts = and_parts (rises_to Words first other) (list_all (λ hit. rises_to Words hit other) rest) h in λ i. lower (λ hit. hit.from) first.from first.from other.from other.from rest parts.0 parts.1 i && true
rises_joined Sentences other (first ∷ rest) h =
    let parts = and_parts (rises_to Sentences first other) (list_all (λ hit. rises_to Sentences hit other) rest) h in
    λ i. lower (λ hit. hit.sent_from) first.from first.sent_from other.from other.sent_from rest parts.0 parts.1 i && true
rises_joined Paragraphs other (first ∷ rest) h =
    let parts = and_parts (rises_to Paragraphs first other) (list_all (λ hit. rises_to Paragraphs hit other) rest) h in
    λ i. lower (λ hit. hit.para_from) first.from first.para_from other.from other.para_from rest parts.0 parts.1 i && true

to_joined : (kind : TextUnit) (hit : Hit) (others : List Hit) → list_all (rises_to kind hit) others ≡ true → list_all (rises_to kind hit) (option_to_list (join others)) ≡ true
to_joined kind hit [] h = refl
to_joined Words hit (first ∷ rest) h =
    let parts = and_parts (rises_to Words hit first) (list_all (rises_to Words hit) rest) h in λ i. upper (λ hit. hit.from) first.from first.from hit.from hit.from rest parts.0 parts.1 i && true
to_joined Sentences hit (first ∷ rest) h =
    let parts = and_parts (rises_to Sentences hit first) (list_all (rises_to Sentences hit) rest) h in
    λ i. upper (λ hit. hit.sent_from) first.from first.sent_from hit.from hit.sent_from rest parts.0 parts.1 i && true
to_joined Paragraphs hit (first ∷ rest) h =
    let parts = and_parts (rises_to Paragraphs hit first) (list_all (rises_to Paragraphs hit) rest) h in
    λ i. upper (λ hit. hit.para_from) first.from first.para_from hit.from hit.para_from rest parts.0 parts.1 i && true

-- the same of all of some hits
all_to_joined : (kind : TextUnit) (hits others : List Hit) → list_all (λ other. list_all (λ hit. rises_to kind hit other) hits) others ≡ true
    → list_all (λ other. list_all (λ hit. rises_to kind hit other) hits) (option_to_list (join others)) ≡ true
all_to_joined kind hits others h =
    all_swapped (rises_to kind) hits (option_to_list (join others))
    (all_more (λ hit. list_all (rises_to kind hit) others) (λ hit. list_all (rises_to kind hit) (option_to_list (join others))) (λ hit k. to_joined kind hit others k) hits
    (all_swapped (λ other hit. rises_to kind hit other) others hits h))

-- ---- the ways of an operator

-- what a filter lets through, for each choice
pub all_filtered : (kind : Filter) (course : Course) (way : Way) (test : Way → Bool) → (passes kind (way_includes way) course.item ≡ true → (choice : Option Window) → test (by_filter way kind choice) ≡ true)
    → list_all test (filtered_on kind course way) ≡ true
all_filtered kind course way test each = by_test (passes kind (way_includes way) course.item) refl
  where
    asked : List (Option Window)
    asked = asked_for course.windows (choices kind (way_includes way))

    by_test : (b : Bool) → passes kind (way_includes way) course.item ≡ b → list_all test (cond b (map (by_filter way kind) asked) []) ≡ true
    by_test true p = all_mapped (λ choice. true) test (by_filter way kind) (λ choice h. each p choice) asked (all_pass (λ choice. true) (λ choice. refl) asked)
    by_test false p = refl

-- what is true of each hit of each phrase, and of the joined hit of hits of which it is, is true of each include
module _ (p : Hit → Bool) (joins : (hits : List Hit) → list_all p hits ≡ true → list_all p (option_to_list (join hits)) ≡ true) where
  all_after : (kind : Filter) (hits : List Hit) → list_all p hits ≡ true → list_all p (after kind hits) ≡ true
  all_after F.Ordered hits h = h
  all_after (F.Window size unit) hits h = joins hits h
  all_after (F.Distance range unit) hits h = joins hits h
  all_after F.SameSentence hits h = h
  all_after F.SameParagraph hits h = h
  all_after F.DifferentSentence hits h = h
  all_after F.DifferentParagraph hits h = h
  all_after F.AtStart hits h = h
  all_after F.AtEnd hits h = h
  all_after F.EntireContent hits h = h

  abbrev of_way : Way → Bool
  of_way way = list_all p (way_includes way)

  all_ways : (operator : Operator) (course : Course) → list_all p (hits_of operator) ≡ true → list_all of_way (ways_on course operator) ≡ true
  unfolding ways_on
  all_ways (phrase found) course h = all_mapped p of_way one_hit (λ hit k i. k i && true) _ (all_left p (lies_in course.bounds) found h)
  all_ways (either left right) course h =
      list_all-append of_way (ways_on course left) (ways_on course right)
      ∙ (λ i. all_ways left course (first_part p (hits_of left) (hits_of right) h) i && all_ways right course (last_part p (hits_of left) (hits_of right) h) i)
  all_ways (together left right) course h =
      all_made of_way of_way (λ a. map (two_ways a) (ways_on (course_beside course (way_includes a)) right))
      (λ a k. all_mapped of_way of_way (two_ways a) (λ b l. list_all-append p (way_includes a) (way_includes b) ∙ (λ i. k i && l i)) _
      (all_ways right (course_beside course (way_includes a)) (last_part p (hits_of left) (hits_of right) h)))
      (ways_on course left) (all_ways left course (first_part p (hits_of left) (hits_of right) h))
  all_ways (apart left right) course h = all_left of_way (stands_on course right) (ways_on course left) (all_ways left course (first_part p (hits_of left) (hits_of right) h))
  all_ways (negated operand) course h = refl
  all_ways (through_filter operand kind) course h =
      all_made of_way of_way (filtered_on kind course) (λ way k. all_filtered kind course way of_way (λ said choice. all_after kind (way_includes way) k))
      (ways_on (course_inside kind course) operand) (all_ways operand (course_inside kind course) h)

pub ways_rise : (kind : TextUnit) (operator : Operator) (course : Course) → starts_rise kind (hits_of operator) ≡ true → list_all (λ way. starts_rise kind (way_includes way)) (ways_on course operator) ≡ true
ways_rise kind operator course h = all_diagonal (λ way next. list_all (λ other. rises way other) (way_includes next)) ways each
  where
    ways : List Way
    ways = ways_on course operator

    rises : Way → Hit → Bool
    rises way other = list_all (λ hit. rises_to kind hit other) (way_includes way)

    to_hits : list_all (λ way. list_all (rises way) (hits_of operator)) ways ≡ true
    to_hits =
        all_swapped (λ other way. rises way other) (hits_of operator) ways
        (all_more (λ other. list_all (λ hit. rises_to kind hit other) (hits_of operator)) (λ other. list_all (λ way. rises way other) ways)
        (λ other k. all_ways (λ hit. rises_to kind hit other) (rises_joined kind other) operator course k) (hits_of operator) h)

    each : list_all (λ way. list_all (λ next. list_all (rises way) (way_includes next)) ways) ways ≡ true
    each =
        all_more (λ way. list_all (rises way) (hits_of operator)) (λ way. list_all (λ next. list_all (rises way) (way_includes next)) ways)
        (λ way k. all_ways (rises way) (all_to_joined kind (way_includes way)) operator course k) ways to_hits
