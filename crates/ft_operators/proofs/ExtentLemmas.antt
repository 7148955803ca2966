-- The ways of an operator have no more includes, and none larger, than its extent says.
use Rattle.std.proofs.Common.{◌≡◌, refl, ap, sym, ◌∙◌, ℕ, ◌+◌, ◌<◌, ◌≤◌, min, max, List, [], ◌∷◌, ◌++◌, Bool, true, false, ◌&&◌, cond, map, length, arith}
use Rattle.std.specs.Prelude.{nat_le, nat_lt, filter, fold, Option, Some, None, option_to_list}
use Rattle.std.specs.List.{list_all}
use Rattle.std.proofs.lemmas.Bool.{and_parts, leb-true, ltb-true, le-leb, lt-ltb}
use Rattle.std.proofs.lemmas.Bool.Decides.{nat_tests}
use Rattle.std.proofs.lemmas.List.{length-append}
use Rattle.std.proofs.lemmas.List.Folds.{list_all-append}
use Rattle.ft_base.specs.declared.filter.Filter.{Filter}
use Rattle.ft_base.specs.declared.filter.Filter.TheVariants as F
use Rattle.ft_base.specs.declared.hit.Hit.{Hit}
use Rattle.ft_base.specs.declared.range.Range.{Range}
use Rattle.ft_base.specs.declared.span.Span.{Span}
use Rattle.ft_base.specs.declared.unit.TextUnit.{TextUnit}
use Rattle.ft_base.specs.declared.unit.TextUnit.TheVariants.{Words, Sentences, Paragraphs}
use Rattle.all_matches.specs.Distance.{in_order, neighbours_in_range}
use Rattle.all_matches.specs.Filters.{passes, after}
use Rattle.all_matches.specs.Join.{join, least, greatest}
use Rattle.all_matches.specs.Positions.{start_in, end_in}
use Rattle.all_matches.specs.Window.{fits_window}
use Rattle.all_matches.specs.Ways.{Operator, phrase, either, together, apart, negated, through_filter}
use Rattle.all_matches.specs.Ways.{Way, one_hit, two_ways, turned_about, by_filter, way_includes}
use Rattle.ft_operators.specs.declared.course.Course.{Course}
use Rattle.ft_operators.specs.declared.extent.Extent.{Extent}
use Rattle.ft_operators.specs.declared.extent.UnitExtents.{UnitExtents}
use Rattle.ft_operators.specs.Bounds.{lies_in}
use Rattle.ft_operators.specs.Course.{course_beside, course_inside, filtered_on, stands_on, ways_on}
use Rattle.ft_operators.specs.Extents.{small, longer, longest, one_include, in_same, extent_of_either, extent_of_both, some_includes, greatest_value, spread, extent_behind, extent_of, extent_before, extent_inside, where_limited}
use Rattle.ft_operators.specs.Starts.{hits_of, starts_rise}
use Rattle.ft_operators.specs.steps.Measuring.{are_held, holds, is_held}
use Rattle.ft_operators.proofs.BoundLemmas.{all_both, all_more, all_pass, few_at}
use Rattle.ft_operators.proofs.StartLemmas.{all_filtered, all_left, all_made, all_mapped, rise_first, rise_last, ways_rise}
use Rattle.ft_operators.proofs.SpreadLemmas.{are_few, few_where, is_short, lies_from, small_is, spread_in, SpreadIn}

-- ---- few includes

few_parts : (kind : TextUnit) (extent : Extent) (hits : List Hit) → are_few kind (Some extent) hits ≡ true → (length hits ≤ extent.includes) × (list_all (is_short kind extent.size) hits ≡ true)
few_parts kind extent hits h =
    let parts = and_parts (nat_le (length hits) extent.includes) (list_all (is_short kind extent.size) hits) h in (leb-true (length hits) extent.includes parts.0, parts.1)

few_from : (kind : TextUnit) (extent : Extent) (hits : List Hit) → length hits ≤ extent.includes → list_all (is_short kind extent.size) hits ≡ true → are_few kind (Some extent) hits ≡ true
few_from kind extent hits few short = λ i. le-leb (length hits) extent.includes few i && short i

shorter : (kind : TextUnit) (size more : ℕ) → size ≤ more → (hits : List Hit) → list_all (is_short kind size) hits ≡ true → list_all (is_short kind more) hits ≡ true
shorter kind size more less hits h = all_more (is_short kind size) (is_short kind more) one hits h
  where
    one : (hit : Hit) → is_short kind size hit ≡ true → is_short kind more hit ≡ true
    one hit k = grind (arith, nat_tests)

-- an extent that holds for another has room for as many
pub few_more : (kind : TextUnit) (extent other : Option Extent) (hits : List Hit) → holds extent other ≡ true → are_few kind other hits ≡ true → are_few kind extent hits ≡ true
few_more kind None other hits h few = refl
few_more kind (Some extent) None hits h few = cc
few_more kind (Some extent) (Some other) hits h few =
    let sizes = and_parts (nat_le other.includes extent.includes) (nat_le other.size extent.size) h in
    let includes = leb-true other.includes extent.includes sizes.0 in
    let parts = few_parts kind other hits few in
    few_from kind extent hits (omega (arith, includes, parts.0)) (shorter kind other.size extent.size (leb-true other.size extent.size sizes.1) hits parts.1)

pub holds_both : (extent left right : Option Extent) → holds extent (extent_of_either left right) ≡ true → (holds extent left ≡ true) × (holds extent right ≡ true)
holds_both None left right h = (refl, refl)
holds_both (Some extent) None right h = cc
holds_both (Some extent) (Some left) None h = cc
holds_both (Some extent) (Some left) (Some right) h = (grind (arith, nat_tests), grind (arith, nat_tests))

few_left : (kind : TextUnit) (left right : Option Extent) (hits : List Hit) → are_few kind left hits ≡ true → are_few kind (extent_of_either left right) hits ≡ true
few_left kind None right hits h = refl
few_left kind (Some left) None hits h = refl
few_left kind (Some left) (Some right) hits h =
    let parts = few_parts kind left hits h in
    few_from kind (record { includes = max left.includes right.includes; size = max left.size right.size }) hits (omega (arith, parts.0)) (shorter kind left.size (max left.size right.size) (omega arith) hits parts.1)

few_right : (kind : TextUnit) (left right : Option Extent) (hits : List Hit) → are_few kind right hits ≡ true → are_few kind (extent_of_either left right) hits ≡ true
few_right kind None right hits h = refl
few_right kind (Some left) None hits h = refl
few_right kind (Some left) (Some right) hits h =
    let parts = few_parts kind right hits h in
    few_from kind (record { includes = max left.includes right.includes; size = max left.size right.size }) hits (omega (arith, parts.0)) (shorter kind right.size (max left.size right.size) (omega arith) hits parts.1)

few_both : (kind : TextUnit) (left right : Option Extent) (some more : List Hit) → are_few kind left some ≡ true → are_few kind right more ≡ true → are_few kind (extent_of_both left right) (some ++ more) ≡ true
few_both kind None right some more h k = refl
few_both kind (Some left) None some more h k = refl
few_both kind (Some left) (Some right) some more h k = by_sum (small (left.includes + right.includes)) (λ sum is. small_is (left.includes + right.includes) sum is)
  where
    size : ℕ
    size = max left.size right.size

    short : list_all (is_short kind size) (some ++ more) ≡ true
    short = list_all-append (is_short kind size) some more
        ∙ (λ i. shorter kind left.size size (omega arith) some (few_parts kind left some h).1 i && shorter kind right.size size (omega arith) more (few_parts kind right more k).1 i)

    by_sum : (sum : Option ℕ) → ((n : ℕ) → sum ≡ Some n → left.includes + right.includes ≡ n) → are_few kind (some_includes sum size) (some ++ more) ≡ true
    by_sum None is = refl
    by_sum (Some n) is =
        few_from kind (record { includes = n; size = size }) (some ++ more) (omega (arith, is n refl, length-append some more, (few_parts kind left some h).0, (few_parts kind right more k).0)) short

-- ---- the hits of a phrase

grows : (kind : TextUnit) (size : ℕ) (hits : List Hit) → size ≤ fold (longer kind) size hits
grows kind size [] = omega arith
grows kind size (hit ∷ rest) = omega (arith, grows kind (longer kind size hit) rest)

all_short : (kind : TextUnit) (size : ℕ) (hits : List Hit) → list_all (is_short kind (fold (longer kind) size hits)) hits ≡ true
all_short kind size [] = refl
all_short kind size (hit ∷ rest) = λ i. one (grows kind (longer kind size hit) rest) i && all_short kind (longer kind size hit) rest i
  where
    one : longer kind size hit ≤ fold (longer kind) (longer kind size hit) rest → is_short kind (fold (longer kind) (longer kind size hit) rest) hit ≡ true
    one less = lt-ltb (end_in kind hit) (start_in kind hit + fold (longer kind) (longer kind size hit) rest) (omega (arith, less))

few_of_one : (kind : TextUnit) (size : Option ℕ) (hit : Hit) → ((n : ℕ) → size ≡ Some n → is_short kind n hit ≡ true) → are_few kind (one_include size) (hit ∷ []) ≡ true
few_of_one kind None hit is = refl
few_of_one kind (Some n) hit is = few_from kind (record { includes = 1; size = n }) (hit ∷ []) (omega arith) (λ i. is n refl i && true)

few_hit : (kind : TextUnit) (found : List Hit) (hit : Hit) → is_short kind (longest kind found) hit ≡ true → are_few kind (one_include (small (longest kind found))) (hit ∷ []) ≡ true
few_hit kind found hit h = few_of_one kind (small (longest kind found)) hit (λ n is. ap (λ k. is_short kind k hit) (sym (small_is (longest kind found) n is)) ∙ h)

-- ---- the joined hit

module _ (number : Hit → ℕ) where
  least_from : (n : ℕ) (rest : List Hit) (k : ℕ) → k ≤ n → list_all (λ hit. nat_le k (number hit)) rest ≡ true → k ≤ least n (map number rest)
  least_from n [] k h all = h
  least_from n (hit ∷ rest) k h all =
      let parts = and_parts (nat_le k (number hit)) (list_all (λ hit. nat_le k (number hit)) rest) all in
      let first = leb-true k (number hit) parts.0 in
      least_from (min n (number hit)) rest k (omega (arith, h, first)) parts.1

  greatest_below : (n : ℕ) (rest : List Hit) (k : ℕ) → n < k → list_all (λ hit. nat_lt (number hit) k) rest ≡ true → greatest n (map number rest) < k
  greatest_below n [] k h all = h
  greatest_below n (hit ∷ rest) k h all =
      let parts = and_parts (nat_lt (number hit) k) (list_all (λ hit. nat_lt (number hit) k) rest) all in
      let first = ltb-true (number hit) k parts.0 in
      greatest_below (max n (number hit)) rest k (omega (arith, h, first)) parts.1

joined_short : (start end : Hit → ℕ) (first : Hit) (rest : List Hit) (low size : ℕ) → list_all (λ hit. nat_le low (start hit) && nat_lt (end hit) (low + size)) (first ∷ rest) ≡ true
    → nat_lt (greatest (end first) (map end rest)) (least (start first) (map start rest) + size) ≡ true
joined_short start end first rest low size all =
    let hits = first ∷ rest in
    let lies = λ (hit : Hit). nat_le low (start hit) && nat_lt (end hit) (low + size) in
    let starts = all_more lies (λ hit. nat_le low (start hit)) (λ hit h. (and_parts (nat_le low (start hit)) (nat_lt (end hit) (low + size)) h).0) hits all in
    let ends = all_more lies (λ hit. nat_lt (end hit) (low + size)) (λ hit h. (and_parts (nat_le low (start hit)) (nat_lt (end hit) (low + size)) h).1) hits all in
    let from = and_parts (nat_le low (start first)) (list_all (λ hit. nat_le low (start hit)) rest) starts in
    let to = and_parts (nat_lt (end first) (low + size)) (list_all (λ hit. nat_lt (end hit) (low + size)) rest) ends in
    let begin = least_from start (start first) rest low (leb-true low (start first) from.0) from.1 in
    let finish = greatest_below end (end first) rest (low + size) (ltb-true (end first) (low + size) to.0) to.1 in
    lt-ltb _ _ (omega (arith, begin, finish))

spread_fits : (kind : TextUnit) (first : Hit) (rest : List Hit) (low size : ℕ) → list_all (lies_from kind low (low + size)) (first ∷ rest) ≡ true → fits_window size kind (join (first ∷ rest)) ≡ true
spread_fits Words first rest low size all = joined_short (λ hit. hit.from) (λ hit. hit.to) first rest low size all
spread_fits Sentences first rest low size all = joined_short (λ hit. hit.sent_from) (λ hit. hit.sent_to) first rest low size all
spread_fits Paragraphs first rest low size all = joined_short (λ hit. hit.para_from) (λ hit. hit.para_to) first rest low size all

few_none : (kind : TextUnit) (size : Option ℕ) → are_few kind (one_include size) [] ≡ true
few_none kind None = refl
few_none kind (Some n) = few_from kind (record { includes = 1; size = n }) [] (omega arith) refl

few_joined : (kind : TextUnit) (size : Option ℕ) (joined : Option Hit) → ((n : ℕ) → size ≡ Some n → fits_window n kind joined ≡ true) → are_few kind (one_include size) (option_to_list joined) ≡ true
few_joined kind size None is = few_none kind size
few_joined kind size (Some hit) is = few_of_one kind size hit is

few_spread : (kind : TextUnit) (size : Option ℕ) (hits : List Hit) → ((n : ℕ) → size ≡ Some n → SpreadIn kind n hits) → are_few kind (one_include size) (option_to_list (join hits)) ≡ true
few_spread kind size [] said = few_none kind size
few_spread kind size (first ∷ rest) said = few_joined kind size (join (first ∷ rest)) (λ n is. let s = said n is in spread_fits kind first rest s.low n s.all)

few_fits : (kind : TextUnit) (size : ℕ) (joined : Option Hit) → fits_window size kind joined ≡ true → are_few kind (one_include (Some size)) (option_to_list joined) ≡ true
few_fits kind size joined p = few_joined kind (Some size) joined (λ n is. ap (λ k. fits_window k kind joined) (sym (ap value is)) ∙ p)
  where
    value : Option ℕ → ℕ
    value None = 0
    value (Some k) = k

few_window : (kind unit : TextUnit) (size : ℕ) (joined : Option Hit) → fits_window size unit joined ≡ true → are_few kind (one_include (in_same kind unit (Some size))) (option_to_list joined) ≡ true
few_window Words Words size joined p = few_fits Words size joined p
few_window Words Sentences size joined p = refl
few_window Words Paragraphs size joined p = refl
few_window Sentences Words size joined p = refl
few_window Sentences Sentences size joined p = few_fits Sentences size joined p
few_window Sentences Paragraphs size joined p = refl
few_window Paragraphs Words size joined p = refl
few_window Paragraphs Sentences size joined p = refl
few_window Paragraphs Paragraphs size joined p = few_fits Paragraphs size joined p

-- behind a filter that they pass
limit_few : (limit : Option ℕ) (kind : TextUnit) (extent : Option Extent) (hits : List Hit) → are_few kind extent hits ≡ true → starts_rise kind hits ≡ true → few_where limit kind extent hits ≡ true
limit_few None kind extent hits h rise = refl
limit_few (Some gap) kind None hits h rise = refl
limit_few (Some gap) kind (Some extent) hits h rise = λ i. h i && rise i

few_apart : (kind : TextUnit) (range : Range) (extent : Option Extent) (hits : List Hit) → neighbours_in_range range kind (in_order hits) ≡ true → are_few kind extent hits ≡ true → starts_rise kind hits ≡ true
    → are_few kind (one_include (spread extent (greatest_value range))) (option_to_list (join hits)) ≡ true
few_apart kind range extent hits p few rise =
    few_spread kind (spread extent (greatest_value range)) hits (λ n is. spread_in extent range kind (greatest_value range) n hits refl is p (limit_few (greatest_value range) kind extent hits few rise))

few_distance : (kind unit : TextUnit) (range : Range) (extent : Option Extent) (hits : List Hit) → neighbours_in_range range unit (in_order hits) ≡ true → are_few kind extent hits ≡ true → starts_rise kind hits ≡ true
    → are_few kind (one_include (in_same kind unit (spread extent (greatest_value range)))) (option_to_list (join hits)) ≡ true
few_distance Words Words range extent hits p few rise = few_apart Words range extent hits p few rise
few_distance Words Sentences range extent hits p few rise = refl
few_distance Words Paragraphs range extent hits p few rise = refl
few_distance Sentences Words range extent hits p few rise = refl
few_distance Sentences Sentences range extent hits p few rise = few_apart Sentences range extent hits p few rise
few_distance Sentences Paragraphs range extent hits p few rise = refl
few_distance Paragraphs Words range extent hits p few rise = refl
few_distance Paragraphs Sentences range extent hits p few rise = refl
few_distance Paragraphs Paragraphs range extent hits p few rise = few_apart Paragraphs range extent hits p few rise

few_behind : (kind : TextUnit) (filter : Filter) (item : Span) (extent : Option Extent) (hits : List Hit) → passes filter hits item ≡ true → are_few kind extent hits ≡ true → starts_rise kind hits ≡ true
    → are_few kind (extent_behind kind filter extent) (after filter hits) ≡ true
few_behind kind F.Ordered item extent hits p few rise = few
few_behind kind (F.Window size unit) item extent hits p few rise = few_window kind unit size (join hits) p
few_behind kind (F.Distance range unit) item extent hits p few rise = few_distance kind unit range extent hits p few rise
few_behind kind F.SameSentence item extent hits p few rise = few
few_behind kind F.SameParagraph item extent hits p few rise = few
few_behind kind F.DifferentSentence item extent hits p few rise = few
few_behind kind F.DifferentParagraph item extent hits p few rise = few
few_behind kind F.AtStart item extent hits p few rise = few
few_behind kind F.AtEnd item extent hits p few rise = few
few_behind kind F.EntireContent item extent hits p few rise = few

-- ---- the ways of an operator

all_and : {X : Type 0} (p q : X → Bool) (xs : List X) → list_all p xs ≡ true → list_all q xs ≡ true → list_all (λ x. p x && q x) xs ≡ true
all_and p q xs h k = all_both p q (λ x. p x && q x) (λ x a b i. a i && b i) xs h k

-- whether the includes of a way are as few as an extent says, and begin in order
abbrev few_rising : TextUnit → Option Extent → Way → Bool
few_rising kind extent way = are_few kind extent (way_includes way) && starts_rise kind (way_includes way)

module _ (kind : TextUnit) where
  abbrev few_of : Operator → Way → Bool
  few_of operator way = are_few kind (extent_of kind operator) (way_includes way)

  pub few_ways : (operator : Operator) (course : Course) → starts_rise kind (hits_of operator) ≡ true → list_all (few_of operator) (ways_on course operator) ≡ true
  unfolding ways_on
  few_ways (phrase found) course rise =
      all_mapped (is_short kind (longest kind found)) (few_of (phrase found)) one_hit (λ hit h. few_hit kind found hit h)
      _ (all_left (is_short kind (longest kind found)) _ found (all_short kind 0 found))
  few_ways (either left right) course rise =
      list_all-append (few_of (either left right)) (ways_on course left) (ways_on course right)
      ∙ (λ i. all_more (few_of left) (few_of (either left right))
      (λ way h. few_left kind (extent_of kind left) (extent_of kind right) (way_includes way) h) (ways_on course left) (few_ways left course (rise_first kind (hits_of left) (hits_of right) rise)) i
      && all_more (few_of right) (few_of (either left right))
      (λ way h. few_right kind (extent_of kind left) (extent_of kind right) (way_includes way) h) (ways_on course right) (few_ways right course (rise_last kind (hits_of left) (hits_of right) rise)) i)
  few_ways (together left right) course rise =
      all_made (few_of left) (few_of (together left right))
      (λ a. map (two_ways a) (ways_on (course_beside course (way_includes a)) right))
      (λ a h. all_mapped (few_of right) (few_of (together left right)) (two_ways a)
      (λ b k. few_both kind (extent_of kind left) (extent_of kind right) (way_includes a) (way_includes b) h k) _
      (few_ways right (course_beside course (way_includes a)) (rise_last kind (hits_of left) (hits_of right) rise)))
      (ways_on course left) (few_ways left course (rise_first kind (hits_of left) (hits_of right) rise))
  few_ways (apart left right) course rise = all_left (few_of left) (stands_on course right) (ways_on course left) (few_ways left course (rise_first kind (hits_of left) (hits_of right) rise))
  few_ways (negated operand) course rise = refl
  few_ways (through_filter operand filter) course rise =
      all_made (few_rising kind (extent_of kind operand)) (few_of (through_filter operand filter)) (filtered_on filter course)
      (λ way h. all_filtered filter course way (few_of (through_filter operand filter))
      (λ p choice.
      let parts = and_parts (are_few kind (extent_of kind operand) (way_includes way)) (starts_rise kind (way_includes way)) h in
      few_behind kind filter course.item (extent_of kind operand) (way_includes way) p parts.0 parts.1))
      (ways_on (course_inside filter course) operand)
      (all_and (few_of operand) (λ way. starts_rise kind (way_includes way)) (ways_on (course_inside filter course) operand)
      (few_ways operand (course_inside filter course) rise) (ways_rise kind operand (course_inside filter course) rise))

-- ---- before the distances inside

-- whether the includes before each distance of a way are as few as extents say, and begin in order
abbrev pub few_before : UnitExtents → Way → Bool
few_before extents (one_hit hit) = true
few_before extents (two_ways left right) = few_before extents left && few_before extents right
few_before extents (turned_about matches) = true
few_before extents (by_filter way kind choice) = few_at extents kind (way_includes way) && few_before extents way

-- what is held of an operator is held of its operands
module _ (left right node : Operator) (inside : (kind : TextUnit) → extent_inside kind node ≡ extent_of_either (extent_inside kind left) (extent_inside kind right)) (hits : hits_of node ≡ hits_of left ++ hits_of right) where
  is_held_both : (kind : TextUnit) (extent : Option Extent) → is_held kind extent node ≡ true → (is_held kind extent left ≡ true) × (is_held kind extent right ≡ true)
  is_held_both kind None h = (refl, refl)
  is_held_both kind (Some extent) h =
      let parts = and_parts (holds (Some extent) (extent_inside kind node)) (starts_rise kind (hits_of node)) h in
      let both = holds_both (Some extent) (extent_inside kind left) (extent_inside kind right) (ap (holds (Some extent)) (sym (inside kind)) ∙ parts.0) in
      let rise = ap (starts_rise kind) (sym hits) ∙ parts.1 in
      (λ i. both.0 i && rise_first kind (hits_of left) (hits_of right) rise i, λ i. both.1 i && rise_last kind (hits_of left) (hits_of right) rise i)

  held_of_two : (extents : UnitExtents) → are_held extents node ≡ true → (are_held extents left ≡ true) × (are_held extents right ≡ true)
  held_of_two extents h =
      let parts = and_parts (is_held Words extents.words node) (is_held Sentences extents.sentences node && is_held Paragraphs extents.paragraphs node) h in
      let more = and_parts (is_held Sentences extents.sentences node) (is_held Paragraphs extents.paragraphs node) parts.1 in
      let words = is_held_both Words extents.words parts.0 in
      let sentences = is_held_both Sentences extents.sentences more.0 in
      let paragraphs = is_held_both Paragraphs extents.paragraphs more.1 in
      (λ i. words.0 i && (sentences.0 i && paragraphs.0 i), λ i. words.1 i && (sentences.1 i && paragraphs.1 i))

module _ (left right : Operator) (extents : UnitExtents) where
  pub held_either : are_held extents (either left right) ≡ true → (are_held extents left ≡ true) × (are_held extents right ≡ true)
  held_either h = held_of_two left right (either left right) (λ kind. refl) refl extents h

  pub held_both : are_held extents (together left right) ≡ true → (are_held extents left ≡ true) × (are_held extents right ≡ true)
  held_both h = held_of_two left right (together left right) (λ kind. refl) refl extents h

  pub held_apart : are_held extents (apart left right) ≡ true → (are_held extents left ≡ true) × (are_held extents right ≡ true)
  held_apart h = held_of_two left right (apart left right) (λ kind. refl) refl extents h

held_negated_in : (operand : Operator) (kind : TextUnit) (extent : Option Extent) → is_held kind extent (negated operand) ≡ is_held kind extent operand
held_negated_in operand kind None = refl
held_negated_in operand kind (Some extent) = refl

pub held_negated : (operand : Operator) (extents : UnitExtents) → are_held extents (negated operand) ≡ are_held extents operand
held_negated operand extents =
    λ i. held_negated_in operand Words extents.words i && (held_negated_in operand Sentences extents.sentences i && held_negated_in operand Paragraphs extents.paragraphs i)

module _ (operand : Operator) (filter : Filter) where
  is_held_inside : (kind : TextUnit) (extent : Option Extent) → is_held kind extent (through_filter operand filter) ≡ true → is_held kind extent operand ≡ true
  is_held_inside kind None h = refl
  is_held_inside kind (Some extent) h =
      let parts = and_parts (holds (Some extent) (extent_of_either (extent_inside kind operand) (extent_before kind filter (extent_of kind operand)))) (starts_rise kind (hits_of operand)) h in
      λ i. (holds_both (Some extent) (extent_inside kind operand) (extent_before kind filter (extent_of kind operand)) parts.0).0 i && parts.1 i

  held_parts : (extents : UnitExtents) → are_held extents (through_filter operand filter) ≡ true
      → (is_held Words extents.words (through_filter operand filter) ≡ true)
      × ((is_held Sentences extents.sentences (through_filter operand filter) ≡ true) × (is_held Paragraphs extents.paragraphs (through_filter operand filter) ≡ true))
  held_parts extents h =
      let all = through_filter operand filter in
      let parts = and_parts (is_held Words extents.words all) (is_held Sentences extents.sentences all && is_held Paragraphs extents.paragraphs all) h in
      (parts.0, and_parts (is_held Sentences extents.sentences all) (is_held Paragraphs extents.paragraphs all) parts.1)

  pub held_inside : (extents : UnitExtents) → are_held extents (through_filter operand filter) ≡ true → are_held extents operand ≡ true
  held_inside extents h =
      let parts = held_parts extents h in
      λ i. is_held_inside Words extents.words parts.0 i && (is_held_inside Sentences extents.sentences parts.1.0 i && is_held_inside Paragraphs extents.paragraphs parts.1.1 i)

-- before a distance of which an extent in its unit is held
few_limited : (limit : Option ℕ) (kind : TextUnit) (extent : Extent) (other : Option Extent) (hits : List Hit) → holds (Some extent) (where_limited limit other) ≡ true
    → are_few kind other hits ≡ true → starts_rise kind hits ≡ true → few_where limit kind (Some extent) hits ≡ true
few_limited None kind extent other hits h few rise = refl
few_limited (Some gap) kind extent other hits h few rise = λ i. few_more kind (Some extent) other hits h few i && rise i

untold_few : (limit : Option ℕ) (kind : TextUnit) (hits : List Hit) → few_where limit kind None hits ≡ true
untold_few None kind hits = refl
untold_few (Some gap) kind hits = refl

few_told : (kind : TextUnit) (range : Range) (extent : Option Extent) (operand : Operator) (course : Course) (before : Option Extent) → before ≡ where_limited (greatest_value range) (extent_of kind operand)
    → (((told : Extent) → extent ≡ Some told → (holds (Some told) before ≡ true) × (starts_rise kind (hits_of operand) ≡ true)))
    → list_all (λ way. few_where (greatest_value range) kind extent (way_includes way)) (ways_on course operand) ≡ true
few_told kind range None operand course before is held =
    all_pass (λ way. few_where (greatest_value range) kind None (way_includes way)) (λ way. untold_few (greatest_value range) kind (way_includes way)) (ways_on course operand)
few_told kind range (Some extent) operand course before is held =
    let said = held extent refl in
    all_both (λ way. are_few kind (extent_of kind operand) (way_includes way)) (λ way. starts_rise kind (way_includes way)) (λ way. few_where (greatest_value range) kind (Some extent) (way_includes way))
    (λ way few rise. few_limited (greatest_value range) kind extent (extent_of kind operand) (way_includes way) (ap (holds (Some extent)) (sym is) ∙ said.0) few rise)
    (ways_on course operand) (few_ways kind operand course said.1) (ways_rise kind operand course said.1)

held_before : (kind : TextUnit) (extent : Option Extent) (operand : Operator) (filter : Filter) → is_held kind extent (through_filter operand filter) ≡ true → (told : Extent) → extent ≡ Some told
    → (holds (Some told) (extent_before kind filter (extent_of kind operand)) ≡ true) × (starts_rise kind (hits_of operand) ≡ true)
held_before kind None operand filter h told is = cc
held_before kind (Some extent) operand filter h told is =
    let parts = and_parts (holds (Some extent) (extent_of_either (extent_inside kind operand) (extent_before kind filter (extent_of kind operand)))) (starts_rise kind (hits_of operand)) h in
    (ap (λ e. holds e (extent_before kind filter (extent_of kind operand))) (sym is) ∙ (holds_both (Some extent) (extent_inside kind operand) (extent_before kind filter (extent_of kind operand)) parts.0).1, parts.1)

-- the ways of an operand before a filter
few_there : (kind : Filter) (extents : UnitExtents) (operand : Operator) (course : Course) → are_held extents (through_filter operand kind) ≡ true
    → list_all (λ way. few_at extents kind (way_includes way)) (ways_on course operand) ≡ true
few_there F.Ordered extents operand course h = all_pass (λ way. true) (λ way. refl) (ways_on course operand)
few_there (F.Window size unit) extents operand course h = all_pass (λ way. true) (λ way. refl) (ways_on course operand)
few_there (F.Distance range Words) extents operand course h =
    few_told Words range extents.words operand course _ refl (held_before Words extents.words operand (F.Distance range Words) (held_parts operand (F.Distance range Words) extents h).0)
few_there (F.Distance range Sentences) extents operand course h =
    few_told Sentences range extents.sentences operand course _ refl (held_before Sentences extents.sentences operand (F.Distance range Sentences) (held_parts operand (F.Distance range Sentences) extents h).1.0)
few_there (F.Distance range Paragraphs) extents operand course h =
    few_told Paragraphs range extents.paragraphs operand course _ refl (held_before Paragraphs extents.paragraphs operand (F.Distance range Paragraphs) (held_parts operand (F.Distance range Paragraphs) extents h).1.1)
few_there F.SameSentence extents operand course h = all_pass (λ way. true) (λ way. refl) (ways_on course operand)
few_there F.SameParagraph extents operand course h = all_pass (λ way. true) (λ way. refl) (ways_on course operand)
few_there F.DifferentSentence extents operand course h = all_pass (λ way. true) (λ way. refl) (ways_on course operand)
few_there F.DifferentParagraph extents operand course h = all_pass (λ way. true) (λ way. refl) (ways_on course operand)
few_there F.AtStart extents operand course h = all_pass (λ way. true) (λ way. refl) (ways_on course operand)
few_there F.AtEnd extents operand course h = all_pass (λ way. true) (λ way. refl) (ways_on course operand)
few_there F.EntireContent extents operand course h = all_pass (λ way. true) (λ way. refl) (ways_on course operand)

-- each way of an operator for which extents hold
pub few_inside : (operator : Operator) (course : Course) (extents : UnitExtents) → are_held extents operator ≡ true → list_all (few_before extents) (ways_on course operator) ≡ true
unfolding ways_on
few_inside (phrase found) course extents h =
    let hits = filter (lies_in course.bounds) found in
    all_mapped (λ hit. true) (few_before extents) one_hit (λ hit k. refl) hits (all_pass (λ hit. true) (λ hit. refl) hits)
few_inside (either left right) course extents h =
    let parts = held_either left right extents h in
    list_all-append (few_before extents) (ways_on course left) (ways_on course right) ∙ (λ i. few_inside left course extents parts.0 i && few_inside right course extents parts.1 i)
few_inside (together left right) course extents h =
    let parts = held_both left right extents h in
    all_made (few_before extents) (few_before extents) (λ a. map (two_ways a) (ways_on (course_beside course (way_includes a)) right))
    (λ a k. all_mapped (few_before extents) (few_before extents) (two_ways a) (λ b l i. k i && l i) _ (few_inside right (course_beside course (way_includes a)) extents parts.1))
    (ways_on course left) (few_inside left course extents parts.0)
few_inside (apart left right) course extents h =
    all_left (few_before extents) (stands_on course right) (ways_on course left) (few_inside left course extents (held_apart left right extents h).0)
few_inside (negated operand) course extents h = refl
few_inside (through_filter operand kind) course extents h =
    let inside = course_inside kind course in
    all_made (λ way. few_at extents kind (way_includes way) && few_before extents way) (few_before extents) (filtered_on kind course)
    (λ way k. all_filtered kind course way (few_before extents) (λ p choice. k))
    (ways_on inside operand)
    (all_and (λ way. few_at extents kind (way_includes way)) (few_before extents) (ways_on inside operand) (few_there kind extents operand inside h)
    (few_inside operand inside extents (held_inside operand kind extents h)))
