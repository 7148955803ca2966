-- The includes that filters let through lie in the bounds that follow from those chosen before.
use Rattle.std.proofs.Common.{◌≡◌, refl, ap, sym, ◌∙◌, ℕ, suc, ◌+◌, ◌<◌, ◌≤◌, min, max, List, [], ◌∷◌, ◌++◌, Bool, true, false, ◌&&◌, ◌||◌, ◌==◌, map, arith}
use Rattle.std.specs.Prelude.{nat_le, nat_lt, Option, Some, None}
use Rattle.std.specs.List.{list_all}
use Rattle.std.proofs.lemmas.Bool.{and_parts, and_from, ltb-true, leb-true, lt-ltb, le-leb}
use Rattle.std.proofs.lemmas.Bool.Decides.{nat_tests}
use Rattle.std.proofs.lemmas.List.Folds.{list_all-append}
use Rattle.ft_base.specs.Hits.{every_two}
use Rattle.ft_base.specs.declared.filter.Filter.{Filter}
use Rattle.ft_base.specs.declared.filter.Filter.TheVariants as F
use Rattle.ft_base.specs.declared.hit.Hit.{Hit}
use Rattle.ft_base.specs.declared.range.Range.TheVariants.{Exactly}
use Rattle.ft_base.specs.declared.span.Span.{Span}
use Rattle.ft_base.specs.declared.unit.TextUnit.{TextUnit}
use Rattle.ft_base.specs.declared.unit.TextUnit.TheVariants.{Words, Sentences, Paragraphs}
use Rattle.all_matches.specs.Filters.{passes, after}
use Rattle.all_matches.specs.Join.{join, least, greatest}
use Rattle.all_matches.specs.Positions.{start_in, end_in, share_one, agree_in_order}
use Rattle.all_matches.specs.Window.{fits_window}
use Rattle.ft_operators.specs.declared.extent.UnitExtents.{UnitExtents}
use Rattle.ft_operators.specs.Bounds.{no_reach, any_order, everywhere, is_before, lies_between, is_allowed, lies_in, fit_together, stands_behind, agrees, are_within}
use Rattle.ft_operators.specs.Bounds.{numbers_round, order_behind, round_hit, round_hits, smaller, unit_reach, window_reach, filter_reach, before_joining, filter_bounds}
use Rattle.ft_operators.specs.declared.bounds.Bounds.{Bounds}
use Rattle.ft_operators.specs.declared.bounds.UnitBounds.{UnitBounds}
use Rattle.ft_operators.specs.declared.bounds.OrderBound.{OrderBound}
use Rattle.ft_operators.specs.declared.reach.Reach.{Reach}
use Rattle.ft_operators.specs.Extents.{extent_in, greatest_value, spread}
use Rattle.ft_operators.proofs.SpreadLemmas.{few_where, lies_from, spread_in, SpreadIn}

-- ---- tests of all elements of a list

module _ {X : Type 0} where
  pub all_pass : (p : X → Bool) → ((x : X) → p x ≡ true) → (xs : List X) → list_all p xs ≡ true
  all_pass p each [] = refl
  all_pass p each (x ∷ xs) = λ i. each x i && all_pass p each xs i

  pub all_more : (p q : X → Bool) → ((x : X) → p x ≡ true → q x ≡ true) → (xs : List X) → list_all p xs ≡ true → list_all q xs ≡ true
  all_more p q more [] h = refl
  all_more p q more (x ∷ xs) h = let parts = and_parts (p x) (list_all p xs) h in λ i. more x parts.0 i && all_more p q more xs parts.1 i

  pub all_both : (p q r : X → Bool) → ((x : X) → p x ≡ true → q x ≡ true → r x ≡ true) → (xs : List X) → list_all p xs ≡ true → list_all q xs ≡ true → list_all r xs ≡ true
  all_both p q r both [] h k = refl
  all_both p q r both (x ∷ xs) h k =
      let a = and_parts (p x) (list_all p xs) h in
      let b = and_parts (q x) (list_all q xs) k in
      λ i. both x a.0 b.0 i && all_both p q r both xs a.1 b.1 i

  -- of every two of those that pass
  all_pairs : (p : X → Bool) (r : X → X → Bool) → ((x y : X) → p x ≡ true → p y ≡ true → r x y ≡ true) → (xs : List X) → list_all p xs ≡ true → list_all (λ x. list_all (r x) xs) xs ≡ true
  all_pairs p r two xs h = all_more p (λ x. list_all (r x) xs) (λ x k. all_more p (r x) (λ y l. two x y k l) xs h) xs h

  -- of every two, from two such tests
  pairs_both : (p q r : X → X → Bool) → ((x y : X) → p x y ≡ true → q x y ≡ true → r x y ≡ true) → (xs : List X)
      → list_all (λ x. list_all (p x) xs) xs ≡ true → list_all (λ x. list_all (q x) xs) xs ≡ true → list_all (λ x. list_all (r x) xs) xs ≡ true
  pairs_both p q r both xs h k =
      all_both (λ x. list_all (p x) xs) (λ x. list_all (q x) xs) (λ x. list_all (r x) xs) (λ x a b. all_both (p x) (q x) (r x) (both x) xs a b) xs h k

  pub first_part : (p : X → Bool) (xs ys : List X) → list_all p (xs ++ ys) ≡ true → list_all p xs ≡ true
  first_part p xs ys h = (and_parts (list_all p xs) (list_all p ys) (sym (list_all-append p xs ys) ∙ h)).0

  pub last_part : (p : X → Bool) (xs ys : List X) → list_all p (xs ++ ys) ≡ true → list_all p ys ≡ true
  last_part p xs ys h = (and_parts (list_all p xs) (list_all p ys) (sym (list_all-append p xs ys) ∙ h)).1

-- ---- no bounds

pub any_allowed : (hit : Hit) → is_allowed any_order hit ≡ true
any_allowed hit = ap (λ b. b || nat_le hit.query 0) (le-leb 0 hit.from (omega arith))

pub all_lie : (hit : Hit) → lies_in everywhere hit ≡ true
all_lie hit =
    λ i. (le-leb 0 hit.from (omega arith) i && true) && ((le-leb 0 hit.sent_from (omega arith) i && true) && ((le-leb 0 hit.para_from (omega arith) i && true) && any_allowed hit i))

-- ---- beside a hit

numbers_beside : (from : ℕ) (to : Option ℕ) (size first last other_first other_last : ℕ) → lies_between (record { from = from; to = to }) other_first other_last ≡ true
    → fit_together (Some size) first last other_first other_last ≡ true → lies_between (numbers_round (Some size) first last (record { from = from; to = to })) other_first other_last ≡ true
numbers_beside from None size first last other_first other_last h fits = grind (arith, nat_tests)
numbers_beside from (Some end) size first last other_first other_last h fits = grind (arith, nat_tests)

pub between_beside : (size : Option ℕ) (first last : ℕ) (bounds : UnitBounds) (other_first other_last : ℕ) → lies_between bounds other_first other_last ≡ true
    → fit_together size first last other_first other_last ≡ true → lies_between (numbers_round size first last bounds) other_first other_last ≡ true
between_beside None first last bounds other_first other_last h fits = h
between_beside (Some size) first last bounds other_first other_last h fits = numbers_beside bounds.from bounds.to size first last other_first other_last h fits

order_both : (query from hit_query hit_from other_query other_from : ℕ) → (nat_le from other_from || nat_le other_query query) ≡ true → (nat_le hit_from other_from || nat_le other_query hit_query) ≡ true
    → (nat_le (max from hit_from) other_from || nat_le other_query (max query hit_query)) ≡ true
order_both query from hit_query hit_from other_query other_from h k = grind (arith, nat_tests)

allowed_beside : (asked : Bool) (hit other : Hit) (order : OrderBound) → is_allowed order other ≡ true → stands_behind asked hit other ≡ true → is_allowed (order_behind asked hit order) other ≡ true
allowed_beside false hit other order h k = h
allowed_beside true hit other order h k = order_both order.query order.from hit.query hit.from other.query other.from h k

pub four_parts : (a b c d : Bool) → (a && (b && (c && d))) ≡ true → (a ≡ true) × ((b ≡ true) × ((c ≡ true) × (d ≡ true)))
four_parts true true true d h = (refl, (refl, (refl, h)))
four_parts true true false d h = cc
four_parts true false c d h = cc
four_parts false b c d h = cc

lies_beside : (reach : Reach) (bounds : Bounds) (hit other : Hit) → lies_in bounds other ≡ true → agrees reach hit other ≡ true → lies_in (round_hit reach bounds hit) other ≡ true
lies_beside reach bounds hit other h k =
    let lie = four_parts (lies_between bounds.words other.from other.to) (lies_between bounds.sentences other.sent_from other.sent_to)
    (lies_between bounds.paragraphs other.para_from other.para_to) (is_allowed bounds.order other) h in
    let fit = four_parts (fit_together reach.words hit.from hit.to other.from other.to) (fit_together reach.sentences hit.sent_from hit.sent_to other.sent_from other.sent_to)
    (fit_together reach.paragraphs hit.para_from hit.para_to other.para_from other.para_to) (stands_behind reach.ordered hit other) k in
    λ i. between_beside reach.words hit.from hit.to bounds.words other.from other.to lie.0 fit.0 i
    && (between_beside reach.sentences hit.sent_from hit.sent_to bounds.sentences other.sent_from other.sent_to lie.1.0 fit.1.0 i
    && (between_beside reach.paragraphs hit.para_from hit.para_to bounds.paragraphs other.para_from other.para_to lie.1.1.0 fit.1.1.0 i
    && allowed_beside reach.ordered hit other bounds.order lie.1.1.1 fit.1.1.1 i))

pub all_beside : (reach : Reach) (bounds : Bounds) (hits others : List Hit) → list_all (lies_in bounds) others ≡ true → list_all (λ hit. list_all (agrees reach hit) others) hits ≡ true
    → list_all (lies_in (round_hits reach bounds hits)) others ≡ true
all_beside reach bounds [] others h k = h
all_beside reach bounds (hit ∷ hits) others h k =
    let parts = and_parts (list_all (agrees reach hit) others) (list_all (λ other. list_all (agrees reach other) others) hits) k in
    all_beside reach (round_hit reach bounds hit) hits others
    (all_both (lies_in bounds) (agrees reach hit) (lies_in (round_hit reach bounds hit)) (λ other a b. lies_beside reach bounds hit other a b) others h parts.0) parts.1

-- hits that lie in the bounds and agree: those of the left side do, and those of the right side lie beside them
pub sides_within : (bounds : Bounds) (reach : Reach) (left right : List Hit) → are_within bounds reach (left ++ right) ≡ true
    → (are_within bounds reach left ≡ true) × (are_within (round_hits reach bounds left) reach right ≡ true)
sides_within bounds reach left right h =
    let all = left ++ right in
    let parts = and_parts (list_all (lies_in bounds) all) (list_all (λ hit. list_all (agrees reach hit) all) all) h in
    let on_left = first_part (λ hit. list_all (agrees reach hit) all) left right parts.1 in
    let on_right = last_part (λ hit. list_all (agrees reach hit) all) left right parts.1 in (
      and_from (list_all (lies_in bounds) left) (list_all (λ hit. list_all (agrees reach hit) left) left)
          (first_part (lies_in bounds) left right parts.0)
          (all_more (λ hit. list_all (agrees reach hit) all) (λ hit. list_all (agrees reach hit) left) (λ hit k. first_part (agrees reach hit) left right k) left on_left),
      and_from (list_all (lies_in (round_hits reach bounds left)) right) (list_all (λ hit. list_all (agrees reach hit) right) right)
          (all_beside reach bounds left right (last_part (lies_in bounds) left right parts.0)
          (all_more (λ hit. list_all (agrees reach hit) all) (λ hit. list_all (agrees reach hit) right) (λ hit k. last_part (agrees reach hit) left right k) left on_left))
          (all_more (λ hit. list_all (agrees reach hit) all) (λ hit. list_all (agrees reach hit) right) (λ hit k. last_part (agrees reach hit) left right k) right on_right),
    )

-- ---- the joined hit

module _ (number : Hit → ℕ) where
  from_least : (n : ℕ) (rest : List Hit) (k : ℕ) → k ≤ least n (map number rest) → (k ≤ n) × (list_all (λ hit. nat_le k (number hit)) rest ≡ true)
  from_least n [] k h = (h, refl)
  from_least n (hit ∷ rest) k h =
      let later = from_least (min n (number hit)) rest k h in
      let here : nat_le k (number hit) ≡ true = le-leb k (number hit) (omega (arith, later.0)) in
      (omega (arith, later.0), λ i. here i && later.1 i)

  below_greatest : (n : ℕ) (rest : List Hit) (k : ℕ) → greatest n (map number rest) < k → (n < k) × (list_all (λ hit. nat_lt (number hit) k) rest ≡ true)
  below_greatest n [] k h = (h, refl)
  below_greatest n (hit ∷ rest) k h =
      let later = below_greatest (max n (number hit)) rest k h in
      let here : nat_lt (number hit) k ≡ true = lt-ltb (number hit) k (omega (arith, later.0)) in
      (omega (arith, later.0), λ i. here i && later.1 i)

module _ (start end : Hit → ℕ) (first : Hit) (rest : List Hit) where
  abbrev joined_start : ℕ
  joined_start = least (start first) (map start rest)

  abbrev joined_end : ℕ
  joined_end = greatest (end first) (map end rest)

  all_from : (k : ℕ) → nat_le k joined_start ≡ true → list_all (λ hit. nat_le k (start hit)) (first ∷ rest) ≡ true
  all_from k h =
      let parts = from_least start (start first) rest k (leb-true k joined_start h) in
      let here : nat_le k (start first) ≡ true = le-leb k (start first) parts.0 in
      λ i. here i && parts.1 i

  all_below : (k : ℕ) → nat_lt joined_end k ≡ true → list_all (λ hit. nat_lt (end hit) k) (first ∷ rest) ≡ true
  all_below k h =
      let parts = below_greatest end (end first) rest k (ltb-true joined_end k h) in
      let here : nat_lt (end first) k ≡ true = lt-ltb (end first) k parts.0 in
      λ i. here i && parts.1 i

  all_before : (to : Option ℕ) → is_before to joined_end ≡ true → list_all (λ hit. is_before to (end hit)) (first ∷ rest) ≡ true
  all_before None h = all_pass (λ hit. true) (λ hit. refl) (first ∷ rest)
  all_before (Some to) h = all_below to h

  all_between : (bounds : UnitBounds) → lies_between bounds joined_start joined_end ≡ true → list_all (λ hit. lies_between bounds (start hit) (end hit)) (first ∷ rest) ≡ true
  all_between bounds h =
      let parts = and_parts (nat_le bounds.from joined_start) (is_before bounds.to joined_end) h in
      all_both (λ hit. nat_le bounds.from (start hit)) (λ hit. is_before bounds.to (end hit)) (λ hit. lies_between bounds (start hit) (end hit))
      (λ hit a b. and_from (nat_le bounds.from (start hit)) (is_before bounds.to (end hit)) a b) (first ∷ rest)
      (all_from bounds.from parts.0) (all_before bounds.to parts.1)

  fit_inside : (low high size a_first a_last b_first b_last : ℕ) → high < low + size → (nat_le low a_first && nat_lt a_last (suc high)) ≡ true → (nat_le low b_first && nat_lt b_last (suc high)) ≡ true
      → fit_together (Some size) a_first a_last b_first b_last ≡ true
  fit_inside low high size a_first a_last b_first b_last less h k = grind (arith, nat_tests)

  all_fit : (size : ℕ) (r : Hit → Hit → Bool) → ((a b : Hit) → fit_together (Some size) (start a) (end a) (start b) (end b) ≡ true → r a b ≡ true)
      → nat_lt joined_end (joined_start + size) ≡ true → list_all (λ a. list_all (r a) (first ∷ rest)) (first ∷ rest) ≡ true
  all_fit size r made h =
      let less = ltb-true joined_end (joined_start + size) h in
      all_pairs (λ hit. nat_le joined_start (start hit) && nat_lt (end hit) (suc joined_end)) r
      (λ a b k l. made a b (fit_inside joined_start joined_end size (start a) (end a) (start b) (end b) less k l)) (first ∷ rest)
      (all_both (λ hit. nat_le joined_start (start hit)) (λ hit. nat_lt (end hit) (suc joined_end)) (λ hit. nat_le joined_start (start hit) && nat_lt (end hit) (suc joined_end))
      (λ hit a b. and_from (nat_le joined_start (start hit)) (nat_lt (end hit) (suc joined_end)) a b) (first ∷ rest)
      (all_from joined_start (le-leb joined_start joined_start (omega arith))) (all_below (suc joined_end) (lt-ltb joined_end (suc joined_end) (omega arith))))

-- ---- filters

-- where the joined hit lies in bounds, each of the hits does, but for the order
all_joined : (bounds : Bounds) (reach : Reach) (first : Hit) (rest : List Hit) → are_within bounds reach (after (F.Distance (Exactly 0) Words) (first ∷ rest)) ≡ true
    → list_all (lies_in (before_joining bounds)) (first ∷ rest) ≡ true
all_joined bounds reach first rest h =
    let hits = first ∷ rest in
    let on_words = lies_between bounds.words (least first.from (map (λ hit. hit.from) rest)) (greatest first.to (map (λ hit. hit.to) rest)) in
    let on_sentences = lies_between bounds.sentences (least first.sent_from (map (λ hit. hit.sent_from) rest)) (greatest first.sent_to (map (λ hit. hit.sent_to) rest)) in
    let on_paragraphs = lies_between bounds.paragraphs (least first.para_from (map (λ hit. hit.para_from) rest)) (greatest first.para_to (map (λ hit. hit.para_to) rest)) in
    let part = four on_words on_sentences on_paragraphs _ _ _ h in
    let words = all_between (λ hit. hit.from) (λ hit. hit.to) first rest bounds.words part.0 in
    let sentences = all_between (λ hit. hit.sent_from) (λ hit. hit.sent_to) first rest bounds.sentences part.1.0 in
    let paragraphs = all_between (λ hit. hit.para_from) (λ hit. hit.para_to) first rest bounds.paragraphs part.1.1 in
    all_both (λ hit. lies_between bounds.words hit.from hit.to)
    (λ hit. lies_between bounds.sentences hit.sent_from hit.sent_to && (lies_between bounds.paragraphs hit.para_from hit.para_to && is_allowed any_order hit)) (lies_in (before_joining bounds))
    (λ hit a b i. a i && b i) hits words
    (all_both (λ hit. lies_between bounds.sentences hit.sent_from hit.sent_to) (λ hit. lies_between bounds.paragraphs hit.para_from hit.para_to)
    (λ hit. lies_between bounds.sentences hit.sent_from hit.sent_to && (lies_between bounds.paragraphs hit.para_from hit.para_to && is_allowed any_order hit))
    (λ hit a b i. a i && (b i && any_allowed hit i)) hits sentences paragraphs)
  where
    four : (a b c d e f : Bool) → (((a && (b && (c && d))) && e) && f) ≡ true → (a ≡ true) × ((b ≡ true) × (c ≡ true))
    four true true true d e f h = (refl, (refl, refl))
    four true true false d e f h = cc
    four true false c d e f h = cc
    four false b c d e f h = cc

-- what a window that is passed says of every two
window_agree : (size : ℕ) (kind : TextUnit) (first : Hit) (rest : List Hit) → fits_window size kind (join (first ∷ rest)) ≡ true
    → list_all (λ a. list_all (agrees (window_reach size kind) a) (first ∷ rest)) (first ∷ rest) ≡ true
window_agree size Words first rest h = all_fit (λ hit. hit.from) (λ hit. hit.to) first rest size (agrees (window_reach size Words)) (λ a b e i. e i && true) h
window_agree size Sentences first rest h = all_fit (λ hit. hit.sent_from) (λ hit. hit.sent_to) first rest size (agrees (window_reach size Sentences)) (λ a b e i. e i && true) h
window_agree size Paragraphs first rest h = all_fit (λ hit. hit.para_from) (λ hit. hit.para_to) first rest size (agrees (window_reach size Paragraphs)) (λ a b e i. e i && true) h

-- what a distance that is passed says of every two of so few
agree_unit : (kind : TextUnit) (size : ℕ) (a b : Hit) → fit_together (Some size) (start_in kind a) (end_in kind a) (start_in kind b) (end_in kind b) ≡ true
    → agrees (unit_reach kind (Some size)) a b ≡ true
agree_unit Words size a b e = λ i. e i && true
agree_unit Sentences size a b e = λ i. e i && true
agree_unit Paragraphs size a b e = λ i. e i && true

agree_nowhere : (kind : TextUnit) (a b : Hit) → agrees (unit_reach kind None) a b ≡ true
agree_nowhere Words a b = refl
agree_nowhere Sentences a b = refl
agree_nowhere Paragraphs a b = refl

agree_spread : (kind : TextUnit) (size : Option ℕ) (hits : List Hit) → ((n : ℕ) → size ≡ Some n → SpreadIn kind n hits)
    → list_all (λ a. list_all (agrees (unit_reach kind size) a) hits) hits ≡ true
agree_spread kind None hits said = all_pass (λ a. list_all (agrees (unit_reach kind None) a) hits) (λ a. all_pass (agrees (unit_reach kind None) a) (agree_nowhere kind a) hits) hits
agree_spread kind (Some size) hits said =
    let s = said size refl in
    all_pairs (lies_from kind s.low (s.low + size)) (agrees (unit_reach kind (Some size)))
    (λ a b h k. agree_unit kind size a b (fit s.low (start_in kind a) (end_in kind a) (start_in kind b) (end_in kind b) h k)) hits s.all
  where
    fit : (low a_first a_last b_first b_last : ℕ) → (nat_le low a_first && nat_lt a_last (low + size)) ≡ true → (nat_le low b_first && nat_lt b_last (low + size)) ≡ true
        → fit_together (Some size) a_first a_last b_first b_last ≡ true
    fit low a_first a_last b_first b_last h k = grind (arith, nat_tests)

-- the includes before a filter, of which extents say how many there are
abbrev pub few_at : UnitExtents → Filter → List Hit → Bool
few_at extents F.Ordered hits = true
few_at extents (F.Window size kind) hits = true
few_at extents (F.Distance range kind) hits = few_where (greatest_value range) kind (extent_in kind extents) hits
few_at extents F.SameSentence hits = true
few_at extents F.SameParagraph hits = true
few_at extents F.DifferentSentence hits = true
few_at extents F.DifferentParagraph hits = true
few_at extents F.AtStart hits = true
few_at extents F.AtEnd hits = true
few_at extents F.EntireContent hits = true

-- what a scope says
one_window : (size : Option ℕ) (a_first a_last b_first b_last : ℕ) → fit_together size a_first a_last b_first b_last ≡ true
    → ((a_first == a_last) && (b_first == b_last) && (a_first == b_first)) ≡ true → fit_together (Some (smaller size 1)) a_first a_last b_first b_last ≡ true
one_window None a_first a_last b_first b_last h k = grind (arith, nat_tests)
one_window (Some size) a_first a_last b_first b_last h k = grind (arith, nat_tests)

second_part : (a b b_more c : Bool) → (b ≡ true → b_more ≡ true) → (a && (b && c)) ≡ true → (a && (b_more && c)) ≡ true
second_part true true b_more c more h = λ i. more refl i && h i
second_part true false b_more c more h = cc
second_part false b b_more c more h = cc

third_part : (a b c c_more d : Bool) → (c ≡ true → c_more ≡ true) → (a && (b && (c && d))) ≡ true → (a && (b && (c_more && d))) ≡ true
third_part true true c c_more d more h = second_part true c c_more d more h
third_part true false c c_more d more h = cc
third_part false b c c_more d more h = cc

last_part_of : (a b c d d_more : Bool) → d_more ≡ true → (a && (b && (c && d))) ≡ true → (a && (b && (c && d_more))) ≡ true
last_part_of true true true d d_more more h = more
last_part_of true true false d d_more more h = cc
last_part_of true false c d d_more more h = cc
last_part_of false b c d d_more more h = cc

-- what ordered says
pub either_order : (a_from a_query b_from b_query : ℕ) → ((nat_le a_from b_from && nat_le a_query b_query) || (nat_le b_from a_from && nat_le b_query a_query)) ≡ true
    → ((nat_le a_from b_from || nat_le b_query a_query) ≡ true) × ((nat_le b_from a_from || nat_le a_query b_query) ≡ true)
either_order a_from a_query b_from b_query h = (grind (arith, nat_tests), grind (arith, nat_tests))

own_order : (n m : ℕ) → (nat_le n n || nat_le m m) ≡ true
own_order n m = grind (arith, nat_tests)

all_behind : (hits : List Hit) → every_two agree_in_order hits ≡ true → list_all (λ a. list_all (stands_behind true a) hits) hits ≡ true
all_behind [] h = refl
all_behind (hit ∷ rest) h =
    let parts = and_parts (list_all (agree_in_order hit) rest) (every_two agree_in_order rest) h in
    let before = all_more (agree_in_order hit) (stands_behind true hit) (λ other e. (either_order hit.from hit.query other.from other.query e).0) rest parts.0 in
    let behind = all_more (agree_in_order hit) (λ other. stands_behind true other hit) (λ other e. (either_order hit.from hit.query other.from other.query e).1) rest parts.0 in
    let inner = all_both (λ other. stands_behind true other hit) (λ other. list_all (stands_behind true other) rest) (λ other. list_all (stands_behind true other) (hit ∷ rest))
    (λ other a b i. a i && b i) rest behind (all_behind rest parts.1) in
    λ i. (own_order hit.from hit.query i && before i) && inner i

-- what lies in the bounds, with another test of every two
with_pairs : (bounds : Bounds) (p q r : Hit → Hit → Bool) → ((a b : Hit) → p a b ≡ true → q a b ≡ true → r a b ≡ true) → (hits : List Hit)
    → (list_all (lies_in bounds) hits && list_all (λ a. list_all (p a) hits) hits) ≡ true → list_all (λ a. list_all (q a) hits) hits ≡ true
    → (list_all (lies_in bounds) hits && list_all (λ a. list_all (r a) hits) hits) ≡ true
with_pairs bounds p q r both hits h k =
    let parts = and_parts (list_all (lies_in bounds) hits) (list_all (λ a. list_all (p a) hits) hits) h in
    λ i. parts.0 i && pairs_both p q r both hits parts.1 k i

-- what a filter lets through was within what it says, and within what those round it say
pub filter_within : (extents : UnitExtents) (kind : Filter) (item : Span) (bounds : Bounds) (reach : Reach) (hits : List Hit) → passes kind hits item ≡ true → few_at extents kind hits ≡ true
    → are_within bounds reach (after kind hits) ≡ true → are_within (filter_bounds kind bounds) (filter_reach extents kind reach) hits ≡ true
filter_within extents F.Ordered item bounds reach hits p few h =
    with_pairs bounds (agrees reach) (stands_behind true) (agrees (filter_reach extents F.Ordered reach))
    (λ a b e f. last_part_of (fit_together reach.words a.from a.to b.from b.to) (fit_together reach.sentences a.sent_from a.sent_to b.sent_from b.sent_to)
    (fit_together reach.paragraphs a.para_from a.para_to b.para_from b.para_to) (stands_behind reach.ordered a b) (stands_behind true a b) f e) hits h (all_behind hits p)
filter_within extents (F.Window size kind) item bounds reach [] p few h = refl
filter_within extents (F.Window size kind) item bounds reach (first ∷ rest) p few h = λ i. all_joined bounds reach first rest h i && window_agree size kind first rest p i
filter_within extents (F.Distance range kind) item bounds reach [] p few h = refl
filter_within extents (F.Distance range kind) item bounds reach (first ∷ rest) p few h =
    let hits = first ∷ rest in
    λ i. all_joined bounds reach first rest h i && agree_spread kind (spread (extent_in kind extents) (greatest_value range)) hits
    (λ size is. spread_in (extent_in kind extents) range kind (greatest_value range) size hits refl is p few) i
filter_within extents F.SameSentence item bounds reach hits p few h =
    with_pairs bounds (agrees reach) (share_one Sentences) (agrees (filter_reach extents F.SameSentence reach))
    (λ a b e f. second_part (fit_together reach.words a.from a.to b.from b.to) (fit_together reach.sentences a.sent_from a.sent_to b.sent_from b.sent_to)
    (fit_together (Some (smaller reach.sentences 1)) a.sent_from a.sent_to b.sent_from b.sent_to)
    (fit_together reach.paragraphs a.para_from a.para_to b.para_from b.para_to && stands_behind reach.ordered a b)
    (λ g. one_window reach.sentences a.sent_from a.sent_to b.sent_from b.sent_to g f) e) hits h p
filter_within extents F.SameParagraph item bounds reach hits p few h =
    with_pairs bounds (agrees reach) (share_one Paragraphs) (agrees (filter_reach extents F.SameParagraph reach))
    (λ a b e f. third_part (fit_together reach.words a.from a.to b.from b.to) (fit_together reach.sentences a.sent_from a.sent_to b.sent_from b.sent_to)
    (fit_together reach.paragraphs a.para_from a.para_to b.para_from b.para_to) (fit_together (Some (smaller reach.paragraphs 1)) a.para_from a.para_to b.para_from b.para_to)
    (stands_behind reach.ordered a b)
    (λ g. one_window reach.paragraphs a.para_from a.para_to b.para_from b.para_to g f) e) hits h p
filter_within extents F.DifferentSentence item bounds reach hits p few h = h
filter_within extents F.DifferentParagraph item bounds reach hits p few h = h
filter_within extents F.AtStart item bounds reach hits p few h = h
filter_within extents F.AtEnd item bounds reach hits p few h = h
filter_within extents F.EntireContent item bounds reach hits p few h = h
