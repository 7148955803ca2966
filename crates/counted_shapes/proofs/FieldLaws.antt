-- Of one field Or, And, Not and times are truth values and counts, whatever the Matches exclude.
use Rattle.std.proofs.Common.{◌≡◌, refl, ap, sym, ◌∙◌, ℕ, zero, suc, pred, List, [], ◌∷◌, Bool, true, false, not, ◌&&◌, ◌||◌, length, arith}
use Rattle.std.specs.Prelude.{map, filter, flat_map, fold, nat_le, nat_lt, ◌==◌, cond, if◌then◌else◌}
use Rattle.std.specs.List.{list_any, list_all}
use Rattle.std.proofs.lemmas.Bool.Decides.{nat_tests}
use Rattle.std.proofs.lemmas.List.Folds.{list_any-append, list_all-append}
use Rattle.std.proofs.Math.Bool.{and_assoc, and-true, or-false, or_assoc}
use Rattle.ft_base.specs.declared.hit.Hit.{Hit}
use Rattle.ft_base.specs.declared.hit.Match.{Match}
use Rattle.ft_base.specs.declared.range.Range.{Range}
use Rattle.ft_base.specs.declared.range.Range.TheVariants.{Exactly, AtLeast, AtMost, FromTo}
use Rattle.ft_base.proofs.Truth.{and_swap}
use Rattle.all_matches.specs.Boolean.{empty_match, both, with_include, with_exclude, ft_or, ft_and, ft_not, ft_or_of, ft_and_of, survives}
use Rattle.all_matches.specs.Times.{at_least, between, ft_times, number_in_range}
use Rattle.all_matches.proofs.BooleanLaws.{neither}
use Rattle.all_matches.proofs.ListTests.{list_any-alike, list_any-map, list_any-flat_map, list_any-and, list_any-and_first}
use Rattle.counted_shapes.specs.Fields.{made_in}

crosswise : (a b c d : Bool) → ((a && b) && (c && d)) ≡ ((a && c) && (b && d))
crosswise true b c d = and_swap b c d
crosswise false b c d = refl

some_fails : {X : Type 0} (test : X → Bool) (xs : List X) → list_any (λ x. not (test x)) xs ≡ not (list_all test xs)
some_fails test [] = refl
some_fails test (x ∷ rest) = ap (λ b. not (test x) || b) (some_fails test rest) ∙ not_both (test x) (list_all test rest)
  where
    not_both : (a b : Bool) → (not a || not b) ≡ not (a && b)
    not_both true b = refl
    not_both false b = refl

some_passes : {X : Type 0} (test : X → Bool) (xs : List X) → list_any test xs ≡ not (list_all (λ x. not (test x)) xs)
some_passes test [] = refl
some_passes test (x ∷ rest) = ap (λ b. test x || b) (some_passes test rest) ∙ not_neither (test x) (list_all (λ y. not (test y)) rest)
  where
    not_neither : (a b : Bool) → (a || not b) ≡ not (not a && b)
    not_neither true b = refl
    not_neither false b = refl

-- some element passes where those that do are more than none
pub some_count : {X : Type 0} (test : X → Bool) (xs : List X) → list_any test xs ≡ nat_lt 0 (length (filter test xs))
some_count test [] = refl
some_count {X = X} test (x ∷ rest) = one (test x) (some_count test rest)
  where
    some_length : (n : ℕ) → true ≡ nat_lt 0 (suc n)
    some_length n = grind (arith, nat_tests)

    one : (b : Bool) → list_any test rest ≡ nat_lt 0 (length (filter test rest))
        → (b || list_any test rest) ≡ nat_lt 0 (length (cond b (x ∷ filter test rest) (filter test rest)))
    one true e = some_length (length (filter test rest))
    one false e = e

-- one of two parts fails
either_fails : (a b c : Bool) → ((not a && c) || (not b && c)) ≡ (not (a && b) && c)
either_fails true b c = refl
either_fails false true true = refl
either_fails false true false = refl
either_fails false false true = refl
either_fails false false false = refl

one_more : (k n : ℕ) → (nat_le (pred k) n || nat_le k n) ≡ nat_le k (suc n)
one_more zero n = grind (arith, nat_tests)
one_more (suc k) n = grind (arith, nat_tests)

none_left : (k : ℕ) → false ≡ nat_le (suc k) 0
none_left k = grind (arith, nat_tests)

in_between : (low high n : ℕ) → (if nat_lt high low then false else (nat_le low n && not (nat_le (suc high) n))) ≡ (nat_le low n && nat_le n high)
in_between low high n = grind (arith, nat_tests)

exactly : (n m : ℕ) → (nat_le n m && nat_le m n) ≡ (m == n)
exactly n m = grind (arith, nat_tests)

at_most : (n m : ℕ) → (nat_le 0 m && nat_le m n) ≡ nat_le m n
at_most n m = grind (arith, nat_tests)

module _ (field : Hit → Bool) where
  -- whether some Match is made in the field, and how many are
  abbrev pub made : List Match → Bool
  made ms = list_any (made_in field) ms

  abbrev pub made_count : List Match → ℕ
  made_count ms = length (filter (made_in field) ms)

  pub made-or : (left right : List Match) → made (ft_or left right) ≡ (made left || made right)
  made-or left right = list_any-append (made_in field) left right

  made_in-both : (a b : Match) → made_in field (both a b) ≡ (made_in field a && made_in field b)
  made_in-both a b =
      (λ i. list_all-append field a.includes b.includes i && list_all-append (λ hit. not (field hit)) a.excludes b.excludes i)
      ∙ crosswise (list_all field a.includes) (list_all field b.includes) (survives field a) (survives field b)

  -- a Match put before each of a list
  made-map_both : (a : Match) (ms : List Match) → made (map (both a) ms) ≡ (made_in field a && made ms)
  made-map_both a ms =
      list_any-map (made_in field) (both a) ms
      ∙ list_any-alike (λ b. made_in field (both a b)) (λ b. made_in field a && made_in field b) ms (made_in-both a)
      ∙ list_any-and_first (made_in field a) (made_in field) ms

  pub made-and : (left right : List Match) → made (ft_and left right) ≡ (made left && made right)
  made-and left right =
      list_any-flat_map (made_in field) (λ a. map (both a) right) left
      ∙ list_any-alike (λ a. made (map (both a) right)) (λ a. made_in field a && made right) left (λ a. made-map_both a right)
      ∙ list_any-and (made_in field) (made right) left

  -- one of some hits put to each of some Matches
  one_put : (put : Hit → Match → Match) (test : Hit → Bool) (hits : List Hit) (ms : List Match)
      → ((hit : Hit) (m : Match) → made_in field (put hit m) ≡ (test hit && made_in field m))
      → made (flat_map (λ hit. map (put hit) ms) hits) ≡ (list_any test hits && made ms)
  one_put put test hits ms same =
      list_any-flat_map (made_in field) (λ hit. map (put hit) ms) hits
      ∙ list_any-alike (λ hit. made (map (put hit) ms)) (λ hit. test hit && made ms) hits
      (λ hit. list_any-map (made_in field) (put hit) ms ∙ list_any-alike (λ m. made_in field (put hit m)) (λ m. test hit && made_in field m) ms (same hit)
      ∙ list_any-and_first (test hit) (made_in field) ms)
      ∙ list_any-and test (made ms) hits

  -- an include turned about is an exclude
  turned_include : (hits : List Hit) (ms : List Match) → made (flat_map (λ hit. map (with_exclude hit) ms) hits) ≡ (not (list_all field hits) && made ms)
  turned_include hits ms =
      one_put with_exclude (λ hit. not (field hit)) hits ms (λ hit m. and_swap (list_all field m.includes) (not (field hit)) (survives field m))
      ∙ ap (λ b. b && made ms) (some_fails field hits)

  -- an exclude turned about is an include
  turned_exclude : (hits : List Hit) (ms : List Match) → made (flat_map (λ hit. map (with_include hit) ms) hits) ≡ (not (list_all (λ hit. not (field hit)) hits) && made ms)
  turned_exclude hits ms =
      one_put with_include field hits ms (λ hit m. and_assoc (field hit) (list_all field m.includes) (survives field m))
      ∙ ap (λ b. b && made ms) (some_passes field hits)

  pub made-not : (ms : List Match) → made (ft_not ms) ≡ not (made ms)
  made-not [] = refl
  made-not (m ∷ rest) =
      list_any-append (made_in field) (flat_map (λ hit. map (with_exclude hit) (ft_not rest)) m.includes) (flat_map (λ hit. map (with_include hit) (ft_not rest)) m.excludes)
      ∙ (λ i. turned_include m.includes (ft_not rest) i || turned_exclude m.excludes (ft_not rest) i)
      ∙ either_fails (list_all field m.includes) (survives field m) (made (ft_not rest))
      ∙ ap (λ b. not (made_in field m) && b) (made-not rest)
      ∙ neither (made_in field m) (made rest)

  -- one more Match, which may be chosen
  with_choice : (b : Bool) (k : ℕ) (m : Match) (rest : List Match)
      → ((b && nat_le (pred k) (made_count rest)) || nat_le k (made_count rest))
      ≡ nat_le k (length (cond b (m ∷ filter (made_in field) rest) (filter (made_in field) rest)))
  with_choice true k m rest = one_more k (made_count rest)
  with_choice false k m rest = refl

  pub made-at_least : (k : ℕ) (ms : List Match) → made (at_least k ms) ≡ nat_le k (made_count ms)
  made-at_least zero [] = refl
  made-at_least (suc k) [] = none_left k
  made-at_least k (m ∷ rest) =
      list_any-append (made_in field) (map (both m) (at_least (pred k) rest)) (at_least k rest)
      ∙ ap (λ b. b || made (at_least k rest)) (made-map_both m (at_least (pred k) rest))
      ∙ ap (λ b. (made_in field m && b) || made (at_least k rest)) (made-at_least (pred k) rest)
      ∙ ap (λ b. (made_in field m && nat_le (pred k) (made_count rest)) || b) (made-at_least k rest)
      ∙ with_choice (made_in field m) k m rest

  made-cond : (b : Bool) (ms : List Match) → made (if b then [] else ms) ≡ (if b then false else made ms)
  made-cond true ms = refl
  made-cond false ms = refl

  made-between : (low high : ℕ) (ms : List Match) → made (between low high ms) ≡ (nat_le low (made_count ms) && nat_le (made_count ms) high)
  made-between low high ms =
      made-cond (nat_lt high low) (ft_and (at_least low ms) (ft_not (at_least (suc high) ms)))
      ∙ ap (λ b. if nat_lt high low then false else b) (made-and (at_least low ms) (ft_not (at_least (suc high) ms)))
      ∙ ap (λ b. if nat_lt high low then false else (b && made (ft_not (at_least (suc high) ms)))) (made-at_least low ms)
      ∙ ap (λ b. if nat_lt high low then false else (nat_le low (made_count ms) && b)) (made-not (at_least (suc high) ms))
      ∙ ap (λ b. if nat_lt high low then false else (nat_le low (made_count ms) && not b)) (made-at_least (suc high) ms)
      ∙ in_between low high (made_count ms)

  pub made-times : (range : Range) (ms : List Match) → made (ft_times range ms) ≡ number_in_range range (made_count ms)
  made-times (Exactly n) ms = made-between n n ms ∙ exactly n (made_count ms)
  made-times (AtLeast n) ms = made-at_least n ms
  made-times (AtMost n) ms = made-between 0 n ms ∙ at_most n (made_count ms)
  made-times (FromTo low high) ms = made-between low high ms

  -- Or and And of a list of operands
  or_fold : (acc : List Match) (operands : List (List Match)) → made (fold ft_or acc operands) ≡ (made acc || list_any made operands)
  or_fold acc [] = sym (or-false (made acc))
  or_fold acc (a ∷ rest) = or_fold (ft_or acc a) rest ∙ ap (λ b. b || list_any made rest) (made-or acc a) ∙ or_assoc (made acc) (made a) (list_any made rest)

  pub made-or_of : (operands : List (List Match)) → made (ft_or_of operands) ≡ list_any made operands
  made-or_of operands = or_fold [] operands

  and_fold : (acc : List Match) (operands : List (List Match)) → made (fold ft_and acc operands) ≡ (made acc && list_all made operands)
  and_fold acc [] = sym (and-true (made acc))
  and_fold acc (a ∷ rest) = and_fold (ft_and acc a) rest ∙ ap (λ b. b && list_all made rest) (made-and acc a) ∙ and_assoc (made acc) (made a) (list_all made rest)

  pub made-and_of : (operands : List (List Match)) → made (ft_and_of operands) ≡ list_all made operands
  made-and_of operands = and_fold (empty_match ∷ []) operands
