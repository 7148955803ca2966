-- Each spot of a phrase is that of one of the groups in which its variants stand by their length.
use Rattle.std.proofs.Common.{◌≡◌, refl, sym, ap, ◌∙◌, ℕ, ◌+◌, ◌-◌, ◌≤◌, max, Bool, true, false, ◌==◌, cond, ◌&&◌, ◌||◌, List, [], ◌∷◌, ◌++◌, fold, filter, length, arith}
use Rattle.std.specs.List.{list_all, sum_by}
use Rattle.std.proofs.lemmas.Bool.{and_parts, eqb-true}
use Rattle.std.proofs.lemmas.Bool.Decides.{nat_tests}
use Rattle.std.proofs.lemmas.List.Folds.{list_any-append}
use Rattle.std.proofs.lemmas.List.Sums.{sum_by-cons}
use Rattle.ft_base.specs.declared.span.Span.{Span}
use Rattle.all_matches.specs.Counting.{by_length, put_variant, with_variant}
use Rattle.place_merges.specs.declared.spot.Spot.{Spot}
use Rattle.place_merges.specs.Places.{Wanted, stands_before}
use Rattle.place_merges.specs.Spots.{some_at, spots_between}
use Rattle.spot_merges.specs.Edges.{spots_of}
use Rattle.spot_merges.proofs.SpotRanges.{lies_in, lying}
use Rattle.count_merges.specs.Groups.{group_spots}
use Rattle.count_merges.proofs.FitLemmas.{count_cons}
use Rattle.count_merges.proofs.PassLemmas.{rows_lie}

-- ---- truth values as numbers

abbrev one_if : Bool → ℕ
one_if b = cond b 1 0

small : (b : Bool) → one_if b ≤ 1
small true = omega arith
small false = omega arith

or_is_max : (a b : Bool) → one_if (a || b) ≡ max (one_if a) (one_if b)
or_is_max true true = omega arith
or_is_max true false = omega arith
or_is_max false true = omega arith
or_is_max false false = omega arith

both_small : (a b : Bool) → one_if (a && b) ≤ one_if a
both_small true b = small b
both_small false b = omega arith

-- words of a length that is that of a group, and of another one
same_length : (l n g : ℕ) (r : Bool) → (l == g) ≡ true → one_if ((l == n) && r) ≤ one_if (n == g)
same_length l n g r e = by (l == n) refl
  where
    by : (b : Bool) → (l == n) ≡ b → one_if (b && r) ≤ one_if (n == g)
    by false is = omega arith
    by true is =
        let here : (n == g) ≡ true = grind (arith, nat_tests, e, is) in
        let one = ap one_if here in
        let most = small r in
        omega (arith, one, most)

other_length : (l n g : ℕ) (r : Bool) → (l == g) ≡ false → one_if ((l == n) && r) + one_if (n == g) ≤ 1
other_length l n g r e = by (l == n) refl
  where
    by : (b : Bool) → (l == n) ≡ b → one_if (b && r) + one_if (n == g) ≤ 1
    by false is = let most = small (n == g) in omega (arith, most)
    by true is =
        let elsewhere : (n == g) ≡ false = grind (arith, nat_tests, e, is) in
        let none = ap one_if elsewhere in
        let most = small r in
        omega (arith, none, most)

turned : (a b : ℕ) → (a == b) ≡ (b == a)
turned a b = grind (arith, nat_tests)

-- ---- sums

sum_zero : {X : Type 0} (xs : List X) → sum_by (λ (x : X). 0) xs ≡ 0
sum_zero [] = refl
sum_zero {X = X} (x ∷ xs) = let all = sum_by-cons (λ (y : X). 0) x xs in let rest = sum_zero xs in omega (arith, all, rest)

sum_plus : {X : Type 0} (f g h : X → ℕ) → ((x : X) → f x ≡ g x + h x) → (xs : List X) → sum_by f xs ≡ sum_by g xs + sum_by h xs
sum_plus f g h is [] = refl
sum_plus f g h is (x ∷ xs) =
    let all = sum_by-cons f x xs in
    let left = sum_by-cons g x xs in
    let right = sum_by-cons h x xs in
    let here = is x in
    let rest = sum_plus f g h is xs in
    omega (arith, all, left, right, here, rest)

-- ---- one spot

abbrev Group : Type 0
Group = ℕ × List (List Wanted)

module _ (to : ℕ) (at : Spot) where
  abbrev stands : List Wanted → Bool
  stands variant = (length variant == at.words) && stands_before to at.place variant

  abbrev is_long : Group → ℕ
  is_long group = one_if (at.words == group.0)

  abbrev is_here : Group → ℕ
  is_here group = one_if ((at.words == group.0) && some_at to group.1 at)

  abbrev long : List Group → ℕ
  long groups = sum_by is_long groups

  abbrev here : List Group → ℕ
  here groups = sum_by is_here groups

  here_long : (groups : List Group) → here groups ≤ long groups
  here_long [] = omega arith
  here_long (group ∷ groups) =
      let first = both_small (at.words == group.0) (some_at to group.1 at) in
      let rest = here_long groups in
      let a = sum_by-cons is_here group groups in
      let b = sum_by-cons is_long group groups in
      omega (arith, first, rest, a, b)

  put_long : (variant : List Wanted) (groups : List Group) → long (put_variant variant groups) ≡ max (long groups) (one_if (at.words == length variant))
  put_long variant [] = let one = sum_by-cons is_long (length variant, variant ∷ []) [] in omega (arith, one)
  put_long variant (group ∷ groups) = by (length variant == group.0) refl (put_long variant groups)
    where
      was : long (group ∷ groups) ≡ is_long group + long groups
      was = sum_by-cons is_long group groups

      by : (b : Bool) → (length variant == group.0) ≡ b → long (put_variant variant groups) ≡ max (long groups) (one_if (at.words == length variant))
          → long (cond b ((group.0, group.1 ++ variant ∷ []) ∷ groups) (group ∷ put_variant variant groups)) ≡ max (long (group ∷ groups)) (one_if (at.words == length variant))
      by true e rest =
          let is = sum_by-cons is_long (group.0, group.1 ++ variant ∷ []) groups in
          let same = ap (λ n. one_if (at.words == n)) (eqb-true (length variant) group.0 e) in
          omega (arith, was, is, same)
      by false e rest =
          let is = sum_by-cons is_long group (put_variant variant groups) in
          let apart = other_length (length variant) at.words group.0 true e in
          let same : one_if ((length variant == at.words) && true) ≡ one_if (at.words == length variant) = and_one (length variant == at.words) ∙ ap one_if (turned (length variant) at.words) in
          omega (arith, was, is, apart, same, rest)
        where
          and_one : (b : Bool) → one_if (b && true) ≡ one_if b
          and_one true = refl
          and_one false = refl

  put_here : (variant : List Wanted) (groups : List Group) → long groups ≤ 1 → here (put_variant variant groups) ≡ max (here groups) (one_if (stands variant))
  put_here variant [] h =
      let one = sum_by-cons is_here (length variant, variant ∷ []) [] in
      let same = single (at.words == length variant) (length variant == at.words) (stands_before to at.place variant) (turned at.words (length variant)) in
      omega (arith, one, same)
    where
      single : (a b r : Bool) → a ≡ b → one_if (a && ((b && r) || false)) ≡ one_if (b && r)
      single true true true e = refl
      single true true false e = refl
      single false false r e = refl
      single true false r e = cc
      single false true r e = cc
  put_here variant (group ∷ groups) h =
      by (length variant == group.0) refl (put_here variant groups (omega (arith, h, lengths)))
    where
      lengths : long (group ∷ groups) ≡ is_long group + long groups
      lengths = sum_by-cons is_long group groups

      was : here (group ∷ groups) ≡ is_here group + here groups
      was = sum_by-cons is_here group groups

      rest_small : here groups ≤ long groups
      rest_small = here_long groups

      first_small : is_here group ≤ is_long group
      first_small = both_small (at.words == group.0) (some_at to group.1 at)

      more : (w a b : Bool) → one_if b ≤ one_if w → one_if (w && (a || (b || false))) ≡ max (one_if (w && a)) (one_if b)
      more true true true less = omega arith
      more true true false less = omega arith
      more true false true less = omega arith
      more true false false less = omega arith
      more false a true less = absurd (omega (arith, less))
      more false a false less = omega arith

      by : (b : Bool) → (length variant == group.0) ≡ b → here (put_variant variant groups) ≡ max (here groups) (one_if (stands variant))
          → here (cond b ((group.0, group.1 ++ variant ∷ []) ∷ groups) (group ∷ put_variant variant groups)) ≡ max (here (group ∷ groups)) (one_if (stands variant))
      by true e rest =
          let is = sum_by-cons is_here (group.0, group.1 ++ variant ∷ []) groups in
          let less = same_length (length variant) at.words group.0 (stands_before to at.place variant) e in
          let split = ap (λ b. one_if ((at.words == group.0) && b)) (list_any-append stands group.1 (variant ∷ [])) in
          let both = more (at.words == group.0) (some_at to group.1 at) (stands variant) less in
          omega (arith, h, lengths, was, is, less, split, both, rest_small, first_small)
      by false e rest =
          let is = sum_by-cons is_here group (put_variant variant groups) in
          let apart = other_length (length variant) at.words group.0 (stands_before to at.place variant) e in
          omega (arith, h, lengths, was, is, apart, rest, rest_small, first_small)

  module _ (some : 1 ≤ at.words) where
    all_here : (variants : List (List Wanted)) (groups : List Group) → long groups ≤ 1
        → here (fold with_variant groups variants) ≡ max (here groups) (one_if (some_at to variants at))
    all_here [] groups h = omega arith
    all_here ([] ∷ variants) groups h =
        let none : (length {A = Wanted} [] == at.words) ≡ false = grind (arith, nat_tests, some) in
        all_here variants groups h
        ∙ sym (ap (λ b. max (here groups) (one_if ((b && stands_before to at.place []) || some_at to variants at))) none)
    all_here ((item ∷ items) ∷ variants) groups h =
        let many = put_long (item ∷ items) groups in
        let one = small (at.words == length (item ∷ items)) in
        let put = put_here (item ∷ items) groups h in
        let or = or_is_max (stands (item ∷ items)) (some_at to variants at) in
        let rest = all_here variants (put_variant (item ∷ items) groups) (omega (arith, h, many, one)) in
        omega (arith, put, or, rest)

    in_one_group : (variants : List (List Wanted)) → here (by_length variants) ≡ one_if (some_at to variants at)
    in_one_group variants = all_here variants [] (omega arith) ∙ omega arith

-- ---- all spots

module _ (test : Spot → Bool) (to : ℕ) where
  abbrev those_of : Group → List Spot → ℕ
  those_of group spots = length (filter test (filter (λ at. at.words == group.0) (filter (some_at to group.1) spots)))

  kept_twice : {X : Type 0} (p q : X → Bool) (x : X) (xs : List X) → length (filter p (filter q (x ∷ xs))) ≡ one_if (q x && p x) + length (filter p (filter q xs))
  kept_twice p q x xs = by (q x)
    where
      by : (b : Bool) → length (filter p (cond b (x ∷ filter q xs) (filter q xs))) ≡ one_if (b && p x) + length (filter p (filter q xs))
      by true = count_cons p x (filter q xs)
      by false = omega arith

  one_more : (group : Group) (at : Spot) (spots : List Spot)
      → those_of group (at ∷ spots) ≡ one_if (test at && ((at.words == group.0) && some_at to group.1 at)) + those_of group spots
  one_more group at spots = by (some_at to group.1 at)
    where
      kept : List Spot
      kept = filter (some_at to group.1) spots

      turn : (a b : Bool) → one_if (a && b) ≡ one_if (b && (a && true))
      turn true true = refl
      turn true false = refl
      turn false true = refl
      turn false false = refl

      nothing : (a b : Bool) → one_if (b && (a && false)) ≡ 0
      nothing true true = refl
      nothing true false = refl
      nothing false true = refl
      nothing false false = refl

      by : (b : Bool) → length (filter test (filter (λ other. other.words == group.0) (cond b (at ∷ kept) kept)))
          ≡ one_if (test at && ((at.words == group.0) && b)) + length (filter test (filter (λ other. other.words == group.0) kept))
      by true =
          let one = kept_twice test (λ other. other.words == group.0) at kept in
          let same = turn (at.words == group.0) (test at) in
          omega (arith, one, same)
      by false = let none = nothing (at.words == group.0) (test at) in omega (arith, none)

  module _ (from : ℕ) (variants : List (List Wanted)) where
    pub each_once : (spots : List Spot) → list_all (lies_in from to) spots ≡ true
        → sum_by (λ group. those_of group spots) (by_length variants) ≡ length (filter test (filter (some_at to variants) spots))
    each_once [] h = sum_zero (by_length variants)
    each_once (at ∷ spots) h =
        let parts = and_parts (lies_in from to at) (list_all (lies_in from to) spots) h in
        let split = sum_plus (λ group. those_of group (at ∷ spots)) (λ group. one_if (test at && ((at.words == group.0) && some_at to group.1 at))) (λ group. those_of group spots)
        (λ group. one_more group at spots) (by_length variants) in
        let first = by_test (test at) (in_one_group to at (lying from to at parts.0).1.0 variants) in
        let rest = each_once spots parts.1 in
        let all = kept_twice test (some_at to variants) at spots in
        omega (arith, split, first, rest, all)
      where
        by_test : (b : Bool) → here to at (by_length variants) ≡ one_if (some_at to variants at)
            → sum_by (λ group. one_if (b && ((at.words == group.0) && some_at to group.1 at))) (by_length variants) ≡ one_if (some_at to variants at && b)
        by_test true is = is ∙ sym (and_one (some_at to variants at))
          where
            and_one : (b : Bool) → one_if (b && true) ≡ one_if b
            and_one true = refl
            and_one false = refl
        by_test false is = sum_zero (by_length variants) ∙ sym (and_none (some_at to variants at))
          where
            and_none : (b : Bool) → one_if (b && false) ≡ 0
            and_none true = refl
            and_none false = refl

pub groups_once : (test : Spot → Bool) (span : Span) (variants : List (List Wanted))
    → sum_by (λ group. length (filter test (group_spots span group.0 group.1))) (by_length variants) ≡ length (filter test (spots_of span variants))
groups_once test span variants =
    each_once test span.to span.from variants (spots_between span.from span.to) (rows_lie span.from span.to span.from (span.to - span.from) (omega arith))
