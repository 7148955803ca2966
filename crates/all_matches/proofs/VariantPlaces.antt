-- The hits of a phrase with several variants, counted by the places at which variants of one length begin.
use Rattle.std.proofs.Common.{◌≡◌, refl, sym, ap, ◌∙◌, ℕ, zero, suc, ◌+◌, ◌<◌, ◌≤◌, ◌==◌, Bool, true, false, ◌&&◌, ◌||◌, List, [], ◌∷◌, ◌++◌, map, sum, fold, cond, length, take, arith}
use Rattle.std.proofs.Math.Bool.{or_assoc, or_comm, or-false, and-true, and-false, and-or_distrib_left}
use Rattle.std.specs.Prelude.{⊤}
use Rattle.std.specs.List.{list_any, range_with_len, count_by}
use Rattle.std.proofs.lemmas.Bool.Decides.{nat_tests}
use Rattle.std.proofs.lemmas.List.Sums.{sum_by-cons}
use Rattle.std.proofs.lemmas.Bool.{eqb-true, and_parts}
use Rattle.std.proofs.Math.Dec.{eqb-zero-suc, eqb-suc-zero, eqb-suc-suc}
use Rattle.ft_base.specs.declared.token.Token.{Token}
use Rattle.ft_base.specs.declared.options.Options.{Options}
use Rattle.ft_base.proofs.Truth.{and_swap}
use Rattle.all_matches.specs.Variants.{Item, Lexicon, variants}
use Rattle.all_matches.specs.Hits.{passes_item, stands_as}
use Rattle.all_matches.specs.Counting.{begins_as, places, put_variant, with_variant, by_length, hit_count}
use Rattle.all_matches.proofs.Counting.{count_by-alike, count_by-cons, count_by-never, first_number, stands_here, prefixes, all_prefixes, hits_on_prefixes}

-- ---- truth values and numbers

differ_back : (m n : ℕ) → (m == n) ≡ false → (n == m) ≡ false
differ_back m n h = grind (arith, nat_tests)

-- ---- lists of items by their lengths

module _ {X : Type 0} where
  -- each has the length
  AllLong : ℕ → List (List X) → Type 0
  AllLong n [] = ⊤
  AllLong n (items ∷ rest) = (length items ≡ n) × AllLong n rest

  -- none of the groups has the length
  Apart : ℕ → List (ℕ × List (List X)) → Type 0
  Apart n [] = ⊤
  Apart n (group ∷ groups) = ((n == group.0) ≡ false) × Apart n groups

  -- groups of lists of different lengths, none of them 0
  Grouped : List (ℕ × List (List X)) → Type 0
  Grouped [] = ⊤
  Grouped (group ∷ groups) = ((0 == group.0) ≡ false) × AllLong group.0 group.1 × Apart group.0 groups × Grouped groups

  one_longer : (n : ℕ) (lists : List (List X)) (items : List X) → AllLong n lists → length items ≡ n → AllLong n (lists ++ items ∷ [])
  unfolding AllLong
  one_longer n [] items h long = (long, tt)
  one_longer n (first ∷ rest) items h long = (h.0, one_longer n rest items h.1 long)

  still_apart : (n : ℕ) (groups : List (ℕ × List (List X))) (items : List X) → Apart n groups → (n == length items) ≡ false → Apart n (put_variant items groups)
  unfolding Apart
  still_apart n [] items h other = (other, tt)
  still_apart n (group ∷ groups) items h other =
      elim (length items == group.0) as (λ t. Apart n (cond t ((group.0, group.1 ++ items ∷ []) ∷ groups) (group ∷ put_variant items groups)))
      [ true ↦ h | false ↦ (h.0, still_apart n groups items h.1 other) ]

  put_grouped : (groups : List (ℕ × List (List X))) (items : List X) → (0 == length items) ≡ false → Grouped groups → Grouped (put_variant items groups)
  unfolding Grouped AllLong Apart
  put_grouped [] items some h = (some, (refl, tt), tt, tt)
  put_grouped (group ∷ groups) items some h = by_test (put_grouped groups items some h.3) (length items == group.0) refl
    where
      by_test : Grouped (put_variant items groups) → (b : Bool) → (length items == group.0) ≡ b → Grouped (cond b ((group.0, group.1 ++ items ∷ []) ∷ groups) (group ∷ put_variant items groups))
      by_test further true e = (h.0, one_longer group.0 group.1 items h.1 (eqb-true (length items) group.0 e), h.2, h.3)
      by_test further false e = (h.0, h.1, still_apart group.0 groups items h.2 (differ_back (length items) group.0 e), further)

  all_grouped : (groups : List (ℕ × List (List X))) (lists : List (List X)) → Grouped groups → Grouped (fold with_variant groups lists)
  all_grouped groups [] h = h
  all_grouped groups ([] ∷ lists) h = all_grouped groups lists h
  all_grouped groups ((item ∷ items) ∷ lists) h = all_grouped (put_variant (item ∷ items) groups) lists (put_grouped groups (item ∷ items) (eqb-zero-suc (length items)) h)

  module _ (test : List X → Bool) where
    -- whether one of the lists passes
    some_group : List (ℕ × List (List X)) → Bool
    some_group groups = list_any (λ group. list_any test group.1) groups

    any_after : (lists : List (List X)) (items : List X) → list_any test (lists ++ items ∷ []) ≡ (list_any test lists || test items)
    any_after [] items = or-false (test items)
    any_after (first ∷ rest) items = ap (λ b. test first || b) (any_after rest items) ∙ sym (or_assoc (test first) (list_any test rest) (test items))

    put_any : (groups : List (ℕ × List (List X))) (items : List X) → some_group (put_variant items groups) ≡ (some_group groups || test items)
    unfolding some_group
    put_any [] items = or-false (test items || false) ∙ or-false (test items)
    put_any (group ∷ groups) items =
        elim (length items == group.0) as (λ t. some_group (cond t ((group.0, group.1 ++ items ∷ []) ∷ groups) (group ∷ put_variant items groups)) ≡ (some_group (group ∷ groups) || test items)) [
          | true ↦ ap (λ b. b || some_group groups) (any_after group.1 items) ∙ or_assoc (list_any test group.1) (test items) (some_group groups) ∙ ap (λ b. list_any test group.1 || b) (or_comm (test items) (some_group groups)) ∙ sym (or_assoc (list_any test group.1) (some_group groups) (test items))
          | false ↦ ap (λ b. list_any test group.1 || b) (put_any groups items) ∙ sym (or_assoc (list_any test group.1) (some_group groups) (test items))
        ]

    all_any : test [] ≡ false → (groups : List (ℕ × List (List X))) (lists : List (List X)) → some_group (fold with_variant groups lists) ≡ (some_group groups || list_any test lists)
    all_any none groups [] = sym (or-false (some_group groups))
    all_any none groups ([] ∷ lists) = all_any none groups lists ∙ ap (λ b. some_group groups || (b || list_any test lists)) (sym none)
    all_any none groups ((item ∷ items) ∷ lists) =
        all_any none (put_variant (item ∷ items) groups) lists
        ∙ ap (λ b. b || list_any test lists) (put_any groups (item ∷ items))
        ∙ or_assoc (some_group groups) (test (item ∷ items)) (list_any test lists)

-- ---- one length at a time

either_counted : {X : Type 0} (p q : X → Bool) (xs : List X) → ((x : X) → (p x && q x) ≡ false) → count_by (λ x. p x || q x) xs ≡ count_by p xs + count_by q xs
either_counted p q [] apart = refl
either_counted p q (x ∷ xs) apart =
    let here = one (p x) (q x) (apart x) in
    let rest = either_counted p q xs apart in
    let a = count_by-cons (λ y. p y || q y) x xs in
    let b = count_by-cons p x xs in
    let c = count_by-cons q x xs in
    omega (arith, here, rest, a, b, c)
  where
    one : (a b : Bool) → (a && b) ≡ false → ◌≡◌ {A = ℕ} (cond (a || b) 1 0) (cond a 1 0 + cond b 1 0)
    one true true h = cc
    one true false h = refl
    one false true h = refl
    one false false h = refl

count_by-within : (p q : ℕ → Bool) (low many : ℕ) → ((j : ℕ) → low ≤ j → j < low + many → p j ≡ q j) → count_by p (range_with_len low many) ≡ count_by q (range_with_len low many)
count_by-within p q low zero same = refl
count_by-within p q low (suc many) same =
    count_by-cons p low (range_with_len (low + 1) many)
    ∙ (λ i. cond (same low (omega arith) (omega arith) i) 1 0 + count_by-within p q (low + 1) many (λ j from to. same j (omega (arith, from)) (omega (arith, to))) i)
    ∙ sym (count_by-cons q low (range_with_len (low + 1) many))

one_number : (m many : ℕ) → m < many → count_by (λ j. m == j) (range_with_len 0 many) ≡ 1
one_number m zero h = absurd (omega arith)
one_number zero (suc many) h =
    first_number (λ j. 0 == j) many
    ∙ ap (λ n. 1 + n) (count_by-alike (λ j. 0 == suc j) (λ j. false) (range_with_len 0 many) eqb-zero-suc ∙ count_by-never (range_with_len 0 many))
one_number (suc m) (suc many) h =
    first_number (λ j. suc m == j) many
    ∙ (λ i. cond (eqb-suc-zero m i) 1 0 + (count_by-alike (λ j. suc m == suc j) (λ j. m == j) (range_with_len 0 many) (eqb-suc-suc m) ∙ one_number m many (omega arith)) i)

module _ (lexicon : Lexicon) (options : Options) where
  begins : List Token → List Item → Bool
  begins tokens items = begins_as (passes_item lexicon options) items tokens

  -- a list of items stands on the prefix of its own length alone
  prefix_stands : (items : List Item) (tokens : List Token) (k : ℕ) → k ≤ length tokens → stands_as lexicon options items (take k tokens) ≡ ((length items == k) && begins tokens items)
  unfolding begins
  prefix_stands [] tokens zero h = refl
  prefix_stands [] [] (suc k) h = absurd (omega arith)
  prefix_stands [] (token ∷ tokens) (suc k) h = ap (λ b. b && true) (sym (eqb-zero-suc k))
  prefix_stands (item ∷ items) tokens zero h = ap (λ b. b && begins tokens (item ∷ items)) (sym (eqb-suc-zero (length items)))
  prefix_stands (item ∷ items) [] (suc k) h = absurd (omega arith)
  prefix_stands (item ∷ items) (token ∷ tokens) (suc k) h =
      ap (λ b. passes_item lexicon options item token && b) (prefix_stands items tokens k (omega arith))
      ∙ and_swap (passes_item lexicon options item token) (length items == k) (begins tokens items)
      ∙ ap (λ b. b && (passes_item lexicon options item token && begins tokens items)) (sym (eqb-suc-suc (length items) k))

  long_enough : (items : List Item) (tokens : List Token) → begins tokens items ≡ true → length items ≤ length tokens
  unfolding begins
  long_enough [] tokens h = omega arith
  long_enough (item ∷ items) [] h = cc
  long_enough (item ∷ items) (token ∷ tokens) h = let further = long_enough items tokens (and_parts (passes_item lexicon options item token) (begins_as (passes_item lexicon options) items tokens) h).1 in omega (arith, further)

  group_stands : (n : ℕ) (lists : List (List Item)) (tokens : List Token) (k : ℕ) → AllLong n lists → k ≤ length tokens
      → list_any (λ items. stands_as lexicon options items (take k tokens)) lists ≡ ((n == k) && list_any (begins tokens) lists)
  unfolding AllLong
  group_stands n [] tokens k long h = sym (and-false (n == k))
  group_stands n (items ∷ lists) tokens k long h =
      (λ i. (prefix_stands items tokens k h ∙ ap (λ m. (m == k) && begins tokens items) long.0) i || group_stands n lists tokens k long.1 h i)
      ∙ sym (and-or_distrib_left (n == k) (begins tokens items) (list_any (begins tokens) lists))

  group_fits : (n : ℕ) (lists : List (List Item)) (tokens : List Token) → AllLong n lists → list_any (begins tokens) lists ≡ true → n ≤ length tokens
  unfolding AllLong
  group_fits n [] tokens long h = cc
  group_fits n (items ∷ lists) tokens long h = by_first (group_fits n lists tokens long.1) (begins tokens items) refl
    where
      by_first : (list_any (begins tokens) lists ≡ true → n ≤ length tokens) → (b : Bool) → begins tokens items ≡ b → n ≤ length tokens
      by_first further true e = let short = long_enough items tokens e in let same = long.0 in omega (arith, short, same)
      by_first further false e = further (ap (λ b. b || list_any (begins tokens) lists) (sym e) ∙ h)

  -- whether a list of a group stands on the prefix that ends after a place
  abbrev stands_at : List Token → ℕ → ℕ × List (List Item) → Bool
  stands_at tokens j group = (group.0 == suc j) && list_any (begins tokens) group.1

  abbrev begun : List Token → ℕ × List (List Item) → ℕ
  begun tokens group = cond (list_any (begins tokens) group.1) 1 0

  group_counted : (n : ℕ) (lists : List (List Item)) (tokens : List Token) → (0 == n) ≡ false → AllLong n lists
      → count_by (λ j. (n == suc j) && list_any (begins tokens) lists) (range_with_len 0 (length tokens)) ≡ cond (list_any (begins tokens) lists) 1 0
  group_counted zero lists tokens some long = cc
  group_counted (suc m) lists tokens some long = by_any (list_any (begins tokens) lists) refl
    where
      by_any : (b : Bool) → list_any (begins tokens) lists ≡ b → ◌≡◌ {A = ℕ} (count_by (λ j. (suc m == suc j) && b) (range_with_len 0 (length tokens))) (cond b 1 0)
      by_any true e =
          let fits = group_fits (suc m) lists tokens long e in
          count_by-alike (λ j. (suc m == suc j) && true) (λ j. m == j) (range_with_len 0 (length tokens)) (λ j. and-true (suc m == suc j) ∙ eqb-suc-suc m j) ∙ one_number m (length tokens) (omega (arith, fits))
      by_any false e = count_by-alike (λ j. (suc m == suc j) && false) (λ j. false) (range_with_len 0 (length tokens)) (λ j. and-false (suc m == suc j)) ∙ count_by-never (range_with_len 0 (length tokens))

  never_both : (n m k : ℕ) → (n == m) ≡ false → ((n == k) && (m == k)) ≡ false
  never_both n m k h = by_tests (n == k) (m == k) refl refl
    where
      by_tests : (a b : Bool) → (n == k) ≡ a → (m == k) ≡ b → (a && b) ≡ false
      by_tests true true e f =
          let same : n ≡ m = eqb-true n k e ∙ sym (eqb-true m k f) in
          let one : (n == m) ≡ true = grind (arith, nat_tests, same) in absurd (let no : true ≡ false = sym one ∙ h in cc)
      by_tests true false e f = refl
      by_tests false b e f = refl

  groups_apart : (n : ℕ) (some : Bool) (groups : List (ℕ × List (List Item))) (tokens : List Token) (j : ℕ) → Apart n groups → (((n == suc j) && some) && list_any (stands_at tokens j) groups) ≡ false
  unfolding Apart
  groups_apart n some [] tokens j h = and-false ((n == suc j) && some)
  groups_apart n some (group ∷ groups) tokens j h =
      apart (n == suc j) (group.0 == suc j) some (list_any (begins tokens) group.1) (list_any (stands_at tokens j) groups) (never_both n group.0 (suc j) h.0) (groups_apart n some groups tokens j h.1)
    where
      apart : (a b c d r : Bool) → (a && b) ≡ false → ((a && c) && r) ≡ false → ((a && c) && ((b && d) || r)) ≡ false
      apart true true c d r e f = cc
      apart true false c d r e f = f
      apart false b c d r e f = refl

  groups_counted : (groups : List (ℕ × List (List Item))) (tokens : List Token) → Grouped groups → count_by (λ j. list_any (stands_at tokens j) groups) (range_with_len 0 (length tokens)) ≡ sum (map (begun tokens) groups)
  unfolding Grouped
  groups_counted [] tokens h = count_by-never (range_with_len 0 (length tokens))
  groups_counted (group ∷ groups) tokens h =
      either_counted (λ j. stands_at tokens j group) (λ j. list_any (stands_at tokens j) groups) (range_with_len 0 (length tokens)) (λ j. groups_apart group.0 (list_any (begins tokens) group.1) groups tokens j h.2)
      ∙ (λ i. group_counted group.0 group.1 tokens h.0 h.1 i + groups_counted groups tokens h.3 i)
      ∙ sym (sum_by-cons (λ n. n) (begun tokens group) (map (begun tokens) groups))

  groups_stand : (groups : List (ℕ × List (List Item))) (tokens : List Token) (j : ℕ) → Grouped groups → j < length tokens
      → some_group (λ items. stands_as lexicon options items (take (suc j) tokens)) groups ≡ list_any (stands_at tokens j) groups
  unfolding some_group Grouped
  groups_stand [] tokens j h within = refl
  groups_stand (group ∷ groups) tokens j h within = λ i. group_stands group.0 group.1 tokens (suc j) h.1 (omega (arith, within)) i || groups_stand groups tokens j h.3 within i

  none_stands : (tokens : List Token) (j : ℕ) → j < length tokens → stands_as lexicon options [] (take (suc j) tokens) ≡ false
  none_stands [] j h = absurd (omega arith)
  none_stands (token ∷ tokens) j h = refl

  prefixes_counted : (stood : List (List Item)) (tokens : List Token) → prefixes lexicon options stood tokens ≡ sum (map (begun tokens) (by_length stood))
  unfolding prefixes stands_here some_group Grouped
  prefixes_counted stood tokens =
      count_by-within (λ j. stands_here lexicon options stood (take (suc j) tokens)) (λ j. list_any (stands_at tokens j) (by_length stood)) 0 (length tokens)
      (λ j low high. sym (all_any (λ items. stands_as lexicon options items (take (suc j) tokens)) (none_stands tokens j (omega (arith, high))) [] stood)
      ∙ groups_stand (by_length stood) tokens j (all_grouped [] stood tt) (omega (arith, high)))
      ∙ groups_counted (by_length stood) tokens (all_grouped [] stood tt)

  no_places : (groups : List (ℕ × List (List Item))) → 0 ≡ sum (map (λ (group : ℕ × List (List Item)). 0) groups)
  no_places [] = refl
  no_places (group ∷ groups) =
      let none = no_places groups in
      let more = sum_by-cons (λ n. n) 0 (map (λ (group : ℕ × List (List Item)). 0) groups) in
      omega (arith, none, more)

  two_sums : (f g : ℕ × List (List Item) → ℕ) (groups : List (ℕ × List (List Item))) → sum (map f groups) + sum (map g groups) ≡ sum (map (λ group. f group + g group) groups)
  two_sums f g [] = refl
  two_sums f g (group ∷ groups) =
      let a = sum_by-cons (λ n. n) (f group) (map f groups) in
      let b = sum_by-cons (λ n. n) (g group) (map g groups) in
      let c = sum_by-cons (λ n. n) (f group + g group) (map (λ (x : ℕ × List (List Item)). f x + g x) groups) in
      let rest = two_sums f g groups in
      omega (arith, a, b, c, rest)

  prefixes_places : (stood : List (List Item)) (tokens : List Token) → all_prefixes lexicon options stood tokens ≡ sum (map (λ group. places (passes_item lexicon options) group.1 tokens) (by_length stood))
  unfolding begins all_prefixes
  prefixes_places stood [] = no_places (by_length stood)
  prefixes_places stood (token ∷ tokens) =
      (λ i. prefixes_counted stood (token ∷ tokens) i + prefixes_places stood tokens i)
      ∙ two_sums (begun (token ∷ tokens)) (λ group. places (passes_item lexicon options) group.1 tokens) (by_length stood)

  pub hits_by_places : (phrase : List Item) (tokens : List Token) → hit_count lexicon options tokens phrase ≡ sum (map (λ group. places (passes_item lexicon options) group.1 tokens) (by_length (variants lexicon options phrase)))
  hits_by_places phrase tokens = hits_on_prefixes lexicon options phrase tokens ∙ prefixes_places (variants lexicon options phrase) tokens

  -- lists of the same variants, whatever their order and however often one stands there
  prefixes_alike : (stood other : List (List Item)) → ((test : List Item → Bool) → list_any test stood ≡ list_any test other)
      → (tokens : List Token) → all_prefixes lexicon options stood tokens ≡ all_prefixes lexicon options other tokens
  unfolding all_prefixes prefixes stands_here
  prefixes_alike stood other same [] = refl
  prefixes_alike stood other same (token ∷ tokens) =
      λ i. count_by-alike
      (λ j. list_any (λ items. stands_as lexicon options items (take (suc j) (token ∷ tokens))) stood)
      (λ j. list_any (λ items. stands_as lexicon options items (take (suc j) (token ∷ tokens))) other)
      (range_with_len 0 (length (token ∷ tokens))) (λ j. same (λ items. stands_as lexicon options items (take (suc j) (token ∷ tokens)))) i
      + prefixes_alike stood other same tokens i

  pub places_alike : (stood other : List (List Item)) → ((test : List Item → Bool) → list_any test stood ≡ list_any test other)
      → (tokens : List Token)
      → sum (map (λ group. places (passes_item lexicon options) group.1 tokens) (by_length stood))
      ≡ sum (map (λ group. places (passes_item lexicon options) group.1 tokens) (by_length other))
  places_alike stood other same tokens = sym (prefixes_places stood tokens) ∙ prefixes_alike stood other same tokens ∙ prefixes_places other tokens
