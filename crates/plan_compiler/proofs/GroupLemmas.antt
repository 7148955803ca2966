-- Phrases grouped by their lengths, what becomes of their words, and sums over them.
use Rattle.std.proofs.Common.{◌≡◌, refl, sym, ap, ◌∙◌, ℕ, ◌==◌, Bool, true, false, List, [], ◌∷◌, ◌++◌, map, fold, cond, length, ◌+◌, ◌<◌, get_or, take, arith, Option, Some, None}
use Rattle.std.specs.Prelude.{flat_map, nat_eq}
use Rattle.std.specs.List.{sum_by}
use Rattle.std.specs.Map.{lookup, set_value}
use Rattle.std.proofs.lemmas.List.{take_more, map-append, length-map}
use Rattle.std.proofs.lemmas.List.Sums.{fold_push, sum_by-cons, sum_by_push}
use Rattle.all_matches.specs.Counting.{put_variant, with_variant, by_length}
use Rattle.indexmap.specs.IndexMap.{insert_entry}
use Rattle.plan_compiler.specs.GroupedTests.{put_after}

-- one more of what a list's items become
pub fold_more : {X Y Z R : Type 0} (step : R → Z → R) (a : R) (g : Y → Z) (h : X → Y) (xs : List X) (i : ℕ) (x : X) → i < length xs → x ≡ get_or xs i x
    → fold step a (map g (map h (take (i + 1) xs))) ≡ step (fold step a (map g (map h (take i xs)))) (g (h x))
fold_more step a g h xs i x within is =
    ap (λ ys. fold step a (map g (map h ys))) (take_more xs i x within ∙ ap (λ y. take i xs ++ y ∷ []) (sym is))
    ∙ ap (λ ys. fold step a (map g ys)) (map-append h (take i xs) (x ∷ []))
    ∙ ap (fold step a) (map-append g (map h (take i xs)) (h x ∷ []))
    ∙ fold_push step a (map g (map h (take i xs))) (g (h x))

module _ {X Y : Type 0} (f : X → Y) where
  -- a group with its words changed
  abbrev pub map_group : ℕ × List (List X) → ℕ × List (List Y)
  map_group group = (group.0, map (map f) group.1)

  -- the groups without their lengths
  pub without_lengths : (groups : List (ℕ × List (List X))) → map (map (map f)) (map (λ group. group.1) groups) ≡ map (λ group. group.1) (map map_group groups)
  without_lengths [] = refl
  without_lengths (group ∷ groups) = ap (λ gs. map (map f) group.1 ∷ gs) (without_lengths groups)

  put_variant-map : (items : List X) (groups : List (ℕ × List (List X))) → put_variant (map f items) (map map_group groups) ≡ map map_group (put_variant items groups)
  put_variant-map items [] = λ i. (length-map items f i, map f items ∷ []) ∷ []
  put_variant-map items (group ∷ groups) =
      ap (λ n. cond (n == group.0) ((group.0, map (map f) group.1 ++ map f items ∷ []) ∷ map map_group groups) (map_group group ∷ put_variant (map f items) (map map_group groups))) (length-map items f)
      ∙ elim (length items == group.0) as (λ t. cond t ((group.0, map (map f) group.1 ++ map f items ∷ []) ∷ map map_group groups) (map_group group ∷ put_variant (map f items) (map map_group groups))
      ≡ map map_group (cond t ((group.0, group.1 ++ items ∷ []) ∷ groups) (group ∷ put_variant items groups)))
      [ true ↦ ap (λ vs. (group.0, vs) ∷ map map_group groups) (sym (map-append (map f) group.1 (items ∷ []))) | false ↦ ap (λ gs. map_group group ∷ gs) (put_variant-map items groups) ]

  pub with_variant-map : (groups : List (ℕ × List (List X))) (items : List X) → with_variant (map map_group groups) (map f items) ≡ map map_group (with_variant groups items)
  with_variant-map groups [] = refl
  with_variant-map groups (item ∷ items) = put_variant-map (item ∷ items) groups

  fold-map : (groups : List (ℕ × List (List X))) (lists : List (List X)) → fold with_variant (map map_group groups) (map (map f) lists) ≡ map map_group (fold with_variant groups lists)
  fold-map groups [] = refl
  fold-map groups (items ∷ lists) = ap (λ gs. fold with_variant gs (map (map f) lists)) (with_variant-map groups items) ∙ fold-map (with_variant groups items) lists

  pub by_length-map : (lists : List (List X)) → by_length (map (map f) lists) ≡ map map_group (by_length lists)
  by_length-map lists = fold-map [] lists

module _ {X : Type 0} where
  -- after the lists of its length
  pub put_found : (items : List X) (groups : List (ℕ × List (List X))) (found : List (List X)) → lookup (nat_eq (length items)) groups ≡ Some found
      → set_value (nat_eq (length items)) groups (found ++ items ∷ []) ≡ put_variant items groups
  put_found items [] found h = cc
  put_found items (group ∷ groups) found h = by_test (put_found items groups found) (nat_eq (length items) group.0) refl h
    where
      by_test : (lookup (nat_eq (length items)) groups ≡ Some found → set_value (nat_eq (length items)) groups (found ++ items ∷ []) ≡ put_variant items groups) → (b : Bool) → nat_eq (length items) group.0 ≡ b
          → cond b (Some group.1) (lookup (nat_eq (length items)) groups) ≡ Some found
          → cond b ((group.0, found ++ items ∷ []) ∷ groups) (group ∷ set_value (nat_eq (length items)) groups (found ++ items ∷ [])) ≡ cond b ((group.0, group.1 ++ items ∷ []) ∷ groups) (group ∷ put_variant items groups)
      by_test further true e h = ap (λ vs. (group.0, vs ++ items ∷ []) ∷ groups) (sym (same group.1 found h))
        where
          same : (a b : List (List X)) → Some a ≡ Some b → a ≡ b
          same a b h = cc
      by_test further false e h = ap (λ gs. group ∷ gs) (further h)

  -- the first list of its length
  pub put_first : (items : List X) (groups : List (ℕ × List (List X))) → lookup (nat_eq (length items)) groups ≡ None
      → insert_entry nat_eq groups (length items) (items ∷ []) ≡ put_variant items groups
  put_first items [] h = refl
  put_first items (group ∷ groups) h = by_test (put_first items groups) (nat_eq (length items) group.0) refl h
    where
      by_test : (lookup (nat_eq (length items)) groups ≡ None → insert_entry nat_eq groups (length items) (items ∷ []) ≡ put_variant items groups) → (b : Bool) → nat_eq (length items) group.0 ≡ b
          → cond b (Some group.1) (lookup (nat_eq (length items)) groups) ≡ None
          → cond b ((group.0, items ∷ []) ∷ groups) (group ∷ insert_entry nat_eq groups (length items) (items ∷ [])) ≡ cond b ((group.0, group.1 ++ items ∷ []) ∷ groups) (group ∷ put_variant items groups)
      by_test further true e h = cc
      by_test further false e h = ap (λ gs. group ∷ gs) (further h)

  -- either
  pub put_either : (items : List X) (groups : List (ℕ × List (List X))) → 0 < length items → put_after groups items (lookup (nat_eq (length items)) groups) ≡ with_variant groups items
  put_either [] groups h = absurd (omega arith)
  put_either (item ∷ items) groups h = by_found (lookup (nat_eq (length (item ∷ items))) groups) refl
    where
      by_found : (found : Option (List (List X))) → lookup (nat_eq (length (item ∷ items))) groups ≡ found → put_after groups (item ∷ items) found ≡ put_variant (item ∷ items) groups
      by_found None e = put_first (item ∷ items) groups e
      by_found (Some found) e = put_found (item ∷ items) groups found e

-- ---- sums over lists of one length together

module _ {X : Type 0} (f : List X → ℕ) (none : f [] ≡ 0) where
  abbrev pub of_group : ℕ × List (List X) → ℕ
  of_group group = sum_by f group.1

  put_sum : (variant : List X) (groups : List (ℕ × List (List X))) → sum_by of_group (put_variant variant groups) ≡ sum_by of_group groups + f variant
  put_sum variant [] = omega arith
  put_sum variant (group ∷ groups) =
      let rest = put_sum variant groups in
      let was = sum_by-cons of_group group groups in
      elim (length variant == group.0) as (λ t. sum_by of_group (cond t ((group.0, group.1 ++ variant ∷ []) ∷ groups) (group ∷ put_variant variant groups)) ≡ sum_by of_group (group ∷ groups) + f variant) [
        | true ↦
            let now = sum_by-cons of_group (group.0, group.1 ++ variant ∷ []) groups in
            let more = sum_by_push f group.1 variant in
            omega (arith, was, now, more)
        | false ↦
            let now = sum_by-cons of_group group (put_variant variant groups) in
            omega (arith, was, now, rest)
      ]

  with_sum : (groups : List (ℕ × List (List X))) (variant : List X) → sum_by of_group (with_variant groups variant) ≡ sum_by of_group groups + f variant
  with_sum groups [] = omega (arith, none)
  with_sum groups (x ∷ variant) = put_sum (x ∷ variant) groups

  fold_sum : (groups : List (ℕ × List (List X))) (variants : List (List X)) → sum_by of_group (fold with_variant groups variants) ≡ sum_by of_group groups + sum_by f variants
  fold_sum groups [] = omega arith
  fold_sum groups (variant ∷ variants) =
      let rest = fold_sum (with_variant groups variant) variants in
      let one = with_sum groups variant in
      let all = sum_by-cons f variant variants in
      omega (arith, rest, one, all)

  pub by_length-sum : (variants : List (List X)) → sum_by of_group (by_length variants) ≡ sum_by f variants
  by_length-sum variants = let all = fold_sum [] variants in omega (arith, all)
