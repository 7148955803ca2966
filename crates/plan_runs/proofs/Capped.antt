-- Sums and products of counts that stop at a largest number.
use Rattle.std.proofs.Common.{◌≡◌, sym, ap, ◌∙◌, ℕ, zero, suc, ◌+◌, ◌*◌, ◌<◌, ◌≤◌, min, List, [], ◌∷◌, ◌++◌, map, sum, length, get_or, take, arith, inl, inr}
use Rattle.std.proofs.Math.Nat.{mul-suc, mul_assoc, mul_comm, mul-one, one-mul, mul-zero}
use Rattle.std.proofs.lemmas.Bool.{cases_lt}
use Rattle.std.proofs.lemmas.List.{take_more, map_push}
use Rattle.std.proofs.lemmas.List.Sums.{fold_push}
use Rattle.all_matches.specs.Counting.{product}

product_capped : (most a b : ℕ) → min (min a most * b) most ≡ min (a * b) most
product_capped most a b = elim (cases_lt a most) [
  | inl small ↦ let same : min a most ≡ a = omega arith in ap (λ n. min (n * b) most) same
  | inr large ↦ let same : min a most ≡ most = omega arith in ap (λ n. min (n * b) most) same ∙ by_count a b large
]
  where
    by_count : (a b : ℕ) → most ≤ a → min (most * b) most ≡ min (a * b) most
    by_count a zero large = ap (λ n. min n most) (mul-zero most ∙ sym (mul-zero a))
    by_count a (suc b) large =
        let many = mul-suc a b in
        let least = mul-suc most b in
        omega arith

-- both factors stop there
product_capped_both : (most a b : ℕ) → min (min a most * min b most) most ≡ min (a * b) most
product_capped_both most a b =
    product_capped most a (min b most)
    ∙ ap (λ n. min n most) (mul_comm a (min b most))
    ∙ product_capped most b a
    ∙ ap (λ n. min n most) (mul_comm b a)

product-append : (xs : List ℕ) (x : ℕ) → product (xs ++ x ∷ []) ≡ product xs * x
product-append [] x = mul-one x ∙ sym (one-mul x)
product-append (y ∷ xs) x = ap (λ n. y * n) (product-append xs x) ∙ sym (mul_assoc y (product xs) x)

sum-append : (xs : List ℕ) (x : ℕ) → sum (xs ++ x ∷ []) ≡ sum xs + x
sum-append xs x = fold_push (λ a b. a + b) 0 xs x

module _ {X : Type 0} (f : X → ℕ) (most : ℕ) (xs : List X) (i : ℕ) (x : X) (total : ℕ) where
  -- one factor more
  pub product_more : i < length xs → x ≡ get_or xs i x → total ≡ min (product (map f (take i xs))) most
      → min (total * min (f x) most) most ≡ min (product (map f (take (i + 1) xs))) most
  product_more h is numbered_hit =
      ap (λ n. min (n * min (f x) most) most) numbered_hit
      ∙ product_capped_both most (product (map f (take i xs))) (f x)
      ∙ ap (λ n. min n most) (sym (ap (λ ys. product (map f ys)) (take_more xs i x h ∙ ap (λ y. take i xs ++ y ∷ []) (sym is)) ∙ ap product (map_push f (take i xs) x) ∙ product-append (map f (take i xs)) (f x)))

  -- one summand more
  pub sum_more : i < length xs → x ≡ get_or xs i x → total ≡ min (sum (map f (take i xs))) most
      → min (total + min (f x) most) most ≡ min (sum (map f (take (i + 1) xs))) most
  sum_more h is numbered_hit =
      let whole : sum (map f (take (i + 1) xs)) ≡ sum (map f (take i xs)) + f x =
      ap (λ ys. sum (map f ys)) (take_more xs i x h ∙ ap (λ y. take i xs ++ y ∷ []) (sym is)) ∙ ap sum (map_push f (take i xs) x) ∙ sum-append (map f (take i xs)) (f x) in
      omega arith
