-- Sums of two numbers for each element, and sums that loops make.
use Rattle.std.proofs.Common.{◌≡◌, ◌≤◌, ◌<◌, ◌+◌, ◌*◌, ℕ, List, [], ◌∷◌, length, get_or, map, take, refl, sym, ap, subst, ◌∙◌, arith}
use Rattle.std.specs.List.{sum_by}
use Rattle.std.proofs.lemmas.List.Sums.{sum_by-cons, sum_by-take-le, sum_by_more}

module _ {X : Type 0} (f g : X → ℕ) where
  pub sum_of_two : (xs : List X) → sum_by (λ x. f x + g x) xs ≡ sum_by f xs + sum_by g xs
  sum_of_two [] = omega arith
  sum_of_two (x ∷ xs) =
      let both = sum_by-cons (λ y. f y + g y) x xs in
      let one = sum_by-cons f x xs in
      let other = sum_by-cons g x xs in
      let rest = sum_of_two xs in
      omega arith

  pub sum_with_twice : (xs : List X) → sum_by (λ x. f x + 2 * g x) xs ≡ sum_by f xs + 2 * sum_by g xs
  sum_with_twice [] = omega arith
  sum_with_twice (x ∷ xs) =
      let both = sum_by-cons (λ y. f y + 2 * g y) x xs in
      let one = sum_by-cons f x xs in
      let other = sum_by-cons g x xs in
      let rest = sum_with_twice xs in
      omega arith

-- counts that rise by no more than the elements so far have
module _ {X : Type 0} (f : X → ℕ) (xs : List X) (i start : ℕ) where
  pub one_more : (x : X) (middle end : ℕ) → i < length xs → x ≡ get_or xs i x → middle ≤ start + sum_by f (take i xs) → end ≤ middle + f x
      → end ≤ start + sum_by f (take (i + 1) xs)
  one_more x middle end within is before then = omega (arith, sum_by_more f xs i x within, ap f is, before, then)

  pub so_far : (end : ℕ) → end ≤ start + sum_by f (take i xs) → end ≤ start + sum_by f xs
  so_far end h = omega (arith, sum_by-take-le f xs i, h)

-- the same, of a list that a loop only reads
module _ {X : Type 0} (f : X → ℕ) (xs ys : List X) (same : ys ≡ xs) (i start : ℕ) (x : X) (within : i < length ys) (is : x ≡ get_or ys i x) where
  pub read_more : (middle end : ℕ) → middle ≤ start + sum_by f (take i xs) → end ≤ middle + f x → end ≤ start + sum_by f (take (i + 1) xs)
  read_more middle end before then =
      one_more f xs i start x middle end (subst (λ zs. i < length zs) same within) (is ∙ ap (λ zs. get_or zs i x) same) before then

-- the sum over what a list was made of
pub sum_of_map : {A B : Type 0} (f : B → ℕ) (g : A → B) (xs : List A) → sum_by f (map g xs) ≡ sum_by (λ x. f (g x)) xs
sum_of_map f g [] = refl
sum_of_map f g (x ∷ xs) =
    sum_by-cons f (g x) (map g xs) ∙ ap (λ n. f (g x) + n) (sum_of_map f g xs) ∙ sym (sum_by-cons (λ y. f (g y)) x xs)
