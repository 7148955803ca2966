-- Sums over what the elements of lists become.
use Rattle.std.proofs.Common.{◌≡◌, ◌≤◌, ◌+◌, ℕ, List, map, sym, subst, ◌∙◌}
use Rattle.std.specs.List.{sum_by}
use Rattle.std.proofs.lemmas.List.Folds.{fold-map}
use Rattle.std.proofs.lemmas.List.Sums.{sum_by-le-sum_by}

module _ {X Y : Type 0} (f : Y → ℕ) (g : X → ℕ) (h : X → Y) where
  pub sum_over : ((x : X) → f (h x) ≡ g x) → (xs : List X) → sum_by f (map h xs) ≡ sum_by g xs
  sum_over same xs = fold-map (λ a y. a + f y) h 0 xs ∙ (λ i. sum_by (λ x. same x i) xs)

  pub sum_over_le : ((x : X) → f (h x) ≤ g x) → (xs : List X) → sum_by f (map h xs) ≤ sum_by g xs
  sum_over_le less xs = subst (λ n. n ≤ sum_by g xs) (sym (fold-map (λ a y. a + f y) h 0 xs)) (sum_by-le-sum_by (λ x. f (h x)) g xs less)
