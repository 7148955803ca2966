-- The least of lists that are put together.
use Rattle.std.proofs.Common.{◌≡◌, ℕ, List, [], ◌∷◌, ◌++◌, Option, Some, None, refl, sym, ap, ◌∙◌, arith}
use Rattle.std.proofs.lemmas.Bool.Decides.{nat_tests}
use Rattle.std.specs.Option.{option_to_list}
use Rattle.selection_faults.specs.Least.{earlier, least}

three : {A : Type 0} (place : A → ℕ) (a b c : A) → earlier place (earlier place (Some a) (Some b)) (Some c) ≡ earlier place (Some a) (earlier place (Some b) (Some c))
three place a b c = grind (arith, nat_tests)

two : {A : Type 0} (place : A → ℕ) (a b : A) → earlier place (earlier place (Some a) (Some b)) None ≡ earlier place (Some a) (Some b)
two place a b = grind (arith, nat_tests)

pub earlier_groups : {A : Type 0} (place : A → ℕ) (a b c : Option A) → earlier place (earlier place a b) c ≡ earlier place a (earlier place b c)
earlier_groups place None b c = refl
earlier_groups place (Some a) None c = refl
earlier_groups place (Some a) (Some b) None = two place a b
earlier_groups place (Some a) (Some b) (Some c) = three place a b c

pub earlier_none : {A : Type 0} (place : A → ℕ) (a : Option A) → earlier place a None ≡ a
earlier_none place None = refl
earlier_none place (Some a) = refl

pub least_append : {A : Type 0} (place : A → ℕ) (xs ys : List A) → least place (xs ++ ys) ≡ earlier place (least place xs) (least place ys)
least_append place [] ys = refl
least_append place (x ∷ xs) ys = ap (earlier place (Some x)) (least_append place xs ys) ∙ sym (earlier_groups place (Some x) (least place xs) (least place ys))

pub least_option : {A : Type 0} (place : A → ℕ) (a : Option A) → least place (option_to_list a) ≡ a
least_option place None = refl
least_option place (Some a) = refl
