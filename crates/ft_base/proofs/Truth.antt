-- What tests answer: a disjunct that is false, three disjuncts or conjuncts in another order, tests of which one follows from the other or each does, an equality of bytes, an option that is asked whether it has something.
use Rattle.std.proofs.Common.{◌≡◌, ℕ, Bool, true, false, ◌||◌, ◌&&◌, List, [], ◌∷◌, Option, Some, None, refl, sym, ap, ◌∙◌}
use Rattle.std.proofs.lemmas.Bool.{eq-eqb}
use Rattle.std.proofs.lemmas.Slice.Eq.{bytes_eq-Decides}
use Rattle.std.specs.Prelude.{nat_eq, bytes_eq, is_some}
use Rattle.std.specs.Cmp.Lexicographic.{pointwise}

pub or_false : (a b : Bool) → b ≡ false → (a || b) ≡ a
or_false true b h = refl
or_false false b h = h

pub or_other : (a b : Bool) → a ≡ false → (a || b) ≡ b
or_other a b h = ap (λ c. c || b) h

pub or_swap : (a b c : Bool) → (a || (b || c)) ≡ (b || (a || c))
or_swap true true c = refl
or_swap true false c = refl
or_swap false b c = refl

pub and_swap : (a b c : Bool) → (a && (b && c)) ≡ (b && (a && c))
and_swap true b c = refl
and_swap false true c = refl
and_swap false false c = refl

pub or_turned : (a b c : Bool) → (a || (b || c)) ≡ ((b || a) || c)
or_turned true true c = refl
or_turned true false c = refl
or_turned false true c = refl
or_turned false false c = refl

pub or_swap_last : (a b c : Bool) → ((a || b) || c) ≡ ((a || c) || b)
or_swap_last true b c = refl
or_swap_last false true true = refl
or_swap_last false true false = refl
or_swap_last false false true = refl
or_swap_last false false false = refl

pub or_again : (a b : Bool) → (a || b) ≡ (a || (a || b))
or_again true b = refl
or_again false b = refl

pub same_tests : (a b : Bool) → (a ≡ true → b ≡ true) → (b ≡ true → a ≡ true) → a ≡ b
same_tests true b f g = sym (f refl)
same_tests false true f g = g refl
same_tests false false f g = refl

-- what follows from a test fails, so the test does
pub fails_below : (a b : Bool) → (a ≡ true → b ≡ true) → b ≡ false → a ≡ false
fails_below true b more h = sym (more refl) ∙ h
fails_below false b more h = refl

pub pointwise_refl : (xs : List ℕ) → pointwise nat_eq xs xs ≡ true
pointwise_refl [] = refl
pointwise_refl (x ∷ xs) = ap (λ b. b && pointwise nat_eq xs xs) (eq-eqb x x refl) ∙ pointwise_refl xs

pub bytes_eq_turned : (a b : List ℕ) → bytes_eq a b ≡ bytes_eq b a
bytes_eq_turned a b = same_tests (bytes_eq a b) (bytes_eq b a) (λ h. (bytes_eq-Decides b a).1 (sym ((bytes_eq-Decides a b).0 h))) (λ h. (bytes_eq-Decides a b).1 (sym ((bytes_eq-Decides b a).0 h)))

pub none_from_test : {A : Type 0} (o : Option A) → is_some o ≡ false → o ≡ None
none_from_test None h = refl
none_from_test (Some x) h = cc
