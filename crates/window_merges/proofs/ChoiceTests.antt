-- Choices under tests that agree on them, and choices of lists that were mapped.
use Rattle.std.proofs.Common.{◌≡◌, refl, sym, ◌∙◌, Bool, true, ◌||◌, List, [], ◌∷◌, map}
use Rattle.std.specs.List.{list_any, list_all}
use Rattle.std.proofs.lemmas.Bool.{and_from, and_parts}
use Rattle.all_matches.proofs.ListTests.{list_any-alike, list_any-map}
use Rattle.window_merges.specs.Choices.{some_choice}

-- a test that each choice passes alike
pub choice_same : {A : Type 0} (p q : List A → Bool) (lists : List (List A)) → ((chosen : List A) → p chosen ≡ q chosen) → some_choice p lists ≡ some_choice q lists
choice_same p q [] same = same []
choice_same p q (xs ∷ lists) same =
    list_any-alike (λ x. some_choice (λ chosen. p (x ∷ chosen)) lists) (λ x. some_choice (λ chosen. q (x ∷ chosen)) lists) xs
    (λ x. choice_same (λ chosen. p (x ∷ chosen)) (λ chosen. q (x ∷ chosen)) lists (λ chosen. same (x ∷ chosen)))

pub any_on : {A : Type 0} (good p q : A → Bool) (xs : List A) → list_all good xs ≡ true → ((x : A) → good x ≡ true → p x ≡ q x) → list_any p xs ≡ list_any q xs
any_on good p q [] h same = refl
any_on good p q (x ∷ xs) h same =
    let parts = and_parts (good x) (list_all good xs) h in
    λ i. same x parts.0 i || any_on good p q xs parts.1 same i

-- the same of the choices of elements that pass a third test
pub choice_on : {A : Type 0} (good : A → Bool) (p q : List A → Bool) (lists : List (List A)) → list_all (list_all good) lists ≡ true
    → ((chosen : List A) → list_all good chosen ≡ true → p chosen ≡ q chosen) → some_choice p lists ≡ some_choice q lists
choice_on good p q [] h same = same [] refl
choice_on good p q (xs ∷ lists) h same =
    let parts = and_parts (list_all good xs) (list_all (list_all good) lists) h in
    any_on good (λ x. some_choice (λ chosen. p (x ∷ chosen)) lists) (λ x. some_choice (λ chosen. q (x ∷ chosen)) lists) xs parts.0
    (λ x one. choice_on good (λ chosen. p (x ∷ chosen)) (λ chosen. q (x ∷ chosen)) lists parts.1
    (λ chosen all. same (x ∷ chosen) (and_from (good x) (list_all good chosen) one all)))

-- a test of what a function makes of a choice
pub choice_map : {A B : Type 0} (f : A → B) (test : List B → Bool) (lists : List (List A)) → some_choice (λ chosen. test (map f chosen)) lists ≡ some_choice test (map (map f) lists)
choice_map f test [] = refl
choice_map f test (xs ∷ lists) =
    list_any-alike (λ x. some_choice (λ chosen. test (f x ∷ map f chosen)) lists) (λ x. some_choice (λ chosen. test (f x ∷ chosen)) (map (map f) lists)) xs
    (λ x. choice_map f (λ chosen. test (f x ∷ chosen)) lists)
    ∙ sym (list_any-map (λ y. some_choice (λ chosen. test (y ∷ chosen)) (map (map f) lists)) f xs)
