-- Tests of some and of all elements of a list that was mapped, joined or filtered.
use Rattle.std.proofs.Common.{◌≡◌, refl, ap, ◌∙◌, List, [], ◌∷◌, Bool, true, false, ◌&&◌, ◌||◌}
use Rattle.std.specs.Prelude.{map, flat_map}
use Rattle.std.specs.List.{list_any}
use Rattle.std.proofs.lemmas.List.Folds.{list_any-append}

-- two tests that answer alike
pub list_any-alike : {X : Type 0} (p q : X → Bool) (xs : List X) → ((x : X) → p x ≡ q x) → list_any p xs ≡ list_any q xs
list_any-alike p q [] same = refl
list_any-alike p q (x ∷ xs) same = λ i. same x i || list_any-alike p q xs same i

pub list_any-map : {X Y : Type 0} (p : Y → Bool) (f : X → Y) (xs : List X) → list_any p (map f xs) ≡ list_any (λ x. p (f x)) xs
list_any-map p f [] = refl
list_any-map p f (x ∷ xs) = ap (λ b. p (f x) || b) (list_any-map p f xs)

pub list_any-flat_map : {X Y : Type 0} (p : Y → Bool) (f : X → List Y) (xs : List X) → list_any p (flat_map f xs) ≡ list_any (λ x. list_any p (f x)) xs
list_any-flat_map p f [] = refl
list_any-flat_map p f (x ∷ xs) = list_any-append p (f x) (flat_map f xs) ∙ ap (λ b. list_any p (f x) || b) (list_any-flat_map p f xs)

-- a part of the test that doesn't look at the element
or_of_and : (a b c : Bool) → ((a && c) || (b && c)) ≡ ((a || b) && c)
or_of_and true b true = refl
or_of_and true true false = refl
or_of_and true false false = refl
or_of_and false b c = refl

pub list_any-and : {X : Type 0} (p : X → Bool) (c : Bool) (xs : List X) → list_any (λ x. p x && c) xs ≡ (list_any p xs && c)
list_any-and p c [] = refl
list_any-and p c (x ∷ xs) = ap (λ b. (p x && c) || b) (list_any-and p c xs) ∙ or_of_and (p x) (list_any p xs) c

pub list_any-and_first : {X : Type 0} (c : Bool) (p : X → Bool) (xs : List X) → list_any (λ x. c && p x) xs ≡ (c && list_any p xs)
list_any-and_first true p xs = refl
list_any-and_first false p [] = refl
list_any-and_first false p (x ∷ xs) = list_any-and_first false p xs

-- no element passes a test that always fails
pub list_any-never : {X : Type 0} (xs : List X) → list_any (λ x. false) xs ≡ false
list_any-never [] = refl
list_any-never (x ∷ xs) = list_any-never xs
