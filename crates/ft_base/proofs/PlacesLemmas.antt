-- Ascending lists: one number longer, and what is left of one.
use Rattle.std.proofs.Common.{◌≡◌, ℕ, zero, suc, ◌<◌, true, nat_lt, List, [], ◌∷◌, ◌++◌, drop, Some, refl}
use Rattle.std.proofs.lemmas.Bool.{and_parts, and_from, lt-ltb}
use Rattle.std.specs.Option.{ForSome}
use Rattle.ft_base.specs.Places.{is_ascending, last_place}

pub is_ascending-push : (xs : List ℕ) (place : ℕ) → is_ascending xs ≡ true → ForSome (last_place xs) (λ last. last < place) → is_ascending (xs ++ place ∷ []) ≡ true
is_ascending-push [] place up suffix = refl
is_ascending-push (x ∷ []) place up suffix = and_from _ _ (lt-ltb x place (suffix x refl)) refl
is_ascending-push (x ∷ y ∷ rest) place up suffix =
    let parts = and_parts (nat_lt x y) (is_ascending (y ∷ rest)) up in and_from _ _ parts.0 (is_ascending-push (y ∷ rest) place parts.1 suffix)

pub last_place-push : (xs : List ℕ) (place : ℕ) → last_place (xs ++ place ∷ []) ≡ Some place
last_place-push [] place = refl
last_place-push (x ∷ []) place = refl
last_place-push (x ∷ y ∷ rest) place = last_place-push (y ∷ rest) place

pub rest-ascending : (x : ℕ) (xs : List ℕ) → is_ascending (x ∷ xs) ≡ true → is_ascending xs ≡ true
rest-ascending x [] up = refl
rest-ascending x (y ∷ xs) up = (and_parts (nat_lt x y) (is_ascending (y ∷ xs)) up).1

pub ascending-drop : (k : ℕ) (xs : List ℕ) → is_ascending xs ≡ true → is_ascending (drop k xs) ≡ true
ascending-drop zero xs up = up
ascending-drop (suc k) [] up = refl
ascending-drop (suc k) (x ∷ xs) up = ascending-drop k xs (rest-ascending x xs up)
