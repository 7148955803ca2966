-- Lists of elements that grow by one.
use Rattle.std.proofs.Common.{◌≡◌, ◌+◌, ◌<◌, ℕ, Bool, true, false, ◌||◌, List, [], ◌∷◌, ◌++◌, map, take, drop, filter, flat_map, length, get_or, cond, refl, sym, ap, ◌∙◌, subst, append-nil}
use Rattle.std.specs.List.{All, list_any}
use Rattle.std.proofs.lemmas.List.{map-append, take_more, drop_more}
use Rattle.std.proofs.lemmas.List.Elements.{All-nil, All-cons, All-append, All-filter, filter-append}
use Rattle.std.proofs.lemmas.List.Folds.{list_any-append}
use Rattle.std.proofs.lemmas.Grind.{flat_map-append}

pub map-more : {A B : Type 0} (f : A → B) (xs : List A) (i : ℕ) (d : A) → i < length xs → map f (take (i + 1) xs) ≡ map f (take i xs) ++ f (get_or xs i d) ∷ []
map-more f xs i d lt = ap (map f) (take_more xs i d lt) ∙ map-append f (take i xs) (get_or xs i d ∷ [])

pub or-nothing : (a b : Bool) → (a || (b || false)) ≡ (a || b)
or-nothing true b = refl
or-nothing false true = refl
or-nothing false false = refl

or-turned : (a b : Bool) → (a || (b || false)) ≡ (b || a)
or-turned true true = refl
or-turned true false = refl
or-turned false true = refl
or-turned false false = refl

pub any-more : {A B : Type 0} (f : A → B) (p : B → Bool) (xs : List A) (i : ℕ) (d : A) → i < length xs
    → list_any p (map f (take (i + 1) xs)) ≡ (list_any p (map f (take i xs)) || p (f (get_or xs i d)))
any-more f p xs i d lt =
    ap (list_any p) (map-more f xs i d lt) ∙ list_any-append p (map f (take i xs)) (f (get_or xs i d) ∷ []) ∙ or-nothing (list_any p (map f (take i xs))) (p (f (get_or xs i d)))

pub flat-more : {A B : Type 0} (f : A → List B) (xs : List A) (x : A) → flat_map f (xs ++ x ∷ []) ≡ flat_map f xs ++ f x
flat-more f xs x = flat_map-append f xs (x ∷ []) ∙ ap (λ l. flat_map f xs ++ l) (append-nil (f x))

-- the first ones, then one more
pub flat-map-more : {A B C : Type 0} (f : A → B) (g : B → List C) (xs : List A) (i : ℕ) (d : A) → i < length xs
    → flat_map g (map f (take (i + 1) xs)) ≡ flat_map g (map f (take i xs)) ++ g (f (get_or xs i d))
flat-map-more f g xs i d lt = ap (flat_map g) (map-more f xs i d lt) ∙ flat-more g (map f (take i xs)) (f (get_or xs i d))

-- one item that is put to the end where it passes a test
kept-map : {A B : Type 0} (f : A → B) (b c : Bool) (x : A) → b ≡ c → map f (cond b (x ∷ []) []) ≡ cond c (f x ∷ []) []
kept-map f true c x e = ap (λ d. cond d (f x ∷ []) []) e
kept-map f false c x e = ap (λ d. cond d (f x ∷ []) []) e

pub one-kept : {A B : Type 0} (f : A → B) (p : A → Bool) (q : B → Bool) (old : List A) (x : A) (new : List A) → new ≡ old ++ filter p (x ∷ []) → p x ≡ q (f x)
    → map f new ≡ map f old ++ filter q (f x ∷ [])
one-kept f p q old x new e same =
    ap (map f) e ∙ map-append f old (filter p (x ∷ [])) ∙ ap (λ l. map f old ++ l) (kept-map f (p x) (q (f x)) x same)

pub kept-there : {A : Type 0} (P : A → Type 0) (p : A → Bool) (old : List A) (x : A) (new : List A) → new ≡ old ++ filter p (x ∷ []) → P x → All P old → All P new
kept-there P p old x new e h all =
    subst (All P) (sym e) (All-append P old (filter p (x ∷ [])) all (All-filter p P (x ∷ []) (All-cons P x [] h (All-nil P))))

-- a filter of the first items, then one more
pub filter-more : {A B : Type 0} (f : A → B) (p : B → Bool) (xs : List A) (i : ℕ) (d : A) → i < length xs → (kept new : List A) (b : Bool)
    → map f kept ≡ filter p (map f (take i xs)) → new ≡ kept ++ cond b (get_or xs i d ∷ []) [] → b ≡ p (f (get_or xs i d))
    → map f new ≡ filter p (map f (take (i + 1) xs))
filter-more f p xs i d lt kept new b before e same =
    one-kept f (λ x. b) p kept (get_or xs i d) new e same
    ∙ ap (λ l. l ++ filter p (f (get_or xs i d) ∷ [])) before
    ∙ sym (filter-append p (map f (take i xs)) (f (get_or xs i d) ∷ []))
    ∙ ap (filter p) (sym (map-more f xs i d lt))

pub more-there : {A : Type 0} (P : A → Type 0) (kept new : List A) (x : A) (b : Bool) → new ≡ kept ++ cond b (x ∷ []) [] → P x → All P kept → All P new
more-there P kept new x b e h all = kept-there P (λ y. b) kept x new e h all

pub any-drop : {A B : Type 0} (f : A → B) (p : B → Bool) (xs : List A) (i : ℕ) (d : A) → i < length xs
    → list_any p (map f (drop i xs)) ≡ (p (f (get_or xs i d)) || list_any p (map f (drop (i + 1) xs)))
any-drop f p xs i d lt = ap (λ l. list_any p (map f l)) (drop_more xs i d lt)

pub any-more-of : {A B C : Type 0} (f : A → B) (g : B → C) (p : C → Bool) (xs : List A) (i : ℕ) (d : A) → i < length xs
    → list_any p (map g (map f (take (i + 1) xs))) ≡ (p (g (f (get_or xs i d))) || list_any p (map g (map f (take i xs))))
any-more-of f g p xs i d lt =
    ap (λ l. list_any p (map g l)) (map-more f xs i d lt)
    ∙ ap (list_any p) (map-append g (map f (take i xs)) (f (get_or xs i d) ∷ []))
    ∙ list_any-append p (map g (map f (take i xs))) (g (f (get_or xs i d)) ∷ [])
    ∙ or-turned (list_any p (map g (map f (take i xs)))) (p (g (f (get_or xs i d))))
