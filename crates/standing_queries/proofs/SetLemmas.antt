-- A line that is put into a set of lines or taken out of it, and what the lines in a set leave of a list.
use Rattle.std.proofs.lemmas.Bool.{or_right}
use Rattle.std.proofs.Common.{◌≡◌, ℕ, ◌&&◌, ◌||◌, Bool, true, false, not, cond, List, [], ◌∷◌, filter, refl, ap, ◌∙◌}
use Rattle.std.specs.Str.{bytes_eq}
use Rattle.ft_base.proofs.Truth.{bytes_eq_turned, pointwise_refl}
use Rattle.standing_queries.specs.Changes.{is_among, not_among}

-- ---- one line

put-by : (a b old : Bool) → a ≡ b → cond a true old ≡ ((b || false) || old)
put-by true b old e = ap (λ c. (c || false) || old) e
put-by false b old e = ap (λ c. (c || false) || old) e

pub put-one : (text line : List ℕ) (old : Bool) → cond (bytes_eq text line) true old ≡ (is_among (text ∷ []) line || old)
put-one text line old = put-by (bytes_eq text line) (bytes_eq line text) old (bytes_eq_turned text line)

taken-by : (a b old : Bool) → a ≡ b → cond a false old ≡ (not (b || false) && old)
taken-by true b old e = ap (λ c. not (c || false) && old) e
taken-by false b old e = ap (λ c. not (c || false) && old) e

pub take-one : (text line : List ℕ) (old : Bool) → cond (bytes_eq text line) false old ≡ (not (is_among (text ∷ []) line) && old)
take-one text line old = taken-by (bytes_eq text line) (bytes_eq line text) old (bytes_eq_turned text line)

-- ---- tests that agree on the lines of a list

itself-among : (x : List ℕ) (xs : List (List ℕ)) → is_among (x ∷ xs) x ≡ true
itself-among x xs = ap (λ b. b || is_among xs x) (pointwise_refl x)

filtered-both : (p q : Bool) (x : List ℕ) (ps qs : List (List ℕ)) → p ≡ q → ps ≡ qs → cond p (x ∷ ps) ps ≡ cond q (x ∷ qs) qs
filtered-both true q x ps qs e f = ap (λ l. x ∷ l) f ∙ ap (λ b. cond b (x ∷ qs) qs) e
filtered-both false q x ps qs e f = f ∙ ap (λ b. cond b (x ∷ qs) qs) e

pub filter-agree : (p q : List ℕ → Bool) (xs : List (List ℕ)) → ((x : List ℕ) → is_among xs x ≡ true → p x ≡ q x) → filter p xs ≡ filter q xs
filter-agree p q [] same = refl
filter-agree p q (x ∷ xs) same =
    filtered-both (p x) (q x) x (filter p xs) (filter q xs) (same x (itself-among x xs))
    (filter-agree p q xs (λ y there. same y (or_right (bytes_eq y x) (is_among xs y) there)))

-- no line is left of lines that are all among the others
pub none-left : (others xs : List (List ℕ)) → ((x : List ℕ) → is_among xs x ≡ true → is_among others x ≡ true) → not_among others xs ≡ []
none-left others [] all = refl
none-left others (x ∷ xs) all =
    ap (λ b. cond (not b) (x ∷ not_among others xs) (not_among others xs)) (all x (itself-among x xs))
    ∙ none-left others xs (λ y there. all y (or_right (bytes_eq y x) (is_among xs y) there))

-- what is in the set: the lines of a list that aren't among the others
pub left-in-set : (in-set : List ℕ → Bool) (put : List ℕ → Bool) (others xs : List (List ℕ)) → ((x : List ℕ) → put x ≡ (is_among xs x || false))
    → ((x : List ℕ) → in-set x ≡ (not (is_among others x) && put x)) → filter in-set xs ≡ not_among others xs
left-in-set in-set put others xs was is =
    filter-agree in-set (λ x. not (is_among others x)) xs
    (λ x there. is x ∙ ap (λ b. not (is_among others x) && b) (was x ∙ ap (λ b. b || false) there) ∙ and-true (not (is_among others x)))
  where
    and-true : (a : Bool) → (a && (true || false)) ≡ a
    and-true true = refl
    and-true false = refl
