-- Lists of the same members have a least at the same places.
use Rattle.std.proofs.Common.{◌≡◌, refl, ap, sym, ◌∙◌, ℕ, suc, List, [], ◌∷◌, inl, inr, Bool, true, false, true≢false, ◌&&◌, ◌||◌, arith}
use Rattle.std.specs.Prelude.{◌==◌, nat_lt}
use Rattle.std.specs.List.{list_any}
use Rattle.std.proofs.lemmas.Bool.{or_parts}
use Rattle.std.proofs.lemmas.Bool.Decides.{nat_tests}
use Rattle.ft_base.specs.declared.hit.Hit.{Hit}
use Rattle.best_hits.specs.Best.{SomeOf, spans_of}
use Rattle.best_hits.specs.Least.{comes_before, has_same_places, is_earlier, least}
use Rattle.best_hits.proofs.LeastLemmas.{none-before, some-least}

-- ---- what isn't earlier or later stands at the same places

same_from : (a b c d : ℕ) → (nat_lt a c || (a == c && nat_lt b d)) ≡ false → (nat_lt c a || (c == a && nat_lt d b)) ≡ false → a ≡ c
same_from a b c d h k = grind (arith, nat_tests)

same_to : (a b c d : ℕ) → (nat_lt a c || (a == c && nat_lt b d)) ≡ false → (nat_lt c a || (c == a && nat_lt d b)) ≡ false → b ≡ d
same_to a b c d h k = grind (arith, nat_tests)

same_places : (a b c d : ℕ) → a ≡ c → b ≡ d → (a == c && b == d) ≡ true
same_places a b c d h k = grind (arith, nat_tests)

-- the rest, where the first hits stand at the same places
rest_too : (e s r : Bool) → (e || (s && r)) ≡ false → s ≡ true → r ≡ false
rest_too true s r h k = absurd (true≢false h)
rest_too false true r h k = h
rest_too false false r h k = absurd (true≢false (sym k))

pub neither-before : (xs ys : List Hit) → comes_before xs ys ≡ false → comes_before ys xs ≡ false → spans_of xs ≡ spans_of ys
neither-before [] [] h k = refl
neither-before [] (y ∷ ys) h k = absurd (true≢false h)
neither-before (x ∷ xs) [] h k = absurd (true≢false k)
neither-before (x ∷ xs) (y ∷ ys) h k =
    let one = or_parts (is_earlier x y) (has_same_places x y && comes_before xs ys) h in
    let two = or_parts (is_earlier y x) (has_same_places y x && comes_before ys xs) k in
    let from = same_from x.from x.to y.from y.to one.0 two.0 in
    let to = same_to x.from x.to y.from y.to one.0 two.0 in
    let rest = neither-before xs ys
    (rest_too (is_earlier x y) (has_same_places x y) (comes_before xs ys) h (same_places x.from x.to y.from y.to from to))
    (rest_too (is_earlier y x) (has_same_places y x) (comes_before ys xs) k (same_places y.from y.to x.from x.to (sym from) (sym to))) in
    λ i. record { from = from i; to = suc (to i) } ∷ rest i

-- ---- the same members

not-some : {X : Type 0} (p : X → Bool) (x : X) (xs : List X) → SomeOf (λ y. y ≡ x) xs → list_any p xs ≡ false → p x ≡ false
not-some p x [] h k = absurd h
not-some p x (y ∷ ys) (inl same) k = ap p (sym same) ∙ (or_parts (p y) (list_any p ys) k).0
not-some p x (y ∷ ys) (inr h) k = not-some p x ys h (or_parts (p y) (list_any p ys) k).1

pub least-alike : (xs ys : List (List Hit)) → ((p : List Hit → Bool) → list_any p xs ≡ list_any p ys) → spans_of (least xs) ≡ spans_of (least ys)
least-alike [] [] same = refl
least-alike [] (y ∷ ys) same = absurd (true≢false (sym (same (λ l. true))))
least-alike (x ∷ xs) [] same = absurd (true≢false (same (λ l. true)))
least-alike (x ∷ xs) (y ∷ ys) same =
    let a = least (x ∷ xs) in
    let b = least (y ∷ ys) in
    neither-before a b
    (not-some (λ l. comes_before l b) a (x ∷ xs) (some-least (x ∷ xs) (λ e. cc)) (same (λ l. comes_before l b) ∙ none-before (y ∷ ys)))
    (not-some (λ l. comes_before l a) b (y ∷ ys) (some-least (y ∷ ys) (λ e. cc)) (sym (same (λ l. comes_before l a)) ∙ none-before (x ∷ xs)))
