-- The places of a span as a part of an ascending list, and the hits on them: they are sorted, and a part of them is
-- passed where its places are.
use Rattle.std.proofs.Common.{◌≡◌, ℕ, ◌+◌, ◌-◌, ◌<◌, ◌≤◌, suc, zero, Bool, true, false, cond, ◌&&◌, ◌||◌, ◌==◌, List, [], ◌∷◌, take, drop, refl, ap, sym, ◌∙◌, arith, inl, inr}
use Rattle.std.specs.Prelude.{nat_lt, nat_le, filter, take_while, map}
use Rattle.std.specs.List.{prefix_len, list_all}
use Rattle.std.proofs.lemmas.Bool.{and_parts, and_from, cases_lt, lt-ltb, le-ltb, le-leb, lt-leb}
use Rattle.std.proofs.lemmas.List.Sums.{take_while-cons}
use Rattle.ft_base.specs.declared.places.Breaks.{Breaks}
use Rattle.ft_base.specs.declared.span.Span.{Span}
use Rattle.ft_base.specs.Places.{is_ascending}
use Rattle.ft_base.specs.Hits.{hit_place, comes_before, is_sorted}
use Rattle.ft_base.proofs.PlacesLemmas.{ascending-drop, rest-ascending}
use Rattle.index_cursors.specs.SpanHits.{word_hit, is_inside, hits_in, places_up_to, cursor_place, below}
use Rattle.index_cursors.proofs.AscendingLemmas.{passing, passing-count, head-less, none-after, less-below}

-- parts of ascending lists ascend
pub ascending-take : (n : ℕ) (xs : List ℕ) → is_ascending xs ≡ true → is_ascending (take n xs) ≡ true
ascending-take zero xs up = refl
ascending-take (suc n) [] up = refl
ascending-take (suc n) (x ∷ []) up = one n
  where
    one : (n : ℕ) → is_ascending (x ∷ take n []) ≡ true
    one zero = refl
    one (suc n) = refl
ascending-take (suc zero) (x ∷ y ∷ rest) up = refl
ascending-take (suc (suc n)) (x ∷ y ∷ rest) up =
    let parts = and_parts (nat_lt x y) (is_ascending (y ∷ rest)) up in
    and_from (nat_lt x y) (is_ascending (take (suc n) (y ∷ rest))) parts.0 (ascending-take (suc n) (y ∷ rest) parts.1)

-- hits of single words at ascending places are sorted
word-before : (breaks : Breaks) (x y : ℕ) → x < y → comes_before (word_hit breaks x) (word_hit breaks y) ≡ true
word-before breaks x y less = ap (λ b. b || ((x == y) && (nat_lt x y || ((x == y) && nat_lt 0 0)))) (lt-ltb x y less)

words-after : (breaks : Breaks) (x z : ℕ) (xs : List ℕ) → x ≤ z → is_ascending (z ∷ xs) ≡ true → list_all (comes_before (word_hit breaks x)) (map (word_hit breaks) xs) ≡ true
words-after breaks x z [] le up = refl
words-after breaks x z (y ∷ rest) le up =
    let less = head-less z y rest up in
    let here = word-before breaks x y (omega arith) in
    let after = words-after breaks x y rest (omega arith) (rest-ascending z (y ∷ rest) up) in
    λ i. here i && after i

pub words-sorted : (breaks : Breaks) (xs : List ℕ) → is_ascending xs ≡ true → is_sorted (map (word_hit breaks) xs) ≡ true
words-sorted breaks [] up = refl
words-sorted breaks (x ∷ xs) up =
    let after = words-after breaks x x xs (omega arith) up in
    let rest = words-sorted breaks xs (rest-ascending x xs up) in
    λ i. after i && rest i

pub span-sorted : (breaks : Breaks) (to first : ℕ) (places : List ℕ) → is_ascending places ≡ true → is_sorted (map (word_hit breaks) (places_up_to to first places)) ≡ true
span-sorted breaks to first places up =
    words-sorted breaks (places_up_to to first places)
    (ascending-take (prefix_len (λ p. nat_lt p to) (drop first places)) (drop first places) (ascending-drop first places up))

-- the places of a span are those from the first one on, as far as its end
inside-holds : (span : Span) (x : ℕ) → span.from ≤ x → x < span.to → is_inside span x ≡ true
inside-holds span x le less = and_from (nat_le span.from x) (nat_lt x span.to) (le-leb span.from x le) (lt-ltb x span.to less)

inside-prefix : (span : Span) (x : ℕ) → x < span.from → is_inside span x ≡ false
inside-prefix span x less = ap (λ b. b && nat_lt x span.to) (lt-leb span.from x less)

inside-after : (span : Span) (x : ℕ) → span.to ≤ x → is_inside span x ≡ false
inside-after span x le = ap (λ b. nat_le span.from x && b) (le-ltb x span.to le) ∙ none (nat_le span.from x)
  where
    none : (b : Bool) → (b && false) ≡ false
    none true = refl
    none false = refl

none-inside : (span : Span) (z : ℕ) (xs : List ℕ) → span.to ≤ z → is_ascending (z ∷ xs) ≡ true → filter (is_inside span) xs ≡ []
none-inside span z [] le up = refl
none-inside span z (y ∷ rest) le up =
    let less = head-less z y rest up in
    ap (λ b. cond b (y ∷ filter (is_inside span) rest) (filter (is_inside span) rest)) (inside-after span y (omega arith))
    ∙ none-inside span y rest (omega arith) (rest-ascending z (y ∷ rest) up)

span-step : (span : Span) (x : ℕ) (xs : List ℕ) → span.from ≤ x → is_ascending (x ∷ xs) ≡ true → filter (is_inside span) xs ≡ take_while (λ p. nat_lt p span.to) xs
    → filter (is_inside span) (x ∷ xs) ≡ take_while (λ p. nat_lt p span.to) (x ∷ xs)
span-step span x xs le up rest = elim (cases_lt x span.to) [
  | inl less ↦
      ap (λ b. cond b (x ∷ filter (is_inside span) xs) (filter (is_inside span) xs)) (inside-holds span x le less)
      ∙ ap (λ l. x ∷ l) rest
      ∙ ap (λ b. cond b (x ∷ take_while (λ p. nat_lt p span.to) xs) []) (sym (lt-ltb x span.to less))
      ∙ sym (take_while-cons (λ p. nat_lt p span.to) x xs)
  | inr after ↦
      ap (λ b. cond b (x ∷ filter (is_inside span) xs) (filter (is_inside span) xs)) (inside-after span x after)
      ∙ none-inside span x xs after up
      ∙ ap (λ b. cond b (x ∷ take_while (λ p. nat_lt p span.to) xs) []) (sym (le-ltb x span.to after))
      ∙ sym (take_while-cons (λ p. nat_lt p span.to) x xs)
]

span-prefix : (span : Span) (x : ℕ) (xs : List ℕ) → span.from ≤ x → is_ascending (x ∷ xs) ≡ true → filter (is_inside span) (x ∷ xs) ≡ take_while (λ p. nat_lt p span.to) (x ∷ xs)
span-prefix span x [] le up = span-step span x [] le up refl
span-prefix span x (y ∷ ys) le up =
    let less = head-less x y ys up in
    span-step span x (y ∷ ys) le up (span-prefix span y ys (omega arith) (rest-ascending x (y ∷ ys) up))

span-passing : (span : Span) (xs : List ℕ) → is_ascending xs ≡ true → filter (is_inside span) xs ≡ take_while (λ p. nat_lt p span.to) (drop (passing (λ p. nat_lt p span.from) xs) xs)
span-passing span [] up = refl
span-passing span (x ∷ xs) up = elim (cases_lt x span.from) [
  | inl less ↦
      let one : 1 + passing (λ p. nat_lt p span.from) xs ≡ suc (passing (λ p. nat_lt p span.from) xs) = omega arith in
      ap (λ b. cond b (x ∷ filter (is_inside span) xs) (filter (is_inside span) xs)) (inside-prefix span x less)
      ∙ span-passing span xs (rest-ascending x xs up)
      ∙ ap (λ n. take_while (λ p. nat_lt p span.to) (drop n (x ∷ xs))) (sym one)
      ∙ ap (λ b. take_while (λ p. nat_lt p span.to) (drop (cond b (1 + passing (λ p. nat_lt p span.from) xs) (passing (λ p. nat_lt p span.from) xs)) (x ∷ xs))) (sym (lt-ltb x span.from less))
  | inr le ↦
      let none = none-after (λ p. nat_lt p span.from) (less-below span.from) x xs up (le-ltb x span.from le) in
      span-prefix span x xs le up
      ∙ ap (λ n. take_while (λ p. nat_lt p span.to) (drop n (x ∷ xs))) (sym none)
      ∙ ap (λ b. take_while (λ p. nat_lt p span.to) (drop (cond b (1 + passing (λ p. nat_lt p span.from) xs) (passing (λ p. nat_lt p span.from) xs)) (x ∷ xs))) (sym (le-ltb x span.from le))
]

pub span-is : (breaks : Breaks) (span : Span) (xs : List ℕ) → is_ascending xs ≡ true → map (word_hit breaks) (places_up_to span.to (below span.from xs) xs) ≡ hits_in breaks span xs
span-is breaks span xs up =
    ap (λ n. map (word_hit breaks) (places_up_to span.to n xs)) (sym (passing-count (λ p. nat_lt p span.from) xs))
    ∙ ap (map (word_hit breaks)) (sym (span-passing span xs up))

-- a cursor at the first place that isn't before the span is at the first hit in it
pub first-hit : (breaks : Breaks) (span : Span) (first : ℕ) (xs : List ℕ) → is_ascending xs ≡ true → first ≡ below span.from xs → cursor_place breaks span.to first first xs ≡ hit_place (hits_in breaks span xs) 0
first-hit breaks span first xs up number =
    let none : first - first ≡ 0 = omega arith in
    let hits : map (word_hit breaks) (places_up_to span.to first xs) ≡ hits_in breaks span xs =
    ap (λ n. map (word_hit breaks) (places_up_to span.to n xs)) number ∙ span-is breaks span xs up in
    λ i. hit_place (hits i) (none i)
