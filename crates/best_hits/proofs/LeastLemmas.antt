-- The least of some lists is one of them, and none comes before it.
use Rattle.std.proofs.Common.{◌≡◌, ◌≢◌, refl, ap, sym, ◌∙◌, ℕ, List, [], ◌∷◌, inl, inr, Bool, true, false, true≢false, ◌&&◌, ◌||◌, arith}
use Rattle.std.specs.Prelude.{map, filter, cond, ◌==◌, nat_lt}
use Rattle.std.specs.List.{list_any}
use Rattle.std.proofs.lemmas.Bool.{or_parts}
use Rattle.std.proofs.lemmas.Bool.Decides.{nat_tests}
use Rattle.ft_base.specs.declared.hit.Hit.{Hit}
use Rattle.ft_base.specs.declared.hit.Match.{Match}
use Rattle.all_matches.specs.Boolean.{is_clean, satisfied}
use Rattle.best_hits.specs.Best.{Gives, SomeOf}
use Rattle.best_hits.specs.Least.{clean_includes, comes_before, has_same_places, is_earlier, least, least_from, least_includes}

-- ---- it is one of them

among : (first : List Hit) (rest : List (List Hit)) → SomeOf (λ l. l ≡ least_from first rest) (first ∷ rest)
among first [] = inl refl
among first (next ∷ rest) = by (comes_before next first) (among next rest) (among first rest)
  where
    by : (b : Bool) → SomeOf (λ l. l ≡ least_from next rest) (next ∷ rest) → SomeOf (λ l. l ≡ least_from first rest) (first ∷ rest)
        → SomeOf (λ l. l ≡ least_from (cond b next first) rest) (first ∷ next ∷ rest)
    by true one other = inr one
    by false one (inl e) = inl e
    by false one (inr h) = inr (inr h)

pub some-least : (lists : List (List Hit)) → lists ≢ [] → SomeOf (λ l. l ≡ least lists) lists
some-least [] h = absurd (h refl)
some-least (first ∷ rest) h = among first rest

of-match : (hits : List Hit) (ms : List Match) → SomeOf (λ l. l ≡ hits) (clean_includes ms) → SomeOf (Gives hits) ms
of-match hits [] h = absurd h
of-match hits (m ∷ rest) h = by (is_clean m) refl h (of-match hits rest)
  where
    by : (b : Bool) → is_clean m ≡ b → SomeOf (λ l. l ≡ hits) (map (λ n. n.includes) (cond b (m ∷ filter is_clean rest) (filter is_clean rest)))
        → (SomeOf (λ l. l ≡ hits) (clean_includes rest) → SomeOf (Gives hits) rest) → SomeOf (Gives hits) (m ∷ rest)
    by true e (inl same) later = inl (record { clean = e; same = same })
    by true e (inr h) later = inr (later h)
    by false e h later = inr (later h)

none-clean : (ms : List Match) → clean_includes ms ≡ [] → satisfied ms ≡ false
none-clean [] e = refl
none-clean (m ∷ rest) e = by (is_clean m) e (none-clean rest)
  where
    by : (b : Bool) → map (λ n. n.includes) (cond b (m ∷ filter is_clean rest) (filter is_clean rest)) ≡ [] → (clean_includes rest ≡ [] → satisfied rest ≡ false)
        → (b || satisfied rest) ≡ false
    by true e later = cc
    by false e later = later e

pub least-chosen : (ms : List Match) → satisfied ms ≡ true → SomeOf (Gives (least_includes ms)) ms
least-chosen ms h = of-match (least_includes ms) ms (some-least (clean_includes ms) (λ e. true≢false (sym h ∙ none-clean ms e)))

-- ---- the order of places

earlier_split : (a b c d e f : ℕ) → (nat_lt a e || (a == e && nat_lt b f)) ≡ true
    → ((nat_lt a c || (a == c && nat_lt b d)) || (nat_lt c e || (c == e && nat_lt d f))) ≡ true
earlier_split a b c d e f h = grind (arith, nat_tests)

same_split : (a b c d e f : ℕ) → (a == e && b == f) ≡ true
    → (((nat_lt a c || (a == c && nat_lt b d)) || (nat_lt c e || (c == e && nat_lt d f))) || ((a == c && b == d) && (c == e && d == f))) ≡ true
same_split a b c d e f h = grind (arith, nat_tests)

not_later : (a b c d : ℕ) → (nat_lt a c || (a == c && nat_lt b d)) ≡ true → (nat_lt c a || (c == a && nat_lt d b)) ≡ false
not_later a b c d h = grind (arith, nat_tests)

not_same : (a b c d : ℕ) → (nat_lt a c || (a == c && nat_lt b d)) ≡ true → (c == a && d == b) ≡ false
not_same a b c d h = grind (arith, nat_tests)

same_not_later : (a b c d : ℕ) → (a == c && b == d) ≡ true → (nat_lt c a || (c == a && nat_lt d b)) ≡ false
same_not_later a b c d h = grind (arith, nat_tests)

or-last : (p q : Bool) → (p || (true || q)) ≡ true
or-last true q = refl
or-last false q = refl

-- whether a list comes before a third, by a second between them: earlier, at the same places, and what follows
split-by : (e s r e1 s1 r1 e2 s2 r2 : Bool) → (e || (s && r)) ≡ true → (e ≡ true → (e1 || e2) ≡ true) → (s ≡ true → ((e1 || e2) || (s1 && s2)) ≡ true)
    → (r ≡ true → (r1 || r2) ≡ true) → ((e1 || (s1 && r1)) || (e2 || (s2 && r2))) ≡ true
split-by e s r true s1 r1 e2 s2 r2 h f g k = refl
split-by e s r false s1 r1 true s2 r2 h f g k = or-last (s1 && r1) (s2 && r2)
split-by true s r false s1 r1 false s2 r2 h f g k = absurd (true≢false (sym (f refl)))
split-by false true true false true r1 false true r2 h f g k = k refl
split-by false true true false true r1 false false r2 h f g k = absurd (true≢false (sym (g refl)))
split-by false true true false false r1 false s2 r2 h f g k = absurd (true≢false (sym (g refl)))
split-by false true false false s1 r1 false s2 r2 h f g k = absurd (true≢false (sym h))
split-by false false r false s1 r1 false s2 r2 h f g k = absurd (true≢false (sym h))

split : (xs ys zs : List Hit) → comes_before xs zs ≡ true → (comes_before xs ys || comes_before ys zs) ≡ true
split [] ys [] h = absurd (true≢false (sym h))
split [] [] (z ∷ zs) h = refl
split [] (y ∷ ys) (z ∷ zs) h = refl
split (x ∷ xs) ys [] h = absurd (true≢false (sym h))
split (x ∷ xs) [] (z ∷ zs) h = refl
split (x ∷ xs) (y ∷ ys) (z ∷ zs) h =
    split-by (is_earlier x z) (has_same_places x z) (comes_before xs zs) (is_earlier x y) (has_same_places x y) (comes_before xs ys) (is_earlier y z) (has_same_places y z) (comes_before ys zs) h
    (earlier_split x.from x.to y.from y.to z.from z.to) (same_split x.from x.to y.from y.to z.from z.to) (split xs ys zs)

turned-by : (e s r e1 s1 r1 : Bool) → (e || (s && r)) ≡ true → (e ≡ true → e1 ≡ false) → (e ≡ true → s1 ≡ false) → (s ≡ true → e1 ≡ false) → (r ≡ true → r1 ≡ false)
    → (e1 || (s1 && r1)) ≡ false
turned-by true s r e1 s1 r1 h f g k l = (λ i. f refl i || (g refl i && r1))
turned-by false true true e1 true r1 h f g k l = (λ i. k refl i || l refl i)
turned-by false true true e1 false r1 h f g k l = (λ i. k refl i || false)
turned-by false true false e1 s1 r1 h f g k l = absurd (true≢false (sym h))
turned-by false false r e1 s1 r1 h f g k l = absurd (true≢false (sym h))

not-back : (xs ys : List Hit) → comes_before xs ys ≡ true → comes_before ys xs ≡ false
not-back [] [] h = absurd (true≢false (sym h))
not-back [] (y ∷ ys) h = refl
not-back (x ∷ xs) [] h = absurd (true≢false (sym h))
not-back (x ∷ xs) (y ∷ ys) h =
    turned-by (is_earlier x y) (has_same_places x y) (comes_before xs ys) (is_earlier y x) (has_same_places y x) (comes_before ys xs) h
    (not_later x.from x.to y.from y.to) (not_same x.from x.to y.from y.to) (same_not_later x.from x.to y.from y.to) (not-back xs ys)

false-from : (b : Bool) → (b ≡ true → b ≡ false) → b ≡ false
false-from true h = h refl
false-from false h = refl

not-itself : (xs : List Hit) → comes_before xs xs ≡ false
not-itself xs = false-from (comes_before xs xs) (not-back xs xs)

-- what isn't before a list isn't before one that this isn't before
not-over : (xs ys zs : List Hit) → comes_before xs ys ≡ false → comes_before ys zs ≡ false → comes_before xs zs ≡ false
not-over xs ys zs e f = false-from (comes_before xs zs) (λ h. absurd (true≢false (sym (split xs ys zs h) ∙ (λ i. e i || f i))))

-- ---- none comes before it

none-from : (first : List Hit) (rest : List (List Hit)) → list_any (λ l. comes_before l (least_from first rest)) (first ∷ rest) ≡ false
none-from first [] = ap (λ b. b || false) (not-itself first)
none-from first (next ∷ rest) = by (comes_before next first) refl (none-from next rest) (none-from first rest)
  where
    by : (b : Bool) → comes_before next first ≡ b
        → (comes_before next (least_from next rest) || list_any (λ l. comes_before l (least_from next rest)) rest) ≡ false
        → (comes_before first (least_from first rest) || list_any (λ l. comes_before l (least_from first rest)) rest) ≡ false
        → (comes_before first (least_from (cond b next first) rest) || (comes_before next (least_from (cond b next first) rest) || list_any (λ l. comes_before l (least_from (cond b next first) rest)) rest)) ≡ false
    by true e one other =
        let parts = or_parts (comes_before next (least_from next rest)) (list_any (λ l. comes_before l (least_from next rest)) rest) one in
        λ i. not-over first next (least_from next rest) (not-back next first e) parts.0 i || one i
    by false e one other =
        let parts = or_parts (comes_before first (least_from first rest)) (list_any (λ l. comes_before l (least_from first rest)) rest) other in
        λ i. parts.0 i || (not-over next first (least_from first rest) e parts.0 i || parts.1 i)

pub none-before : (lists : List (List Hit)) → list_any (λ l. comes_before l (least lists)) lists ≡ false
none-before [] = refl
none-before (first ∷ rest) = none-from first rest
