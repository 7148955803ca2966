-- The number that a kept token is given is how many sentences or paragraphs start up to its place.
use Rattle.std.proofs.Common.{◌≡◌, ℕ, zero, suc, ◌+◌, ◌-◌, ◌<◌, ◌≤◌, ◌==◌, Bool, true, false, cond, if◌then◌else◌, Option, Some, None, List, [], ◌∷◌, ◌++◌, map, length, get_or, refl, ap, sym, ◌∙◌, arith, true≢false}
use Rattle.std.specs.Prelude.{nat_le}
use Rattle.std.specs.List.{All}
use Rattle.std.proofs.lemmas.Bool.{cond-false, cond-true, leb-true, le-leb, lt-leb}
use Rattle.std.proofs.lemmas.Bool.Decides.{nat_tests}
use Rattle.std.proofs.lemmas.List.{get_or-map, length-map}
use Rattle.std.proofs.lemmas.List.Elements.{All-head, All-tail}
use Rattle.ft_base.specs.declared.token.Token.{Token}
use Rattle.index_cursors.specs.SpanHits.{started}
use Rattle.index_cursors.proofs.AscendingLemmas.{passing, passing-count}
use Rattle.index_phrases.specs.Phrases.{own_number}
use Rattle.index_phrases.proofs.SpanTokens.{no_token}
use Rattle.ignore_view.specs.Without.{as_first, counted, counted_after, counted_on, told_after}
use Rattle.ignore_view.specs.steps.Kept.{changes, is_number}
use Rattle.ignore_view.proofs.CountedLemmas.{long_after}

abbrev up_to : ℕ → List ℕ → ℕ
up_to last xs = passing (λ start. nat_le start last) xs

-- ---- numbers that are counted on

none-yet : (last : ℕ) (before : Option ℕ) (place : ℕ) (ns : List ℕ) → last < place → up_to last (changes before place ns) ≡ 0
unfolding changes
none-yet last before place [] h = refl
none-yet last before place (n ∷ ns) h = by (is_number before n) (none-yet last (Some n) (place + 1) ns (omega (arith, h)))
  where
    by : (same : Bool) → up_to last (changes (Some n) (place + 1) ns) ≡ 0
        → up_to last ((if same then [] else place ∷ []) ++ changes (Some n) (place + 1) ns) ≡ 0
    by true rest = rest
    by false rest =
        let suffix = up_to last (changes (Some n) (place + 1) ns) in
        cond-false (nat_le place last) (1 + suffix) suffix (lt-leb place last h) ∙ rest

abbrev on : ℕ → ℕ → List ℕ → List ℕ
on before told [] = []
on before told (n ∷ ns) = counted_on before told n ∷ on n (counted_on before told n) ns

on-up_to : (before told place : ℕ) (ns : List ℕ) (i : ℕ) → i < length ns
    → get_or (on before told ns) i 0 ≡ told + up_to (place + i) (changes (Some before) place ns)
unfolding changes
on-up_to before told place [] i h = absurd (omega (arith, h))
on-up_to before told place (n ∷ ns) zero h = by (n == before) (none-yet (place + 0) (Some n) (place + 1) ns (omega arith))
  where
    by : (same : Bool) → up_to (place + 0) (changes (Some n) (place + 1) ns) ≡ 0
        → (if same then told else told + 1) ≡ told + up_to (place + 0) ((if same then [] else place ∷ []) ++ changes (Some n) (place + 1) ns)
    by true none = omega (arith, none)
    by false none =
        let suffix = up_to (place + 0) (changes (Some n) (place + 1) ns) in
        let one = cond-true (nat_le place (place + 0)) (1 + suffix) suffix (le-leb place (place + 0) (omega arith)) in
        omega (arith, one, none)
on-up_to before told place (n ∷ ns) (suc i) h =
    let at : place + 1 + i ≡ place + suc i = omega arith in
    by (n == before) (λ next. on-up_to n next (place + 1) ns i (omega (arith, h)) ∙ ap (λ p. next + up_to p (changes (Some n) (place + 1) ns)) at)
  where
    by : (same : Bool)
        → ((next : ℕ) → get_or (on n next ns) i 0 ≡ next + up_to (place + suc i) (changes (Some n) (place + 1) ns))
        → get_or (on n (if same then told else told + 1) ns) i 0
        ≡ told + up_to (place + suc i) ((if same then [] else place ∷ []) ++ changes (Some n) (place + 1) ns)
    by true rest = rest told
    by false rest =
        let suffix = up_to (place + suc i) (changes (Some n) (place + 1) ns) in
        let one = cond-true (nat_le place (place + suc i)) (1 + suffix) suffix (le-leb place (place + suc i) (omega arith)) in
        let more = rest (told + 1) in
        omega (arith, more, one)

-- ---- numbers of a span's own

up_to-more : (a b : ℕ) (xs : List ℕ) → a ≤ b → up_to a xs ≤ up_to b xs
up_to-more a b [] h = omega arith
up_to-more a b (x ∷ xs) h = by (nat_le x a) (nat_le x b) refl refl (up_to-more a b xs h)
  where
    by : (p q : Bool) → nat_le x a ≡ p → nat_le x b ≡ q → up_to a xs ≤ up_to b xs
        → cond p (1 + up_to a xs) (up_to a xs) ≤ cond q (1 + up_to b xs) (up_to b xs)
    by true true e f rest = omega (arith, rest)
    by true false e f rest = let le = leb-true x a e in absurd (true≢false (sym (le-leb x b (omega (arith, le, h))) ∙ f))
    by false true e f rest = omega (arith, rest)
    by false false e f rest = rest

pub started-more : (starts : List ℕ) (a b : ℕ) → a ≤ b → started starts a ≤ started starts b
started-more starts a b h =
    let one = passing-count (λ start. nat_le start a) starts in
    let other = passing-count (λ start. nat_le start b) starts in
    omega (arith, one, other, up_to-more a b starts h)

same-less : (a b c : ℕ) → c ≤ a → c ≤ b → (a - c == b - c) ≡ (a == b)
same-less a b c ha hb = grind (arith, nat_tests, ha, hb)

module _ (starts : List ℕ) (first : ℕ) where
  abbrev own : ℕ → ℕ
  own place = own_number starts first place

  own-same : (p q : ℕ) → first ≤ p → first ≤ q → (own p == own q) ≡ (started starts p == started starts q)
  own-same p q hp hq =
      let one = started-more starts first p hp in
      let other = started-more starts first q hq in
      same-less (started starts p) (started starts q) (started starts first - 1) (omega (arith, one)) (omega (arith, other))

  own-changes : (q place : ℕ) (ps : List ℕ) → first ≤ q → All (λ p. first ≤ p) ps
      → changes (Some (own q)) place (map own ps) ≡ changes (Some (started starts q)) place (map (started starts) ps)
  unfolding changes
  own-changes q place [] h all = refl
  own-changes q place (p ∷ ps) h all =
      let here = All-head (λ x. first ≤ x) p ps all in
      let same = own-same p q here h in
      let rest = own-changes p (place + 1) ps here (All-tail (λ x. first ≤ x) p ps all) in
      λ i. (if same i then [] else place ∷ []) ++ rest i

-- ---- the numbers of the tokens: a sentence or a paragraph is a number of theirs, that is counted on

module _ (number : Token → ℕ) (told-on : (before told t : Token) → number (told_after before told t) ≡ counted_on (number before) (number told) (number t))
    (told-first : (t : Token) → number (as_first t) ≡ 1) where
  numbers-after : (before told : Token) (ts : List Token) → map number (counted_after before told ts) ≡ on (number before) (number told) (map number ts)
  numbers-after before told [] = refl
  numbers-after before told (t ∷ ts) =
      ap (λ ns. number (told_after before told t) ∷ ns) (numbers-after t (told_after before told t) ts)
      ∙ ap (λ n. n ∷ on (number t) n (map number ts)) (told-on before told t)

  module _ (starts : List ℕ) (first : ℕ) (token_at : ℕ → Token) (is : (place : ℕ) → number (token_at place) ≡ own_number starts first place) where
    numbers-of : (ps : List ℕ) → map number (map token_at ps) ≡ map (own_number starts first) ps
    numbers-of [] = refl
    numbers-of (p ∷ ps) = λ i. is p i ∷ numbers-of ps i

    pub number-there : (ps : List ℕ) (i : ℕ) → All (λ p. first ≤ p) ps → i < length ps
        → number (get_or (counted (map token_at ps)) i no_token) ≡ started (changes None 1 (map (started starts) ps)) (1 + i)
    unfolding changes
    number-there [] i all h = absurd (omega (arith, h))
    number-there (p ∷ ps) zero all h =
        let suffix = changes (Some (started starts p)) 2 (map (started starts) ps) in
        let none = none-yet 1 (Some (started starts p)) 2 (map (started starts) ps) (omega arith) in
        let one : 1 ≡ 1 + up_to 1 suffix = omega (arith, none) in
        told-first (token_at p) ∙ one ∙ passing-count (λ start. nat_le start 1) (1 ∷ suffix)
    number-there (p ∷ ps) (suc i) all h =
        let here = All-head (λ x. first ≤ x) p ps all in
        let rest = All-tail (λ x. first ≤ x) p ps all in
        let after = counted_after (token_at p) (as_first (token_at p)) (map token_at ps) in
        let long : length after ≡ length ps = long_after (token_at p) (as_first (token_at p)) (map token_at ps) ∙ length-map ps token_at in
        let there : i < length after = omega (arith, h, long) in
        let within : i < length (map (own_number starts first) ps) = let size = length-map ps (own_number starts first) in omega (arith, h, size) in
        let suffix = changes (Some (started starts p)) 2 (map (started starts) ps) in
        let at : 2 + i ≡ 1 + suc i = omega arith in
        let one = cond-true (nat_le 1 (1 + suc i)) (1 + up_to (1 + suc i) suffix) (up_to (1 + suc i) suffix) (le-leb 1 (1 + suc i) (omega arith)) in
        sym (get_or-map number after i no_token 0 there)
        ∙ ap (λ ns. get_or ns i 0) (numbers-after (token_at p) (as_first (token_at p)) (map token_at ps))
        ∙ (λ j. get_or (on (is p j) (told-first (token_at p) j) (numbers-of ps j)) i 0)
        ∙ on-up_to (own_number starts first p) 1 2 (map (own_number starts first) ps) i within
        ∙ ap (λ cs. 1 + up_to (2 + i) cs) (own-changes starts first p 2 ps here rest)
        ∙ ap (λ n. 1 + up_to n suffix) at
        ∙ sym one
        ∙ passing-count (λ start. nat_le start (1 + suc i)) (1 ∷ suffix)
