-- Tokens that are left: which they are, and that they are counted anew.
use Rattle.std.proofs.Common.{◌≡◌, ℕ, ◌+◌, ◌<◌, ◌≤◌, ◌==◌, Bool, true, false, ◌&&◌, if◌then◌else◌, suc, List, [], ◌∷◌, map, length, refl, ap, ◌∙◌, arith}
use Rattle.std.proofs.lemmas.Bool.{and_parts}
use Rattle.std.proofs.lemmas.Bool.Decides.{nat_tests}
use Rattle.ft_base.specs.declared.span.Span.{Span}
use Rattle.ft_base.specs.declared.token.Token.{Token}
use Rattle.ignore_view.specs.Without.{are_counted, are_counted_after, as_first, counted, counted_after, counted_on, follows_on, is_left_out, kept_from, told_after}

-- ---- which they are

pub kept-none : (place : ℕ) (ts : List Token) → kept_from [] place ts ≡ ts
kept-none place [] = refl
kept-none place (t ∷ ts) = ap (λ rest. t ∷ rest) (kept-none (place + 1) ts)

pub kept-all : (holes : List Span) (place : ℕ) (ts : List Token) → ((p : ℕ) → place ≤ p → p < place + length ts → is_left_out holes p ≡ true)
    → kept_from holes place ts ≡ []
kept-all holes place [] h = refl
kept-all holes place (t ∷ ts) h =
    let here : place < place + suc (length ts) = omega arith in
    ap (λ b. if b then kept_from holes (place + 1) ts else t ∷ kept_from holes (place + 1) ts) (h place (omega arith) here)
    ∙ kept-all holes (place + 1) ts (λ p from to. h p (omega (arith, from)) (omega (arith, to)))

pub kept-same : (a b : List Span) (place : ℕ) (ts : List Token)
    → ((p : ℕ) → place ≤ p → p < place + length ts → is_left_out a p ≡ is_left_out b p) → kept_from a place ts ≡ kept_from b place ts
kept-same a b place [] h = refl
kept-same a b place (t ∷ ts) h =
    let here : place < place + suc (length ts) = omega arith in
    let rest = kept-same a b (place + 1) ts (λ p from to. h p (omega (arith, from)) (omega (arith, to))) in
    λ i. if h place (omega arith) here i then rest i else t ∷ rest i

pub kept-fewer : (holes : List Span) (place : ℕ) (ts : List Token) → length (kept_from holes place ts) ≤ length ts
kept-fewer holes place [] = omega arith
kept-fewer holes place (t ∷ ts) = by (is_left_out holes place) (kept-fewer holes (place + 1) ts)
  where
    by : (b : Bool) → length (kept_from holes (place + 1) ts) ≤ length ts
        → length (if b then kept_from holes (place + 1) ts else t ∷ kept_from holes (place + 1) ts) ≤ suc (length ts)
    by true rest = omega (arith, rest)
    by false rest = omega (arith, rest)

-- ---- their words

abbrev word_of : Token → List ℕ
word_of token = token.word

words-after : (before told : Token) (ts : List Token) → map word_of (counted_after before told ts) ≡ map word_of ts
words-after before told [] = refl
words-after before told (t ∷ ts) = ap (λ ws. t.word ∷ ws) (words-after t (told_after before told t) ts)

pub words-counted : (ts : List Token) → map word_of (counted ts) ≡ map word_of ts
words-counted [] = refl
words-counted (t ∷ ts) = ap (λ ws. t.word ∷ ws) (words-after t (as_first t) ts)

pub long_after : (before told : Token) (ts : List Token) → length (counted_after before told ts) ≡ length ts
long_after before told [] = refl
long_after before told (t ∷ ts) = ap suc (long_after t (told_after before told t) ts)

pub long-counted : (ts : List Token) → length (counted ts) ≡ length ts
long-counted [] = refl
long-counted (t ∷ ts) = ap suc (long_after t (as_first t) ts)

-- ---- they are counted from 1

follows-same : (told : ℕ) → follows_on told told ≡ true
follows-same told = grind (arith, nat_tests)

follows-next : (told : ℕ) → follows_on told (told + 1) ≡ true
follows-next told = grind (arith, nat_tests)

follows-counted : (before told number : ℕ) → follows_on told (counted_on before told number) ≡ true
follows-counted before told number = by (number == before)
  where
    by : (b : Bool) → follows_on told (if b then told else told + 1) ≡ true
    by true = follows-same told
    by false = follows-next told

counted-after : (before told : Token) (ts : List Token) → are_counted_after told (counted_after before told ts) ≡ true
counted-after before told [] = refl
counted-after before told (t ∷ ts) =
    let sentence = follows-counted before.sentence told.sentence t.sentence in
    let paragraph = follows-counted before.paragraph told.paragraph t.paragraph in
    let rest = counted-after t (told_after before told t) ts in
    λ i. (sentence i && paragraph i) && rest i

pub are-counted : (ts : List Token) → are_counted (counted ts) ≡ true
are-counted [] = refl
are-counted (t ∷ ts) = counted-after t (as_first t) ts

-- ---- and stay as they are where they were

on-same : (before number : ℕ) → follows_on before number ≡ true → counted_on before before number ≡ number
on-same before number h = by (number == before) refl
  where
    by : (b : Bool) → (number == before) ≡ b → (if b then before else before + 1) ≡ number
    by true e = grind (arith, nat_tests, e)
    by false e = grind (arith, nat_tests, e, h)

told-same : (before t : Token) → (follows_on before.sentence t.sentence && follows_on before.paragraph t.paragraph) ≡ true → told_after before before t ≡ t
told-same before t h =
    let parts = and_parts (follows_on before.sentence t.sentence) (follows_on before.paragraph t.paragraph) h in
    λ i. record {
      word = t.word;
      sentence = on-same before.sentence t.sentence parts.0 i;
      paragraph = on-same before.paragraph t.paragraph parts.1 i;
    }

same-after : (before : Token) (ts : List Token) → are_counted_after before ts ≡ true → counted_after before before ts ≡ ts
same-after before [] h = refl
same-after before (t ∷ ts) h =
    let parts = and_parts (follows_on before.sentence t.sentence && follows_on before.paragraph t.paragraph) (are_counted_after t ts) h in
    let told = told-same before t parts.0 in
    (λ i. told i ∷ counted_after t (told i) ts) ∙ ap (λ rest. t ∷ rest) (same-after t ts parts.1)

is-one : (n : ℕ) → (n == 1) ≡ true → 1 ≡ n
is-one n h = grind (arith, nat_tests, h)

pub same-counted : (ts : List Token) → are_counted ts ≡ true → counted ts ≡ ts
same-counted [] h = refl
same-counted (t ∷ ts) h =
    let parts = and_parts (t.sentence == 1 && t.paragraph == 1) (are_counted_after t ts) h in
    let ones = and_parts (t.sentence == 1) (t.paragraph == 1) parts.0 in
    let first : as_first t ≡ t = λ i. record { word = t.word; sentence = is-one t.sentence ones.0 i; paragraph = is-one t.paragraph ones.1 i } in
    (λ i. first i ∷ counted_after t (first i) ts) ∙ ap (λ rest. t ∷ rest) (same-after t ts parts.1)
