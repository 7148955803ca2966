-- What was seen from the first word of a text on, one word further, and with the gap before it.
use Rattle.std.proofs.Common.{◌≡◌, ℕ, zero, suc, ◌+◌, ◌==◌, Bool, true, false, List, [], ◌∷◌, ◌++◌, map, refl, sym, ap, ap₂, ◌∙◌, append_assoc, append-nil, arith, if◌then◌else◌}
use Rattle.std.proofs.lemmas.Bool.Decides.{nat_tests}
use Rattle.std.proofs.lemmas.List.{map-append}
use Rattle.tokenizer.specs.Tokens.{shifted}
use Rattle.tokenizer.specs.steps.Begun.{after_begun, places_begun}
use Rattle.tokenizer.specs.steps.Numbering.{after_word, both_passed, nothing_passed, paragraph_ends, sentence_ends}
use Rattle.tokenizer.specs.declared.numbering.Numbering.{Numbering}

-- ---- one number

add-shifted : (ended : Bool) (m n : ℕ) → shifted ended (m + n) ≡ m + shifted ended n
add-shifted true m n = omega arith
add-shifted false m n = refl

later : (n : ℕ) → (n + 1 == n) ≡ false
later n = grind (arith, nat_tests)

same : (n : ℕ) → (n == n) ≡ true
same n = grind (arith, nat_tests)

-- a number that isn't the one before it was raised
pub new_start : (ended : Bool) (n : ℕ) (place : List ℕ) → (if shifted ended n == n then [] else place) ≡ (if ended then place else [])
new_start true n place = rw (later n) refl
new_start false n place = rw (same n) refl

-- ---- one word further

pub after_begun-word : (w : ℕ) (inside last : Numbering) → (w ≡ 0 → inside ≡ nothing_passed) → after_word (after_begun w inside last) ≡ after_begun (suc w) (after_word inside) last
after_begun-word zero inside last none =
    let alone : (n : ℕ) → n ≡ n + 0 = λ n. omega arith in
    ap₂ (λ s p. record { sentence = s; paragraph = p; gap = record { sentence_ends = false; paragraph_ends = false; after_line_feed = false } })
    (alone (after_word last).sentence) (alone (after_word last).paragraph)
    ∙ ap (λ i. both_passed (after_word last) (after_word i)) (sym (none refl))
after_begun-word (suc w) inside last none =
    ap₂ (λ s p. record { sentence = s; paragraph = p; gap = record { sentence_ends = false; paragraph_ends = false; after_line_feed = false } })
    (add-shifted (sentence_ends inside) (after_word last).sentence inside.sentence) (add-shifted (paragraph_ends inside) (after_word last).paragraph inside.paragraph)

-- `before` is the number before the word outside, and `inside` that inside
pub places_begun-first : (ends : Bool) (seen before : ℕ) → (if shifted ends before == before then [] else (seen + 1) ∷ []) ≡ places_begun 1 [] ends seen
places_begun-first ends seen before = new_start ends before ((seen + 1) ∷ []) ∙ sym (append-nil _)

pub places_begun-later : (w : ℕ) (places : List ℕ) (ends raises : Bool) (seen before inside : ℕ) → places_begun (suc w) places ends seen ++ (if shifted raises before == before then [] else (seen + suc w + 1) ∷ [])
    ≡ places_begun (suc (suc w)) (places ++ (if shifted raises inside == inside then [] else (suc w + 1) ∷ [])) ends seen
places_begun-later w places ends raises seen before inside =
    rw (new_start raises before ((seen + suc w + 1) ∷ []), new_start raises inside ((suc w + 1) ∷ [])) (by raises)
  where
    first : List ℕ
    first = if ends then (seen + 1) ∷ [] else []

    by : (r : Bool) → (first ++ map (λ place. seen + place) places) ++ (if r then (seen + suc w + 1) ∷ [] else [])
        ≡ first ++ map (λ place. seen + place) (places ++ (if r then (suc w + 1) ∷ [] else []))
    by true =
        let place : seen + suc w + 1 ≡ seen + (suc w + 1) = omega arith in
        append_assoc first (map (λ place. seen + place) places) ((seen + suc w + 1) ∷ [])
        ∙ ap (λ p. first ++ (map (λ place. seen + place) places ++ p ∷ [])) place
        ∙ ap (λ l. first ++ l) (sym (map-append (λ place. seen + place) places ((suc w + 1) ∷ [])))
    by false = append-nil _ ∙ ap (λ l. first ++ map (λ place. seen + place) l) (sym (append-nil places))
