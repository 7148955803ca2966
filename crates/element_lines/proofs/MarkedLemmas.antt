-- The words of a line one after the other, and which of them are marked.
use Rattle.std.proofs.Common.{◌≡◌, ◌+◌, ◌<◌, ℕ, suc, Bool, true, false, ◌&&◌, ◌||◌, cond, max, nat_le, nat_lt, nat_eq, List, [], ◌∷◌, ◌++◌, length, map, drop, get_or, drop-cons, refl, sym, ap, ap₂, ◌∙◌, arith, append-nil, append_assoc}
use Rattle.std.proofs.Math.ListN.{get_or-map}
use Rattle.std.proofs.lemmas.List.{length-map}
use Rattle.std.specs.List.{enumerate_from, join_with_byte}
use Rattle.ft_base.specs.declared.span.Span.{Span}
use Rattle.element_lines.specs.Marked.{is_marked, marked_line, shown_word}
use Rattle.element_lines.specs.steps.LineWords.{space_before, words_from}
use Rattle.element_lines.specs.steps.SpanEnds.{end_at, end_up_to}

-- ---- the words of a line

words-behind : (spans : List Span) (number : ℕ) (word : List ℕ) (rest : List (List ℕ)) (place : ℕ) → place ≡ suc number
    → join_with_byte 32 (map (λ (p : ℕ × List ℕ). shown_word (is_marked spans p.0) p.1) (enumerate_from place (word ∷ rest)))
    ≡ shown_word (is_marked spans (suc number)) word ++ words_from spans (suc number) rest
words-behind spans number word [] place is = ap (λ k. shown_word (is_marked spans k) word) is ∙ sym (append-nil (shown_word (is_marked spans (suc number)) word))
words-behind spans number word (next ∷ rest) place is =
    ap₂ (λ k l. shown_word (is_marked spans k) word ++ (32 ∷ l)) is (words-behind spans (suc number) next rest (place + 1) (omega (arith, is)))

-- the whole line is its words from the first one on
pub words-from-first : (spans : List Span) (words : List (List ℕ)) → words_from spans 0 words ≡ marked_line spans words
words-from-first spans [] = refl
words-from-first spans (word ∷ rest) = sym (words-behind spans 0 word rest 1 refl)

-- ---- the marked words

-- one of two spans ends behind the place
either-behind : (place a b : ℕ) → (nat_lt place a || nat_lt place b) ≡ nat_lt place (max a b)
either-behind place a b = grind arith

marked-by : (place to rest_end : ℕ) (rest_marked begins : Bool) → rest_marked ≡ nat_lt place rest_end
    → ((begins && nat_lt place to) || rest_marked) ≡ nat_lt place (cond begins (max to rest_end) rest_end)
marked-by place to rest_end rest_marked true is = ap (λ t. nat_lt place to || t) is ∙ either-behind place to rest_end
marked-by place to rest_end rest_marked false is = is

-- a word is marked where a span that begins no later ends behind it
pub marked-by-end : (spans : List Span) (place : ℕ) → is_marked spans place ≡ nat_lt place (end_up_to spans place)
marked-by-end [] place = grind arith
marked-by-end (span ∷ rest) place = marked-by place span.to (end_up_to rest place) (is_marked rest place) (nat_le span.from place) (marked-by-end rest place)

-- before the first place none but those that begin at 0
pub end-up-to-first : (spans : List Span) → end_up_to spans 0 ≡ end_at spans 0
end-up-to-first [] = refl
end-up-to-first (span ∷ rest) = ap₂ (λ t e. cond t (max span.to e) e) (begins span.from) (end-up-to-first rest)
  where
    begins : (from : ℕ) → nat_le from 0 ≡ nat_eq from 0
    begins from = grind arith

begins-up-to : (from place : ℕ) → (nat_le from place || nat_eq from (place + 1)) ≡ nat_le from (place + 1)
begins-up-to from place = grind arith

begins-once : (from place : ℕ) → (nat_le from place && nat_eq from (place + 1)) ≡ false
begins-once from place = grind arith

next-by : (to before here up_to : ℕ) (begins_before begins_here begins_up_to : Bool) → (begins_before || begins_here) ≡ begins_up_to
    → (begins_before && begins_here) ≡ false → max before here ≡ up_to
    → max (cond begins_before (max to before) before) (cond begins_here (max to here) here) ≡ cond begins_up_to (max to up_to) up_to
next-by to before here up_to true true either h k is = cc
next-by to before here up_to true false true h k is = omega (arith, is)
next-by to before here up_to true false false h k is = cc
next-by to before here up_to false true true h k is = omega (arith, is)
next-by to before here up_to false true false h k is = cc
next-by to before here up_to false false true h k is = cc
next-by to before here up_to false false false h k is = is

-- one place further
pub end-up-to-next : (spans : List Span) (place : ℕ) → max (end_up_to spans place) (end_at spans (place + 1)) ≡ end_up_to spans (place + 1)
end-up-to-next [] place = refl
end-up-to-next (span ∷ rest) place =
    next-by span.to (end_up_to rest place) (end_at rest (place + 1)) (end_up_to rest (place + 1)) (nat_le span.from place) (nat_eq span.from (place + 1)) (nat_le span.from (place + 1))
    (begins-up-to span.from place) (begins-once span.from place) (end-up-to-next rest place)

-- ---- one word more

-- the item of a number is the first of those from it on
pub first-from : {A : Type 0} (f : A → List ℕ) (items : List A) (number : ℕ) (other : A) → number < length items
    → drop number (map f items) ≡ f (get_or items number other) ∷ drop (number + 1) (map f items)
first-from f items number other more =
    let next : suc number ≡ number + 1 = omega arith in
    drop-cons (map f items) number (f other) (omega (arith, more, length-map items f))
    ∙ ap₂ (λ x k. x ∷ drop k (map f items)) (get_or-map f items number other) next

pub one-word-more : (spans : List Span) (number : ℕ) (words : List (List ℕ)) (word whole line new : List ℕ) (marked : Bool)
    → drop number words ≡ word ∷ drop (number + 1) words → marked ≡ is_marked spans (number + 1)
    → line ++ words_from spans number (drop number words) ≡ whole
    → new ≡ line ++ space_before number ++ shown_word marked word
    → new ++ words_from spans (number + 1) (drop (number + 1) words) ≡ whole
one-word-more spans number words word whole line new marked split is known written =
    let next : number + 1 ≡ suc number = omega arith in
    let rest = words_from spans (suc number) (drop (number + 1) words) in
    let shown = shown_word (is_marked spans (suc number)) word in
    ap₂ (λ l k. l ++ words_from spans k (drop (number + 1) words)) (written ∙ ap (λ m. line ++ space_before number ++ shown_word m word) (is ∙ ap (is_marked spans) next)) next
    ∙ ap (λ l. l ++ rest) (append_assoc line (space_before number) shown)
    ∙ append_assoc line (space_before number ++ shown) rest
    ∙ ap (λ ws. line ++ words_from spans number ws) (sym split)
    ∙ known
