-- What is known of a gap, one byte or one tag further, says the same of the whole gap.
use Rattle.std.proofs.lemmas.List.{drop_all}
use Rattle.std.proofs.Common.{if◌then◌else◌, ◌≡◌, ℕ, Bool, true, false, ◌&&◌, ◌||◌, List, [], ◌∷◌, ◌++◌, refl, sym, ap, ap₂, ◌∙◌, arith, inl, inr, length, drop, get_or, ◌<◌, ◌≤◌, ◌+◌, add-one, drop-cons, zero, suc, suc-le-suc, zero-le, append-nil, encode_utf8, encode_utf8_all, IsUtf8}
use Rattle.std.proofs.lemmas.Bool.{cases_Bool, cases_lt}
use Rattle.std.proofs.lemmas.Str.{chars_past_char, encode_ascii, length-encode, len_utf8_bounds, inside_one, encodes-chars}
use Rattle.std.specs.Str.{chars}
use Rattle.std.proofs.Math.Bool.{or_assoc, or-false, or-true}
use Rattle.std.proofs.lemmas.Bool.Decides.{nat_tests}
use Rattle.std.specs.List.{list_any}
use Rattle.ft_base.proofs.Truth.{or_swap_last}
use Rattle.ft_base.specs.Characters.{is_blank, is_line_feed}
use Rattle.tokenizer.specs.Gaps.{is_sentence_end, begins_with_line_end, has_blank_line, is_block_element, characters_of, tags_of, ends_paragraph}
use Rattle.tokenizer.specs.steps.GapSteps.{after_character, after_characters, after_part, after_tag, both_seen, nothing_seen, with_period, paragraph_ends_in, sentence_ends_in}
use Rattle.tokenizer.specs.Parts.{Part, gap_characters, gap_tag}
use Rattle.tokenizer.specs.declared.gap.Gap.{Gap}
use Rattle.tokenizer.specs.declared.gap_part.GapPart.{GapPart}

-- ---- Booleans

at_line_feed : (p l b h t : Bool) → (p || (l && true) || (((true && b) || h) || t)) ≡ ((p || l) || (true && b) || (h || t))
at_line_feed true l b h t = refl
at_line_feed false true b h t = refl
at_line_feed false false b h t = or_assoc b h t

at_other : (p l h t : Bool) → (p || (l && false) || (h || t)) ≡ (p || (false && false) || (h || t))
at_other true l h t = refl
at_other false true h t = refl
at_other false false h t = refl

at_tag : (p b h k t : Bool) → (p || b || (h || (k || t))) ≡ ((p || k) || b || (h || t))
at_tag true b h k t = refl
at_tag false true h true t = refl
at_tag false true h false t = refl
at_tag false false true true t = refl
at_tag false false true false t = refl
at_tag false false false true t = refl
at_tag false false false false t = refl

mark_first : (s p e a : Bool) → (s || p || (e || a)) ≡ ((s || e) || p || a)
mark_first true p e a = refl
mark_first false true true a = refl
mark_first false true false a = refl
mark_first false false true a = refl
mark_first false false false a = refl

-- ---- one byte further

-- where `t` says whether there is a tag of a block element
abbrev paragraph_by : Gap → List ℕ → Bool → Bool
paragraph_by known cs t = known.paragraph_ends || (known.after_line_feed && begins_with_line_end cs) || (has_blank_line cs || t)

abbrev sentence_by : Gap → List ℕ → Bool → Bool
sentence_by known cs t = known.sentence_ends || paragraph_by known cs t || list_any is_sentence_end cs

line_feed_ends_none : (c : ℕ) → is_line_feed c ≡ true → is_sentence_end c ≡ false
line_feed_ends_none c h = grind (arith, nat_tests)

blank_ends_none : (c : ℕ) → is_blank c ≡ true → is_sentence_end c ≡ false
blank_ends_none c h = grind (arith, nat_tests)

module _ (known : Gap) (c : ℕ) (cs : List ℕ) (t : Bool) where
  paragraph_by-byte : paragraph_by known (c ∷ cs) t ≡ paragraph_by (after_character known c) cs t
  unfolding begins_with_line_end has_blank_line
  paragraph_by-byte =
      elim (cases_Bool (is_line_feed c)) [
        | inl feed ↦ rw feed (at_line_feed known.paragraph_ends known.after_line_feed (begins_with_line_end cs) (has_blank_line cs) t)
        | inr other ↦ elim (cases_Bool (is_blank c)) [
          | inl blank ↦ rw (other, blank) refl
          | inr mark ↦ rw (other, mark) (at_other known.paragraph_ends known.after_line_feed (has_blank_line cs) t)
        ]
      ]

  sentence_ends-after_character : (known.sentence_ends || is_sentence_end c) ≡ (after_character known c).sentence_ends
  sentence_ends-after_character =
      elim (cases_Bool (is_line_feed c)) [
        | inl feed ↦ rw feed (ap (λ e. known.sentence_ends || e) (line_feed_ends_none c feed) ∙ or-false _)
        | inr other ↦ elim (cases_Bool (is_blank c)) [
          | inl blank ↦ rw (other, blank) (ap (λ e. known.sentence_ends || e) (blank_ends_none c blank) ∙ or-false _)
          | inr mark ↦ rw (other, mark) refl
        ]
      ]

  sentence_by-byte : sentence_by known (c ∷ cs) t ≡ sentence_by (after_character known c) cs t
  sentence_by-byte =
      mark_first known.sentence_ends (paragraph_by known (c ∷ cs) t) (is_sentence_end c) (list_any is_sentence_end cs)
      ∙ ap₂ (λ s p. s || p || list_any is_sentence_end cs) sentence_ends-after_character paragraph_by-byte

-- ---- characters and tags further

paragraph_by-bytes : (known : Gap) (xs cs : List ℕ) (t : Bool) → paragraph_by known (xs ++ cs) t ≡ paragraph_by (after_characters known xs) cs t
unfolding after_characters
paragraph_by-bytes known [] cs t = refl
paragraph_by-bytes known (x ∷ xs) cs t = paragraph_by-byte known x (xs ++ cs) t ∙ paragraph_by-bytes (after_character known x) xs cs t

sentence_by-bytes : (known : Gap) (xs cs : List ℕ) (t : Bool) → sentence_by known (xs ++ cs) t ≡ sentence_by (after_characters known xs) cs t
unfolding after_characters
sentence_by-bytes known [] cs t = refl
sentence_by-bytes known (x ∷ xs) cs t = sentence_by-byte known x (xs ++ cs) t ∙ sentence_by-bytes (after_character known x) xs cs t

-- where the paragraphs and the sentences of the gap are those of `paragraph_by` and `sentence_by`
paragraph_ends_in-by : (known : Gap) (rest : List Part) → paragraph_ends_in known rest ≡ paragraph_by known (characters_of rest) (list_any is_block_element (tags_of rest))
unfolding ends_paragraph
paragraph_ends_in-by known rest = refl

sentence_ends_in-by : (known : Gap) (rest : List Part) → sentence_ends_in known rest ≡ sentence_by known (characters_of rest) (list_any is_block_element (tags_of rest))
sentence_ends_in-by known rest = ap (λ p. known.sentence_ends || p || list_any is_sentence_end (characters_of rest)) (paragraph_ends_in-by known rest)

module _ (known : Gap) (rest : List Part) where
  pub paragraph_ends_in-characters : (bytes : List ℕ) → paragraph_ends_in known (gap_characters bytes ∷ rest) ≡ paragraph_ends_in (after_characters known (chars bytes)) rest
  paragraph_ends_in-characters bytes =
      paragraph_ends_in-by known (gap_characters bytes ∷ rest) ∙ paragraph_by-bytes known (chars bytes) (characters_of rest) _
      ∙ sym (paragraph_ends_in-by (after_characters known (chars bytes)) rest)

  pub sentence_ends_in-characters : (bytes : List ℕ) → sentence_ends_in known (gap_characters bytes ∷ rest) ≡ sentence_ends_in (after_characters known (chars bytes)) rest
  sentence_ends_in-characters bytes =
      sentence_ends_in-by known (gap_characters bytes ∷ rest) ∙ sentence_by-bytes known (chars bytes) (characters_of rest) _
      ∙ sym (sentence_ends_in-by (after_characters known (chars bytes)) rest)

  pub paragraph_ends_in-tag : (name : List ℕ) → paragraph_ends_in known (gap_tag name ∷ rest) ≡ paragraph_ends_in (after_tag known name) rest
  paragraph_ends_in-tag name =
      paragraph_ends_in-by known (gap_tag name ∷ rest)
      ∙ at_tag known.paragraph_ends (known.after_line_feed && begins_with_line_end (characters_of rest)) (has_blank_line (characters_of rest)) (is_block_element name) _
      ∙ sym (paragraph_ends_in-by (after_tag known name) rest)

  pub sentence_ends_in-tag : (name : List ℕ) → sentence_ends_in known (gap_tag name ∷ rest) ≡ sentence_ends_in (after_tag known name) rest
  sentence_ends_in-tag name = ap (λ p. known.sentence_ends || p || list_any is_sentence_end (characters_of rest)) (paragraph_ends_in-tag name)

-- ---- a loop over the bytes

pub after_characters-next : (known : Gap) (bytes : List ℕ) (i : ℕ) → i < length bytes → after_characters known (drop i bytes) ≡ after_characters (after_character known (get_or bytes i 0)) (drop (i + 1) bytes)
unfolding after_characters
after_characters-next known bytes i more = rw add-one (ap (after_characters known) (drop-cons bytes i 0 more))

pub after_characters-done : (known : Gap) (bytes : List ℕ) (i : ℕ) → length bytes ≤ i → after_characters known (drop i bytes) ≡ known
unfolding after_characters
after_characters-done known bytes i done = ap (after_characters known) (drop_all i bytes done)

-- ---- bytes and characters: what is no ASCII says nothing, as a character and as its bytes

abbrev quiet : Gap → Gap
quiet known = record known { after_line_feed = false }

feed_is_ascii : (c : ℕ) → 128 ≤ c → is_line_feed c ≡ false
feed_is_ascii c h = grind (arith, nat_tests)

blank_is_ascii : (c : ℕ) → 128 ≤ c → is_blank c ≡ false
blank_is_ascii c h = grind (arith, nat_tests)

end_is_ascii : (c : ℕ) → 128 ≤ c → is_sentence_end c ≡ false
end_is_ascii c h = grind (arith, nat_tests)

after_character-wide : (known : Gap) (c : ℕ) → 128 ≤ c → after_character known c ≡ quiet known
after_character-wide known c h =
    rw (feed_is_ascii c h, blank_is_ascii c h, end_is_ascii c h) (ap (λ s. record known { sentence_ends = s; after_line_feed = false }) (or-false known.sentence_ends))

after_characters-quiet : (known : Gap) (bs : List ℕ) → ((k : ℕ) → k < length bs → 128 ≤ get_or bs k 0) → after_characters (quiet known) bs ≡ quiet known
unfolding after_characters
after_characters-quiet known [] wide = refl
after_characters-quiet known (b ∷ bs) wide =
    ap (λ g. after_characters g bs) (after_character-wide (quiet known) b (wide zero (suc-le-suc zero-le)))
    ∙ after_characters-quiet known bs (λ k lt. wide (suc k) (suc-le-suc lt))

after_characters-wide : (known : Gap) (bs : List ℕ) → 1 ≤ length bs → ((k : ℕ) → k < length bs → 128 ≤ get_or bs k 0) → after_characters known bs ≡ quiet known
unfolding after_characters
after_characters-wide known [] some wide = absurd (omega arith)
after_characters-wide known (b ∷ bs) some wide =
    ap (λ g. after_characters g bs) (after_character-wide known b (wide zero (suc-le-suc zero-le)))
    ∙ after_characters-quiet known bs (λ k lt. wide (suc k) (suc-le-suc lt))

encode-wide : (c : ℕ) → 128 ≤ c → (k : ℕ) → k < length (encode_utf8 c) → 128 ≤ get_or (encode_utf8 c) k 0
encode-wide c h k lt =
    elim (cases_lt (get_or (encode_utf8 c) k 0) 128) [
      | inl narrow ↦ let same = inside_one c [] (encode_utf8 c) k (sym (append-nil (encode_utf8 c))) lt narrow in absurd (omega (arith, same))
      | inr wide ↦ wide
    ]

after_characters-encode : (known : Gap) (c : ℕ) → after_characters known (encode_utf8 c) ≡ after_character known c
unfolding after_characters
after_characters-encode known c =
    elim (cases_lt c 128) [
      | inl narrow ↦ ap (after_characters known) (encode_ascii c narrow)
      | inr wide ↦ after_characters-wide known (encode_utf8 c) (omega (arith, length-encode c, (len_utf8_bounds c).0)) (encode-wide c wide) ∙ sym (after_character-wide known c wide)
    ]

after_characters-append : (known : Gap) (xs ys : List ℕ) → after_characters known (xs ++ ys) ≡ after_characters (after_characters known xs) ys
unfolding after_characters
after_characters-append known [] ys = refl
after_characters-append known (x ∷ xs) ys = after_characters-append (after_character known x) xs ys

after_characters-encodes : (known : Gap) (cs : List ℕ) → after_characters known (encode_utf8_all cs) ≡ after_characters known cs
unfolding after_characters
after_characters-encodes known [] = refl
after_characters-encodes known (c ∷ cs) =
    after_characters-append known (encode_utf8 c) (encode_utf8_all cs) ∙ ap (λ g. after_characters g (encode_utf8_all cs)) (after_characters-encode known c)
    ∙ after_characters-encodes (after_character known c) cs

pub after_characters-chars : (known : Gap) (text : List ℕ) → IsUtf8 text → after_characters known text ≡ after_characters known (chars text)
after_characters-chars known text u = ap (after_characters known) (sym (encodes-chars text u)) ∙ after_characters-encodes known (chars text)

-- ---- what was seen before

both_seen-character : (prefix known : Gap) (c : ℕ) → after_character (both_seen prefix known) c ≡ both_seen prefix (after_character known c)
both_seen-character prefix known c =
    elim (cases_Bool (is_line_feed c)) [
      | inl feed ↦ rw feed (ap (λ p. record { sentence_ends = known.sentence_ends || prefix.sentence_ends; paragraph_ends = p; after_line_feed = true })
          (or_swap_last known.paragraph_ends prefix.paragraph_ends known.after_line_feed))
      | inr other ↦ elim (cases_Bool (is_blank c)) [
        | inl blank ↦ rw (other, blank) refl
        | inr mark ↦ rw (other, mark) (ap (λ s. record { sentence_ends = s; paragraph_ends = known.paragraph_ends || prefix.paragraph_ends; after_line_feed = false })
            (or_swap_last known.sentence_ends prefix.sentence_ends (is_sentence_end c)))
      ]
    ]

both_seen-characters : (prefix known : Gap) (cs : List ℕ) → after_characters (both_seen prefix known) cs ≡ both_seen prefix (after_characters known cs)
unfolding after_characters
both_seen-characters prefix known [] = refl
both_seen-characters prefix known (c ∷ cs) =
    ap (λ g. after_characters g cs) (both_seen-character prefix known c) ∙ both_seen-characters prefix (after_character known c) cs

-- more characters of a part: after them is what is after them in both of its gaps
pub after_part-characters : (part : GapPart) (prefix : Gap) (cs : List ℕ) → after_characters (after_part part prefix) cs
    ≡ both_seen prefix (if prefix.after_line_feed then after_characters part.after_line_feed cs else after_characters part.alone cs)
after_part-characters part prefix cs =
    elim (cases_Bool prefix.after_line_feed) [
      | inl fed ↦ rw fed (both_seen-characters prefix part.after_line_feed cs)
      | inr bare ↦ rw bare (both_seen-characters prefix part.alone cs)
    ]

-- ---- a period directly behind a word

pub with_period-characters : (known : Gap) (cs : List ℕ) → after_characters (with_period known) cs ≡ with_period (after_characters known cs)
with_period-characters known cs =
    ap (λ g. after_characters g cs) (sym (with_mark known)) ∙ both_seen-characters mark known cs ∙ with_mark (after_characters known cs)
  where
    mark : Gap
    mark = with_period nothing_seen

    with_mark : (g : Gap) → both_seen mark g ≡ with_period g
    with_mark g = ap₂ (λ s p. record { sentence_ends = s; paragraph_ends = p; after_line_feed = g.after_line_feed }) (or-true g.sentence_ends) (or-false g.paragraph_ends)

pub period-first : (text rest : List ℕ) → IsUtf8 text → text ≡ 46 ∷ rest → after_characters nothing_seen (chars text) ≡ with_period (after_characters nothing_seen (chars rest))
unfolding after_characters
period-first text rest u is =
    ap (after_characters nothing_seen) (chars_past_char text rest 46 u (is ∙ ap (λ l. l ++ rest) (sym (encode_ascii 46 (omega arith)))))
    ∙ with_period-characters nothing_seen (chars rest)
