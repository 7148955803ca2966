-- Which segments of the examples are words, and which words are abbreviations there.
use Rattle.std.proofs.Common.{◌≡◌, ℕ, true, false, ◌||◌, List, [], ◌∷◌, map, IsAscii, bytes_eq, codes, nat_lt, refl, sym, ap, ap₂, ◌∙◌, zero, suc}
use Rattle.std.proofs.lemmas.Bool.{and_parts, ltb-true}
use Rattle.std.proofs.lemmas.Str.{chars-IsAscii}
use Rattle.std.proofs.lemmas.Str.Ascii.{IsAscii-nil}
use Rattle.std.specs.Char.{is_ascii_alphanumeric, to_ascii_lowercase}
use Rattle.std.specs.List.{list_any, list_all}
use Rattle.text_forms.proofs.FormsLemmas.{key_of-ascii}
use Rattle.text_words.proofs.WordsLemmas.{is_letter_or_number-ascii}
use Rattle.text_words.specs.Words.{is_letter_or_number, is_word}
use Rattle.tokenizer.specs.Parts.{is_abbreviation}

ascii : (bs : List ℕ) → list_all (λ b. nat_lt b 128) bs ≡ true → IsAscii bs
ascii [] all i = IsAscii-nil i
ascii (b ∷ bs) all zero = ltb-true b 128 (and_parts (nat_lt b 128) (list_all (λ b. nat_lt b 128) bs) all).0
ascii (b ∷ bs) all (suc i) = ascii bs (and_parts (nat_lt b 128) (list_all (λ b. nat_lt b 128) bs) all).1 i

any-ascii : (bs : List ℕ) → IsAscii bs → list_any is_letter_or_number bs ≡ list_any is_ascii_alphanumeric bs
any-ascii [] all = refl
any-ascii (b ∷ bs) all = ap₂ (λ x y. x || y) (sym (is_letter_or_number-ascii b (all zero))) (any-ascii bs (λ i. all (suc i)))

is_word-ascii : (bs : List ℕ) → list_all (λ b. nat_lt b 128) bs ≡ true → is_word bs ≡ list_any is_ascii_alphanumeric bs
unfolding is_word
is_word-ascii bs all = ap (list_any is_letter_or_number) (chars-IsAscii bs (ascii bs all)) ∙ any-ascii bs (ascii bs all)

is_abbreviation-ascii : (abbreviations : List (List ℕ)) (bs : List ℕ) → list_all (λ b. nat_lt b 128) bs ≡ true
    → is_abbreviation abbreviations bs ≡ list_any (bytes_eq (map to_ascii_lowercase bs)) abbreviations
is_abbreviation-ascii abbreviations bs all = ap (λ key. list_any (bytes_eq key) abbreviations) (key_of-ascii bs (ascii bs all))

-- ---- words and other segments

pub title_is_word : is_word (codes "Dr") ≡ true
title_is_word = is_word-ascii (codes "Dr") refl

pub name_is_word : is_word (codes "Who") ≡ true
name_is_word = is_word-ascii (codes "Who") refl

pub period_is_no_word : is_word (codes ".") ≡ false
period_is_no_word = is_word-ascii (codes ".") refl

pub blank_is_no_word : is_word (codes " ") ≡ false
blank_is_no_word = is_word-ascii (codes " ") refl

pub parenthesis_is_no_word : is_word (codes ")") ≡ false
parenthesis_is_no_word = is_word-ascii (codes ")") refl

-- ---- abbreviations

pub title_is_listed : is_abbreviation (codes "dr" ∷ []) (codes "Dr") ≡ true
title_is_listed = is_abbreviation-ascii (codes "dr" ∷ []) (codes "Dr") refl

pub name_is_not_listed : is_abbreviation (codes "dr" ∷ []) (codes "Who") ≡ false
name_is_not_listed = is_abbreviation-ascii (codes "dr" ∷ []) (codes "Who") refl

pub capitals_are_listed : is_abbreviation (codes "mr" ∷ codes "dr" ∷ []) (codes "DR") ≡ true
capitals_are_listed = is_abbreviation-ascii (codes "mr" ∷ codes "dr" ∷ []) (codes "DR") refl

pub longer_is_not_listed : is_abbreviation (codes "dr" ∷ []) (codes "drs") ≡ false
longer_is_not_listed = is_abbreviation-ascii (codes "dr" ∷ []) (codes "drs") refl

pub no_key_is_found : is_abbreviation (codes "Dr" ∷ []) (codes "Dr") ≡ false
no_key_is_found = is_abbreviation-ascii (codes "Dr" ∷ []) (codes "Dr") refl
