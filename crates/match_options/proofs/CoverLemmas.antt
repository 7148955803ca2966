-- What atoms cover, one character after the other.
use Rattle.std.proofs.Common.{◌≡◌, refl, sym, ap, ◌∙◌, ℕ, suc, ◌+◌, ◌-◌, ◌<◌, ◌≤◌, Bool, true, false, ◌&&◌, ◌||◌, List, [], ◌∷◌, ◌++◌, length, drop, arith, IsUtf8, chars, encode_utf8_all, Option, drop-drop, length-drop}
use Rattle.std.specs.Prelude.{encode_utf8, ◌==◌}
use Rattle.std.specs.List.{list_any, range_with_len}
use Rattle.std.proofs.lemmas.Bool.{ne_eqb}
use Rattle.std.proofs.lemmas.Str.{chars_from_encodes, encodes-chars, IsUtf8-past_char, length-le-encodes}
use Rattle.std.proofs.StrCases.{chars_of_empty}
use Rattle.match_options.specs.declared.atom.Atom.{Atom}
use Rattle.match_options.specs.declared.atom.Atom.TheVariants.{Letter, Gap}
use Rattle.match_options.specs.Wildcards.{fits_gap, covers}

-- the characters after the first one
pub after_first : (text rest : List ℕ) (c : ℕ) → IsUtf8 text → text ≡ encode_utf8 c ++ rest → chars text ≡ c ∷ chars rest
after_first text rest c utf8 split =
    let utf8_rest = IsUtf8-past_char text rest c utf8 split in
    sym (chars_from_encodes (c ∷ chars rest) text utf8 (ap (λ bs. encode_utf8 c ++ bs) (encodes-chars rest utf8_rest) ∙ sym split))

-- no atom is left
no_atom : (text : List ℕ) → IsUtf8 text → (letters : List ℕ) → chars text ≡ letters → (length text == 0) ≡ covers [] letters
unfolding covers
no_atom text utf8 [] e = ap (λ t. length t == 0) (sym (encodes-chars text utf8) ∙ ap encode_utf8_all e)
no_atom text utf8 (c ∷ letters) e =
    let bytes : length text ≡ length (encode_utf8_all (c ∷ letters)) = ap length (sym (encodes-chars text utf8) ∙ ap encode_utf8_all e) in
    ne_eqb (length text) 0 (λ z. omega (arith, length-le-encodes (c ∷ letters), z))

pub covers_none : (text : List ℕ) → IsUtf8 text → (length text == 0) ≡ covers [] (chars text)
covers_none text utf8 = no_atom text utf8 (chars text) refl

-- a letter
pub no_letter : (a : ℕ) (atoms : List Atom) (text : List ℕ) → length text ≡ 0 → false ≡ covers (Letter a ∷ atoms) (chars text)
unfolding covers
no_letter a atoms text none = ap (covers (Letter a ∷ atoms)) (sym (chars_of_empty text none))

pub letter_first : (a c : ℕ) (atoms : List Atom) (text rest : List ℕ) → IsUtf8 text → text ≡ encode_utf8 c ++ rest → ((a == c) && covers atoms (chars rest)) ≡ covers (Letter a ∷ atoms) (chars text)
unfolding covers
letter_first a c atoms text rest utf8 split = ap (covers (Letter a ∷ atoms)) (sym (after_first text rest c utf8 split))

-- a gap: whether it may stand for some number of characters from a number on
module _ (low : ℕ) (high : Option ℕ) (atoms : List Atom) (letters : List ℕ) where
  test : ℕ → Bool
  test count = fits_gap low high count && covers atoms (drop count letters)

  pub from_count : ℕ → Bool
  from_count count = list_any test (range_with_len count (suc (length letters) - count))

  pub from_none : from_count 0 ≡ covers (Gap low high ∷ atoms) letters
  unfolding covers from_count test
  from_none = let all : suc (length letters) - 0 ≡ suc (length letters) = omega arith in ap (λ n. list_any test (range_with_len 0 n)) all

  -- this number, or a greater one
  step : (count : ℕ) → count ≤ length letters → from_count count ≡ (test count || from_count (count + 1))
  unfolding from_count
  step count h =
      let more : suc (length letters) - count ≡ suc (suc (length letters) - (count + 1)) = omega arith in
      ap (λ n. list_any test (range_with_len count n)) more

  pub this_count : (count : ℕ) (left : List ℕ) → count ≤ length letters → left ≡ drop count letters → (fits_gap low high count && covers atoms left) ≡ true → true ≡ from_count count
  unfolding test
  this_count count left h is holds =
      sym (step count h ∙ ap (λ b. b || from_count (count + 1)) (ap (λ l. fits_gap low high count && covers atoms l) (sym is) ∙ holds))

  pub next_count : (count : ℕ) (left : List ℕ) → count ≤ length letters → left ≡ drop count letters → (fits_gap low high count && covers atoms left) ≡ false → from_count count ≡ from_count (count + 1)
  unfolding test
  next_count count left h is fails = step count h ∙ ap (λ b. b || from_count (count + 1)) (ap (λ l. fits_gap low high count && covers atoms l) (sym is) ∙ fails)

  -- no number is left
  pub past_counts : (count : ℕ) → length letters < count → from_count count ≡ false
  unfolding from_count
  past_counts count h = let none : suc (length letters) - count ≡ 0 = omega arith in ap (λ n. list_any test (range_with_len count n)) none

-- how many characters a text has at most
pub few_chars : (text : List ℕ) → IsUtf8 text → length (chars text) ≤ length text
few_chars text utf8 = let bytes = ap length (encodes-chars text utf8) in omega (arith, length-le-encodes (chars text), bytes)

-- one character more is passed
pub char_passed : (letters : List ℕ) (count c : ℕ) (bytes rest : List ℕ) → IsUtf8 bytes → bytes ≡ encode_utf8 c ++ rest → chars bytes ≡ drop count letters → (chars rest ≡ drop (count + 1) letters) × (count + 1 ≤ length letters)
char_passed letters count c bytes rest utf8 split is =
    let prefix = sym is ∙ after_first bytes rest c utf8 split in
    (sym (ap (drop 1) prefix) ∙ drop-drop 1 count letters, some letters count (chars rest) c prefix)
  where
    some : (letters : List ℕ) (count : ℕ) (rest : List ℕ) (c : ℕ) → drop count letters ≡ c ∷ rest → count + 1 ≤ length letters
    some letters count rest c e = let size = ap length e in omega (arith, length-drop count letters, size)
