-- The forms of a text under which words are compared (The Unicode Standard, section 3.11, NFD; section 3.13, toCasefold;
-- section 4.5, General_Category). Each is given over code points, and over the bytes of a text in UTF-8.
use Rattle.std.specs.Prelude.{ℕ, Bool, not, List, filter, chars, encode_utf8_all}
use Rattle.caseless.specs.Caseless.{default_case_fold}
use Rattle.ucd_category.specs.GeneralCategory.{general_category, general_category_eq}
use Rattle.ucd_category.specs.declared.GeneralCategory.TheVariants.{NonspacingMark}
use Rattle.unicode_normalization.specs.Forms.{nfd}

-- the character has the general category Mn
unfoldable pub is_nonspacing_mark : ℕ → Bool
is_nonspacing_mark c = general_category_eq (general_category c) NonspacingMark

-- the characters that are no nonspacing marks
abbrev pub without_marks : List ℕ → List ℕ
without_marks = filter (λ c. not (is_nonspacing_mark c))

-- canonical decomposition
abbrev pub exact_form : List ℕ → List ℕ
exact_form = nfd

-- decomposed, without marks: `é` is `e`, `É` is `E`
abbrev pub plain_marks_form : List ℕ → List ℕ
plain_marks_form characters = without_marks (nfd characters)

-- decomposed, without case: `É` is `e` with U+0301
abbrev pub plain_case_form : List ℕ → List ℕ
plain_case_form characters = nfd (default_case_fold (nfd characters))

-- without marks and without case: `É` is `e`, `Straße` is `strasse`
abbrev pub key_form : List ℕ → List ℕ
key_form characters = default_case_fold (without_marks (nfd characters))

-- a form of a text, both as bytes
abbrev pub form_of : (List ℕ → List ℕ) → List ℕ → List ℕ
form_of form text = encode_utf8_all (form (chars text))

unfoldable pub exact_of : List ℕ → List ℕ
exact_of = form_of exact_form

unfoldable pub plain_marks_of : List ℕ → List ℕ
plain_marks_of = form_of plain_marks_form

unfoldable pub plain_case_of : List ℕ → List ℕ
plain_case_of = form_of plain_case_form

unfoldable pub key_of : List ℕ → List ℕ
key_of = form_of key_form
