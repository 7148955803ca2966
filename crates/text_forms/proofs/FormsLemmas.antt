-- The forms of ASCII text, and the forms of a text that is itself a form.
use Rattle.std.proofs.Common.{◌≡◌, ℕ, zero, suc, ◌<◌, true, not, List, [], ◌∷◌, map, All, chars, encode_utf8_all, IsAscii, IsUtf8, refl, sym, ap, ◌∙◌, suc-le-suc, zero-le}
use Rattle.std.proofs.lemmas.Bool.{cond-true}
use Rattle.std.proofs.lemmas.Str.{chars-IsAscii, encodes-IsAscii, chars_from_encodes}
use Rattle.std.specs.Char.{to_ascii_lowercase}
use Rattle.std.proofs.lemmas.Str.Ascii.{lowercase_ascii}
use Rattle.ucd_table.proofs.Facts.{Stepped-below}
use Rattle.ucd_category.specs.GeneralCategory.{general_category, general_category_eq}
use Rattle.ucd_category.specs.declared.GeneralCategory.TheVariants.{NonspacingMark}
use Rattle.ucd_category.proofs.Computing.{ucd_category}
use Rattle.ucd_category.proofs.GeneralCategoryLemmas.{general_category_stepped}
use Rattle.unicode_normalization.specs.Forms.{Nfd, nfd}
use Rattle.unicode_normalization.proofs.FormsLemmas.{normalize-ascii}
use Rattle.caseless.specs.Caseless.{default_case_fold}
use Rattle.caseless.proofs.CaselessLemmas.{All-chars, default_case_fold-ascii, canonical_key-ascii}
use Rattle.text_forms.specs.Forms.{is_nonspacing_mark, without_marks, exact_of, plain_marks_of, plain_case_of, key_of}

-- ---- ASCII

is_no_mark-ascii : (c : ℕ) → c < 128 → not (is_nonspacing_mark c) ≡ true
unfolding ucd_category is_nonspacing_mark
is_no_mark-ascii c below =
    Stepped-below general_category general_category_stepped (λ _ v. not (general_category_eq v NonspacingMark)) 128 refl c below

without_marks-ascii : (cs : List ℕ) → All (λ c. c < 128) cs → without_marks cs ≡ cs
without_marks-ascii [] all = refl
without_marks-ascii (c ∷ cs) all =
    cond-true _ _ _ (is_no_mark-ascii c (all zero 0 (suc-le-suc zero-le)))
    ∙ ap (λ l. c ∷ l) (without_marks-ascii cs (λ k d lt. all (suc k) d (suc-le-suc lt)))

IsAscii-lower : (bs : List ℕ) → IsAscii bs → IsAscii (map to_ascii_lowercase bs)
IsAscii-lower [] ascii i = ascii i
IsAscii-lower (b ∷ bs) ascii zero = lowercase_ascii b (ascii zero)
IsAscii-lower (b ∷ bs) ascii (suc i) = IsAscii-lower bs (λ j. ascii (suc j)) i

module _ (bs : List ℕ) (ascii : IsAscii bs) where
  nfd-chars : nfd (chars bs) ≡ chars bs
  nfd-chars = normalize-ascii Nfd (chars bs) (All-chars bs ascii)

  -- the bytes of folded ASCII text
  folded : encode_utf8_all (default_case_fold (chars bs)) ≡ map to_ascii_lowercase bs
  folded =
      ap encode_utf8_all (default_case_fold-ascii (chars bs) (All-chars bs ascii) ∙ ap (map to_ascii_lowercase) (chars-IsAscii bs ascii))
      ∙ encodes-IsAscii _ (IsAscii-lower bs ascii)

  whole : encode_utf8_all (chars bs) ≡ bs
  whole = ap encode_utf8_all (chars-IsAscii bs ascii) ∙ encodes-IsAscii bs ascii

  pub exact_of-ascii : exact_of bs ≡ bs
  unfolding exact_of
  exact_of-ascii = ap encode_utf8_all nfd-chars ∙ whole

  pub plain_marks_of-ascii : plain_marks_of bs ≡ bs
  unfolding plain_marks_of
  plain_marks_of-ascii =
      ap (λ cs. encode_utf8_all (without_marks cs)) nfd-chars
      ∙ ap encode_utf8_all (without_marks-ascii (chars bs) (All-chars bs ascii)) ∙ whole

  pub plain_case_of-ascii : plain_case_of bs ≡ map to_ascii_lowercase bs
  unfolding plain_case_of
  plain_case_of-ascii = ap encode_utf8_all (canonical_key-ascii (chars bs) (All-chars bs ascii)) ∙ folded

  pub key_of-ascii : key_of bs ≡ map to_ascii_lowercase bs
  unfolding key_of
  key_of-ascii =
      ap (λ cs. encode_utf8_all (default_case_fold (without_marks cs))) nfd-chars
      ∙ ap (λ cs. encode_utf8_all (default_case_fold cs)) (without_marks-ascii (chars bs) (All-chars bs ascii)) ∙ folded

-- ---- a text that was written from characters has these characters

pub chars-written : (cs bs : List ℕ) → IsUtf8 bs → bs ≡ encode_utf8_all cs → chars bs ≡ cs
chars-written cs bs text same = sym (chars_from_encodes cs bs text (sym same))
