-- Texts without upper case and texts without lower case (The Unicode Standard, section 4.5, General_Category). A
-- titlecase letter, as U+01C5, is in neither; a character without case is in both.
use Rattle.std.specs.Prelude.{ℕ, Bool, true, false, not, List, chars}
use Rattle.std.specs.List.{list_all}
use Rattle.ucd_category.specs.GeneralCategory.{general_category}
use Rattle.ucd_category.specs.declared.GeneralCategory.{GeneralCategory}
use Rattle.ucd_category.specs.declared.GeneralCategory.TheVariants.{UppercaseLetter, LowercaseLetter, TitlecaseLetter}

-- Lu or Lt
abbrev pub is_upper_or_title : GeneralCategory → Bool
is_upper_or_title UppercaseLetter = true
is_upper_or_title TitlecaseLetter = true
is_upper_or_title _ = false

-- Ll or Lt
abbrev pub is_lower_or_title : GeneralCategory → Bool
is_lower_or_title LowercaseLetter = true
is_lower_or_title TitlecaseLetter = true
is_lower_or_title _ = false

-- no character has the category Lu or Lt
abbrev pub all_lower : List ℕ → Bool
all_lower = list_all (λ c. not (is_upper_or_title (general_category c)))

-- no character has the category Ll or Lt
abbrev pub all_upper : List ℕ → Bool
all_upper = list_all (λ c. not (is_lower_or_title (general_category c)))

-- the same of a text, given as bytes
unfoldable pub is_lower_text : List ℕ → Bool
is_lower_text text = all_lower (chars text)

unfoldable pub is_upper_text : List ℕ → Bool
is_upper_text text = all_upper (chars text)
