-- The words of a text: the segments between default word boundaries (UAX #29, section 4) that hold a letter or a number
-- (The Unicode Standard, section 4.5, General_Category). `can't 3.14` has the words `can't` and `3.14`.
use Rattle.std.specs.Prelude.{ℕ, Bool, ◌||◌, List, filter}
use Rattle.std.specs.List.{list_any}
use Rattle.std.specs.Str.{chars}
use Rattle.ucd_category.specs.GeneralCategory.{general_category}
use Rattle.ucd_category.specs.GeneralCategoryGroup.{in_group}
use Rattle.ucd_category.specs.declared.GeneralCategoryGroup.TheVariants.{Letter, Number}
use Rattle.unicode_segmentation.specs.Segments.{with_offsets}
use Rattle.unicode_segmentation.specs.Word.{word_bounds}

-- the character has a general category of the group L or of the group N
unfoldable pub is_letter_or_number : ℕ → Bool
is_letter_or_number c = in_group Letter (general_category c) || in_group Number (general_category c)

-- a segment, as bytes, holds such a character
unfoldable pub is_word : List ℕ → Bool
is_word segment = list_any is_letter_or_number (chars segment)

-- the words of a text, as bytes
abbrev pub words : List ℕ → List (List ℕ)
words text = filter is_word (word_bounds text)

-- the same, each with the place of its first byte
abbrev pub words_with_places : List ℕ → List (ℕ × List ℕ)
words_with_places text = filter (λ (_, segment). is_word segment) (with_offsets 0 (word_bounds text))
