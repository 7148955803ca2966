-- The letters of ASCII that have a case.
use Rattle.std.proofs.Common.{◌≡◌, ℕ, ◌<◌, Bool, true, false, refl}
use Rattle.std.specs.Char.{is_ascii_uppercase, is_ascii_lowercase}
use Rattle.ucd_table.proofs.Facts.{Stepped-below}
use Rattle.ucd_category.specs.GeneralCategory.{general_category}
use Rattle.ucd_category.proofs.Computing.{ucd_category}
use Rattle.ucd_category.proofs.GeneralCategoryLemmas.{general_category_stepped}
use Rattle.text_forms.specs.Cases.{is_upper_or_title, is_lower_or_title}
use mathlib.Core.Bool.{beq}

beq-true : (x y : Bool) → beq x y ≡ true → x ≡ y
beq-true true true h = refl
beq-true true false h = cc
beq-true false true h = cc
beq-true false false h = refl

pub is_ascii_uppercase-category : (c : ℕ) → c < 128 → is_ascii_uppercase c ≡ is_upper_or_title (general_category c)
unfolding ucd_category
is_ascii_uppercase-category c below =
    beq-true _ _ (Stepped-below general_category general_category_stepped (λ x v. beq (is_ascii_uppercase x) (is_upper_or_title v)) 128 refl c below)

pub is_ascii_lowercase-category : (c : ℕ) → c < 128 → is_ascii_lowercase c ≡ is_lower_or_title (general_category c)
unfolding ucd_category
is_ascii_lowercase-category c below =
    beq-true _ _ (Stepped-below general_category general_category_stepped (λ x v. beq (is_ascii_lowercase x) (is_lower_or_title v)) 128 refl c below)
