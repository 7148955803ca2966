-- Selections without filters and mild not, in a field: truth values and counts of what lies there.
use Rattle.std.specs.Prelude.{◌≡◌, ℕ, Bool, true, false, not, ◌&&◌, ◌||◌, nat_lt, List, filter, length, Option, Some, None}
use Rattle.ft_base.specs.declared.hit.Hit.{Hit}
use Rattle.ft_base.specs.declared.options.Options.{Options}
use Rattle.ft_base.specs.declared.range.Range.{Range}
use Rattle.ft_base.specs.declared.range.Range.TheVariants.{Exactly, AtLeast, AtMost, FromTo}
use Rattle.ft_base.specs.declared.token.Token.{Token}
use Rattle.ft_base.specs.declared.unit.TextUnit.{TextUnit}
use Rattle.ft_base.specs.declared.words.Words.{Words}
use Rattle.ft_base.specs.declared.words.Mode.{Mode}
use Rattle.ft_base.specs.declared.words.Mode.TheVariants.{Any, AnyWord, All, AllWords, Phrase}
use Rattle.ft_base.specs.Selection.{Form, Forms, words, or_of, and_of, mild_not, not_of, filtered, with_options, none, more}
use Rattle.all_matches.specs.Variants.{Lexicon}
use Rattle.all_matches.specs.Compositional.{enough}
use Rattle.all_matches.specs.Meaning.{inside, value_matches}
use Rattle.counted_shapes.specs.Fields.{made_in, in_window, in_unit}

-- how often a value occurs in a field
abbrev pub count_in : (Hit → Bool) → Lexicon → Options → Words → List Token → ℕ
count_in field lexicon options value tokens = length (filter (made_in field) (value_matches lexicon options 1 value tokens))

-- whether a selection without filters and mild not holds in a field, as if nothing else were in the text
unfoldable mutual
  pub holds_in : (Hit → Bool) → Lexicon → Options → List Token → Form → Bool
  holds_in field lexicon options tokens (words value) = enough value.times (count_in field lexicon (inside value.options options) value tokens)
  holds_in field lexicon options tokens (or_of forms) = some_holds_in field lexicon options tokens forms
  holds_in field lexicon options tokens (and_of forms) = each_holds_in field lexicon options tokens forms
  holds_in field lexicon options tokens (mild_not left right) = false
  holds_in field lexicon options tokens (not_of form) = not (holds_in field lexicon options tokens form)
  holds_in field lexicon options tokens (filtered form kind) = false
  holds_in field lexicon options tokens (with_options form inner) = holds_in field lexicon (inside inner options) tokens form

  pub some_holds_in : (Hit → Bool) → Lexicon → Options → List Token → Forms → Bool
  some_holds_in field lexicon options tokens none = false
  some_holds_in field lexicon options tokens (more form rest) =
      holds_in field lexicon options tokens form || some_holds_in field lexicon options tokens rest

  pub each_holds_in : (Hit → Bool) → Lexicon → Options → List Token → Forms → Bool
  each_holds_in field lexicon options tokens none = true
  each_holds_in field lexicon options tokens (more form rest) =
      holds_in field lexicon options tokens form && each_holds_in field lexicon options tokens rest

-- whether a selection is without filters and mild not
unfoldable mutual
  pub is_boolean : Form → Bool
  is_boolean (words value) = true
  is_boolean (or_of forms) = are_boolean forms
  is_boolean (and_of forms) = are_boolean forms
  is_boolean (mild_not left right) = false
  is_boolean (not_of form) = is_boolean form
  is_boolean (filtered form kind) = false
  is_boolean (with_options form inner) = is_boolean form

  pub are_boolean : Forms → Bool
  are_boolean none = true
  are_boolean (more form rest) = is_boolean form && are_boolean rest

-- whether a Match of a value has one hit of one of the phrases, not one of each
abbrev pub takes_one : Mode → Bool
takes_one Any = true
takes_one AnyWord = true
takes_one All = false
takes_one AllWords = false
takes_one Phrase = true

-- whether a range of times asks for a hit
abbrev pub needs_one : Option Range → Bool
needs_one None = true
needs_one (Some (Exactly n)) = nat_lt 0 n
needs_one (Some (AtLeast n)) = nat_lt 0 n
needs_one (Some (AtMost n)) = false
needs_one (Some (FromTo low high)) = nat_lt 0 low

-- whether a selection asks for a hit, so that each of its Matches has an include
unfoldable mutual
  pub needs_hit : Form → Bool
  needs_hit (words value) = takes_one value.mode && needs_one value.times
  needs_hit (or_of forms) = each_needs_hit forms
  needs_hit (and_of forms) = some_needs_hit forms
  needs_hit (mild_not left right) = false
  needs_hit (not_of form) = false
  needs_hit (filtered form kind) = false
  needs_hit (with_options form inner) = needs_hit form

  pub each_needs_hit : Forms → Bool
  each_needs_hit none = true
  each_needs_hit (more form rest) = needs_hit form && each_needs_hit rest

  pub some_needs_hit : Forms → Bool
  some_needs_hit none = false
  some_needs_hit (more form rest) = needs_hit form || some_needs_hit rest

-- some window of a size in which a selection holds
abbrev pub HoldsInWindow : ℕ → TextUnit → Lexicon → Options → List Token → Form → Type 0
HoldsInWindow size kind lexicon options tokens form = (last : ℕ) × (holds_in (in_window size kind last) lexicon options tokens form ≡ true)

-- some sentence or paragraph in which it holds
abbrev pub HoldsInUnit : TextUnit → Lexicon → Options → List Token → Form → Type 0
HoldsInUnit kind lexicon options tokens form = (number : ℕ) × (holds_in (in_unit kind number) lexicon options tokens form ≡ true)
