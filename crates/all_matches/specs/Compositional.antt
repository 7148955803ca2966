-- Whether a text satisfies a selection outside filters and mild not, by truth values and counts alone.
use Rattle.std.specs.Prelude.{ℕ, Bool, true, false, ◌&&◌, ◌||◌, nat_lt, List, length, Option, Some, None}
use Rattle.ft_base.specs.declared.token.Token.{Token}
use Rattle.ft_base.specs.declared.options.Options.{Options}
use Rattle.ft_base.specs.declared.range.Range.{Range}
use Rattle.ft_base.specs.declared.words.Words.{Words}
use Rattle.ft_base.specs.Selection.{Form, Forms, none, more}
use Rattle.all_matches.specs.Variants.{Lexicon}
use Rattle.all_matches.specs.Meaning.{value_matches}
use Rattle.all_matches.specs.Times.{number_in_range}

-- whether some, and whether each selection of a list passes a test
abbrev pub some_form : (Form → Bool) → Forms → Bool
some_form test none = false
some_form test (more form rest) = test form || some_form test rest

abbrev pub each_form_passes : (Form → Bool) → Forms → Bool
each_form_passes test none = true
each_form_passes test (more form rest) = test form && each_form_passes test rest

-- whether so many occurrences are enough: at least one where no range is written
abbrev pub enough : Option Range → ℕ → Bool
enough None count = nat_lt 0 count
enough (Some range) count = number_in_range range count

-- how often a value occurs in a text: the number of its Matches
abbrev pub occurrences : Lexicon → Options → Words → List Token → ℕ
occurrences lexicon options value tokens = length (value_matches lexicon options 1 value tokens)
