-- Selections for examples.
use Rattle.std.specs.Prelude.{ℕ, List, [], ◌∷◌, Option, None}
use Rattle.ft_base.specs.declared.range.Range.{Range}
use Rattle.ft_base.specs.declared.words.Mode.{Mode}
use Rattle.ft_base.specs.declared.words.Mode.TheVariants.{Any}
use Rattle.ft_base.specs.Selection.{no_options, Form, words, or_of, and_of, none, more}

-- strings with a mode and a range of times
abbrev pub value : List (List ℕ) → Mode → Option Range → Form
value strings mode times = words record { values = strings; mode = mode; times = times; options = no_options }

-- one string
abbrev pub quoted : List ℕ → Form
quoted string = value (string ∷ []) Any None

-- two selections joined by `ftor`, by `ftand`
abbrev pub two_or : Form → Form → Form
two_or a b = or_of (more a (more b none))

abbrev pub two_and : Form → Form → Form
two_and a b = and_of (more a (more b none))
