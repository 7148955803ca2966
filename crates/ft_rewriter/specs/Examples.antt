-- Selections for examples, beside those of all_matches.
use Rattle.std.specs.Prelude.{ℕ, true, List, [], ◌∷◌, codes, Some, None}
use Rattle.all_matches.specs.Examples.{stemmed}
use Rattle.ft_base.specs.declared.options.Options.{Options}
use Rattle.ft_base.specs.declared.range.Range.{Range}
use Rattle.ft_base.specs.declared.words.Mode.TheVariants.{Any}
use Rattle.ft_base.specs.Selection.{no_options, Form, words, or_of, none, more}

-- one string with options
abbrev pub using : Options → List ℕ → Form
using options string = words record { values = string ∷ []; mode = Any; times = None; options = options }

-- one string with `using stemming`
abbrev pub by_stem : List ℕ → Form
by_stem string = using (stemmed true) string

-- `"a"` with a range of times
abbrev pub times_a : Range → Form
times_a range = words record { values = codes "a" ∷ []; mode = Any; times = Some range; options = no_options }

abbrev pub three_or : Form → Form → Form → Form
three_or a b c = or_of (more a (more b (more c none)))
