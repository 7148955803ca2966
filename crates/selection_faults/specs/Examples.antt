-- Selections for examples.
use Rattle.std.specs.Prelude.{ℕ, zero, suc, ◌+◌, List, [], ◌∷◌, Some, None}
use Rattle.ft_base.specs.declared.range.Range.{Range}
use Rattle.ft_base.specs.declared.range.Range.TheVariants.{AtLeast}
use Rattle.ft_base.specs.declared.words.Mode.{Mode}
use Rattle.ft_base.specs.declared.words.Mode.TheVariants as M
use Rattle.selection_grammar.specs.Tree.{Tree, words}
use Rattle.selection_grammar.specs.declared.parsed.MatchOption.{MatchOption}
use Rattle.selection_grammar.specs.declared.parsed.PlacedOption.{PlacedOption}
use Rattle.selection_grammar.specs.declared.parsed.PlacedString.{PlacedString}

abbrev pub string : ℕ → List ℕ → PlacedString
string at text = record { at = at; text = text }

abbrev pub using_at : ℕ → MatchOption → PlacedOption
using_at at option = record { at = at; option = option }

-- one string with options
abbrev pub quoted_with : ℕ → List ℕ → List PlacedOption → Tree
quoted_with at text options = words (record { strings = string at text ∷ []; mode = M.Any; times = None; options = options })

abbrev pub quoted : ℕ → List ℕ → Tree
quoted at text = quoted_with at text []

-- one string with `occurs` after it
abbrev pub occurring : Mode → Range → ℕ → List ℕ → ℕ → Tree
occurring mode range at text times_at =
    words (record { strings = string at text ∷ []; mode = mode; times = Some record { at = times_at; range = range }; options = [] })

abbrev pub counted : ℕ → List ℕ → ℕ → Tree
counted at text times_at = occurring M.Any (AtLeast 1) at text times_at

-- so many strings of one letter, each nine bytes after the one before
abbrev pub strings_from : ℕ → ℕ → List PlacedString
strings_from at zero = []
strings_from at (suc n) = string at (97 ∷ []) ∷ strings_from (at + 9) n

abbrev pub value : Mode → List PlacedString → Tree
value mode strings = words (record { strings = strings; mode = mode; times = None; options = [] })
