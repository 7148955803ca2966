-- The printed form of a selection: its symbols, with parentheses where the grammar needs them.
use Rattle.std.specs.Prelude.{ℕ, nat_lt, if◌then◌else◌, List, [], ◌∷◌, ◌++◌, codes}
use Rattle.std.specs.List.{join_by}
use Rattle.ft_base.specs.declared.words.Words.{Words}
use Rattle.ft_base.specs.Selection.{Form, Forms, words, or_of, and_of, mild_not, not_of, filtered, with_options, none, more}
use Rattle.ft_syntax.specs.Spacing.{Symbol, set_out}
use Rattle.ft_syntax.specs.OptionSymbols.{value_symbols, mode_symbols, times_symbols, options_symbols, filter_symbols}

-- how closely a form holds together: an operand that holds less closely than its place wants stands in parentheses
abbrev pub level : Form → ℕ
level (words value) = 5
level (or_of forms) = 1
level (and_of forms) = 2
level (mild_not left right) = 3
level (not_of form) = 4
level (filtered form filter) = 0
level (with_options form options) = 5

abbrev pub words_symbols : Words → List Symbol
words_symbols value = value_symbols value.values ++ mode_symbols value.mode ++ times_symbols value.times ++ options_symbols value.options

abbrev pub in_parentheses : List Symbol → List Symbol
in_parentheses symbols = codes "(" ∷ symbols ++ codes ")" ∷ []

-- an operand in a place that wants this level
abbrev pub at_level : ℕ → Form → List Symbol → List Symbol
at_level wanted form symbols = if nat_lt (level form) wanted then in_parentheses symbols else symbols

-- the symbols of a selection
unfoldable mutual
  pub symbols : Form → List Symbol
  symbols (words value) = words_symbols value
  symbols (or_of forms) = join_by (λ operand. operand) (codes "ftor" ∷ []) (operands 2 forms)
  symbols (and_of forms) = join_by (λ operand. operand) (codes "ftand" ∷ []) (operands 3 forms)
  symbols (mild_not left right) = at_level 3 left (symbols left) ++ codes "not" ∷ codes "in" ∷ at_level 4 right (symbols right)
  symbols (not_of form) = codes "ftnot" ∷ at_level 5 form (symbols form)
  symbols (filtered form filter) = at_level 0 form (symbols form) ++ filter_symbols filter
  symbols (with_options form options) = in_parentheses (symbols form) ++ options_symbols options

  pub operands : ℕ → Forms → List (List Symbol)
  operands wanted none = []
  operands wanted (more form rest) = at_level wanted form (symbols form) ∷ operands wanted rest

-- an operand in a place that wants this level
abbrev pub operand_symbols : ℕ → Form → List Symbol
operand_symbols wanted form = at_level wanted form (symbols form)

-- operands with a symbol between each two
abbrev pub operands_symbols : Symbol → ℕ → List Form → List Symbol
operands_symbols separator wanted forms = join_by (operand_symbols wanted) (separator ∷ []) forms

-- the printed form of a selection
unfoldable pub printed : Form → List ℕ
printed form = set_out (symbols form)
