-- What it means that the printed form of a selection spells it again.
use Rattle.std.specs.Prelude.{◌≡◌, ℕ, List, [], ◌∷◌, codes, None}
use Rattle.std.specs.Fmt.{decimal}
use Rattle.ft_base.specs.Selection.{Form}
use Rattle.ft_parser.specs.Selected.{IsWhole}
use Rattle.ft_syntax.specs.OptionSymbols.{string_symbol}
use Rattle.ft_syntax.specs.Symbols.{symbols}
use Rattle.selection_grammar.specs.Form.{form_of}
use Rattle.selection_grammar.specs.Grammar.{Selection}
use Rattle.selection_grammar.specs.Tree.{Tree}
use Rattle.selection_grammar.specs.declared.symbol.Placed.{Placed}
use Rattle.selection_grammar.specs.declared.symbol.Symbol.{Symbol}
use Rattle.selection_grammar.specs.declared.symbol.Symbol.TheVariants as S
use Rattle.selection_faults.specs.Faults.{fault_of}

-- how a symbol is written: a string stands in quotation marks, those inside it are doubled, and a number is in decimal
abbrev pub spelling : Symbol → List ℕ
spelling (S.Name name) = name
spelling (S.Number n) = decimal n
spelling (S.Text text) = string_symbol text
spelling S.Slash = codes "/"
spelling S.DoubleSlash = codes "//"
spelling S.OpenBracket = codes "["
spelling S.CloseBracket = codes "]"
spelling S.OpenParenthesis = codes "("
spelling S.CloseParenthesis = codes ")"
spelling S.OpenBrace = codes "{"
spelling S.CloseBrace = codes "}"
spelling S.Comma = codes ","
spelling S.At = codes "@"
spelling S.Equals = codes "="
spelling S.Period = codes "."
spelling S.Star = codes "*"
spelling S.VerticalBar = codes "|"

abbrev pub spellings : List Placed → List (List ℕ)
spellings [] = []
spellings (p ∷ rest) = spelling p.symbol ∷ spellings rest

-- Some symbols that are written as the printed form of a selection spell a tree of it.
pub record PrintedSpells (form : Form) : Type 0 where
  pub placed : List Placed
  pub tree : Tree
  pub written : spellings placed ≡ symbols form
  pub spells : Selection placed tree
  pub is : form_of tree ≡ form

-- the same of a selection without a fault
pub record FaultlessAgain (form : Form) : Type 0 where
  pub spelled : PrintedSpells form
  pub faultless : fault_of spelled.tree ≡ None

-- and within all limits: of numbers, of parentheses, and of filters
pub record WithinLimits (form : Form) : Type 0 where
  pub again : FaultlessAgain form
  pub whole : IsWhole again.spelled.placed again.spelled.tree
