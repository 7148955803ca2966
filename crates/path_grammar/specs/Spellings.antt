-- Symbols and steps for examples.
use Rattle.std.specs.Prelude.{ℕ, ◌+◌, true, false, List, [], ◌∷◌, Option, Some, None}
use Rattle.ft_base.specs.declared.words.Mode.TheVariants.{Any}
use Rattle.selection_grammar.specs.declared.symbol.Placed.{Placed}
use Rattle.selection_grammar.specs.declared.symbol.Symbol.{Symbol}
use Rattle.selection_grammar.specs.Grammar.{Spot, at, string, placed}
use Rattle.selection_grammar.specs.Tree.{Tree, words}
use Rattle.path_grammar.specs.declared.path.NameTest.TheVariants as T
use Rattle.path_grammar.specs.Form as form
use Rattle.path_grammar.specs.Form.{Step, step, Predicate, predicates}
use Rattle.path_grammar.specs.Grammar.{Inside, inside}
use Rattle.path_grammar.specs.steps.Machine.{State, read, finished, open_count}

-- `/a`, `//a`, with predicates
abbrev pub child : List ℕ → List Predicate → Step
child name filters = step false (T.Name name) (predicates filters)

abbrev pub below : List ℕ → List Predicate → Step
below name filters = step true (T.Name name) (predicates filters)

-- symbols in a row, as if each were one byte long
abbrev pub row_from : ℕ → List Symbol → List Placed
row_from n [] = []
row_from n (symbol ∷ rest) = at (n, n + 1) symbol ∷ row_from (n + 1) rest

abbrev pub row : List Symbol → List Placed
row symbols = row_from 0 symbols

-- the selection of one string
abbrev pub quoted : Spot → List ℕ → Tree
quoted p s = words record { strings = placed p s ∷ []; mode = Any; times = None; options = [] }

abbrev pub quoted_inside : Spot → List ℕ → Inside
quoted_inside p s = inside (string p s ∷ []) (quoted p s)

-- what the machine has read, and how much is open, if symbols lead anywhere
abbrev pub value_at : Option State → Option (form.Path × List Inside)
value_at None = None
value_at (Some s) = finished s

abbrev pub value_of : List Placed → Option (form.Path × List Inside)
value_of symbols = value_at (read symbols)

abbrev pub depth_at : Option State → Option ℕ
depth_at None = None
depth_at (Some s) = Some (open_count s)

abbrev pub depth_of : List Placed → Option ℕ
depth_of symbols = depth_at (read symbols)
