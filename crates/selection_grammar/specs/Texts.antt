-- Which symbols begin a selection.
use Rattle.std.specs.Prelude.{List, ◌++◌}
use Rattle.selection_grammar.specs.declared.symbol.Placed.{Placed}
use Rattle.selection_grammar.specs.Tree.{Tree}
use Rattle.selection_grammar.specs.Grammar.{Selection}

-- some further symbols make them a whole selection
abbrev pub Begins : List Placed → Type 0
Begins symbols = (rest : List Placed) × (tree : Tree) × Selection (symbols ++ rest) tree
