-- The selection that a text spells, by computation.
use Rattle.std.specs.Prelude.{ℕ, List, Option, Some, None, option_map}
use Rattle.ft_base.specs.Selection.{Form}
use Rattle.selection_grammar.specs.declared.symbol.Symbols.{Symbols}
use Rattle.selection_grammar.specs.Tree.{Tree}
use Rattle.selection_grammar.specs.steps.Machine.{read, finished}
use Rattle.selection_grammar.specs.Form.{form_of}
use Rattle.query_lexer.specs.Symbols.{symbols_of}

abbrev pub whole_tree : Option ℕ → Option Tree → Option Tree
whole_tree None tree = tree
whole_tree (Some place) tree = None

abbrev pub tree_in : Symbols → Option Tree
tree_in symbols = whole_tree symbols.bad (finished (read symbols.placed))

abbrev pub selection_in : List ℕ → Option Form
selection_in text = option_map form_of (tree_in (symbols_of text))
