-- The plain data of each kind of selection with parts, for the search.
use Rattle.selection_grammar.proofs.Views.{tree_words, tree_or, tree_and, tree_mild, tree_not, tree_filtered, tree_with}

pub ruleset views = (tree_words, tree_or, tree_and, tree_mild, tree_not, tree_filtered, tree_with)
