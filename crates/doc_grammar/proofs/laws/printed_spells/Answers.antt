-- Each piece of the printed form spells a piece of the tree.
use Rattle.doc_grammar.proofs.PrintedTrees as trees
use Rattle.doc_grammar.proofs.laws.printed_spells.Goals as goal

pub returns : goal.returns
returns c = trees.printed_spells
