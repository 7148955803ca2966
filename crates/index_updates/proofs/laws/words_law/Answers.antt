-- The words and their number.
use Rattle.index_updates.proofs.WordsLemmas.{count-tree, words-tree}
use Rattle.index_updates.proofs.laws.words_law.Goals as goal

pub returns-clause-words : goal.returns-clause-words
returns-clause-words c = words-tree

pub returns-clause-count : goal.returns-clause-count
returns-clause-count c = count-tree
