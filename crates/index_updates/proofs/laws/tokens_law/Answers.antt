-- The index of trees and that of their tokens.
use Rattle.index_updates.proofs.IndexLemmas.{index-same}
use Rattle.index_updates.proofs.laws.tokens_law.Goals as goal

pub returns : goal.returns
returns c = index-same
