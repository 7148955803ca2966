-- The law.
use Rattle.index_versions.proofs.KeyLemmas.{keys-counted}
use Rattle.index_versions.proofs.laws.keys_law.Goals as goal

pub returns : goal.returns
returns c = keys-counted
