-- The law as it is proved.
use Rattle.index_phrases.proofs.PhraseLaw.{hits_by_spots}
use Rattle.index_phrases.proofs.laws.spots_law.Goals as goal

pub returns : goal.returns
returns c = λ lexicon options number phrase tokens. hits_by_spots lexicon options number phrase tokens
