-- The law as it is proved.
use Rattle.index_phrases.proofs.PhraseLaw.{hits_of_phrase}
use Rattle.index_phrases.proofs.laws.phrase_hits_law.Goals as goal

pub returns : goal.returns
returns c = λ version doc number span terms lexicon options phrase s same. hits_of_phrase version doc number span terms s lexicon options phrase same
