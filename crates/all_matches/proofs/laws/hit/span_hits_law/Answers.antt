-- The law is the lemma.
use Rattle.all_matches.proofs.SpanHits.{hits_in_span}
use Rattle.all_matches.proofs.laws.hit.span_hits_law.Goals as goal

pub returns : goal.returns
returns c = hits_in_span
