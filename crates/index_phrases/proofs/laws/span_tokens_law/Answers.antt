-- The law as it is proved.
use Rattle.index_phrases.proofs.SpanTokens.{tokens_of_text}
use Rattle.index_phrases.proofs.laws.span_tokens_law.Goals as goal

pub returns : goal.returns
returns c = λ document tokens span text s. tokens_of_text document tokens span text s
