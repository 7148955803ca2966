-- A part that is a word is the word of one token, and no other part is.
use Rattle.tokenizer.proofs.PartsLemmas.{words-tokens}
use Rattle.tokenizer.proofs.laws.words_law.Goals as goal

pub returns : goal.returns
returns c = words-tokens
