-- A word is the next token, with the numbers as the gap before it raises them.
use Rattle.tokenizer.proofs.NumberingLemmas.{tokens_left-word}
use Rattle.tokenizer.proofs.numbering.Numbering.pass_word.Goals as goal

pub returns-clause-tokens : goal.returns-clause-tokens
returns-clause-tokens c bytes rest =
    rw (c.shifted-self.ensures.value, c.shifted-self-2.ensures.value, c.new-self.ensures) (tokens_left-word c.args.self.now bytes rest)
