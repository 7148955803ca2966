-- Before the first token it is as if a paragraph had ended, so that the first token starts sentence 1 and paragraph 1.
use Rattle.std.proofs.Common.{ap, ◌∙◌}
use Rattle.tokenizer.specs.steps.Numbering.{tokens_left}
use Rattle.tokenizer.proofs.NumberingLemmas.{tokens_left-new}
use Rattle.tokenizer.proofs.numbering.Numbering.new.Goals as goal

pub returns-clause-tokens : goal.returns-clause-tokens
returns-clause-tokens c rest = ap (λ known. tokens_left (record { sentence = 0; paragraph = 0; gap = known }) rest) c.before_all.ensures ∙ tokens_left-new rest
