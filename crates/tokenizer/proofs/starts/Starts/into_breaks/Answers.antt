-- Where nothing is left, the places that were seen are all.
use Rattle.tokenizer.proofs.StartsLemmas.{starts-ended}
use Rattle.tokenizer.specs.steps.StartsLeft.{sentences_in, paragraphs_in}
use Rattle.tokenizer.proofs.starts.Starts.into_breaks.Goals as goal

pub returns-clause-sentences : goal.returns-clause-sentences
unfolding sentences_in
returns-clause-sentences c = starts-ended (λ token. token.sentence) _ _ c.args.self.last _

pub returns-clause-paragraphs : goal.returns-clause-paragraphs
unfolding paragraphs_in
returns-clause-paragraphs c = starts-ended (λ token. token.paragraph) _ _ c.args.self.last _
