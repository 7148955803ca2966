-- Before the document no start was seen, and all tokens count from the first.
use Rattle.std.proofs.Common.{refl}
use Rattle.tokenizer.specs.steps.StartsLeft.{sentences_in, paragraphs_in}
use Rattle.tokenizer.proofs.starts.Starts.new.Goals as goal

pub returns-clause-sentences : goal.returns-clause-sentences
unfolding sentences_in
returns-clause-sentences c rest = rw (c.new.ensures, c.new-3.ensures.tokens rest, c.new-3.ensures.sentence) refl

pub returns-clause-paragraphs : goal.returns-clause-paragraphs
unfolding paragraphs_in
returns-clause-paragraphs c rest = rw (c.new-2.ensures, c.new-3.ensures.tokens rest, c.new-3.ensures.paragraph) refl
