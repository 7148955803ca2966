-- A tag starts no sentence and no paragraph by itself: the tokens after it have the starts that they had.
use Rattle.std.proofs.Common.{sym, ap, ◌++◌, ◌+◌}
use Rattle.tokenizer.specs.steps.Numbering.{tokens_left}
use Rattle.tokenizer.specs.Tokens.{starts}
use Rattle.ft_base.specs.declared.token.Token.{Token}
use Rattle.tokenizer.specs.steps.StartsLeft.{sentences_in, paragraphs_in}
use Rattle.tokenizer.proofs.starts.Starts.pass_tag.Goals as goal

pub returns-clause-sentences : goal.returns-clause-sentences
unfolding sentences_in
returns-clause-sentences c rest =
    let number : Token → _ = λ token. token.sentence in
    rw (c.pass_tag.ensures.tokens rest)
    (ap (λ n. c.args.self.now.breaks.sentences ++ starts number n (c.args.self.now.words + 1) (tokens_left c.pass_tag.new.self rest)) (sym c.pass_tag.ensures.sentence))

pub returns-clause-paragraphs : goal.returns-clause-paragraphs
unfolding paragraphs_in
returns-clause-paragraphs c rest =
    let number : Token → _ = λ token. token.paragraph in
    rw (c.pass_tag.ensures.tokens rest)
    (ap (λ n. c.args.self.now.breaks.paragraphs ++ starts number n (c.args.self.now.words + 1) (tokens_left c.pass_tag.new.self rest)) (sym c.pass_tag.ensures.paragraph))
