-- A word is one token more, whose place is a start where its sentence or paragraph is a new one.
use Rattle.std.proofs.Common.{sym, ap, ◌∙◌, ◌++◌, ◌+◌}
use Rattle.tokenizer.specs.steps.Numbering.{tokens_left}
use Rattle.tokenizer.specs.Tokens.{starts}
use Rattle.ft_base.specs.declared.token.Token.{Token}
use Rattle.tokenizer.proofs.StartsLemmas.{starts-token}
use Rattle.tokenizer.specs.steps.StartsLeft.{sentences_in, paragraphs_in}
use Rattle.tokenizer.proofs.starts.Starts.pass_word.Goals as goal

pub returns-clause-sentences : goal.returns-clause-sentences
unfolding sentences_in
returns-clause-sentences c bytes rest =
    let number : Token → _ = λ token. token.sentence in
    let old = c.args.self.now in
    ap (λ l. old.breaks.sentences ++ starts number old.last.sentence (old.words + 1) l) (c.pass_word.ensures.tokens bytes rest)
    ∙ starts-token number old.last.sentence (old.words + 1) _ (tokens_left c.pass_word.new.self rest) old.breaks.sentences
    ∙ ap (λ l. l ++ starts number c.pass_word.new.self.sentence (old.words + 1 + 1) (tokens_left c.pass_word.new.self rest)) (sym c.in_ok-push_start-2.ensures.ok)

pub returns-clause-paragraphs : goal.returns-clause-paragraphs
unfolding paragraphs_in
returns-clause-paragraphs c bytes rest =
    let number : Token → _ = λ token. token.paragraph in
    let old = c.args.self.now in
    ap (λ l. old.breaks.paragraphs ++ starts number old.last.paragraph (old.words + 1) l) (c.pass_word.ensures.tokens bytes rest)
    ∙ starts-token number old.last.paragraph (old.words + 1) _ (tokens_left c.pass_word.new.self rest) old.breaks.paragraphs
    ∙ ap (λ l. l ++ starts number c.pass_word.new.self.paragraph (old.words + 1 + 1) (tokens_left c.pass_word.new.self rest)) (sym c.in_ok-push_start.ensures.ok)
