-- What may be left of the tokens of a span of a document.
use Rattle.std.specs.Prelude.{List}
use Rattle.ft_base.specs.declared.span.Span.{Span}
use Rattle.ft_base.specs.declared.token.Token.{Token}
use Rattle.index_meaning.specs.Documents.{Numbered}
use Rattle.plan_runs.specs.Judgement.{HaveWordsOf}
use Rattle.plan_runs.specs.steps.AskedSpans.{AskedSpan, IsAsked, tokens_in}
use Rattle.plan_runs.specs.steps.Skips.{IsWithin}

-- tokens with words of a span alone, which lies in a part of the document
pub record AreLeft (version : List Numbered) (part : Span) (asked : AskedSpan) (tokens : List Token) : Type 0 where
  pub there : IsAsked version asked
  pub within : IsWithin part asked.span
  pub words : HaveWordsOf tokens (tokens_in version asked)
