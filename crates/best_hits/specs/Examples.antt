-- What is shown of texts, for examples.
use Rattle.std.specs.Prelude.{ℕ, ◌+◌, List}
use Rattle.ft_base.specs.declared.span.Span.{Span}
use Rattle.ft_base.specs.declared.token.Token.{Token}
use Rattle.ft_base.specs.Selection.{no_options, Form}
use Rattle.all_matches.specs.Examples.{plain, span}
use Rattle.best_hits.specs.Best.{best, spans_of}

-- the places of the best hits of a selection
abbrev pub shown : Form → List Token → List Span
shown form tokens = spans_of (best plain no_options 1 tokens form)

-- one place, and the places from one to another
abbrev pub place : ℕ → Span
place n = span n (n + 1)

abbrev pub places : ℕ → ℕ → Span
places from to = span from (to + 1)
