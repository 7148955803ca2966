-- A part of a list of tokens, with its sentences and paragraphs counted from 1 again.
use Rattle.std.specs.Prelude.{◌+◌, ◌-◌, List, [], ◌∷◌, map, slice_range}
use Rattle.ft_base.specs.declared.span.Span.{Span}
use Rattle.ft_base.specs.declared.token.Token.{Token}

-- the token, where `first` is in sentence 1 and paragraph 1
abbrev pub counted_from : Token → Token → Token
counted_from first token =
    record token { sentence = token.sentence + 1 - first.sentence; paragraph = token.paragraph + 1 - first.paragraph }

abbrev pub renumbered : List Token → List Token
renumbered [] = []
renumbered (first ∷ rest) = map (counted_from first) (first ∷ rest)

-- the tokens at the places of the span, which count from 1
abbrev pub part : List Token → Span → List Token
part tokens span = renumbered (slice_range tokens (span.from - 1) (span.to - 1))
