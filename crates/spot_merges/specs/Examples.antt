-- Small spots and hits, for the examples.
use Rattle.std.specs.Prelude.{ℕ, true, List}
use Rattle.ft_base.specs.declared.filter.Filter.TheVariants as F
use Rattle.ft_base.specs.declared.hit.Hit.{Hit}
use Rattle.ft_base.specs.declared.span.Span.{Span}
use Rattle.ft_base.specs.declared.unit.TextUnit.TheVariants.{Words}
use Rattle.all_matches.specs.Ways.{Operator, negated, phrase, through_filter, together}

-- a text of six words
abbrev pub item : Span
item = record { from = 1; to = 7 }

-- the hit from one word to another
abbrev pub hit : ℕ → ℕ → Hit
hit from to = record { query = 1; from = from; to = to; sent_from = 1; sent_to = 1; para_from = 1; para_to = 1; whole = true }

-- a phrase without another one in a window of so many words
abbrev pub without : ℕ → List Hit → List Hit → Operator
without size left right = through_filter (together (phrase left) (negated (phrase right))) (F.Window size Words)
