-- A small text, for the examples.
use Rattle.std.specs.Prelude.{ℕ, List, map, Option}
use Rattle.ft_base.specs.declared.span.Span.{Span}
use Rattle.counted_shapes.specs.Examples.{asked}
use Rattle.counted_shapes.specs.Shapes.{Counted}
use Rattle.place_merges.specs.Places.{Wanted}
use Rattle.count_merges.specs.Groups.{group_spots, told_hit}

-- a text of seven words
abbrev pub text : Span
text = record { from = 1; to = 8 }

-- so many hits of these variants, which have so many words
abbrev pub asked_of : ℕ → Option ℕ → ℕ → List (List Wanted) → Counted
asked_of least most words variants = asked least most (map (told_hit (λ place. place)) (group_spots text words variants))
