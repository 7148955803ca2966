-- How far spans reach, by the places at which they begin.
use Rattle.std.specs.Prelude.{ℕ, max, nat_eq, nat_le, if◌then◌else◌, List, [], ◌∷◌}
use Rattle.ft_base.specs.declared.span.Span.{Span}

-- the farthest end of the spans that begin at a place, 0 where none does
abbrev pub end_at : List Span → ℕ → ℕ
end_at [] place = 0
end_at (span ∷ rest) place = if nat_eq span.from place then max span.to (end_at rest place) else end_at rest place

-- the same of those that begin there or before
abbrev pub end_up_to : List Span → ℕ → ℕ
end_up_to [] place = 0
end_up_to (span ∷ rest) place = if nat_le span.from place then max span.to (end_up_to rest place) else end_up_to rest place
