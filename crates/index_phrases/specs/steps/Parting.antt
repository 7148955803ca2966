-- The first place of a span that is past one of two edges of bounds, and the part of the span between both.
use Rattle.std.specs.Prelude.{◌≡◌, ℕ, ◌+◌, ◌<◌, ◌≤◌, Bool, true, false, not}
use Rattle.ft_base.specs.declared.places.Breaks.{Breaks}
use Rattle.ft_base.specs.declared.span.Span.{Span}
use Rattle.ft_operators.specs.declared.bounds.Bounds.{Bounds}
use Rattle.index_phrases.specs.Parts.{may_begin, may_end}
use Rattle.index_phrases.specs.declared.part.Edge.{Edge}
use Rattle.index_phrases.specs.declared.part.Edge.TheVariants as E

-- whether a place is past an edge of the bounds: a hit may begin there, or none may end there
abbrev pub is_past : Edge → Bounds → ℕ → Breaks → Span → ℕ → Bool
is_past E.Begin bounds number breaks span place = may_begin bounds number breaks span place
is_past E.End bounds number breaks span place = not (may_end bounds breaks span place)

-- the first place from one on at which a test holds, which holds at all later ones before another
pub record IsFirst (test : ℕ → Bool) (from to result : ℕ) : Type 0 where
  pub before : (place : ℕ) → from ≤ place → place < result → test place ≡ false
  pub there : (place : ℕ) → result ≤ place → place < to → test place ≡ true

-- what the search keeps: before `low` the test fails, and from `size` places on it holds
pub record IsSearched (test : ℕ → Bool) (from to low size : ℕ) : Type 0 where
  pub begin : from ≤ low
  pub end : low + size ≤ to
  pub before : (place : ℕ) → from ≤ place → place < low → test place ≡ false
  pub there : (place : ℕ) → low + size ≤ place → place < to → test place ≡ true

-- the part of a span from the first place at which a hit may begin, up to the first at which none may end
pub record IsPart (bounds : Bounds) (number : ℕ) (breaks : Breaks) (span part : Span) : Type 0 where
  pub first : span.from ≤ part.from
  pub last : part.to ≤ span.to
  pub begins : IsFirst (is_past E.Begin bounds number breaks span) span.from span.to part.from
  pub ends : IsFirst (is_past E.End bounds number breaks span) span.from span.to part.to
