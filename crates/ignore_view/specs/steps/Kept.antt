-- What is kept of a span, as places and as parts without a hole, and the places among those kept at which sentences start.
use Rattle.std.specs.Prelude.{◌≤◌, ℕ, ◌+◌, ◌==◌, Bool, false, not, List, [], ◌∷◌, ◌++◌, filter, if◌then◌else◌, Option, Some}
use Rattle.std.specs.List.{flat_map}
use Rattle.std.specs.Option.{option_map_or}
use Rattle.ft_base.specs.declared.span.Span.{Span}
use Rattle.all_matches.specs.Spans.{places_in}
use Rattle.ignore_view.specs.Without.{is_left_out}
use Rattle.ignore_view.specs.declared.starts.Walk.{Walk}

-- the places of the span that aren't left out, in order
abbrev pub kept_places : Span → List Span → List ℕ
kept_places span holes = filter (λ place. not (is_left_out holes place)) (places_in span)

-- the first place of a part
abbrev pub first_place : Span → ℕ
first_place part = part.from

-- the span from one place up to another
abbrev pub part_between : ℕ → ℕ → Span
part_between from to = record { from = from; to = to }

-- the places of parts of a text, one part after the other
abbrev pub places_of : List Span → List ℕ
places_of parts = flat_map places_in parts

-- a part of the span
pub record IsPart (span part : Span) : Type 0 where
  pub first : span.from ≤ part.from
  pub order : part.from ≤ part.to
  pub last : part.to ≤ span.to

-- whether the number is that of the place before; before the first place there is none
abbrev pub is_number : Option ℕ → ℕ → Bool
is_number before number = option_map_or (λ other. number == other) before false

-- where a number stands that isn't that of the place before, of places that count from this one on
unfoldable pub changes : Option ℕ → ℕ → List ℕ → List ℕ
changes before place [] = []
changes before place (number ∷ rest) = (if is_number before number then [] else place ∷ []) ++ changes (Some number) (place + 1) rest

-- what a walk has found, where the next places have these numbers
abbrev pub found_with : Walk → List ℕ → List ℕ
found_with walk numbers = walk.found ++ changes walk.number (walk.passed + 1) numbers
