-- What is kept up to the place is in the parts, and what is kept after it is in no hole that is to come.
use Rattle.std.proofs.Common.{◌≡◌, ◌≤◌, ◌++◌, drop}
use Rattle.std.specs.List.{All}
use Rattle.ignore_view.specs.steps.Kept.{IsPart, kept_places, part_between, places_of}
use Rattle.ignore_view.proofs.parts.kept_parts.Given as goal

abbrev pub invariant-loop-hole : goal.invariant-loop-hole
invariant-loop-hole l = record {
  first : l.fn.span.from ≤ l.at;
  last : l.at ≤ l.fn.span.to;
  places : places_of l.parts.items ++ kept_places (part_between l.at l.fn.span.to) (drop l.hole-index l.hole-items) ≡ kept_places l.fn.span l.holes;
  within : All (IsPart l.fn.span) l.parts.items;
}
