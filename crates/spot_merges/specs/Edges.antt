-- The spots of a span at which a phrase stands, and those at its edges.
use Rattle.std.specs.Prelude.{ℕ, suc, ◌+◌, ◌-◌, ◌==◌, Bool, false, ◌&&◌, ◌||◌, nat_lt, cond, List, filter, length, Option, Some, None}
use Rattle.std.specs.Option.{option_map_or}
use Rattle.ft_base.specs.declared.hit.Hit.{Hit}
use Rattle.ft_base.specs.declared.filter.Filter.{Filter}
use Rattle.ft_base.specs.declared.filter.Filter.TheVariants as F
use Rattle.ft_base.specs.declared.span.Span.{Span}
use Rattle.place_merges.specs.Places.{Wanted, stands_at}
use Rattle.place_merges.specs.Spots.{some_at, spots_between}
use Rattle.place_merges.specs.declared.spot.Spot.{Spot}
use Rattle.spot_merges.specs.declared.edge.Edge.{Edge}
use Rattle.spot_merges.specs.declared.edge.Edge.TheVariants.{Start, End, Both}

-- the spots at which one of the variants stands
abbrev pub spots_of : Span → List (List Wanted) → List Spot
spots_of span variants = filter (some_at span.to variants) (spots_between span.from span.to)

-- whether a spot begins with the first word of a span, ends with its last one, or does both
abbrev pub is_at : Edge → Span → Spot → Bool
is_at Start span at = at.place == span.from
is_at End span at = at.place + at.words == span.to
is_at Both span at = (at.place == span.from) && (at.place + at.words == span.to)

-- the place at which so many words of a span stand at an edge of it, if they do
abbrev pub place_at : Edge → Span → ℕ → Option ℕ
place_at Start span words = Some span.from
place_at End span words = Some (span.to - words)
place_at Both span words = cond (words == span.to - span.from) (Some span.from) None

-- the same of any number of words: none don't stand anywhere, and more than the span has don't stand in it
abbrev pub edge_place : Edge → Span → ℕ → Option ℕ
edge_place edge span words = cond ((words == 0) || nat_lt (span.to - span.from) words) None (place_at edge span words)

-- whether the words of a variant stand at an edge of a span
abbrev pub stands_at_edge : Edge → Span → List Wanted → Bool
stands_at_edge edge span variant = option_map_or (λ place. stands_at place variant) (edge_place edge span (length variant)) false

-- the same of a hit
abbrev pub hit_is_at : Edge → Span → Hit → Bool
hit_is_at Start item hit = hit.from == item.from
hit_is_at End item hit = suc hit.to == item.to
hit_is_at Both item hit = (hit.from == item.from) && (suc hit.to == item.to)

-- the filter that asks for this
abbrev pub edge_filter : Edge → Filter
edge_filter Start = F.AtStart
edge_filter End = F.AtEnd
edge_filter Both = F.EntireContent
