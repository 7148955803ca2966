-- The part of a span in which the hits of a phrase lie that lie in some bounds.
use Rattle.std.specs.Prelude.{ℕ, ◌-◌, Bool, not, ◌&&◌, ◌||◌, nat_le, List, map, filter}
use Rattle.ft_base.specs.declared.hit.Hit.{Hit}
use Rattle.ft_base.specs.declared.places.Breaks.{Breaks}
use Rattle.ft_base.specs.declared.span.Span.{Span}
use Rattle.ft_operators.specs.Bounds.{is_before}
use Rattle.ft_operators.specs.declared.bounds.Bounds.{Bounds}
use Rattle.place_merges.specs.Places.{Wanted}
use Rattle.place_merges.specs.Spots.{some_at, spots_between}
use Rattle.index_phrases.specs.Phrases.{numbered_hit, own_number}

-- whether a hit of the phrase of that number begins in the bounds where it begins at the place
abbrev pub may_begin : Bounds → ℕ → Breaks → Span → ℕ → Bool
may_begin bounds number breaks span place =
    nat_le bounds.words.from (place - (span.from - 1))
    && ((nat_le bounds.sentences.from (own_number breaks.sentences span.from place) && nat_le bounds.paragraphs.from (own_number breaks.paragraphs span.from place))
    && (nat_le bounds.order.from (place - (span.from - 1)) || nat_le number bounds.order.query))

-- whether it ends in them where it ends at the place
abbrev pub may_end : Bounds → Breaks → Span → ℕ → Bool
may_end bounds breaks span place =
    is_before bounds.words.to (place - (span.from - 1))
    && (is_before bounds.sentences.to (own_number breaks.sentences span.from place) && is_before bounds.paragraphs.to (own_number breaks.paragraphs span.from place))

-- the hits on the spots of a part of the span at which one of the variants stands, in the numbers of the span
abbrev pub hits_in_part : ℕ → Breaks → Span → Span → List (List Wanted) → List Hit
hits_in_part number breaks span part variants = map (numbered_hit number breaks span) (filter (some_at part.to variants) (spots_between part.from part.to))
