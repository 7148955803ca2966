-- The hits of single words in a span of a document: one for each of its places, with its sentence and its paragraph.
use Rattle.std.specs.Prelude.{ℕ, ◌-◌, Bool, true, ◌&&◌, nat_lt, nat_le, List, filter, map, drop, take_while}
use Rattle.std.specs.List.{count_by, range_with_len}
use Rattle.ft_base.specs.declared.hit.Hit.{Hit}
use Rattle.ft_base.specs.declared.places.Breaks.{Breaks}
use Rattle.ft_base.specs.declared.span.Span.{Span}
use Rattle.ft_base.specs.Hits.{HitPlace, hit_place}

-- how many of these sentences or paragraphs start at the place or before it: the number of the one around it
abbrev pub started : List ℕ → ℕ → ℕ
started starts place = count_by (λ start. nat_le start place) starts

-- the hit of one word at a place
abbrev pub word_hit : Breaks → ℕ → Hit
word_hit breaks place = record {
  query = 0;
  from = place;
  to = place;
  sent_from = started breaks.sentences place;
  sent_to = started breaks.sentences place;
  para_from = started breaks.paragraphs place;
  para_to = started breaks.paragraphs place;
  whole = true;
}

-- whether the place is in the span
abbrev pub is_inside : Span → ℕ → Bool
is_inside span place = nat_le span.from place && nat_lt place span.to

-- one hit for each of the places that is in the span
abbrev pub hits_in : Breaks → Span → List ℕ → List Hit
hits_in breaks span places = map (word_hit breaks) (filter (is_inside span) places)

-- one hit for each place of the span
abbrev pub words_in : Breaks → Span → List Hit
words_in breaks span = map (word_hit breaks) (range_with_len span.from (span.to - span.from))

-- how many of the places are before a position
abbrev pub below : ℕ → List ℕ → ℕ
below position places = count_by (λ place. nat_lt place position) places

-- whether the place is before both positions
abbrev pub is_before_both : ℕ → ℕ → ℕ → Bool
is_before_both from to place = nat_lt place from && nat_lt place to

-- what a cursor stands for: the hits of the places from that number on, up to the end of the span
abbrev pub places_up_to : ℕ → ℕ → List ℕ → List ℕ
places_up_to to first places = take_while (λ place. nat_lt place to) (drop first places)

abbrev pub cursor_place : Breaks → ℕ → ℕ → ℕ → List ℕ → HitPlace
cursor_place breaks to first at places = hit_place (map (word_hit breaks) (places_up_to to first places)) (at - first)
