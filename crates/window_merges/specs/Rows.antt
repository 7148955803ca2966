-- Single words, each with the sources of its hits.
use Rattle.std.specs.Prelude.{ℕ, Bool, ◌&&◌, nat_le, nat_lt, List, map, filter, flat_map, length}
use Rattle.std.specs.List.{list_all, sum_by}
use Rattle.std.specs.declared.vec.Vec.{Vec}
use Rattle.std.specs.declared.alloc.Global.{Global}
use Rattle.ft_base.specs.declared.hit.Hit.{Hit}
use Rattle.ft_base.specs.declared.span.Span.{Span}
use Rattle.ft_base.specs.Hits.{HitPlace}
use Rattle.place_merges.specs.Sources.{places_left}

-- the places of a span at which the hits begin that some sources still have
abbrev pub places_in : {H : Type 0} → (H → HitPlace) → Span → List H → List ℕ
places_in stand span sources = filter (λ place. nat_le span.from place && nat_lt place span.to) (flat_map (λ source. places_left (stand source)) sources)

-- those of each word
abbrev pub all_places : {H : Type 0} → (H → HitPlace) → Span → List (Vec H Global) → List (List ℕ)
all_places stand span words = map (λ word. places_in stand span word.items) words

-- the lists of hits of each word, which moves never change
abbrev pub word_lists : {H : Type 0} → (H → HitPlace) → List (Vec H Global) → List (List (List Hit))
word_lists stand words = map (λ word. map (λ source. (stand source).hits) word.items) words

-- whether all sources are plain
abbrev pub words_plain : {H : Type 0} → (H → Bool) → List (Vec H Global) → Bool
words_plain plain words = list_all (λ word. list_all plain word.items) words

-- how many hits the sources still have
abbrev pub words_left : {H : Type 0} → (H → HitPlace) → List (Vec H Global) → ℕ
words_left stand words = sum_by (λ word. sum_by (λ source. length (places_left (stand source))) word.items) words
