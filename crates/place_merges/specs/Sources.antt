-- What the items of a phrase's variants want, read off the sources of their hits.
use Rattle.std.specs.Prelude.{ℕ, Bool, true, cond, List, filter, map, length, drop, Option, Some, None}
use Rattle.std.specs.List.{list_all, sum_by}
use Rattle.ft_base.specs.declared.hit.Hit.{Hit}
use Rattle.ft_base.specs.Hits.{HitPlace}
use Rattle.place_merges.specs.declared.item.Item.{Item}
use Rattle.place_merges.specs.declared.item.Item.TheVariants.{Any, Of}
use Rattle.place_merges.specs.declared.item.Variant.{Variant}
use Rattle.place_merges.specs.Places.{Wanted, any_word, one_of}

-- the first words of the hits from the place on
abbrev pub places_left : HitPlace → List ℕ
places_left at = map (λ hit. hit.from) (drop at.place at.hits)

-- what an item wants: a word at the first word of a hit that one of its sources still has
abbrev pub wanted : {H : Type 0} → (H → HitPlace) → Item H → Wanted
wanted stand Any = any_word
wanted stand (Of sources) = one_of (map (λ source. places_left (stand source)) sources.items)

-- what the words of the variants that count want
abbrev pub wanted_words : {H : Type 0} → (H → HitPlace) → List (Variant H) → List (List Wanted)
wanted_words stand variants = map (λ variant. map (wanted stand) variant.items.items) (filter (λ variant. variant.counts) variants)

-- the lists of hits of an item's sources, which moves never change
abbrev pub lists_of : {H : Type 0} → (H → HitPlace) → Item H → Option (List (List Hit))
lists_of stand Any = None
lists_of stand (Of sources) = Some (map (λ source. (stand source).hits) sources.items)

abbrev pub all_lists : {H : Type 0} → (H → HitPlace) → List (Variant H) → List (List (Option (List (List Hit))))
all_lists stand variants = map (λ variant. map (lists_of stand) variant.items.items) variants

-- whether an item's sources are all plain
abbrev pub is_plain : {H : Type 0} → (H → Bool) → Item H → Bool
is_plain plain Any = true
is_plain plain (Of sources) = list_all plain sources.items

abbrev pub all_plain : {H : Type 0} → (H → Bool) → List (Variant H) → Bool
all_plain plain variants = list_all (λ variant. list_all (is_plain plain) variant.items.items) variants

-- how many hits the sources still have
abbrev pub hits_left : {H : Type 0} → (H → HitPlace) → Item H → ℕ
hits_left stand Any = 0
hits_left stand (Of sources) = sum_by (λ source. length (places_left (stand source))) sources.items

-- how many those of the variants that count still have
abbrev pub variant_left : {H : Type 0} → (H → HitPlace) → Variant H → ℕ
variant_left stand variant = cond variant.counts (sum_by (hits_left stand) variant.items.items) 0

abbrev pub all_left : {H : Type 0} → (H → HitPlace) → List (Variant H) → ℕ
all_left stand variants = sum_by (variant_left stand) variants
