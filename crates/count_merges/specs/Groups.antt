-- What is counted of phrases, read off the sources of their hits.
use Rattle.std.specs.Prelude.{ℕ, ◌+◌, ◌-◌, ◌==◌, Bool, ◌&&◌, true, List, map, filter, flat_map, Option}
use Rattle.std.specs.List.{list_all, sum_by}
use Rattle.ft_base.specs.declared.hit.Hit.{Hit}
use Rattle.ft_base.specs.declared.span.Span.{Span}
use Rattle.ft_base.specs.Hits.{HitPlace}
use Rattle.all_matches.specs.Counting.{by_length}
use Rattle.place_merges.specs.declared.spot.Spot.{Spot}
use Rattle.place_merges.specs.Places.{Wanted}
use Rattle.place_merges.specs.Sources.{all_left, all_lists, all_plain, wanted_words}
use Rattle.spot_merges.specs.Edges.{spots_of}
use Rattle.counted_shapes.specs.Shapes.{Counted}
use Rattle.count_merges.specs.declared.item.CountedItem.{CountedItem}
use Rattle.count_merges.specs.declared.item.VariantGroup.{VariantGroup}

-- the hit on a spot, told in the numbers that some units give to places, whichever units these are
abbrev pub told_hit : (ℕ → ℕ) → Spot → Hit
told_hit unit at = record {
  query = 0;
  from = unit at.place;
  to = unit (at.place + (at.words - 1));
  sent_from = unit at.place;
  sent_to = unit (at.place + (at.words - 1));
  para_from = unit at.place;
  para_to = unit (at.place + (at.words - 1));
  whole = true;
}

-- the spots of so many words at which one of the variants stands
abbrev pub group_spots : Span → ℕ → List (List Wanted) → List Spot
group_spots span words variants = filter (λ at. at.words == words) (spots_of span variants)

-- what is counted of an item: the hits of all its groups
abbrev pub counted : {H : Type 0} → (H → HitPlace) → (ℕ → ℕ) → Span → CountedItem H → Counted
counted stand unit span item = record {
  hits = flat_map (λ group. map (told_hit unit) (group_spots span group.words (wanted_words stand group.front.items))) item.groups.items;
  least = item.least;
  most = item.most;
}

abbrev pub all_counted : {H : Type 0} → (H → HitPlace) → (ℕ → ℕ) → Span → List (CountedItem H) → List Counted
all_counted stand unit span items = map (counted stand unit span) items

-- phrases by their variants, and how many hits of them are asked for
pub record AskedPhrases : Type 0 where
  pub least : ℕ
  pub most : Option ℕ
  pub phrases : List (List (List Wanted))

-- what is counted of them: each spot of each phrase
abbrev pub phrases_counted : (ℕ → ℕ) → Span → AskedPhrases → Counted
phrases_counted unit span asked = record {
  hits = flat_map (λ variants. map (told_hit unit) (spots_of span variants)) asked.phrases;
  least = asked.least;
  most = asked.most;
}

-- the bounds of an item, and its groups by what the words of their fronts want
abbrev pub item_parts : {H : Type 0} → (H → HitPlace) → CountedItem H → ℕ × Option ℕ × List (ℕ × List (List Wanted))
item_parts stand item = (item.least, item.most, map (λ group. (group.words, wanted_words stand group.front.items)) item.groups.items)

-- the same of phrases whose variants are put into groups by their lengths
abbrev pub asked_parts : AskedPhrases → ℕ × Option ℕ × List (ℕ × List (List Wanted))
asked_parts asked = (asked.least, asked.most, flat_map by_length asked.phrases)

-- what the words of the fronts want, and those of the backs
abbrev pub fronts_of : {H : Type 0} → (H → HitPlace) → List (CountedItem H) → List (List (List (List Wanted)))
fronts_of stand items = map (λ item. map (λ group. wanted_words stand group.front.items) item.groups.items) items

abbrev pub backs_of : {H : Type 0} → (H → HitPlace) → List (CountedItem H) → List (List (List (List Wanted)))
backs_of stand items = map (λ item. map (λ group. wanted_words stand group.back.items) item.groups.items) items

-- the lists of hits of some variants' items
abbrev pub VariantLists : Type 0
VariantLists = List (List (Option (List (List Hit))))

-- what moves never change of a group: how many words it counts, and the lists of its sources
abbrev pub group_lists : {H : Type 0} → (H → HitPlace) → VariantGroup H → ℕ × VariantLists × VariantLists
group_lists stand group = (group.words, all_lists stand group.front.items, all_lists stand group.back.items)

-- and of an item: its bounds, and what stays of its groups
abbrev pub item_lists : {H : Type 0} → (H → HitPlace) → CountedItem H → ℕ × Option ℕ × List (ℕ × VariantLists × VariantLists)
item_lists stand item = (item.least, item.most, map (group_lists stand) item.groups.items)

abbrev pub lists_of_items : {H : Type 0} → (H → HitPlace) → List (CountedItem H) → List (ℕ × Option ℕ × List (ℕ × VariantLists × VariantLists))
lists_of_items stand items = map (item_lists stand) items

-- whether all sources are plain
abbrev pub is_group_plain : {H : Type 0} → (H → Bool) → VariantGroup H → Bool
is_group_plain plain group = all_plain plain group.front.items && all_plain plain group.back.items

abbrev pub items_plain : {H : Type 0} → (H → Bool) → List (CountedItem H) → Bool
items_plain plain items = list_all (λ item. list_all (is_group_plain plain) item.groups.items) items

-- how many hits the sources still have, those of the fronts and those of the backs
abbrev pub group_left : {H : Type 0} → (H → HitPlace) → VariantGroup H → ℕ
group_left stand group = all_left stand group.front.items + all_left stand group.back.items

abbrev pub items_left : {H : Type 0} → (H → HitPlace) → List (CountedItem H) → ℕ
items_left stand items = sum_by (λ item. sum_by (group_left stand) item.groups.items) items
