-- What a window that ends at a number holds of some items, by the spots that it has passed.
use Rattle.std.specs.Prelude.{◌≡◌, ℕ, ◌+◌, ◌-◌, ◌*◌, ◌^◌, ◌<◌, ◌≤◌, ◌==◌, Bool, ◌&&◌, ◌||◌, nat_le, nat_lt, cond, max, min, List, filter, length, map, Option}
use Rattle.std.specs.List.{list_all, sum_by}
use Rattle.ft_base.specs.Hits.{HitPlace}
use Rattle.place_merges.specs.declared.item.Variant.{Variant}
use Rattle.place_merges.specs.declared.spot.Spot.{Spot}
use Rattle.place_merges.specs.Spots.{spot}
use Rattle.place_merges.specs.steps.Searching.{Shown}
use Rattle.spot_merges.specs.steps.Covering.{spots_ahead}
use Rattle.counted_shapes.specs.Shapes.{is_at_most}
use Rattle.count_merges.specs.declared.item.CountedItem.{CountedItem}
use Rattle.count_merges.specs.declared.item.VariantGroup.{VariantGroup}
use Rattle.count_merges.specs.declared.passing.Passed.{Passed}
use Rattle.count_merges.specs.declared.window.Window.{Window}
use Rattle.count_merges.specs.Groups.{VariantLists, group_left, group_lists, is_group_plain, item_lists}

-- the end of the first window of a size that has passed so many words at a place
abbrev pub event : (ℕ → ℕ) → ℕ → ℕ → ℕ → ℕ
event unit size words place = max (unit (place + (words - 1))) (unit place + size)

-- the same as far as they end with the text
abbrev pub next_event : (ℕ → ℕ) → ℕ → ℕ → ℕ → ℕ → ℕ
next_event unit size words to place = cond ((words == 0) || nat_lt (to - place) words) (2 ^ 64 - 1) (event unit size words place)

abbrev pub none_passed : (ℕ → ℕ) → ℕ → ℕ → ℕ → ℕ → Passed
none_passed unit size words to from = record { count = 0; lead = spot from 0; event = next_event unit size words to from }

-- whether a spot has so many words, and is passed by the window that ends at the number
abbrev pub is_passed : (ℕ → ℕ) → ℕ → ℕ → ℕ → Spot → Bool
is_passed unit size words last at = (at.words == words) && nat_le (event unit size words at.place) last

-- how many spots that window has passed: those that were, and those ahead of them that it passes
abbrev pub passed_by : {H : Type 0} → (H → HitPlace) → (ℕ → ℕ) → ℕ → ℕ → ℕ → List (Variant H) → Passed → ℕ → ℕ
passed_by stand unit size words to variants passed last = passed.count + length (filter (is_passed unit size words last) (spots_ahead stand to variants passed.lead))

-- whether the search led to within the text, no more spots were counted than there are before, and the event is that of the place
abbrev pub is_sound : (ℕ → ℕ) → ℕ → ℕ → ℕ → Passed → Bool
is_sound unit size words to passed =
    nat_le (passed.lead.place + passed.lead.words) to
    && (nat_le passed.count (passed.lead.place * 2 ^ 32 + passed.lead.words) && (passed.event == next_event unit size words to passed.lead.place))

abbrev pub count_with : ℕ → ℕ → Spot → ℕ
count_with words count at = cond (nat_lt 0 at.words && (at.words == words)) (count + 1) count

-- two counts are the same of windows that end at the number or after it
pub record SameCounts (last : ℕ) (new old : ℕ → ℕ) : Type 0 where
  pub same : (other : ℕ) → last ≤ other → new other ≡ old other

-- a count is so much from one number up to another
pub record Stays (count : ℕ → ℕ) (last until much : ℕ) : Type 0 where
  pub ahead : last < until
  pub stays : (other : ℕ) → last ≤ other → other < until → count other ≡ much

-- ---- groups and items

-- whether this is known of both passes of a group. A hit has come in where it has gone out of windows of no size
abbrev pub is_group_sound : {H : Type 0} → (ℕ → ℕ) → Window → VariantGroup H → Bool
is_group_sound unit window group = is_sound unit 0 group.words window.to group.come && is_sound unit window.size group.words window.to group.gone

abbrev pub is_item_sound : {H : Type 0} → (ℕ → ℕ) → Window → CountedItem H → Bool
is_item_sound unit window item = list_all (is_group_sound unit window) item.groups.items

-- how many hits of a group are in the window that ends at the number: those that have come in, but for those that have gone out
abbrev pub held : {H : Type 0} → (H → HitPlace) → (ℕ → ℕ) → Window → VariantGroup H → ℕ → ℕ
held stand unit window group last =
    passed_by stand unit 0 group.words window.to group.front.items group.come last - passed_by stand unit window.size group.words window.to group.back.items group.gone last

-- those of several groups
abbrev pub held_together : {H : Type 0} → (H → HitPlace) → (ℕ → ℕ) → Window → List (VariantGroup H) → ℕ → ℕ
held_together stand unit window groups last = sum_by (λ group. held stand unit window group last) groups

-- the same as far as a count goes
abbrev pub count_together : {H : Type 0} → (H → HitPlace) → (ℕ → ℕ) → Window → List (VariantGroup H) → ℕ → ℕ
count_together stand unit window groups last = min (held_together stand unit window groups last) (2 ^ 64 - 1)

-- whether there are as many of an item as are asked for
abbrev pub holds_item : {H : Type 0} → (H → HitPlace) → (ℕ → ℕ) → Window → CountedItem H → ℕ → Bool
holds_item stand unit window item last =
    nat_le item.least (held_together stand unit window item.groups.items last) && is_at_most item.most (held_together stand unit window item.groups.items last)

abbrev pub holds_all : {H : Type 0} → (H → HitPlace) → (ℕ → ℕ) → Window → List (CountedItem H) → ℕ → Bool
holds_all stand unit window items last = list_all (λ item. holds_item stand unit window item last) items

abbrev pub shown_group : {H : Type 0} → (H → HitPlace) → (H → Bool) → VariantGroup H → Shown (ℕ × VariantLists × VariantLists)
shown_group stand plain group = record { lists = group_lists stand group; plain = is_group_plain plain group; left = group_left stand group }

abbrev pub shown_item : {H : Type 0} → (H → HitPlace) → (H → Bool) → CountedItem H → Shown (ℕ × Option ℕ × List (ℕ × VariantLists × VariantLists))
shown_item stand plain item = record {
  lists = item_lists stand item;
  plain = list_all (is_group_plain plain) item.groups.items;
  left = sum_by (group_left stand) item.groups.items;
}

-- ---- before the first window of a text

-- a group of which no spots are passed
abbrev pub started : {H : Type 0} → (ℕ → ℕ) → Window → ℕ → VariantGroup H → VariantGroup H
started unit window from group = record {
  words = group.words;
  front = group.front;
  back = group.back;
  come = none_passed unit 0 group.words window.to from;
  gone = none_passed unit window.size group.words window.to from;
}

-- an item by its parts, with its groups as a list
pub record Parts (G : Type 0) : Type 0 where
  pub least : ℕ
  pub most : Option ℕ
  pub groups : List G

abbrev pub parts_of : {H : Type 0} → CountedItem H → Parts (VariantGroup H)
parts_of item = record { least = item.least; most = item.most; groups = item.groups.items }

abbrev pub started_parts : {H : Type 0} → (ℕ → ℕ) → Window → ℕ → Parts (VariantGroup H) → Parts (VariantGroup H)
started_parts unit window from item = record { least = item.least; most = item.most; groups = map (started unit window from) item.groups }
