-- Searches for a place from another one on: where they lead, and what the moves of the sources leave.
use Rattle.std.specs.Prelude.{◌≡◌, ℕ, ◌+◌, ◌*◌, ◌<◌, ◌≤◌, ◌==◌, Bool, true, false, ◌&&◌, IsTrue, List, map, length, Option}
use Rattle.std.specs.List.{list_any, list_all, sum_by}
use Rattle.std.specs.declared.vec.Vec.{Vec}
use Rattle.std.specs.declared.alloc.Global.{Global}
use Rattle.ft_base.specs.declared.hit.Hit.{Hit}
use Rattle.ft_base.specs.Hits.{HitPlace}
use Rattle.place_merges.specs.declared.item.Item.{Item}
use Rattle.place_merges.specs.declared.item.Variant.{Variant}
use Rattle.place_merges.specs.Places.{fits, stands_at, stands_before}
use Rattle.place_merges.specs.Sources.{places_left, wanted, lists_of, is_plain, hits_left, variant_left}

-- the result is the place itself, at which the test holds, or a later one before which it holds nowhere
pub record Leads (test : ℕ → Bool) (place limit result : ℕ) : Type 0 where
  pub from : place ≤ result
  pub to : result ≤ limit
  pub there : result ≡ place → test place ≡ true
  pub none : (other : ℕ) → place ≤ other → other < result → test other ≡ false

-- two tests are the same from the place on
pub record SameFrom (place : ℕ) (new old : ℕ → Bool) : Type 0 where
  pub same : (other : ℕ) → place ≤ other → new other ≡ old other

-- of some sources their lists of hits, whether all are plain, and how many hits they still have
pub record Shown (L : Type 0) : Type 0 where
  pub lists : L
  pub plain : Bool
  pub left : ℕ

-- moves change no list, and of plain sources take two steps at most for each hit that they pass
pub record Moved {L : Type 0} (before after : Shown L) (start end : ℕ) : Type 0 where
  pub lists : after.lists ≡ before.lists
  pub plain : after.plain ≡ before.plain
  pub counted : IsTrue before.plain → end + 2 * after.left ≤ start + 2 * before.left
  pub grown : start ≤ end

-- the same of each element of a list
abbrev pub shown_all : {A L : Type 0} → (A → Shown L) → List A → Shown (List L)
shown_all shown elements = record {
  lists = map (λ element. (shown element).lists) elements;
  plain = list_all (λ element. (shown element).plain) elements;
  left = sum_by (λ element. (shown element).left) elements;
}

-- whether a place is in the list
abbrev pub has : List ℕ → ℕ → Bool
has places place = list_any (λ other. other == place) places

abbrev pub shown_source : {H : Type 0} → (H → HitPlace) → (H → Bool) → H → Shown (List Hit)
shown_source stand plain source = record {
  lists = (stand source).hits;
  plain = plain source;
  left = length (places_left (stand source));
}

abbrev pub shown_sources : {H : Type 0} → (H → HitPlace) → (H → Bool) → List H → Shown (List (List Hit))
shown_sources stand plain sources = shown_all (shown_source stand plain) sources

-- whether one of some sources has a hit at the place
abbrev pub some_has : {H : Type 0} → (H → HitPlace) → List H → ℕ → Bool
some_has stand sources place = list_any (λ source. has (places_left (stand source)) place) sources

abbrev pub shown_item : {H : Type 0} → (H → HitPlace) → (H → Bool) → Item H → Shown (Option (List (List Hit)))
shown_item stand plain item = record { lists = lists_of stand item; plain = is_plain plain item; left = hits_left stand item }

abbrev pub item_fits : {H : Type 0} → (H → HitPlace) → Item H → ℕ → Bool
item_fits stand item place = fits place (wanted stand item)

abbrev pub shown_items : {H : Type 0} → (H → HitPlace) → (H → Bool) → Vec (Item H) Global → Shown (List (Option (List (List Hit))))
shown_items stand plain items = shown_all (shown_item stand plain) items.items

abbrev pub items_stand : {H : Type 0} → (H → HitPlace) → List (Item H) → ℕ → Bool
items_stand stand items place = stands_at place (map (wanted stand) items)

-- whether a variant counts and stands at the place, before the end
abbrev pub variant_stands : {H : Type 0} → (H → HitPlace) → ℕ → Variant H → ℕ → Bool
variant_stands stand to variant place = variant.counts && stands_before to place (map (wanted stand) variant.items.items)

abbrev pub shown_variant : {H : Type 0} → (H → HitPlace) → (H → Bool) → Variant H → Shown (List (Option (List (List Hit))))
shown_variant stand plain variant = record {
  lists = map (lists_of stand) variant.items.items;
  plain = list_all (is_plain plain) variant.items.items;
  left = variant_left stand variant;
}

abbrev pub one_stands : {H : Type 0} → (H → HitPlace) → ℕ → List (Variant H) → ℕ → Bool
one_stands stand to variants place = list_any (λ variant. variant_stands stand to variant place) variants

abbrev pub shown_variants : {H : Type 0} → (H → HitPlace) → (H → Bool) → List (Variant H) → Shown (List (List (Option (List (List Hit)))))
shown_variants stand plain variants = shown_all (shown_variant stand plain) variants
