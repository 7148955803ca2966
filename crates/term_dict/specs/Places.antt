-- Where an entry stands, or would stand, among entries in order.
use Rattle.std.specs.Prelude.{◌≤◌, ℕ, Bool, false, not, ◌||◌, List, length, filter, slice_get, zero, suc}
use Rattle.std.specs.Option.{option_map_or}
use Rattle.std.specs.Ordering.{is_lt, is_eq, is_gt, is_le}
use Rattle.index_meaning.specs.Entries.{Entry, entry_cmp, text_cmp}
use Rattle.term_dict.specs.declared.places.Place.{Place}
use Rattle.term_dict.specs.declared.places.Place.TheVariants.{AtEntry, AtKey, AfterKey}

-- whether the second entry stands before a place of the first: of its own, of the first one with its key, or of the one after the last with its key
abbrev pub stands_before : Place → Entry → Entry → Bool
stands_before AtEntry e f = is_gt (entry_cmp e f)
stands_before AtKey e f = is_lt (text_cmp f.key e.key)
stands_before AfterKey e f = is_le (text_cmp f.key e.key)

-- how many of the entries do
abbrev pub count_before : Place → Entry → List Entry → ℕ
count_before place e entries = length (filter (stands_before place e) entries)

-- the place is between these numbers
pub record IsWindow (place : Place) (e : Entry) (entries : List Entry) (low high : ℕ) : Type 0 where
  pub within : high ≤ length entries
  pub from : low ≤ count_before place e entries
  pub to : count_before place e entries ≤ high

-- whether the entry of that number has this key
abbrev pub has_key_at : List ℕ → ℕ → List Entry → Bool
has_key_at key number entries = option_map_or (λ f. is_eq (text_cmp f.key key)) (slice_get entries number) false

-- whether an entry with the key that comes to that place would have no neighbour with the same key
abbrev pub brings_key : List ℕ → ℕ → List Entry → Bool
brings_key key zero entries = not (has_key_at key 0 entries)
brings_key key (suc number) entries = not (has_key_at key number entries || has_key_at key (suc number) entries)
