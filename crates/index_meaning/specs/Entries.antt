-- The entries of a dictionary: words, each with the key under which it is found.
use Rattle.std.specs.Prelude.{ℕ, ◌+◌, Bool, true, false, cond, not, ◌&&◌, ◌==◌, List, [], ◌∷◌, length, filter, slice_get, Option, Some, None}
use Rattle.std.specs.Option.{option_map, option_map_or}
use Rattle.std.specs.Ordering.{is_lt, is_eq, nat_cmp, ordering_then}
use Rattle.std.specs.declared.cmp.Ordering.{Ordering}
use Rattle.std.specs.Cmp.Lexicographic.{slice_cmp}
use Rattle.std.specs.List.{list_all, list_any}
use Rattle.std.specs.declared.cmp.Ordering.TheVariants.{Less, Equal, Greater}
use Rattle.ft_base.specs.declared.span.Span.{Span}

-- a word and its key, as their bytes
pub record Entry : Type 0 where
  pub key : List ℕ
  pub word : List ℕ

abbrev pub entry : List ℕ → List ℕ → Entry
entry key word = record { key = key; word = word }

-- the order of texts: the first byte that differs decides
abbrev pub text_cmp : List ℕ → List ℕ → Ordering
text_cmp a b = slice_cmp nat_cmp a b

-- entries are in the order of their keys, and with one key in the order of their words
abbrev pub entry_cmp : Entry → Entry → Ordering
entry_cmp a b = ordering_then (text_cmp a.key b.key) (text_cmp a.word b.word)

-- whether the entry stands before all of these
abbrev pub is_below : Entry → List Entry → Bool
is_below e entries = list_all (λ f. is_lt (entry_cmp e f)) entries

-- whether the entries are in order, and no two of them are the same
abbrev pub is_sorted : List Entry → Bool
is_sorted [] = true
is_sorted (e ∷ rest) = is_below e rest && is_sorted rest

-- the first of three where the order is Less, the second where it is Equal, the third where it is Greater
abbrev pub by_order : {T : Type 0} → Ordering → T → T → T → T
by_order Less less equal greater = less
by_order Equal less equal greater = equal
by_order Greater less equal greater = greater

-- the entries with one more, at its place in the order; nothing changes where it is there
abbrev pub with_entry : Entry → List Entry → List Entry
with_entry e [] = e ∷ []
with_entry e (f ∷ rest) = by_order (entry_cmp e f) (e ∷ f ∷ rest) (f ∷ rest) (f ∷ with_entry e rest)

-- the same for each of the new entries, one after the other
abbrev pub with_entries : List Entry → List Entry → List Entry
with_entries [] entries = entries
with_entries (e ∷ new) entries = with_entries new (with_entry e entries)

-- the entries without this one
abbrev pub without_entry : Entry → List Entry → List Entry
without_entry e entries = filter (λ f. not (is_eq (entry_cmp e f))) entries

-- whether the entry is one of these
abbrev pub has_entry : Entry → List Entry → Bool
has_entry e entries = list_any (λ f. is_eq (entry_cmp e f)) entries

-- whether the entry of that number, counted from 0, is this one
abbrev pub stands_at : Entry → ℕ → List Entry → Bool
stands_at e number entries = option_map_or (λ f. is_eq (entry_cmp e f)) (slice_get entries number) false

-- the number of the entry, counted from 0, if it is one of these
abbrev pub number_of : Entry → List Entry → Option ℕ
number_of e [] = None
number_of e (f ∷ rest) = cond (is_eq (entry_cmp e f)) (Some 0) (option_map (λ n. n + 1) (number_of e rest))

-- whether the entry's key is smaller than this one, and whether it is this one
abbrev pub is_smaller : List ℕ → Entry → Bool
is_smaller key e = is_lt (text_cmp e.key key)

abbrev pub is_same : List ℕ → Entry → Bool
is_same key e = is_eq (text_cmp e.key key)

-- how many entries have a smaller key, and how many have this one
abbrev pub smaller_keys : List ℕ → List Entry → ℕ
smaller_keys key entries = length (filter (is_smaller key) entries)

abbrev pub same_keys : List ℕ → List Entry → ℕ
same_keys key entries = length (filter (is_same key) entries)

-- the numbers from one on up to the other, which isn't one of them
abbrev pub span : ℕ → ℕ → Span
span from to = record { from = from; to = to }

-- the numbers of the entries with this key, counted from 0, if there are any
abbrev pub found : List ℕ → List Entry → Option Span
found key entries =
    cond (same_keys key entries == 0) None (Some (span (smaller_keys key entries) (smaller_keys key entries + same_keys key entries)))

-- how many keys there are: as many as entries after which no other with the same key follows
abbrev pub key_count : List Entry → ℕ
key_count [] = 0
key_count (e ∷ []) = 1
key_count (e ∷ f ∷ rest) = cond (is_eq (text_cmp e.key f.key)) 0 1 + key_count (f ∷ rest)
