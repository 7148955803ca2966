-- What an entry that was read says of the others.
use Rattle.std.proofs.Common.{◌≡◌, ℕ, ◌+◌, ◌<◌, ◌≤◌, true, false, List, length, get_or, Some, None, ap, sym, ◌∙◌, arith}
use Rattle.std.proofs.lemmas.List.{length-map}
use Rattle.index_meaning.specs.Entries.{Entry, entry, is_sorted, found, span, smaller_keys, same_keys}
use Rattle.index_meaning.specs.Dictionaries.{Term, ids}
use Rattle.shared_list.specs.Blocks.{IsRun}
use Rattle.term_dict.specs.Places.{count_before, stands_before, IsWindow}
use Rattle.term_dict.specs.declared.places.Place.{Place}
use Rattle.term_dict.specs.declared.places.Place.TheVariants.{AtKey, AfterKey}
use Rattle.term_dict.proofs.RankLemmas.{rank_above, rank_upto, upto_key, found_none, found_some}

-- what it says of a place
read_before : (place : Place) (e : Entry) (es : List Entry) (k : ℕ) (f : Entry) → is_sorted es ≡ true → k < length es → f ≡ get_or es k f →
    stands_before place e f ≡ true → k < count_before place e es
read_before place e es k f sorted within read is = rank_above place e es k f sorted within (ap (stands_before place e) (sym read) ∙ is)

read_after : (place : Place) (e : Entry) (es : List Entry) (k : ℕ) (f : Entry) → is_sorted es ≡ true → k < length es → f ≡ get_or es k f →
    stands_before place e f ≡ false → count_before place e es ≤ k
read_after place e es k f sorted within read is = rank_upto place e es k f sorted within (ap (stands_before place e) (sym read) ∙ is)

pub window_after : (place : Place) (e : Entry) (es : List Entry) (k low high : ℕ) (f : Entry) → is_sorted es ≡ true → k < length es → f ≡ get_or es k f →
    stands_before place e f ≡ true → IsWindow place e es low high → IsWindow place e es (k + 1) high
window_after place e es k low high f sorted within read is window =
    record {
      within = window.within;
      from = omega (arith, read_before place e es k f sorted within read is);
      to = window.to;
    }

pub window_prefix : (place : Place) (e : Entry) (es : List Entry) (k low high : ℕ) (f : Entry) → is_sorted es ≡ true → k < length es → f ≡ get_or es k f →
    stands_before place e f ≡ false → IsWindow place e es low high → IsWindow place e es low k
window_prefix place e es k low high f sorted within read is window =
    record {
      within = omega (arith, within);
      from = window.from;
      to = read_after place e es k f sorted within read is;
    }

-- the first term of a block is one of the terms
pub first_there : (ts : List Term) (items : List ℕ) (start : ℕ) → IsRun (ids ts) start items → 0 < length items → start < length ts
first_there ts items start run some = omega (arith, run.within, some, length-map ts (λ (t : Term). t.id))

-- ---- the numbers of a key

none_left : (a b : ℕ) → a ≡ a + b → b ≡ 0
none_left a b h = omega arith

pub found_nothing : (key word : List ℕ) (es : List Entry) (from to : ℕ) → from ≡ count_before AtKey (entry key word) es → to ≡ count_before AfterKey (entry key word) es → from ≡ to → None ≡ found key es
found_nothing key word es from to is_from is_to same =
    sym (found_none key es (none_left (smaller_keys key es) (same_keys key es) (sym is_from ∙ same ∙ is_to ∙ upto_key (entry key word) es)))

pub found_numbers : (key word : List ℕ) (es : List Entry) (from to : ℕ) → from ≡ count_before AtKey (entry key word) es → to ≡ count_before AfterKey (entry key word) es → (from ≡ to → ⊥) →
    Some (span from to) ≡ found key es
found_numbers key word es from to is_from is_to other =
    let sum : to ≡ smaller_keys key es + same_keys key es = is_to ∙ upto_key (entry key word) es in
    (λ i. Some (span (is_from i) (sum i)))
    ∙ sym (found_some key es (λ none. other (is_from ∙ same_sum (smaller_keys key es) (same_keys key es) none ∙ sym sum)))
  where
    same_sum : (a b : ℕ) → b ≡ 0 → a ≡ a + b
    same_sum a b h = omega arith
