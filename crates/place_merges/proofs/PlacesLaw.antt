-- The places at which variants stand are the words at which they begin.
use Rattle.std.proofs.Common.{◌≡◌, ℕ, suc, ◌+◌, ◌-◌, ◌<◌, Bool, true, cond, ◌&&◌, ◌||◌, nat_le, List, [], ◌∷◌, map, length, get_or, refl, ap, ◌∙◌, arith}
use Rattle.std.specs.List.{list_any, count_by, range_with_len}
use Rattle.std.proofs.lemmas.Bool.{and_left, le-leb, lt-leb}
use Rattle.std.proofs.lemmas.List.{length-map}
use Rattle.ft_base.proofs.Truth.{and_swap}
use Rattle.all_matches.specs.Counting.{begins_as, places}
use Rattle.all_matches.proofs.Counting.{count_by-cons}
use Rattle.place_merges.specs.Places.{Wanted, fits, stands_at, stands_before, some_stands, places_between}

module _ {X Y : Type 0} (passes : X → Y → Bool) (want : X → Wanted) where
  -- each item fits the places from one on as it passes the words
  abbrev Agrees : ℕ → List Y → Type 0
  Agrees from words = (item : X) (k : ℕ) (word : Y) → k < length words → fits (from + k) (want item) ≡ passes item (get_or words k word)

  further : (from : ℕ) (word : Y) (words : List Y) → Agrees from (word ∷ words) → Agrees (from + 1) words
  further from word words agrees item k other h =
      let at : from + 1 + k ≡ from + suc k = omega arith in
      ap (λ p. fits p (want item)) at ∙ agrees item (suc k) other (omega arith)

  first_word : (from : ℕ) (word : Y) (words : List Y) → Agrees from (word ∷ words) → (item : X) → fits from (want item) ≡ passes item word
  first_word from word words agrees item =
      let at : from ≡ from + 0 = omega arith in
      ap (λ p. fits p (want item)) at ∙ agrees item 0 word (omega arith)

  pub variant_law : (items : List X) (from to : ℕ) (words : List Y) → to ≡ from + length words → Agrees from words → stands_before to from (map want items) ≡ begins_as passes items words
  variant_law [] from to words e agrees = ap (λ b. b && true) (le-leb (from + 0) to (omega arith))
  variant_law (item ∷ items) from to [] e agrees =
      let size = length-map items want in
      and_left (nat_le (from + suc (length (map want items))) to) (fits from (want item) && stands_at (from + 1) (map want items))
      (lt-leb (from + suc (length (map want items))) to (omega arith))
  variant_law (item ∷ items) from to (word ∷ words) e agrees =
      let at : from + suc (length (map want items)) ≡ from + 1 + length (map want items) = omega arith in
      let rest = variant_law items (from + 1) to words (omega arith) (further from word words agrees) in
      ap (λ p. nat_le p to && (fits from (want item) && stands_at (from + 1) (map want items))) at
      ∙ and_swap (nat_le (from + 1 + length (map want items)) to) (fits from (want item)) (stands_at (from + 1) (map want items))
      ∙ (λ i. first_word from word words agrees item i && rest i)

  variants_law : (variants : List (List X)) (from to : ℕ) (words : List Y) → to ≡ from + length words → Agrees from words
      → some_stands to (map (map want) variants) from ≡ list_any (λ items. begins_as passes items words) variants
  variants_law [] from to words e agrees = refl
  variants_law (items ∷ variants) from to words e agrees = λ i. variant_law items from to words e agrees i || variants_law variants from to words e agrees i

  counts_law : (variants : List (List X)) (from to : ℕ) (words : List Y) → to ≡ from + length words → Agrees from words
      → count_by (some_stands to (map (map want) variants)) (range_with_len from (length words)) ≡ places passes variants words
  counts_law variants from to [] e agrees = refl
  counts_law variants from to (word ∷ words) e agrees =
      count_by-cons (some_stands to (map (map want) variants)) from (range_with_len (from + 1) (length words))
      ∙ (λ i. cond (variants_law variants from to (word ∷ words) e agrees i) 1 0 + counts_law variants (from + 1) to words (omega arith) (further from word words agrees) i)

pub places_law : {X Y : Type 0} (passes : X → Y → Bool) (want : X → Wanted) (from : ℕ) (words : List Y)
    → ((item : X) (k : ℕ) (word : Y) → k < length words → fits (from + k) (want item) ≡ passes item (get_or words k word))
    → (variants : List (List X)) → places_between from (from + length words) (map (map want) variants) ≡ places passes variants words
places_law passes want from words agrees variants =
    let size : from + length words - from ≡ length words = omega arith in
    ap (λ n. count_by (some_stands (from + length words) (map (map want) variants)) (range_with_len from n)) size
    ∙ counts_law passes want variants from (from + length words) words refl agrees
