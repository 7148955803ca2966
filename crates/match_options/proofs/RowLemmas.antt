-- What a row of places says, one atom after the other.
use Rattle.std.proofs.Common.{◌≡◌, refl, sym, ap, ◌∙◌, ℕ, suc, ◌+◌, ◌-◌, ◌<◌, ◌≤◌, Bool, true, false, not, ◌&&◌, ◌⊎◌, inl, inr, List, [], ◌∷◌, ◌++◌, length, get_or, set, drop, take, arith, Option, Some, None, drop-drop, length-drop}
use Rattle.std.specs.Prelude.{◌==◌, nat_lt, nat_le, if◌then◌else◌, slice_index_or}
use Rattle.std.specs.List.{Any, list_any, range_with_len}
use Rattle.std.proofs.lemmas.Bool.{ne_eqb, eq-eqb, ltb-true, lt-ltb, leb-true, le-leb, and_parts, and_from, and_right, cases_lt, both_ways, not-true, not-false, false_from_ne_true}
use Rattle.std.proofs.lemmas.List.{take-append-drop, drop_more, drop_all, get_or_past, get_or-drop, get_or-set_same, get_or-set_other}
use Rattle.std.proofs.lemmas.List.Sums.{prefix_len_passes, prefix_len_stops}
use Rattle.std.proofs.lemmas.List.Folds.{list_any_at, list_any_none, Any-from_list_any}
use Rattle.std.proofs.lemmas.List.FromFn.{length-range_with_len, get_or-range_with_len}
use Rattle.ft_base.proofs.Truth.{same_tests}
use Rattle.match_options.specs.declared.atom.Atom.{Atom}
use Rattle.match_options.specs.declared.atom.Atom.TheVariants.{Letter, Gap}
use Rattle.match_options.specs.Wildcards.{fits_gap, covers}
use Rattle.match_options.specs.steps.Row.{IsRow, at_place, nearest, reaches}

-- no atom is left: the end alone is covered
end_covered : (place size : ℕ) (left : List ℕ) → length left + (place + 1) ≡ size → (place + 1 == size) ≡ covers [] left
unfolding covers
end_covered place size [] h = eq-eqb (place + 1) size (omega (arith, h))
end_covered place size (c ∷ left) h = ne_eqb (place + 1) size (λ e. omega (arith, e, h))

pub row_end : (row : List Bool) (letters : List ℕ) → length row ≡ suc (length letters) → ((place : ℕ) → place < length row → at_place row place ≡ (place + 1 == length row)) → IsRow row [] letters
row_end row letters size known = record {
  size = size;
  known = λ place h.
      known place (omega (arith, size, h))
      ∙ end_covered place (length row) (drop place letters) (omega (arith, size, h, length-drop place letters));
}

-- a gap stands for no more characters than another number of them that fits
fits_less : (low : ℕ) (high : Option ℕ) (most count : ℕ) → fits_gap low high most ≡ true → low ≤ count → count ≤ most → fits_gap low high count ≡ true
fits_less low None most count fits above below = le-leb low count above
fits_less low (Some high) most count fits above below =
    and_from (nat_le low count) (nat_le count high) (le-leb low count above)
    (le-leb count high (omega (arith, below, leb-true most high (and_parts (nat_le low most) (nat_le most high) fits).1)))

fits_low : (low : ℕ) (high : Option ℕ) (count : ℕ) → fits_gap low high count ≡ true → low ≤ count
fits_low low None count fits = leb-true low count fits
fits_low low (Some high) count fits = leb-true low count (and_parts (nat_le low count) (nat_le count high) fits).0

-- a place that is true stands in the row
within : (row : List Bool) (place : ℕ) → at_place row place ≡ true → place < length row
within row place h = go (cases_lt place (length row))
  where
    go : ((place < length row) ⊎ (length row ≤ place)) → place < length row
    go (inl before) = before
    go (inr suffix) = absurd (both_ways (at_place row place) (get_or_past row place false suffix) h)

-- the nearest place is true, and no place before it
nearest_is : (row : List Bool) → nearest row < length row → at_place row (nearest row) ≡ true
nearest_is row h = not-false (at_place row (nearest row)) (prefix_len_stops (λ b. not b) row false h)

nearest_first : (row : List Bool) (place : ℕ) → at_place row place ≡ true → nearest row ≤ place
nearest_first row place h = go (cases_lt place (nearest row))
  where
    go : ((place < nearest row) ⊎ (nearest row ≤ place)) → nearest row ≤ place
    go (inl before) = absurd (both_ways (at_place row place) (not-true (at_place row place) (prefix_len_passes (λ b. not b) row place false before)) h)
    go (inr suffix) = suffix

module _ (atoms : List Atom) (letters : List ℕ) (old : List Bool) (row : IsRow old atoms letters) where
  -- a letter
  letter_told : (a place : ℕ) → place ≤ length letters → ((a == get_or letters place a) && at_place old (place + 1)) ≡ covers (Letter a ∷ atoms) (drop place letters)
  unfolding covers
  letter_told a place h = go (cases_lt place (length letters))
    where
      go : ((place < length letters) ⊎ (length letters ≤ place)) → ((a == get_or letters place a) && at_place old (place + 1)) ≡ covers (Letter a ∷ atoms) (drop place letters)
      go (inl before) =
          ap (λ b. (a == get_or letters place a) && b) (row.known (place + 1) (omega (arith, before)))
          ∙ ap (covers (Letter a ∷ atoms)) (sym (drop_more letters place a before))
      go (inr suffix) =
          and_right (a == get_or letters place a) (at_place old (place + 1)) (get_or_past old (place + 1) false (omega (arith, suffix, row.size)))
          ∙ ap (covers (Letter a ∷ atoms)) (sym (drop_all place letters suffix))

  pub row_letter : (new : List Bool) (a : ℕ) → length new ≡ length old → ((place : ℕ) → place < length new → at_place new place ≡ ((a == get_or letters place a) && at_place old (place + 1))) → IsRow new (Letter a ∷ atoms) letters
  row_letter new a same known = record {
    size = same ∙ row.size;
    known = λ place h. known place (omega (arith, h, same, row.size)) ∙ letter_told a place h;
  }

  -- a gap: its least number of characters, and those beyond
  module _ (low : ℕ) (high : Option ℕ) (least : List Bool) (size : length least ≡ length old) (passed : (place : ℕ) → at_place least place ≡ at_place old (place + low)) (place : ℕ) (h : place ≤ length letters) where
    fits : ℕ → Bool
    fits count = fits_gap low high count && covers atoms (drop count (drop place letters))

    left : length (drop place least) ≡ suc (length (drop place letters))
    left = omega (arith, h, size, row.size, length-drop place least, length-drop place letters)

    stands : (count : ℕ) → at_place (drop place least) count ≡ at_place old ((place + count) + low)
    stands count = get_or-drop place least count false ∙ passed (place + count)

    covered : (count : ℕ) → at_place old ((place + count) + low) ≡ true → covers atoms (drop (low + count) (drop place letters)) ≡ true
    covered count is =
        let end = within old ((place + count) + low) is in
        let at : place + (low + count) ≡ (place + count) + low = omega arith in
        ap (covers atoms) (drop-drop (low + count) place letters ∙ ap (λ n. drop n letters) at)
        ∙ sym (row.known ((place + count) + low) (omega (arith, end, row.size))) ∙ is

    found : reaches low high (drop place least) ≡ true → covers (Gap low high ∷ atoms) (drop place letters) ≡ true
    unfolding covers fits
    found reached =
        let parts = and_parts (nat_lt (nearest (drop place least)) (length (drop place least))) (fits_gap low high (low + nearest (drop place least))) reached in
        let near = ltb-true (nearest (drop place least)) (length (drop place least)) parts.0 in
        let true_there = sym (stands (nearest (drop place least))) ∙ nearest_is (drop place least) near in
        let end = within old ((place + nearest (drop place least)) + low) true_there in
        let in_range : low + nearest (drop place least) < suc (length (drop place letters)) = omega (arith, end, row.size, h, length-drop place letters) in
        let from_zero : 0 + (low + nearest (drop place least)) ≡ low + nearest (drop place least) = omega arith in
        list_any_at fits (range_with_len 0 (suc (length (drop place letters)))) (low + nearest (drop place least)) 0
        (omega (arith, in_range, length-range_with_len 0 (suc (length (drop place letters)))))
        (ap fits (get_or-range_with_len 0 (suc (length (drop place letters))) (low + nearest (drop place least)) 0 in_range ∙ from_zero)
        ∙ and_from (fits_gap low high (low + nearest (drop place least))) (covers atoms (drop (low + nearest (drop place least)) (drop place letters))) parts.1 (covered (nearest (drop place least)) true_there))

    -- so many characters are passed
    so_many : (count : ℕ) → count ≤ length (drop place letters) → fits count ≡ true → reaches low high (drop place least) ≡ true
    unfolding fits
    so_many count most is =
        let parts = and_parts (fits_gap low high count) (covers atoms (drop count (drop place letters))) is in
        let above = fits_low low high count parts.0 in
        let at : (place + (count - low)) + low ≡ place + count = omega (arith, above) in
        let true_there : at_place (drop place least) (count - low) ≡ true =
        stands (count - low) ∙ ap (at_place old) at
        ∙ row.known (place + count) (omega (arith, h, most, length-drop place letters))
        ∙ ap (covers atoms) (sym (drop-drop count place letters)) ∙ parts.1 in
        let near = nearest_first (drop place least) (count - low) true_there in
        and_from (nat_lt (nearest (drop place least)) (length (drop place least))) (fits_gap low high (low + nearest (drop place least)))
        (lt-ltb (nearest (drop place least)) (length (drop place least)) (omega (arith, near, most, left)))
        (fits_less low high count (low + nearest (drop place least)) parts.0 (omega arith) (omega (arith, near, above)))

    reached : covers (Gap low high ∷ atoms) (drop place letters) ≡ true → reaches low high (drop place least) ≡ true
    unfolding covers fits
    reached is = go (Any-from_list_any fits (range_with_len 0 (suc (length (drop place letters)))) is)
      where
        from_zero : (k : ℕ) → 0 + k ≡ k
        from_zero k = omega arith

        go : Any (λ x. fits x ≡ true) (range_with_len 0 (suc (length (drop place letters)))) → reaches low high (drop place least) ≡ true
        go (k, x, before, at, fit) =
            let less : k < suc (length (drop place letters)) = omega (arith, before, length-range_with_len 0 (suc (length (drop place letters)))) in
            let same : x ≡ k = sym at ∙ get_or-range_with_len 0 (suc (length (drop place letters))) k x less ∙ from_zero k in
            so_many x (omega (arith, same, less)) fit

    gap_told : reaches low high (drop place least) ≡ covers (Gap low high ∷ atoms) (drop place letters)
    gap_told = same_tests (reaches low high (drop place least)) (covers (Gap low high ∷ atoms) (drop place letters)) found reached

  pub row_gap : (low : ℕ) (high : Option ℕ) (least new : List Bool) → length least ≡ length old → ((place : ℕ) → at_place least place ≡ at_place old (place + low))
      → length new ≡ length least → ((place : ℕ) → at_place new place ≡ reaches low high (drop place least)) → IsRow new (Gap low high ∷ atoms) letters
  row_gap low high least new size passed same known = record {
    size = same ∙ size ∙ row.size;
    known = λ place h. known place ∙ gap_told low high least size passed place h;
  }

-- one place before: the nearest place that is true
pub nearest_more : (row : List Bool) (place : ℕ) → place < length row → nearest (drop place row) ≡ (if at_place row place then 0 else nearest (drop (place + 1) row) + 1)
nearest_more row place h = ap nearest (drop_more row place false h) ∙ one (at_place row place) (drop (place + 1) row)
  where
    one : (b : Bool) (rest : List Bool) → nearest (b ∷ rest) ≡ (if b then 0 else nearest rest + 1)
    one true rest = refl
    one false rest = omega arith

-- one place more, from the front and from the end
module _ (f : ℕ → Bool) (old row : List Bool) (place : ℕ) (b : Bool) (h : place < length row) (is : b ≡ f place) where
  pub set_told : (p : ℕ) → (p ≡ place → ⊥) → at_place row p ≡ f p → at_place (set row place b) p ≡ f p
  set_told p other known = get_or-set_other row place p b false other ∙ known

  pub set_here : (p : ℕ) → p ≡ place → at_place (set row place b) p ≡ f p
  set_here p same = ap (at_place (set row place b)) same ∙ get_or-set_same row place b false h ∙ is ∙ ap f (sym same)

  pub prefix_told : ((p : ℕ) → p < place → at_place row p ≡ f p) → (p : ℕ) → p < place + 1 → at_place (set row place b) p ≡ f p
  prefix_told known p less = go (cases_lt p place)
    where
      go : ((p < place) ⊎ (place ≤ p)) → at_place (set row place b) p ≡ f p
      go (inl before) = set_told p (λ e. omega (arith, before, e)) (known p before)
      go (inr suffix) = set_here p (omega (arith, suffix, less))

  pub prefix_left : ((p : ℕ) → place ≤ p → at_place row p ≡ at_place old p) → (p : ℕ) → place + 1 ≤ p → at_place (set row place b) p ≡ at_place old p
  prefix_left left p more = get_or-set_other row place p b false (λ e. omega (arith, more, e)) ∙ left p (omega (arith, more))

  pub end_told : ((p : ℕ) → place + 1 ≤ p → at_place row p ≡ f p) → (p : ℕ) → place ≤ p → at_place (set row place b) p ≡ f p
  end_told known p more = go (cases_lt place p)
    where
      go : ((place < p) ⊎ (p ≤ place)) → at_place (set row place b) p ≡ f p
      go (inl suffix) = set_told p (λ e. omega (arith, suffix, e)) (known p (omega (arith, suffix)))
      go (inr here) = set_here p (omega (arith, here, more))

  pub end_left : ((p : ℕ) → p < place + 1 → at_place row p ≡ at_place old p) → (p : ℕ) → p < place → at_place (set row place b) p ≡ at_place old p
  end_left left p less = get_or-set_other row place p b false (λ e. omega (arith, less, e)) ∙ left p (omega (arith, less))

-- the character at a place
pub char_here : (letters rest : List ℕ) (place c d : ℕ) → drop place letters ≡ c ∷ rest → get_or letters place d ≡ c
char_here letters rest place c d e = ap (λ n. get_or letters n d) (omega arith) ∙ sym (get_or-drop place letters 0 d) ∙ ap (λ l. get_or l 0 d) e

-- a list from its end
pub from_end : {X : Type 0} (xs : List X) (size passed : ℕ) (d : X) → size ≡ length xs → passed < size → get_or xs (size - 1 - passed) d ∷ drop (size - passed) xs ≡ drop (size - (passed + 1)) xs
from_end xs size passed d long h =
    let at : size - 1 - passed ≡ size - (passed + 1) = omega arith in
    let next : size - passed ≡ (size - (passed + 1)) + 1 = omega (arith, h) in
    ap (λ n. get_or xs n d ∷ drop (size - passed) xs) at
    ∙ ap (λ n. get_or xs (size - (passed + 1)) d ∷ drop n xs) next
    ∙ sym (drop_more xs (size - (passed + 1)) d (omega (arith, h, long)))

pub few_more : (b : Bool) (far passed : ℕ) → far ≤ passed → (if b then 0 else far + 1) ≤ passed + 1
few_more true far passed h = omega arith
few_more false far passed h = omega (arith, h)

-- what a letter writes at a place: the character there is the letter, or another one, or there is none
pub letter_same : (letters : List ℕ) (row : List Bool) (a c place : ℕ) (b : Bool) → get_or letters place a ≡ c → a ≡ c → b ≡ at_place row (place + 1) → b ≡ ((a == get_or letters place a) && at_place row (place + 1))
letter_same letters row a c place b here same is = is ∙ ap (λ t. t && at_place row (place + 1)) (sym (ap (λ n. a == n) here ∙ eq-eqb a c same))

pub letter_other : (letters : List ℕ) (row : List Bool) (a c place : ℕ) (b : Bool) → get_or letters place a ≡ c → (a ≡ c → ⊥) → b ≡ (a == c) → b ≡ ((a == get_or letters place a) && at_place row (place + 1))
letter_other letters row a c place b here other is =
    is ∙ ne_eqb a c other ∙ ap (λ t. t && at_place row (place + 1)) (sym (ap (λ n. a == n) here ∙ ne_eqb a c other))

pub letter_none : (letters : List ℕ) (row : List Bool) (a place : ℕ) (b : Bool) → length row ≡ suc (length letters) → drop place letters ≡ [] → b ≡ false → b ≡ ((a == get_or letters place a) && at_place row (place + 1))
letter_none letters row a place b size none is =
    let few = ap length none in
    is ∙ sym (and_right (a == get_or letters place a) (at_place row (place + 1)) (get_or_past row (place + 1) false (omega (arith, size, few, length-drop place letters))))

-- ---- no place is left

at_none : (row : List Bool) → list_any (λ b. b) row ≡ false → (place : ℕ) → at_place row place ≡ false
at_none row none place =
    false_from_ne_true (at_place row place)
    (λ is. both_ways (list_any (λ b. b) row) none (list_any_at (λ b. b) row place false (within row place is) is))

row_none : (row : List Bool) (atoms : List Atom) (letters : List ℕ) → IsRow row atoms letters → list_any (λ b. b) row ≡ false
    → (place : ℕ) → covers atoms (drop place letters) ≡ false
row_none row atoms letters is none place = go (cases_lt (length letters) place)
  where
    inside : (p : ℕ) → p ≤ length letters → covers atoms (drop p letters) ≡ false
    inside p h = sym (is.known p h) ∙ at_none row none p

    go : ((length letters < place) ⊎ (place ≤ length letters)) → covers atoms (drop place letters) ≡ false
    go (inl suffix) =
        ap (covers atoms) (drop_all place letters (omega (arith, suffix)) ∙ sym (drop_all (length letters) letters (omega arith)))
        ∙ inside (length letters) (omega arith)
    go (inr before) = inside place before

-- then none is with an atom more before, or with several
none_before : (atom : Atom) (atoms : List Atom) (letters : List ℕ) → ((place : ℕ) → covers atoms (drop place letters) ≡ false) → covers (atom ∷ atoms) letters ≡ false
unfolding covers
none_before (Letter a) atoms [] none = refl
none_before (Letter a) atoms (c ∷ rest) none = and_right (a == c) (covers atoms rest) (none 1)
none_before (Gap low high) atoms letters none =
    list_any_none (λ count. fits_gap low high count && covers atoms (drop count letters)) (range_with_len 0 (suc (length letters)))
    (λ k d h. and_right (fits_gap low high (slice_index_or (range_with_len 0 (suc (length letters))) k d))
    (covers atoms (drop (slice_index_or (range_with_len 0 (suc (length letters))) k d) letters)) (none (slice_index_or (range_with_len 0 (suc (length letters))) k d)))

none_after : (prefix atoms : List Atom) (letters : List ℕ) → ((place : ℕ) → covers atoms (drop place letters) ≡ false)
    → (place : ℕ) → covers (prefix ++ atoms) (drop place letters) ≡ false
none_after [] atoms letters none place = none place
none_after (atom ∷ prefix) atoms letters none place =
    none_before atom (prefix ++ atoms) (drop place letters)
    (λ more. ap (covers (prefix ++ atoms)) (drop-drop more place letters) ∙ none_after prefix atoms letters none (place + more))

pub stopped : (row : List Bool) (atoms : List Atom) (letters : List ℕ) (number : ℕ) → IsRow row (drop number atoms) letters → list_any (λ b. b) row ≡ false → covers atoms letters ≡ false
stopped row atoms letters number is none =
    ap (λ all. covers all letters) (sym (take-append-drop number atoms))
    ∙ none_after (take number atoms) (drop number atoms) letters (row_none row (drop number atoms) letters is none) 0
