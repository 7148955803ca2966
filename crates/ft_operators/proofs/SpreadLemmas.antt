-- Includes whose neighbours are no further apart than a distance lets them lie in as many words, sentences or paragraphs as the most of them have
-- room in.
use Rattle.std.proofs.Common.{◌≡◌, refl, ap, sym, ◌∙◌, ℕ, suc, ◌+◌, ◌-◌, ◌*◌, ◌^◌, ◌≤◌, List, [], ◌∷◌, Bool, true, false, ◌&&◌, cond, length, arith}
use Rattle.std.specs.Prelude.{nat_le, nat_lt, Option, Some, None}
use Rattle.std.specs.List.{list_all}
use Rattle.std.proofs.Math.Bool.{and_assoc, and_comm}
use Rattle.std.proofs.Math.Nat.{suc-mul}
use Rattle.std.proofs.lemmas.Nat.{mul-le}
use Rattle.std.proofs.lemmas.Bool.{and_parts, leb-true, le-leb}
use Rattle.std.proofs.lemmas.Bool.Decides.{nat_tests}
use Rattle.ft_base.specs.declared.hit.Hit.{Hit}
use Rattle.ft_base.specs.declared.range.Range.{Range}
use Rattle.ft_base.specs.declared.range.Range.TheVariants.{Exactly, AtLeast, AtMost, FromTo}
use Rattle.ft_base.specs.declared.unit.TextUnit.{TextUnit}
use Rattle.all_matches.specs.Positions.{end_in, start_in}
use Rattle.all_matches.specs.Distance.{gap_in_range, stands_before, put_in_order, in_order, neighbours_in_range}
use Rattle.window_distance.proofs.OrderLemmas.{all_follow_from}
use Rattle.ft_operators.specs.declared.extent.Extent.{Extent}
use Rattle.ft_operators.specs.Extents.{greatest_value, size_of, small, spread}
use Rattle.ft_operators.specs.Starts.{rises_to, starts_rise}

-- ---- hits put in order

module _ (p : Hit → Bool) where
  all_put : (hit : Hit) (hits : List Hit) → list_all p (put_in_order hit hits) ≡ (p hit && list_all p hits)
  all_put hit [] = refl
  all_put hit (first ∷ rest) = one (stands_before hit first) (all_put hit rest)
    where
      one : (b : Bool) → list_all p (put_in_order hit rest) ≡ (p hit && list_all p rest)
          → list_all p (cond b (hit ∷ first ∷ rest) (first ∷ put_in_order hit rest)) ≡ (p hit && (p first && list_all p rest))
      one true after = refl
      one false after =
          ap (λ c. p first && c) after ∙ sym (and_assoc (p first) (p hit) (list_all p rest)) ∙ ap (λ c. c && list_all p rest) (and_comm (p first) (p hit))
          ∙ and_assoc (p hit) (p first) (list_all p rest)

  pub all_in_order : (hits : List Hit) → list_all p (in_order hits) ≡ list_all p hits
  all_in_order [] = refl
  all_in_order (hit ∷ rest) = all_put hit (in_order rest) ∙ ap (λ b. p hit && b) (all_in_order rest)

length_put : (hit : Hit) (hits : List Hit) → length (put_in_order hit hits) ≡ suc (length hits)
length_put hit [] = refl
length_put hit (first ∷ rest) = one (stands_before hit first) (length_put hit rest)
  where
    one : (b : Bool) → length (put_in_order hit rest) ≡ suc (length rest) → length (cond b (hit ∷ first ∷ rest) (first ∷ put_in_order hit rest)) ≡ suc (suc (length rest))
    one true after = refl
    one false after = ap suc after

length_in_order : (hits : List Hit) → length (in_order hits) ≡ length hits
length_in_order [] = refl
length_in_order (hit ∷ rest) = length_put hit (in_order rest) ∙ ap suc (length_in_order rest)

-- each begins no earlier than the one before it
abbrev rising : ℕ → List Hit → Bool
rising low [] = true
rising low (hit ∷ rest) = nat_le low hit.from && rising hit.from rest

rising_put : (low : ℕ) (hit : Hit) (hits : List Hit) → nat_le low hit.from ≡ true → rising low hits ≡ true → rising low (put_in_order hit hits) ≡ true
rising_put low hit [] from h = λ i. from i && true
rising_put low hit (first ∷ rest) from h = one (stands_before hit first) refl (λ e. rising_put first.from hit rest (no_earlier e) parts.1)
  where
    parts : (nat_le low first.from ≡ true) × (rising first.from rest ≡ true)
    parts = and_parts (nat_le low first.from) (rising first.from rest) h

    no_later : stands_before hit first ≡ true → nat_le hit.from first.from ≡ true
    no_later e = grind (arith, nat_tests)

    no_earlier : stands_before hit first ≡ false → nat_le first.from hit.from ≡ true
    no_earlier e = grind (arith, nat_tests)

    one : (b : Bool) → stands_before hit first ≡ b → (stands_before hit first ≡ false → rising first.from (put_in_order hit rest) ≡ true)
        → rising low (cond b (hit ∷ first ∷ rest) (first ∷ put_in_order hit rest)) ≡ true
    one true e later = λ i. from i && (no_later e i && parts.1 i)
    one false e later = λ i. parts.0 i && later e i

rising_in_order : (hits : List Hit) → rising 0 (in_order hits) ≡ true
rising_in_order [] = refl
rising_in_order (hit ∷ rest) = rising_put 0 hit (in_order rest) (le-leb 0 hit.from (omega arith)) (rising_in_order rest)

-- where of every two hits the one that begins no later in words begins no later in the unit, so does each hit in order
module _ (kind : TextUnit) where
  -- each begins no earlier in the unit than the one before it
  abbrev starting : ℕ → List Hit → Bool
  starting low [] = true
  starting low (hit ∷ rest) = nat_le low (start_in kind hit) && starting (start_in kind hit) rest

  rises_no_later : (hit next : Hit) → nat_le hit.from next.from ≡ true → rises_to kind hit next ≡ true → nat_le (start_in kind hit) (start_in kind next) ≡ true
  rises_no_later hit next from h = grind (arith, nat_tests)

  rise_parts : (first : Hit) (rest : List Hit) → starts_rise kind (first ∷ rest) ≡ true → (list_all (rises_to kind first) rest ≡ true) × (starts_rise kind rest ≡ true)
  rise_parts first rest h =
      let parts = (and_parts (list_all (λ hit. rises_to kind hit first) (first ∷ rest)) (list_all (λ other. rises_to kind first other && list_all (λ hit. rises_to kind hit other) rest) rest) h).1 in (
        all_follow_from (λ other. rises_to kind first other && list_all (λ hit. rises_to kind hit other) rest) (rises_to kind first)
            (λ other k. (and_parts (rises_to kind first other) (list_all (λ hit. rises_to kind hit other) rest) k).0) rest parts,
        all_follow_from (λ other. rises_to kind first other && list_all (λ hit. rises_to kind hit other) rest) (λ other. list_all (λ hit. rises_to kind hit other) rest)
            (λ other k. (and_parts (rises_to kind first other) (list_all (λ hit. rises_to kind hit other) rest) k).1) rest parts,
      )

  starting_from : (hit : Hit) (rest : List Hit) → rising hit.from rest ≡ true → list_all (rises_to kind hit) rest ≡ true → starts_rise kind rest ≡ true → starting (start_in kind hit) rest ≡ true
  starting_from hit [] rise to pairs = refl
  starting_from hit (next ∷ rest) rise to pairs =
      let rises = and_parts (nat_le hit.from next.from) (rising next.from rest) rise in
      let first = (and_parts (rises_to kind hit next) (list_all (rises_to kind hit) rest) to).0 in
      let more = rise_parts next rest pairs in
      λ i. rises_no_later hit next rises.0 first i && starting_from next rest rises.1 more.0 more.1 i

  starting_sorted : (hits : List Hit) → rising 0 hits ≡ true → starts_rise kind hits ≡ true → starting 0 hits ≡ true
  starting_sorted [] rise pairs = refl
  starting_sorted (first ∷ rest) rise pairs =
      let more = rise_parts first rest pairs in
      λ i. le-leb 0 (start_in kind first) (omega arith) i && starting_from first rest (and_parts (nat_le 0 first.from) (rising first.from rest) rise).1 more.0 more.1 i

  starting_in_order : (hits : List Hit) → starts_rise kind hits ≡ true → starting 0 (in_order hits) ≡ true
  starting_in_order hits h =
      starting_sorted (in_order hits) (rising_in_order hits)
      (all_in_order (λ other. list_all (λ hit. rises_to kind hit other) (in_order hits)) hits
      ∙ all_follow_from (λ other. list_all (λ hit. rises_to kind hit other) hits) (λ other. list_all (λ hit. rises_to kind hit other) (in_order hits))
      (λ other k. all_in_order (λ hit. rises_to kind hit other) hits ∙ k) hits h)

-- ---- a list of hits in order

-- whether a hit is no larger than that, and whether it lies from one number on before another
abbrev pub is_short : TextUnit → ℕ → Hit → Bool
is_short kind size hit = nat_lt (end_in kind hit) (start_in kind hit + size)

abbrev pub lies_from : TextUnit → ℕ → ℕ → Hit → Bool
lies_from kind low end hit = nat_le low (start_in kind hit) && nat_lt (end_in kind hit) end

module _ (kind : TextUnit) (size gap : ℕ) where
  one_more : (n : ℕ) → size_of (suc (suc n)) size gap ≡ size_of (suc n) size gap + size + gap
  one_more n =
      let pred : suc (suc n) - 1 ≡ suc n = omega arith in
      let one_pred : suc n - 1 ≡ n = omega arith in
      let more : (suc (suc n) - 1) * gap ≡ n * gap + gap = ap (λ k. k * gap) pred ∙ suc-mul n gap in
      let less : (suc n - 1) * gap ≡ n * gap = ap (λ k. k * gap) one_pred in
      omega (arith, suc-mul (suc n) size, suc-mul n size, more, less)

  size_grow : (n most : ℕ) → n ≤ most → size_of n size gap ≤ size_of most size gap
  size_grow n most few = omega (arith, mul-le n size most size few (omega arith), mul-le (n - 1) gap (most - 1) gap (omega (arith, few)) (omega arith))

  limited : (range : Range) (end start : ℕ) → greatest_value range ≡ Some gap → gap_in_range range end start ≡ true → start ≤ suc (end + gap)
  limited (Exactly n) end start is h = let same : n ≡ gap = ap value is in grind (arith, nat_tests)
    where
      value : Option ℕ → ℕ
      value None = 0
      value (Some k) = k
  limited (AtLeast n) end start is h = cc
  limited (AtMost n) end start is h = let same : n ≡ gap = ap value is in grind (arith, nat_tests)
    where
      value : Option ℕ → ℕ
      value None = 0
      value (Some k) = k
  limited (FromTo low high) end start is h = let same : high ≡ gap = ap value is in grind (arith, nat_tests)
    where
      value : Option ℕ → ℕ
      value None = 0
      value (Some k) = k

  further : (a b hit : Hit) (reach more : ℕ) → (start_in kind a) ≤ (start_in kind b) → is_short kind size a ≡ true → (start_in kind b) ≤ suc ((end_in kind a) + gap) → more ≡ reach + size + gap
      → lies_from kind (start_in kind b) ((start_in kind b) + reach) hit ≡ true → lies_from kind (start_in kind a) ((start_in kind a) + more) hit ≡ true
  further a b hit reach more rise short near is h = grind (arith, nat_tests)

  here : (hit : Hit) (reach : ℕ) → size ≤ reach → is_short kind size hit ≡ true → lies_from kind (start_in kind hit) ((start_in kind hit) + reach) hit ≡ true
  here hit reach room short = grind (arith, nat_tests)

  module _ (range : Range) (is : greatest_value range ≡ Some gap) where
    chained : (first : Hit) (rest : List Hit) → starting kind (start_in kind first) rest ≡ true → neighbours_in_range range kind (first ∷ rest) ≡ true → list_all (is_short kind size) (first ∷ rest) ≡ true
        → list_all (lies_from kind (start_in kind first) ((start_in kind first) + size_of (suc (length rest)) size gap)) (first ∷ rest) ≡ true
    chained first [] rise near short = λ i. here first (size_of 1 size gap) (omega arith) (and_parts (is_short kind size first) true short).0 i && true
    chained first (next ∷ rest) rise near short =
        let rises = and_parts (nat_le (start_in kind first) (start_in kind next)) (starting kind (start_in kind next) rest) rise in
        let nears = and_parts (gap_in_range range (end_in kind first) (start_in kind next)) (neighbours_in_range range kind (next ∷ rest)) near in
        let shorts = and_parts (is_short kind size first) (list_all (is_short kind size) (next ∷ rest)) short in
        let more = one_more (length rest) in
        λ i. here first (size_of (suc (suc (length rest))) size gap) (omega (arith, more)) shorts.0 i
        && all_follow_from (lies_from kind (start_in kind next) ((start_in kind next) + size_of (suc (length rest)) size gap)) (lies_from kind (start_in kind first) ((start_in kind first) + size_of (suc (suc (length rest))) size gap))
        (λ hit h. further first next hit _ _ (leb-true (start_in kind first) (start_in kind next) rises.0) shorts.0 (limited range (end_in kind first) (start_in kind next) is nears.0) more h) (next ∷ rest)
        (chained next rest rises.1 nears.1 shorts.1) i

    wider : (low end more : ℕ) → end ≤ more → (hit : Hit) → lies_from kind low end hit ≡ true → lies_from kind low more hit ≡ true
    wider low end more less hit h = grind (arith, nat_tests)

    -- from where the first of some hits begins, if there is one
    abbrev pub first_from : List Hit → ℕ
    first_from [] = 0
    first_from (first ∷ rest) = start_in kind first

    spread_out : (most : ℕ) (hits : List Hit) → starting kind 0 hits ≡ true → neighbours_in_range range kind hits ≡ true → list_all (is_short kind size) hits ≡ true → length hits ≤ most
        → list_all (lies_from kind (first_from hits) (first_from hits + size_of most size gap)) hits ≡ true
    spread_out most [] rise near short few = refl
    spread_out most (first ∷ rest) rise near short few =
        let less = size_grow (suc (length rest)) most few in
        all_follow_from (lies_from kind (start_in kind first) ((start_in kind first) + size_of (suc (length rest)) size gap)) (lies_from kind (start_in kind first) ((start_in kind first) + size_of most size gap))
        (wider (start_in kind first) ((start_in kind first) + size_of (suc (length rest)) size gap) ((start_in kind first) + size_of most size gap) (omega (arith, less)))
        (first ∷ rest) (chained first rest (and_parts (nat_le 0 (start_in kind first)) (starting kind (start_in kind first) rest) rise).1 near short)

    -- where the first of all begins
    abbrev pub spread_from : List Hit → ℕ
    spread_from hits = first_from (in_order hits)

    pub all_spread : (most : ℕ) (hits : List Hit) → neighbours_in_range range kind (in_order hits) ≡ true → list_all (is_short kind size) hits ≡ true → length hits ≤ most
        → starts_rise kind hits ≡ true → list_all (lies_from kind (spread_from hits) (spread_from hits + size_of most size gap)) hits ≡ true
    all_spread most hits near short few rise =
        sym (all_in_order (lies_from kind (spread_from hits) (spread_from hits + size_of most size gap)) hits)
        ∙ spread_out most (in_order hits) (starting_in_order kind hits rise) near (all_in_order (is_short kind size) hits ∙ short) (let same = length_in_order hits in omega (arith, same, few))

-- ---- an extent

-- whether includes are no more, and no larger each, than an extent says
abbrev pub are_few : TextUnit → Option Extent → List Hit → Bool
are_few kind None hits = true
are_few kind (Some extent) hits = nat_le (length hits) extent.includes && list_all (is_short kind extent.size) hits

-- a number that is known is the number
pub small_is : (number size : ℕ) → small number ≡ Some size → number ≡ size
small_is number size is = by_test (nat_lt number (2 ^ 32)) is
  where
    value : Option ℕ → ℕ
    value None = 0
    value (Some k) = k

    by_test : (b : Bool) → cond b (Some number) None ≡ Some size → number ≡ size
    by_test true e = ap value e
    by_test false e = cc

-- whether they begin in order, where an extent is told
abbrev pub rise_where : TextUnit → Option Extent → List Hit → Bool
rise_where kind None hits = true
rise_where kind (Some extent) hits = starts_rise kind hits

-- both before a distance in the unit, where it is limited
abbrev pub few_where : Option ℕ → TextUnit → Option Extent → List Hit → Bool
few_where None kind extent hits = true
few_where (Some gap) kind extent hits = are_few kind extent hits && rise_where kind extent hits

-- includes that lie in a window of that size
pub record SpreadIn (kind : TextUnit) (size : ℕ) (hits : List Hit) : Type 0 where
  pub low : ℕ
  pub all : list_all (lies_from kind low (low + size)) hits ≡ true

-- so few includes that pass a distance lie in as much as they spread over, where that is known
pub spread_in : (extent : Option Extent) (range : Range) (kind : TextUnit) (value : Option ℕ) (size : ℕ) (hits : List Hit) → greatest_value range ≡ value → spread extent value ≡ Some size
    → neighbours_in_range range kind (in_order hits) ≡ true → few_where value kind extent hits ≡ true → SpreadIn kind size hits
spread_in None range kind value size hits same is near few = cc
spread_in (Some extent) range kind None size hits same is near few = cc
spread_in (Some extent) range kind (Some gap) size hits same is near few =
    let both = and_parts (nat_le (length hits) extent.includes && list_all (is_short kind extent.size) hits) (starts_rise kind hits) few in
    let parts = and_parts (nat_le (length hits) extent.includes) (list_all (is_short kind extent.size) hits) both.0 in
    let number = small_is (size_of extent.includes extent.size gap) size is in
    let low = spread_from kind extent.size gap range same hits in record {
      low = low;
      all = ap (λ n. list_all (lies_from kind low (low + n)) hits) (sym number)
          ∙ all_spread kind extent.size gap range same extent.includes hits near parts.1 (leb-true (length hits) extent.includes parts.0) both.1;
    }
