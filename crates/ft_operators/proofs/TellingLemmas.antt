-- Some choice of a filter passes a test exactly where one of those does that are asked for.
use Rattle.std.proofs.Common.{◌≡◌, refl, ap, sym, ◌∙◌, ℕ, zero, suc, ◌+◌, ◌-◌, ◌<◌, ◌≤◌, List, [], ◌∷◌, Bool, true, false, not, ◌&&◌, ◌||◌, drop, take, map, arith}
use Rattle.std.specs.Prelude.{ℤ, pos, negsuc, ◌+ℤ◌, ◌-ℤ◌, int_le, Option, Some}
use Rattle.std.specs.List.{list_any, list_all, range_with_len}
use Rattle.std.proofs.lemmas.Bool.{and_parts}
use Rattle.std.proofs.lemmas.Int.{ints}
use Rattle.ft_base.proofs.Truth.{fails_below}
use Rattle.ft_base.specs.declared.hit.Hit.{Hit}
use Rattle.ft_base.specs.declared.unit.TextUnit.{TextUnit}
use Rattle.all_matches.specs.declared.window.Window.{Window}
use Rattle.all_matches.specs.Filters.{keeps}
use Rattle.all_matches.specs.Positions.{start_in, end_in}
use Rattle.all_matches.specs.Window.{window_at, lies_in_window}
use Rattle.all_matches.specs.Ways.{Way, one_hit, two_ways, turned_about, by_filter, way_includes, clean_under}
use Rattle.ft_operators.specs.Course.{up_to_zero, telling}

-- ---- tests of lists

or_more : (a b c d : Bool) → (a ≡ true → c ≡ true) → (b ≡ true → d ≡ true) → (a || b) ≡ true → (c || d) ≡ true
or_more true b c d first rest h = ap (λ x. x || d) (first refl)
or_more false b true d first rest h = refl
or_more false b false d first rest h = rest h

pub any_more : {X : Type 0} (p q : X → Bool) → ((x : X) → p x ≡ true → q x ≡ true) → (xs : List X) → list_any p xs ≡ true → list_any q xs ≡ true
any_more p q more [] h = h
any_more p q more (x ∷ xs) h = or_more (p x) (list_any p xs) (q x) (list_any q xs) (more x) (any_more p q more xs) h

pub fails_more : (a b : Bool) → (a ≡ true → b ≡ true) → not b ≡ true → not a ≡ true
fails_more true true more h = h
fails_more true false more h = more refl
fails_more false b more h = refl

-- where the first element passes if any does
pub first_decides : {X : Type 0} (q : X → Bool) (xs : List X) → ((a b : X) → q a ≡ true → q b ≡ true) → list_any q (take 1 xs) ≡ list_any q xs
first_decides q [] same = refl
first_decides {X = X} q (x ∷ xs) same = by_first (q x) refl
  where
    none : (ys : List X) → q x ≡ false → list_any q ys ≡ false
    none [] is = refl
    none (y ∷ ys) is = λ i. fails_below (q y) (q x) (same y x) is i || none ys is i

    by_first : (b : Bool) → q x ≡ b → (b || false) ≡ (b || list_any q xs)
    by_first true is = refl
    by_first false is = sym (none xs is)

-- ---- windows one after the other

module _ (q : Option Window → Bool) (window : ℕ → Window) where
  passed : (start count skip : ℕ) → ((n : ℕ) → start ≤ n → n < start + skip → q (Some (window n)) ≡ false)
      → list_any q (drop skip (map Some (map window (range_with_len start count)))) ≡ list_any q (map Some (map window (range_with_len start count)))
  passed start count zero fails = refl
  passed start zero (suc skip) fails = refl
  passed start (suc count) (suc skip) fails =
      passed (start + 1) count skip (λ n from below. fails n (omega (arith, from)) (omega (arith, below)))
      ∙ ap (λ b. b || list_any q (map Some (map window (range_with_len (start + 1) count)))) (sym (fails start (omega arith) (omega arith)))

  pub tell_windows : (skip count : ℕ) → up_to_zero (window 0).from ≡ skip → ((n : ℕ) → n ≤ skip → q (Some (window n)) ≡ true → q (Some (window 0)) ≡ true)
      → list_any q (telling (map Some (map window (range_with_len 0 count)))) ≡ list_any q (map Some (map window (range_with_len 0 count)))
  tell_windows skip zero is best = refl
  tell_windows skip (suc count) is best = by_first (q (Some (window 0))) refl
    where
      by_first : (b : Bool) → q (Some (window 0)) ≡ b
          → (b || list_any q (drop (up_to_zero (window 0).from) (map Some (map window (range_with_len 1 count))))) ≡ (b || list_any q (map Some (map window (range_with_len 1 count))))
      by_first true holds = refl
      by_first false fails =
          ap (λ k. list_any q (drop k (map Some (map window (range_with_len 1 count))))) is
          ∙ passed 1 count skip (λ n from below. fails_below (q (Some (window n))) (q (Some (window 0))) (best n (omega (arith, below))) fails)

-- the window of that number
abbrev pub nth_window : ℕ → ℕ → ℕ → Window
nth_window size last n = window_at size (pos (suc last + n) -ℤ pos size)

zero_gap : (z : ℤ) (a b : ℕ) → z ≡ pos a -ℤ pos b → up_to_zero z ≡ b - a
zero_gap (pos n) a b is = omega (arith, ints, is)
zero_gap (negsuc n) a b is = omega (arith, ints, is)

pub first_window_gap : (size last : ℕ) → up_to_zero (nth_window size last 0).from ≡ size - suc last
first_window_gap size last = zero_gap (pos (suc last + 0) -ℤ pos size) (suc last + 0) size refl ∙ less
  where
    less : size - (suc last + 0) ≡ size - suc last
    less = omega arith

-- a window that begins at 0 or before it holds what the first one holds
in_later : (size last n from to : ℕ) → n ≤ size - suc last
    → (int_le (pos (suc last + 0) -ℤ pos size) (pos from) && int_le (pos to) (((pos (suc last + 0) -ℤ pos size) +ℤ pos size) -ℤ pos 1)) ≡ true
    → (int_le (pos (suc last + n) -ℤ pos size) (pos from) && int_le (pos to) (((pos (suc last + n) -ℤ pos size) +ℤ pos size) -ℤ pos 1)) ≡ true
in_later size zero zero from to early h = h
in_later size last n from to early h = grind (arith, ints)

pub lies_in_later : (kind : TextUnit) (size last n : ℕ) (hit : Hit) → n ≤ size - suc last → lies_in_window kind (nth_window size last 0) hit ≡ true
    → lies_in_window kind (nth_window size last n) hit ≡ true
lies_in_later kind size last n hit early h = in_later size last n (start_in kind hit) (end_in kind hit) early h

-- ---- ways that are clean under fewer excludes

pub clean_less : (kept more : Hit → Bool) → ((hit : Hit) → kept hit ≡ true → more hit ≡ true) → (way : Way) → clean_under more way ≡ true → clean_under kept way ≡ true
clean_less kept more less (one_hit hit) h = refl
clean_less kept more less (two_ways left right) h =
    let parts = and_parts (clean_under more left) (clean_under more right) h in
    λ i. clean_less kept more less left parts.0 i && clean_less kept more less right parts.1 i
clean_less kept more less (turned_about matches) h =
    fails_more (list_any (λ m. list_all kept m.includes) matches) (list_any (λ m. list_all more m.includes) matches)
    (any_more (λ m. list_all kept m.includes) (λ m. list_all more m.includes) (λ m e. all_more m.includes e) matches) h
  where
    all_more : (hits : List Hit) → list_all kept hits ≡ true → list_all more hits ≡ true
    all_more [] e = refl
    all_more (hit ∷ hits) e = let parts = and_parts (kept hit) (list_all kept hits) e in λ i. less hit parts.0 i && all_more hits parts.1 i
clean_less kept more less (by_filter way kind choice) h =
    clean_less (λ hit. keeps kind (way_includes way) choice hit && kept hit) (λ hit. keeps kind (way_includes way) choice hit && more hit)
    (λ hit e. let parts = and_parts (keeps kind (way_includes way) choice hit) (kept hit) e in λ i. parts.0 i && less hit parts.1 i) way h
