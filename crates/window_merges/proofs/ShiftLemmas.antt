-- Places that are counted from another one on are near, and in order, where they were.
use Rattle.std.proofs.Common.{◌≡◌, refl, sym, ap, ◌∙◌, ℕ, ◌+◌, ◌-◌, ◌≤◌, min, max, Bool, true, ◌&&◌, List, [], ◌∷◌, map, arith}
use Rattle.std.specs.Prelude.{nat_le, nat_lt}
use Rattle.std.specs.List.{list_all}
use Rattle.std.proofs.lemmas.Bool.{and_parts, leb-true}
use Rattle.std.proofs.lemmas.Bool.Decides.{nat_tests}
use Rattle.all_matches.specs.Join.{greatest, least}
use Rattle.window_merges.specs.Choices.{are_close, are_in_order, some_choice}
use Rattle.window_merges.proofs.ChoiceLemmas.{greatest_first, least_first}
use Rattle.window_merges.proofs.ChoiceTests.{choice_map, choice_on}

module _ (offset : ℕ) where
  abbrev back : List ℕ → List ℕ
  back places = map (λ place. place - offset) places

  abbrev are_after : List ℕ → Bool
  are_after places = list_all (nat_le offset) places

  least_back : (first : ℕ) (rest : List ℕ) → least (first - offset) (back rest) ≡ least first rest - offset
  least_back first [] = refl
  least_back first (p ∷ rest) =
      let e : min (first - offset) (p - offset) ≡ min first p - offset = omega arith in
      ap (λ n. least n (back rest)) e ∙ least_back (min first p) rest

  greatest_back : (first : ℕ) (rest : List ℕ) → greatest (first - offset) (back rest) ≡ greatest first rest - offset
  greatest_back first [] = refl
  greatest_back first (p ∷ rest) =
      let e : max (first - offset) (p - offset) ≡ max first p - offset = omega arith in
      ap (λ n. greatest n (back rest)) e ∙ greatest_back (max first p) rest

  least_after : (first : ℕ) (rest : List ℕ) → offset ≤ first → are_after rest ≡ true → offset ≤ least first rest
  least_after first [] a h = a
  least_after first (p ∷ rest) a h =
      let parts = and_parts (nat_le offset p) (are_after rest) h in
      let from = leb-true offset p parts.0 in
      least_after (min first p) rest (omega (arith, from)) parts.1

  same_below : (size low high : ℕ) → offset ≤ low → low ≤ high → nat_lt (high - offset) ((low - offset) + size) ≡ nat_lt high (low + size)
  same_below size low high h order = grind (arith, nat_tests, h, order)

  close_back : (size : ℕ) (places : List ℕ) → are_after places ≡ true → are_close size places ≡ are_close size (back places)
  close_back size [] h = refl
  close_back size (first ∷ rest) h =
      let parts = and_parts (nat_le offset first) (are_after rest) h in
      let low = least_first first rest in
      let high = greatest_first first rest in
      sym (same_below size (least first rest) (greatest first rest) (least_after first rest (leb-true offset first parts.0) parts.1) (omega (arith, low, high)))
      ∙ (λ i. nat_lt (sym (greatest_back first rest) i) (sym (least_back first rest) i + size))

  same_order : (a b : ℕ) → offset ≤ a → offset ≤ b → nat_le a b ≡ nat_le (a - offset) (b - offset)
  same_order a b h k = grind (arith, nat_tests, h, k)

  all_back : (first : ℕ) (places : List ℕ) → offset ≤ first → are_after places ≡ true → list_all (nat_le first) places ≡ list_all (nat_le (first - offset)) (back places)
  all_back first [] a h = refl
  all_back first (p ∷ places) a h =
      let parts = and_parts (nat_le offset p) (are_after places) h in
      λ i. same_order first p a (leb-true offset p parts.0) i && all_back first places a parts.1 i

  order_back : (places : List ℕ) → are_after places ≡ true → are_in_order places ≡ are_in_order (back places)
  order_back [] h = refl
  order_back (first ∷ rest) h =
      let parts = and_parts (nat_le offset first) (are_after rest) h in
      λ i. all_back first rest (leb-true offset first parts.0) parts.1 i && order_back rest parts.1 i

  pub close_counted : (size : ℕ) (lists : List (List ℕ)) → list_all (list_all (nat_le offset)) lists ≡ true
      → some_choice (are_close size) (map (map (λ place. place - offset)) lists) ≡ some_choice (are_close size) lists
  close_counted size lists h =
      sym (choice_map (λ place. place - offset) (are_close size) lists) ∙ sym (choice_on (nat_le offset) (are_close size) (λ chosen. are_close size (back chosen)) lists h (close_back size))

  pub order_counted : (lists : List (List ℕ)) → list_all (list_all (nat_le offset)) lists ≡ true
      → some_choice are_in_order (map (map (λ place. place - offset)) lists) ≡ some_choice are_in_order lists
  order_counted lists h =
      sym (choice_map (λ place. place - offset) are_in_order lists) ∙ sym (choice_on (nat_le offset) are_in_order (λ chosen. are_in_order (back chosen)) lists h order_back)
