-- Items whose hits are told from another number on fit alike; what lies in a window by its first and its last number.
use Rattle.std.proofs.Common.{◌≡◌, refl, ap, sym, ◌∙◌, ℕ, suc, ◌+◌, List, [], ◌∷◌, ◌++◌, Bool, true, false, true≢false, ◌&&◌, ◌||◌, length, arith}
use Rattle.std.specs.Prelude.{◌==◌, map, filter, cond, nat_le, nat_lt}
use Rattle.std.specs.List.{list_any, list_all}
use Rattle.std.proofs.lemmas.Bool.{and_from, and_parts, eqb-true}
use Rattle.std.proofs.lemmas.Bool.Decides.{nat_tests}
use Rattle.ft_base.specs.declared.hit.Hit.{Hit}
use Rattle.ft_base.specs.declared.unit.TextUnit.{TextUnit}
use Rattle.all_matches.specs.Positions.{start_in, end_in}
use Rattle.counted_shapes.specs.Fields.{is_in_window, in_window, in_unit}
use Rattle.counted_shapes.specs.Shapes.{Counted, is_at_most, has_enough, all_hits, events, fit_in_window, fit_in_unit}
use Rattle.counted_shapes.specs.Told.{IsTold, are_told_from, is_told_from}

lies_whole : (size last s e : ℕ) → nat_le s e ≡ true
    → ((nat_le s last && nat_lt last (s + size)) && (nat_le e last && nat_lt last (e + size))) ≡ (nat_le e last && nat_lt last (s + size))
lies_whole size last s e h = grind (arith, nat_tests)

one_unit : (n s e : ℕ) → nat_le s e ≡ true → ((s == n) && (e == n)) ≡ (nat_le e n && nat_lt n (s + 1))
one_unit n s e h = grind (arith, nat_tests)

pub lies-window : (size : ℕ) (kind : TextUnit) (last : ℕ) (hit : Hit) → nat_le (start_in kind hit) (end_in kind hit) ≡ true
    → in_window size kind last hit ≡ (is_in_window size last (start_in kind hit) && is_in_window size last (end_in kind hit))
lies-window size kind last hit h = sym (lies_whole size last (start_in kind hit) (end_in kind hit) h)

pub lies-unit : (kind : TextUnit) (number : ℕ) (hit : Hit) → nat_le (start_in kind hit) (end_in kind hit) ≡ true → in_unit kind number hit ≡ in_window 1 kind number hit
lies-unit kind number hit h = one_unit number (start_in kind hit) (end_in kind hit) h

-- ---- other numbers

moved_window : (before size last s e s' e' : ℕ) → ((s' + before == s) && (e' + before == e)) ≡ true
    → (nat_le e' last && nat_lt last (s' + size)) ≡ (nat_le e (last + before) && nat_lt (last + before) (s + size))
moved_window before size last s e s' e' h = grind (arith, nat_tests)

moved_unit : (before n s e s' e' : ℕ) → ((s' + before == s) && (e' + before == e)) ≡ true → ((s' == n) && (e' == n)) ≡ ((s == n + before) && (e == n + before))
moved_unit before n s e s' e' h = grind (arith, nat_tests)

moved_end : (before size s s' : ℕ) → s' + before ≡ s → (s' + size) + before ≡ s + size
moved_end before size s s' h = omega (arith, h)

module _ (before : ℕ) (kind : TextUnit) where
  -- fields that are told too
  module _ (fields : ℕ → Hit → Bool) (same : (n : ℕ) (one hit : Hit) → is_told_from before kind one hit ≡ true → fields n one ≡ fields (n + before) hit) where
    count_told : (n : ℕ) (told hits : List Hit) → are_told_from before kind told hits ≡ true
        → length (filter (fields n) told) ≡ length (filter (fields (n + before)) hits)
    count_told n [] [] h = refl
    count_told n [] (hit ∷ hits) h = absurd (true≢false (sym h))
    count_told n (one ∷ told) [] h = absurd (true≢false (sym h))
    count_told n (one ∷ told) (hit ∷ hits) h =
        let parts = and_parts (is_told_from before kind one hit) (are_told_from before kind told hits) h in
        ap (λ b. length (cond b (one ∷ filter (fields n) told) (filter (fields n) told))) (same n one hit parts.0)
        ∙ by_test (fields (n + before) hit) (count_told n told hits parts.1)
      where
        by_test : (b : Bool) → length (filter (fields n) told) ≡ length (filter (fields (n + before)) hits)
            → length (cond b (one ∷ filter (fields n) told) (filter (fields n) told))
            ≡ length (cond b (hit ∷ filter (fields (n + before)) hits) (filter (fields (n + before)) hits))
        by_test true e = ap suc e
        by_test false e = e

    items_told : {A : Type 0} (told plain : A → Counted) → ((a : A) → IsTold before kind (told a) (plain a)) → (n : ℕ) (items : List A)
        → list_all (has_enough (fields n)) (map told items) ≡ list_all (has_enough (fields (n + before))) (map plain items)
    items_told told plain is n [] = refl
    items_told told plain is n (item ∷ rest) =
        let count = count_told n (told item).hits (plain item).hits (is item).hits in
        λ i. (nat_le ((is item).least i) (count i) && is_at_most ((is item).most i) (count i)) && items_told told plain is n rest i

  told_append : (told hits others more : List Hit) → are_told_from before kind told hits ≡ true → are_told_from before kind others more ≡ true
      → are_told_from before kind (told ++ others) (hits ++ more) ≡ true
  told_append [] [] others more h k = k
  told_append [] (hit ∷ hits) others more h k = absurd (true≢false (sym h))
  told_append (one ∷ told) [] others more h k = absurd (true≢false (sym h))
  told_append (one ∷ told) (hit ∷ hits) others more h k =
      let parts = and_parts (is_told_from before kind one hit) (are_told_from before kind told hits) h in
      and_from (is_told_from before kind one hit) (are_told_from before kind (told ++ others) (hits ++ more)) parts.0 (told_append told hits others more parts.1 k)

  all_told : {A : Type 0} (told plain : A → Counted) → ((a : A) → IsTold before kind (told a) (plain a)) → (items : List A)
      → are_told_from before kind (all_hits (map told items)) (all_hits (map plain items)) ≡ true
  all_told told plain is [] = refl
  all_told told plain is (item ∷ rest) =
      told_append (told item).hits (plain item).hits (all_hits (map told rest)) (all_hits (map plain rest)) (is item).hits (all_told told plain is rest)

  events_told : (size : ℕ) (p q : ℕ → Bool) → ((n : ℕ) → p n ≡ q (n + before)) → (told hits : List Hit) → are_told_from before kind told hits ≡ true
      → list_any p (events size kind told) ≡ list_any q (events size kind hits)
  events_told size p q moved [] [] h = refl
  events_told size p q moved [] (hit ∷ hits) h = absurd (true≢false (sym h))
  events_told size p q moved (one ∷ told) [] h = absurd (true≢false (sym h))
  events_told size p q moved (one ∷ told) (hit ∷ hits) h =
      let parts = and_parts (is_told_from before kind one hit) (are_told_from before kind told hits) h in
      let numbers = and_parts (start_in kind one + before == start_in kind hit) (end_in kind one + before == end_in kind hit) parts.0 in
      let start = eqb-true (start_in kind one + before) (start_in kind hit) numbers.0 in
      let end = eqb-true (end_in kind one + before) (end_in kind hit) numbers.1 in
      λ i. (moved (end_in kind one) ∙ ap q end) i
      || ((moved (start_in kind one + size) ∙ ap q (moved_end before size (start_in kind hit) (start_in kind one) start)) i
      || events_told size p q moved told hits parts.1 i)

  starts_told : (p q : ℕ → Bool) → ((n : ℕ) → p n ≡ q (n + before)) → (told hits : List Hit) → are_told_from before kind told hits ≡ true
      → list_any p (map (start_in kind) told) ≡ list_any q (map (start_in kind) hits)
  starts_told p q moved [] [] h = refl
  starts_told p q moved [] (hit ∷ hits) h = absurd (true≢false (sym h))
  starts_told p q moved (one ∷ told) [] h = absurd (true≢false (sym h))
  starts_told p q moved (one ∷ told) (hit ∷ hits) h =
      let parts = and_parts (is_told_from before kind one hit) (are_told_from before kind told hits) h in
      let numbers = and_parts (start_in kind one + before == start_in kind hit) (end_in kind one + before == end_in kind hit) parts.0 in
      λ i. (moved (start_in kind one) ∙ ap q (eqb-true (start_in kind one + before) (start_in kind hit) numbers.0)) i
      || starts_told p q moved told hits parts.1 i

  module _ {A : Type 0} (told plain : A → Counted) (is : (a : A) → IsTold before kind (told a) (plain a)) where
    pub told-window : (size : ℕ) (items : List A) → fit_in_window size kind (map told items) ≡ fit_in_window size kind (map plain items)
    told-window size items =
        events_told size (λ last. list_all (has_enough (in_window size kind last)) (map told items)) (λ last. list_all (has_enough (in_window size kind last)) (map plain items))
        (λ last. items_told (in_window size kind)
        (λ n one hit moved. moved_window before size n (start_in kind hit) (end_in kind hit) (start_in kind one) (end_in kind one) moved) told plain is last items)
        (all_hits (map told items)) (all_hits (map plain items)) (all_told told plain is items)

    pub told-unit : (items : List A) → fit_in_unit kind (map told items) ≡ fit_in_unit kind (map plain items)
    told-unit items =
        starts_told (λ number. list_all (has_enough (in_unit kind number)) (map told items)) (λ number. list_all (has_enough (in_unit kind number)) (map plain items))
        (λ number. items_told (in_unit kind)
        (λ n one hit moved. moved_unit before n (start_in kind hit) (end_in kind hit) (start_in kind one) (end_in kind one) moved) told plain is number items)
        (all_hits (map told items)) (all_hits (map plain items)) (all_told told plain is items)
