-- Distances of two phrases: the one that stands first is the one that the other is after.
use Rattle.std.proofs.Common.{◌≡◌, refl, sym, ap, ◌∙◌, ℕ, suc, ◌+◌, ◌≤◌, min, max, Bool, true, false, ◌&&◌, ◌||◌, eqb, List, [], ◌∷◌, Option, Some, None, arith, inl, inr}
use Rattle.std.specs.Prelude.{nat_le, nat_lt, if◌then◌else◌}
use Rattle.std.specs.List.{list_all}
use Rattle.std.proofs.lemmas.Bool.{and_from, and_parts, cases_Bool, eqb-true, leb-true, lt-leb, ltb-false, ltb-true, or_cases, or_parts}
use Rattle.std.proofs.lemmas.Bool.Decides.{nat_tests}
use Rattle.all_matches.specs.Boolean.{satisfied}
use Rattle.all_matches.specs.Distance.{gap_in_range, neighbours_in_range, stands_before}
use Rattle.all_matches.specs.Filters.{passes}
use Rattle.all_matches.specs.Positions.{end_in, start_in}
use Rattle.all_matches.specs.Ways.{matches_of}
use Rattle.ft_base.specs.declared.filter.Filter.TheVariants as F
use Rattle.ft_base.specs.declared.hit.Hit.{Hit}
use Rattle.ft_base.specs.declared.range.Range.{Range}
use Rattle.ft_base.specs.declared.range.Range.TheVariants.{AtLeast, AtMost, Exactly, FromTo}
use Rattle.ft_base.specs.declared.span.Span.{Span}
use Rattle.ft_base.specs.declared.unit.TextUnit.{TextUnit}
use Rattle.window_merges.specs.Choices.{some_choice}
use Rattle.window_merges.specs.Words.{filtered_words}
use Rattle.window_merges.proofs.ChoiceTests.{any_on}
use Rattle.window_merges.proofs.FilterLemmas.{filtered_choices}
use Rattle.phrase_merges.specs.Choices.{are_apart, are_between, are_near, begin_alike, ends_after, is_after}

-- what passes both of two tests
all_both : (p q : Hit → Bool) (hits : List Hit) → list_all p hits ≡ true → list_all q hits ≡ true → list_all (λ hit. p hit && q hit) hits ≡ true
all_both p q [] h k = refl
all_both p q (hit ∷ hits) h k =
    let one = and_parts (p hit) (list_all p hits) h in
    let other = and_parts (q hit) (list_all q hits) k in
    and_from (p hit && q hit) (list_all (λ own. p own && q own) hits) (and_from (p hit) (q hit) one.0 other.0) (all_both p q hits one.1 other.1)

-- ---- which of two hits stands first

not_after : (a b : Hit) → stands_before a b ≡ true → a.from ≤ b.from
not_after a b e = by_numbers a.from b.from (eqb a.from b.from && nat_le a.to b.to) (nat_le a.to b.to) refl e
  where
    by_numbers : (x y : ℕ) (same last : Bool) → same ≡ (eqb x y && last) → (nat_lt x y || same) ≡ true → x ≤ y
    by_numbers x y same last is e = elim (or_cases (nat_lt x y) same e) [
      | inl less ↦ let lt = ltb-true x y less in omega (arith, lt)
      | inr equal ↦ let eq = eqb-true x y (and_parts (eqb x y) last (sym is ∙ equal)).0 in omega (arith, eq)
    ]

not_before : (a b : Hit) → stands_before a b ≡ false → b.from ≤ a.from
not_before a b e = by_numbers a.from b.from (eqb a.from b.from && nat_le a.to b.to) e
  where
    by_numbers : (x y : ℕ) (same : Bool) → (nat_lt x y || same) ≡ false → y ≤ x
    by_numbers x y same e = ltb-false x y (or_parts (nat_lt x y) same e).0

-- of two hits the one that begins no later begins in no later sentence or paragraph
module _ (unit : TextUnit) (a b : Hit) (h : begin_alike unit a b ≡ true) where
  parts : ((nat_lt b.from a.from || nat_le (start_in unit a) (start_in unit b)) ≡ true) × ((nat_lt a.from b.from || nat_le (start_in unit b) (start_in unit a)) ≡ true)
  parts = and_parts (nat_lt b.from a.from || nat_le (start_in unit a) (start_in unit b)) (nat_lt a.from b.from || nat_le (start_in unit b) (start_in unit a)) h

  no_later : a.from ≤ b.from → start_in unit a ≤ start_in unit b
  no_later order = elim (or_cases (nat_lt b.from a.from) (nat_le (start_in unit a) (start_in unit b)) parts.0) [
    | inl less ↦ let lt = ltb-true b.from a.from less in omega (arith, lt, order)
    | inr le ↦ leb-true (start_in unit a) (start_in unit b) le
  ]

  no_sooner : b.from ≤ a.from → start_in unit b ≤ start_in unit a
  no_sooner order = elim (or_cases (nat_lt a.from b.from) (nat_le (start_in unit b) (start_in unit a)) parts.1) [
    | inl less ↦ let lt = ltb-true a.from b.from less in omega (arith, lt, order)
    | inr le ↦ leb-true (start_in unit b) (start_in unit a) le
  ]

-- ---- at most so much between them

module _ (unit : TextUnit) where
  before : (size : ℕ) (a b : Hit) → start_in unit a ≤ start_in unit b → start_in unit a ≤ end_in unit a → start_in unit b ≤ end_in unit b
      → (nat_le (start_in unit b) (suc (end_in unit a + size)) && true) ≡ are_near size unit (a ∷ b ∷ [])
  before size a b h k l = by_numbers (start_in unit a) (end_in unit a) (start_in unit b) (end_in unit b) h k l
    where
      by_numbers : (x y u v : ℕ) → x ≤ u → x ≤ y → u ≤ v → (nat_le u (suc (y + size)) && true) ≡ nat_le (max x u) (suc (min y v + size))
      by_numbers x y u v h k l = grind (arith, nat_tests, h, k, l)

  after : (size : ℕ) (a b : Hit) → start_in unit b ≤ start_in unit a → start_in unit a ≤ end_in unit a → start_in unit b ≤ end_in unit b
      → (nat_le (start_in unit a) (suc (end_in unit b + size)) && true) ≡ are_near size unit (a ∷ b ∷ [])
  after size a b h k l = by_numbers (start_in unit a) (end_in unit a) (start_in unit b) (end_in unit b) h k l
    where
      by_numbers : (x y u v : ℕ) → u ≤ x → x ≤ y → u ≤ v → (nat_le x (suc (v + size)) && true) ≡ nat_le (max x u) (suc (min y v + size))
      by_numbers x y u v h k l = grind (arith, nat_tests, h, k, l)

  two_near : (size : ℕ) (item : Span) (a b : Hit) → ends_after unit a ≡ true → ends_after unit b ≡ true → begin_alike unit a b ≡ true
      → passes (F.Distance (AtMost size) unit) (a ∷ b ∷ []) item ≡ are_near size unit (a ∷ b ∷ [])
  two_near size item a b h k alike =
      let first = leb-true (start_in unit a) (end_in unit a) h in
      let second = leb-true (start_in unit b) (end_in unit b) k in
      elim (cases_Bool (stands_before a b)) [
        | inl order ↦
            ap (λ t. neighbours_in_range (AtMost size) unit (if t then a ∷ b ∷ [] else b ∷ a ∷ [])) order
            ∙ before size a b (no_later unit a b alike (not_after a b order)) first second
        | inr order ↦
            ap (λ t. neighbours_in_range (AtMost size) unit (if t then a ∷ b ∷ [] else b ∷ a ∷ [])) order
            ∙ after size a b (no_sooner unit a b alike (not_before a b order)) first second
      ]

  -- ---- at least so much between them

  -- what begins no later isn't after
  never_after : (low : ℕ) (high : Option ℕ) (a b : Hit) → start_in unit b ≤ start_in unit a → start_in unit a ≤ end_in unit a → is_after low high unit a b ≡ false
  never_after low None a b h k = lt-leb (suc (end_in unit a + low)) (start_in unit b) (omega (arith, h, k))
  never_after low (Some high) a b h k =
      ap (λ t. t && nat_le (start_in unit b) (suc (end_in unit a + high))) (lt-leb (suc (end_in unit a + low)) (start_in unit b) (omega (arith, h, k)))

  module _ (range : Range) (low : ℕ) (high : Option ℕ) (gap : (a b : Hit) → gap_in_range range (end_in unit a) (start_in unit b) ≡ is_after low high unit a b) where
    two_between : (item : Span) (a b : Hit) → ends_after unit a ≡ true → ends_after unit b ≡ true → begin_alike unit a b ≡ true
        → passes (F.Distance range unit) (a ∷ b ∷ []) item ≡ are_between low high unit (a ∷ b ∷ [])
    two_between item a b h k alike = elim (cases_Bool (stands_before a b)) [
      | inl order ↦
          ap (λ t. neighbours_in_range range unit (if t then a ∷ b ∷ [] else b ∷ a ∷ [])) order
          ∙ ap (λ t. t && true) (gap a b)
          ∙ alone (is_after low high unit a b) (is_after low high unit b a)
          (never_after low high b a (no_later unit a b alike (not_after a b order)) (leb-true (start_in unit b) (end_in unit b) k))
      | inr order ↦
          ap (λ t. neighbours_in_range range unit (if t then a ∷ b ∷ [] else b ∷ a ∷ [])) order
          ∙ ap (λ t. t && true) (gap b a)
          ∙ only (is_after low high unit b a) (is_after low high unit a b)
          (never_after low high a b (no_sooner unit a b alike (not_before a b order)) (leb-true (start_in unit a) (end_in unit a) h))
    ]
      where
        alone : (t other : Bool) → other ≡ false → (t && true) ≡ (t || other)
        alone true other e = refl
        alone false other e = sym e

        only : (t other : Bool) → other ≡ false → (t && true) ≡ (other || t)
        only true true e = refl
        only true false e = refl
        only false true e = sym e
        only false false e = refl

  two_apart : (range : Range) (item : Span) (a b : Hit) → ends_after unit a ≡ true → ends_after unit b ≡ true → begin_alike unit a b ≡ true
      → passes (F.Distance range unit) (a ∷ b ∷ []) item ≡ are_apart range unit (a ∷ b ∷ [])
  two_apart (Exactly size) = two_between (Exactly size) size (Some size) (λ a b. both (start_in unit b) (suc (end_in unit a + size)))
    where
      both : (x y : ℕ) → eqb x y ≡ (nat_le y x && nat_le x y)
      both x y = grind (arith, nat_tests)
  two_apart (AtLeast size) = two_between (AtLeast size) size None (λ a b. refl)
  two_apart (AtMost size) = two_near size
  two_apart (FromTo low high) = two_between (FromTo low high) low (Some high) (λ a b. refl)

  pub apart_phrases : (range : Range) (item : Span) (first second : List Hit) → list_all (list_all (ends_after unit)) (first ∷ second ∷ []) ≡ true
      → list_all (λ a. list_all (begin_alike unit a) second) first ≡ true
      → satisfied (matches_of item (filtered_words (F.Distance range unit) (first ∷ second ∷ []))) ≡ some_choice (are_apart range unit) (first ∷ second ∷ [])
  apart_phrases range item first second well alike =
      let parts = and_parts (list_all (ends_after unit) first) (list_all (list_all (ends_after unit)) (second ∷ [])) well in
      let others = and_parts (list_all (ends_after unit) second) true parts.1 in
      filtered_choices (F.Distance range unit) item first (second ∷ [])
      ∙ any_on (λ a. ends_after unit a && list_all (begin_alike unit a) second) (λ a. some_choice (λ chosen. passes (F.Distance range unit) (a ∷ chosen) item) (second ∷ []))
      (λ a. some_choice (λ chosen. are_apart range unit (a ∷ chosen)) (second ∷ [])) first
      (all_both (ends_after unit) (λ a. list_all (begin_alike unit a) second) first parts.0 alike)
      (λ a one.
      let own = and_parts (ends_after unit a) (list_all (begin_alike unit a) second) one in
      any_on (λ b. ends_after unit b && begin_alike unit a b) (λ b. passes (F.Distance range unit) (a ∷ b ∷ []) item) (λ b. are_apart range unit (a ∷ b ∷ [])) second
      (all_both (ends_after unit) (begin_alike unit a) second others.0 own.1)
      (λ b other.
      let last = and_parts (ends_after unit b) (begin_alike unit a b) other in
      two_apart range item a b own.0 last.0 last.1))
