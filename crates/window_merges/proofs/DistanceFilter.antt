-- Two words at a distance of at most so many words are near one another.
use Rattle.std.proofs.Common.{◌≡◌, ap, ◌∙◌, ℕ, suc, ◌+◌, ◌≤◌, min, max, true, false, ◌&&◌, ◌||◌, eqb, List, [], ◌∷◌, map, arith, inl, inr}
use Rattle.std.specs.Prelude.{nat_le, nat_lt, if◌then◌else◌}
use Rattle.std.specs.List.{list_all}
use Rattle.std.proofs.lemmas.Bool.{and_parts, cases_Bool, eqb-true, leb-true}
use Rattle.std.proofs.lemmas.Bool.Decides.{nat_tests}
use Rattle.ft_base.specs.declared.filter.Filter.TheVariants as F
use Rattle.ft_base.specs.declared.hit.Hit.{Hit}
use Rattle.ft_base.specs.declared.range.Range.TheVariants.{AtMost}
use Rattle.ft_base.specs.declared.span.Span.{Span}
use Rattle.ft_base.specs.declared.unit.TextUnit.TheVariants.{Words}
use Rattle.all_matches.specs.Boolean.{satisfied}
use Rattle.all_matches.specs.Distance.{neighbours_in_range, stands_before}
use Rattle.all_matches.specs.Filters.{passes}
use Rattle.all_matches.specs.Ways.{matches_of}
use Rattle.window_merges.specs.Choices.{are_close, some_choice}
use Rattle.window_merges.specs.Words.{are_single, filtered_words, first_words}
use Rattle.window_merges.proofs.ChoiceTests.{any_on, choice_map}
use Rattle.window_merges.proofs.FilterLemmas.{filtered_choices, is_single}

before_gap : (size a b : ℕ) → a ≤ b → (nat_le b (suc (a + size)) && true) ≡ nat_lt (max a b) (min a b + (size + 2))
before_gap size a b h = grind (arith, nat_tests, h)

after_gap : (size a b : ℕ) → b ≤ a → (nat_le a (suc (b + size)) && true) ≡ nat_lt (max a b) (min a b + (size + 2))
after_gap size a b h = grind (arith, nat_tests, h)

-- which of two single words stands first
stands_first : (a b : Hit) → a.to ≡ a.from → b.to ≡ b.from → stands_before a b ≡ nat_le a.from b.from
stands_first a b h k =
    (λ i. nat_lt a.from b.from || (eqb a.from b.from && nat_le (h i) (k i)))
    ∙ below a.from b.from
  where
    below : (x y : ℕ) → (nat_lt x y || (eqb x y && nat_le x y)) ≡ nat_le x y
    below x y = grind (arith, nat_tests)

two_apart : (size : ℕ) (item : Span) (a b : Hit) → is_single a ≡ true → is_single b ≡ true
    → passes (F.Distance (AtMost size) Words) (a ∷ b ∷ []) item ≡ are_close (size + 2) (a.from ∷ b.from ∷ [])
two_apart size item a b h k =
    let a_one = eqb-true a.to a.from h in
    let b_one = eqb-true b.to b.from k in
    elim (cases_Bool (nat_le a.from b.from)) [
      | inl order ↦
          ap (λ t. neighbours_in_range (AtMost size) Words (if t then a ∷ b ∷ [] else b ∷ a ∷ [])) (stands_first a b a_one b_one ∙ order)
          ∙ ap (λ n. nat_le b.from (suc (n + size)) && true) a_one
          ∙ before_gap size a.from b.from (leb-true a.from b.from order)
      | inr not_before ↦
          ap (λ t. neighbours_in_range (AtMost size) Words (if t then a ∷ b ∷ [] else b ∷ a ∷ [])) (stands_first a b a_one b_one ∙ not_before)
          ∙ ap (λ n. nat_le a.from (suc (n + size)) && true) b_one
          ∙ after_gap size a.from b.from (later a.from b.from not_before)
    ]
  where
    later : (x y : ℕ) → nat_le x y ≡ false → y ≤ x
    later x y e = grind (arith, nat_tests, e)

pub distance_choices : (size : ℕ) (item : Span) (first second : List Hit) → are_single (first ∷ second ∷ []) ≡ true
    → satisfied (matches_of item (filtered_words (F.Distance (AtMost size) Words) (first ∷ second ∷ []))) ≡ some_choice (are_close (size + 2)) (first_words (first ∷ second ∷ []))
distance_choices size item first second h =
    let singles = and_parts (list_all is_single first) (list_all (list_all is_single) (second ∷ [])) h in
    let others = and_parts (list_all is_single second) true singles.1 in
    filtered_choices (F.Distance (AtMost size) Words) item first (second ∷ [])
    ∙ any_on is_single (λ a. some_choice (λ chosen. passes (F.Distance (AtMost size) Words) (a ∷ chosen) item) (second ∷ []))
    (λ a. some_choice (λ chosen. are_close (size + 2) (map (λ hit. hit.from) (a ∷ chosen))) (second ∷ [])) first singles.0
    (λ a one. any_on is_single (λ b. passes (F.Distance (AtMost size) Words) (a ∷ b ∷ []) item) (λ b. are_close (size + 2) (a.from ∷ b.from ∷ [])) second others.0
    (λ b other. two_apart size item a b one other))
    ∙ choice_map (λ hit. hit.from) (are_close (size + 2)) (first ∷ second ∷ [])
