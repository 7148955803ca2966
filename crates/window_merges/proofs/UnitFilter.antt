-- Words that are joined by `ftand` under `same sentence` or `same paragraph`, as choices of the units of their places.
use Rattle.std.proofs.Common.{◌≡◌, refl, sym, ap, ◌∙◌, ℕ, ◌-◌, ◌≤◌, Bool, true, ◌&&◌, eqb, List, [], ◌∷◌, map}
use Rattle.std.specs.Prelude.{nat_le}
use Rattle.std.specs.List.{list_all}
use Rattle.std.proofs.lemmas.Bool.{and_from, and_parts, eqb-true, eq-eqb, leb-true}
use Rattle.ft_base.proofs.Truth.{same_tests}
use Rattle.ft_base.specs.declared.filter.Filter.{Filter}
use Rattle.ft_base.specs.declared.filter.Filter.TheVariants as F
use Rattle.ft_base.specs.declared.hit.Hit.{Hit}
use Rattle.ft_base.specs.declared.span.Span.{Span}
use Rattle.ft_base.specs.declared.unit.TextUnit.{TextUnit}
use Rattle.ft_base.specs.declared.unit.TextUnit.TheVariants.{Paragraphs, Sentences}
use Rattle.all_matches.specs.Boolean.{satisfied}
use Rattle.all_matches.specs.Filters.{all_in_one, passes}
use Rattle.all_matches.specs.Positions.{end_in, share_one, start_in}
use Rattle.all_matches.specs.Ways.{matches_of}
use Rattle.window_merges.specs.Choices.{are_in_one, some_choice}
use Rattle.window_merges.specs.Words.{are_told, filtered_words, first_words}
use Rattle.window_merges.proofs.ChoiceTests.{choice_map, choice_on}
use Rattle.window_merges.proofs.FilterLemmas.{filtered_choices}

module _ (kind : TextUnit) (unit : ℕ → ℕ) where
  abbrev is_told : Hit → Bool
  is_told hit = eqb (start_in kind hit) (unit hit.from) && eqb (end_in kind hit) (unit hit.from)

  -- two hits that lie in their units share one where these are the same
  shares : (a b : Hit) → is_told a ≡ true → is_told b ≡ true → share_one kind a b ≡ eqb (unit a.from) (unit b.from)
  shares a b h k =
      let first = and_parts (eqb (start_in kind a) (unit a.from)) (eqb (end_in kind a) (unit a.from)) h in
      let second = and_parts (eqb (start_in kind b) (unit b.from)) (eqb (end_in kind b) (unit b.from)) k in
      let a_start = eqb-true (start_in kind a) (unit a.from) first.0 in
      let a_end = eqb-true (end_in kind a) (unit a.from) first.1 in
      let b_start = eqb-true (start_in kind b) (unit b.from) second.0 in
      let b_end = eqb-true (end_in kind b) (unit b.from) second.1 in
      (λ i. (eqb (a_start i) (a_end i) && eqb (b_start i) (b_end i)) && eqb (a_start i) (b_start i))
      ∙ (λ i. (eq-eqb (unit a.from) (unit a.from) refl i && eq-eqb (unit b.from) (unit b.from) refl i) && eqb (unit a.from) (unit b.from))

  abbrev units_of : List Hit → List ℕ
  units_of hits = map (λ hit. hit.from) hits

  -- whether all hits have the unit of a place
  abbrev all_with : ℕ → List Hit → Bool
  all_with place hits = list_all (λ hit. eqb (unit hit.from) (unit place)) hits

  with_places : (place : ℕ) (hits : List Hit) → list_all (λ other. eqb (unit other) (unit place)) (units_of hits) ≡ all_with place hits
  with_places place [] = refl
  with_places place (hit ∷ hits) = ap (λ b. eqb (unit hit.from) (unit place) && b) (with_places place hits)

  -- of hits that have the unit of one of them each shares it with all
  same_as : (first : Hit) (a : Hit) (hits : List Hit) → is_told a ≡ true → list_all is_told hits ≡ true → unit a.from ≡ unit first.from → all_with first.from hits ≡ true → list_all (share_one kind a) hits ≡ true
  same_as first a [] h k e all = refl
  same_as first a (hit ∷ hits) h k e all =
      let known = and_parts (is_told hit) (list_all is_told hits) k in
      let parts = and_parts (eqb (unit hit.from) (unit first.from)) (all_with first.from hits) all in
      and_from (share_one kind a hit) (list_all (share_one kind a) hits)
      (shares a hit h known.0 ∙ eq-eqb (unit a.from) (unit hit.from) (e ∙ sym (eqb-true (unit hit.from) (unit first.from) parts.0)))
      (same_as first a hits h known.1 e parts.1)

  each_same : (first : Hit) (some hits : List Hit) → list_all is_told some ≡ true → list_all is_told hits ≡ true → all_with first.from some ≡ true → all_with first.from hits ≡ true
      → list_all (λ a. list_all (share_one kind a) hits) some ≡ true
  each_same first [] hits h k e all = refl
  each_same first (a ∷ some) hits h k e all =
      let known = and_parts (is_told a) (list_all is_told some) h in
      let parts = and_parts (eqb (unit a.from) (unit first.from)) (all_with first.from some) e in
      and_from (list_all (share_one kind a) hits) (list_all (λ b. list_all (share_one kind b) hits) some)
      (same_as first a hits known.0 k (eqb-true (unit a.from) (unit first.from) parts.0) all) (each_same first some hits known.1 k parts.1 all)

  -- what shares the unit of the first has it
  with_first : (first : Hit) (hits : List Hit) → is_told first ≡ true → list_all is_told hits ≡ true → list_all (share_one kind first) hits ≡ true → all_with first.from hits ≡ true
  with_first first [] h k e = refl
  with_first first (hit ∷ hits) h k e =
      let known = and_parts (is_told hit) (list_all is_told hits) k in
      let parts = and_parts (share_one kind first hit) (list_all (share_one kind first) hits) e in
      let is = eqb-true (unit first.from) (unit hit.from) (sym (shares first hit h known.0) ∙ parts.0) in
      and_from (eqb (unit hit.from) (unit first.from)) (all_with first.from hits) (eq-eqb (unit hit.from) (unit first.from) (sym is)) (with_first first hits h known.1 parts.1)

  in_one : (chosen : List Hit) → list_all is_told chosen ≡ true → all_in_one kind chosen ≡ are_in_one unit (units_of chosen)
  in_one [] h = refl
  in_one (first ∷ rest) h = same_tests (all_in_one kind (first ∷ rest)) (are_in_one unit (units_of (first ∷ rest))) to back
    where
      known : (is_told first ≡ true) × (list_all is_told rest ≡ true)
      known = and_parts (is_told first) (list_all is_told rest) h

      to : all_in_one kind (first ∷ rest) ≡ true → are_in_one unit (units_of (first ∷ rest)) ≡ true
      to e =
          let of_first = (and_parts (list_all (share_one kind first) (first ∷ rest)) (list_all (λ a. list_all (share_one kind a) (first ∷ rest)) rest) e).0 in
          let others = (and_parts (share_one kind first first) (list_all (share_one kind first) rest) of_first).1 in
          with_places first.from rest ∙ with_first first rest known.0 known.1 others

      back : are_in_one unit (units_of (first ∷ rest)) ≡ true → all_in_one kind (first ∷ rest) ≡ true
      back e =
          let others = sym (with_places first.from rest) ∙ e in
          let all = and_from (eqb (unit first.from) (unit first.from)) (all_with first.from rest) (eq-eqb (unit first.from) (unit first.from) refl) others in
          each_same first (first ∷ rest) (first ∷ rest) h h all all

  pub unit_choices : (filter : Filter) (item : Span) (hits : List Hit) (words : List (List Hit)) → ((chosen : List Hit) → passes filter chosen item ≡ all_in_one kind chosen)
      → are_told kind unit (hits ∷ words) ≡ true → satisfied (matches_of item (filtered_words filter (hits ∷ words))) ≡ some_choice (are_in_one unit) (first_words (hits ∷ words))
  unit_choices filter item hits words same h =
      filtered_choices filter item hits words
      ∙ choice_on is_told (λ chosen. passes filter chosen item) (λ chosen. are_in_one unit (units_of chosen)) (hits ∷ words) h (λ chosen e. same chosen ∙ in_one chosen e)
      ∙ choice_map (λ hit. hit.from) (are_in_one unit) (hits ∷ words)

pub same_sentence : (unit : ℕ → ℕ) (item : Span) (hits : List Hit) (words : List (List Hit)) → are_told Sentences unit (hits ∷ words) ≡ true
    → satisfied (matches_of item (filtered_words F.SameSentence (hits ∷ words))) ≡ some_choice (are_in_one unit) (first_words (hits ∷ words))
same_sentence unit item hits words h = unit_choices Sentences unit F.SameSentence item hits words (λ chosen. refl) h

pub same_paragraph : (unit : ℕ → ℕ) (item : Span) (hits : List Hit) (words : List (List Hit)) → are_told Paragraphs unit (hits ∷ words) ≡ true
    → satisfied (matches_of item (filtered_words F.SameParagraph (hits ∷ words))) ≡ some_choice (are_in_one unit) (first_words (hits ∷ words))
same_paragraph unit item hits words h = unit_choices Paragraphs unit F.SameParagraph item hits words (λ chosen. refl) h

-- ---- other numbers

module _ (unit other : ℕ → ℕ) (offset low : ℕ) (same : (p q : ℕ) → low ≤ p → low ≤ q → eqb (unit (p - offset)) (unit (q - offset)) ≡ eqb (other p) (other q)) where
  counted_all : (first : ℕ) (rest : List ℕ) → low ≤ first → list_all (nat_le low) rest ≡ true
      → list_all (λ place. eqb (unit place) (unit (first - offset))) (map (λ place. place - offset) rest) ≡ list_all (λ place. eqb (other place) (other first)) rest
  counted_all first [] h k = refl
  counted_all first (p ∷ rest) h k =
      let parts = and_parts (nat_le low p) (list_all (nat_le low) rest) k in
      λ i. same p first (leb-true low p parts.0) h i && counted_all first rest h parts.1 i

  counted_one : (chosen : List ℕ) → list_all (nat_le low) chosen ≡ true → are_in_one unit (map (λ place. place - offset) chosen) ≡ are_in_one other chosen
  counted_one [] h = refl
  counted_one (first ∷ rest) h =
      let parts = and_parts (nat_le low first) (list_all (nat_le low) rest) h in
      counted_all first rest (leb-true low first parts.0) parts.1

pub counted_units : (unit other : ℕ → ℕ) (offset low : ℕ) (lists : List (List ℕ)) → list_all (list_all (nat_le low)) lists ≡ true
    → ((p q : ℕ) → low ≤ p → low ≤ q → eqb (unit (p - offset)) (unit (q - offset)) ≡ eqb (other p) (other q))
    → some_choice (are_in_one unit) (map (map (λ place. place - offset)) lists) ≡ some_choice (are_in_one other) lists
counted_units unit other offset low lists h same =
    sym (choice_map (λ place. place - offset) (are_in_one unit) lists)
    ∙ choice_on (nat_le low) (λ chosen. are_in_one unit (map (λ place. place - offset) chosen)) (are_in_one other) lists h (counted_one unit other offset low same)
