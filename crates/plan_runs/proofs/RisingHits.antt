-- The hits of one variant of a phrase, all of which have as many words, neither begin nor end before an earlier one, and are told in the
-- sentences and paragraphs of one text.
use Rattle.std.proofs.Common.{◌≡◌, refl, sym, ap, ◌∙◌, ℕ, zero, suc, ◌+◌, ◌-◌, ◌==◌, ◌≤◌, Bool, true, false, ◌&&◌, cond, List, [], ◌∷◌, ◌++◌, map, filter, flat_map, length, arith, inl, inr}
use Rattle.std.specs.Prelude.{nat_le, nat_lt, ◌||◌}
use Rattle.std.specs.List.{list_all, range_with_len}
use Rattle.std.proofs.lemmas.Bool.{and_from, and_parts, cases_Bool, eqb-true, eq-eqb, le-leb, leb-true, ltb-false, ltb-true, or_cases}
use Rattle.std.proofs.lemmas.List.Elements.{filter-append}
use Rattle.std.proofs.lemmas.List.Folds.{list_all-append}
use Rattle.ft_base.specs.declared.hit.Hit.{Hit}
use Rattle.ft_base.specs.declared.places.Breaks.{Breaks}
use Rattle.ft_base.specs.declared.span.Span.{Span}
use Rattle.ft_base.specs.declared.unit.TextUnit.{TextUnit}
use Rattle.ft_base.specs.declared.unit.TextUnit.TheVariants.{Paragraphs, Sentences, Words}
use Rattle.index_phrases.specs.Phrases.{hits_in_span, last_place, own_number, numbered_hit}
use Rattle.phrase_merges.specs.Choices.{begin_alike, ends_after}
use Rattle.phrase_merges.specs.Near.{DoRise, Units, is_told}
use Rattle.phrase_merges.specs.Rows.{goes_on, goes_on_in, is_rising}
use Rattle.place_merges.specs.Places.{Wanted, stands_before}
use Rattle.place_merges.specs.Spots.{some_at, spot, spots_at, spots_between}
use Rattle.place_merges.specs.declared.spot.Spot.{Spot}
use Rattle.plan_kinds.specs.steps.RisingUnits.{started_rises}

own_rises : (starts : List ℕ) (from first second : ℕ) → first ≤ second → own_number starts from first ≤ own_number starts from second
own_rises starts from first second h = let rises = started_rises starts first second h in omega (arith, rises)

-- the sentences and paragraphs of the words of a span, in its own numbers
abbrev pub own_units : Breaks → Span → Units
own_units breaks span = record {
  sentence = λ place. own_number breaks.sentences span.from (place + (span.from - 1));
  paragraph = λ place. own_number breaks.paragraphs span.from (place + (span.from - 1));
}

pub units_rise : (breaks : Breaks) (span : Span) → DoRise (own_units breaks span)
units_rise breaks span = record {
  sentences = λ a b h. own_rises breaks.sentences span.from (a + (span.from - 1)) (b + (span.from - 1)) (omega (arith, h));
  paragraphs = λ a b h. own_rises breaks.paragraphs span.from (a + (span.from - 1)) (b + (span.from - 1)) (omega (arith, h));
}

-- of two hits that are told in one text the one that begins no later begins in no later sentence or paragraph
module _ (units : Units) (rise : DoRise units) where
  by_rise : (number : ℕ → ℕ) → ((a b : ℕ) → a ≤ b → number a ≤ number b) → (a b x y : ℕ) → x ≡ number a → y ≡ number b
      → ((nat_lt b a || nat_le x y) && (nat_lt a b || nat_le y x)) ≡ true
  by_rise number up a b x y first second = by_order (nat_lt b a) (nat_lt a b) refl refl
    where
      by_order : (less more : Bool) → nat_lt b a ≡ less → nat_lt a b ≡ more → ((less || nat_le x y) && (more || nat_le y x)) ≡ true
      by_order true true h k = refl
      by_order true false h k = let lt = ltb-true b a h in let rises = up b a (omega (arith, lt)) in le-leb y x (omega (arith, rises, first, second))
      by_order false true h k = let lt = ltb-true a b k in let rises = up a b (omega (arith, lt)) in ap (λ t. t && true) (le-leb x y (omega (arith, rises, first, second)))
      by_order false false h k =
          let no = ltb-false b a h in
          let nor = ltb-false a b k in
          let one = up a b (omega (arith, no)) in
          let other = up b a (omega (arith, nor)) in
          and_from (nat_le x y) (nat_le y x) (le-leb x y (omega (arith, one, first, second))) (le-leb y x (omega (arith, other, first, second)))

  told_parts : (hit : Hit) → is_told units hit ≡ true → (hit.sent_from ≡ units.sentence hit.from) × (hit.para_from ≡ units.paragraph hit.from)
  told_parts hit h =
      let whole = and_parts (nat_le hit.from hit.to) (((hit.sent_from == units.sentence hit.from) && (hit.sent_to == units.sentence hit.to))
      && ((hit.para_from == units.paragraph hit.from) && (hit.para_to == units.paragraph hit.to))) h in
      let both = and_parts ((hit.sent_from == units.sentence hit.from) && (hit.sent_to == units.sentence hit.to))
      ((hit.para_from == units.paragraph hit.from) && (hit.para_to == units.paragraph hit.to)) whole.1 in
      let sentence = and_parts (hit.sent_from == units.sentence hit.from) (hit.sent_to == units.sentence hit.to) both.0 in
      let paragraph = and_parts (hit.para_from == units.paragraph hit.from) (hit.para_to == units.paragraph hit.to) both.1 in
      (eqb-true hit.sent_from (units.sentence hit.from) sentence.0, eqb-true hit.para_from (units.paragraph hit.from) paragraph.0)

  two_begin_alike : (unit : TextUnit) (a b : Hit) → is_told units a ≡ true → is_told units b ≡ true → begin_alike unit a b ≡ true
  two_begin_alike Words a b h k = by_rise (λ n. n) (λ x y le. le) a.from b.from a.from b.from refl refl
  two_begin_alike Sentences a b h k = by_rise units.sentence rise.sentences a.from b.from a.sent_from b.sent_from (told_parts a h).0 (told_parts b k).0
  two_begin_alike Paragraphs a b h k = by_rise units.paragraph rise.paragraphs a.from b.from a.para_from b.para_from (told_parts a h).1 (told_parts b k).1

  each_begins_alike : (unit : TextUnit) (a : Hit) (others : List Hit) → is_told units a ≡ true → list_all (is_told units) others ≡ true → list_all (begin_alike unit a) others ≡ true
  each_begins_alike unit a [] h k = refl
  each_begins_alike unit a (b ∷ others) h k =
      let parts = and_parts (is_told units b) (list_all (is_told units) others) k in
      and_from (begin_alike unit a b) (list_all (begin_alike unit a) others) (two_begin_alike unit a b h parts.0) (each_begins_alike unit a others h parts.1)

  pub all_begin_alike : (unit : TextUnit) (hits others : List Hit) → list_all (is_told units) hits ≡ true → list_all (is_told units) others ≡ true
      → list_all (λ a. list_all (begin_alike unit a) others) hits ≡ true
  all_begin_alike unit [] others h k = refl
  all_begin_alike unit (a ∷ hits) others h k =
      let parts = and_parts (is_told units a) (list_all (is_told units) hits) h in
      and_from (list_all (begin_alike unit a) others) (list_all (λ own. list_all (begin_alike unit own) others) hits) (each_begins_alike unit a others parts.0 k)
      (all_begin_alike unit hits others parts.1 k)

module _ (number : ℕ) (breaks : Breaks) (span : Span) where
  abbrev hit_at : Spot → Hit
  hit_at at = numbered_hit number breaks span at

  -- ---- one hit

  pub told_ends : (unit : TextUnit) (at : Spot) → ends_after unit (hit_at at) ≡ true
  told_ends Words at = le-leb (at.place - (span.from - 1)) (last_place at - (span.from - 1)) (omega arith)
  told_ends Sentences at = le-leb (own_number breaks.sentences span.from at.place) (own_number breaks.sentences span.from (last_place at)) (own_rises breaks.sentences span.from at.place (last_place at) (omega arith))
  told_ends Paragraphs at = le-leb (own_number breaks.paragraphs span.from at.place) (own_number breaks.paragraphs span.from (last_place at)) (own_rises breaks.paragraphs span.from at.place (last_place at) (omega arith))

  pub all_told : (test : Hit → Bool) → ((at : Spot) → test (hit_at at) ≡ true) → (spots : List Spot) → list_all test (map hit_at spots) ≡ true
  all_told test each [] = refl
  all_told test each (at ∷ spots) = and_from (test (hit_at at)) (list_all test (map hit_at spots)) (each at) (all_told test each spots)

  told_one : (at : Spot) → span.from ≤ at.place → is_told (own_units breaks span) (hit_at at) ≡ true
  told_one at from =
      let first : at.place ≡ (at.place - (span.from - 1)) + (span.from - 1) = omega (arith, from) in
      let last : last_place at ≡ (last_place at - (span.from - 1)) + (span.from - 1) = omega (arith, from) in
      let own = own_units breaks span in
      let hit = hit_at at in
      and_from (nat_le hit.from hit.to) (((hit.sent_from == own.sentence hit.from) && (hit.sent_to == own.sentence hit.to))
      && ((hit.para_from == own.paragraph hit.from) && (hit.para_to == own.paragraph hit.to))) (told_ends Words at)
      (and_from ((hit.sent_from == own.sentence hit.from) && (hit.sent_to == own.sentence hit.to)) ((hit.para_from == own.paragraph hit.from) && (hit.para_to == own.paragraph hit.to))
      (and_from (hit.sent_from == own.sentence hit.from) (hit.sent_to == own.sentence hit.to)
      (eq-eqb hit.sent_from (own.sentence hit.from) (ap (own_number breaks.sentences span.from) first))
      (eq-eqb hit.sent_to (own.sentence hit.to) (ap (own_number breaks.sentences span.from) last)))
      (and_from (hit.para_from == own.paragraph hit.from) (hit.para_to == own.paragraph hit.to)
      (eq-eqb hit.para_from (own.paragraph hit.from) (ap (own_number breaks.paragraphs span.from) first))
      (eq-eqb hit.para_to (own.paragraph hit.to) (ap (own_number breaks.paragraphs span.from) last))))

  -- ---- two hits of as many words

  in_unit : (unit : TextUnit) (a b : Spot) → a.place ≤ b.place → last_place a ≤ last_place b → goes_on_in unit (hit_at a) (hit_at b) ≡ true
  in_unit Words a b h k =
      and_from (nat_le (a.place - (span.from - 1)) (b.place - (span.from - 1))) (nat_le (last_place a - (span.from - 1)) (last_place b - (span.from - 1)))
      (le-leb (a.place - (span.from - 1)) (b.place - (span.from - 1)) (omega (arith, h))) (le-leb (last_place a - (span.from - 1)) (last_place b - (span.from - 1)) (omega (arith, k)))
  in_unit Sentences a b h k =
      let own = own_number breaks.sentences span.from in
      and_from (nat_le (own a.place) (own b.place)) (nat_le (own (last_place a)) (own (last_place b)))
      (le-leb (own a.place) (own b.place) (own_rises breaks.sentences span.from a.place b.place h))
      (le-leb (own (last_place a)) (own (last_place b)) (own_rises breaks.sentences span.from (last_place a) (last_place b) k))
  in_unit Paragraphs a b h k =
      let own = own_number breaks.paragraphs span.from in
      and_from (nat_le (own a.place) (own b.place)) (nat_le (own (last_place a)) (own (last_place b)))
      (le-leb (own a.place) (own b.place) (own_rises breaks.paragraphs span.from a.place b.place h))
      (le-leb (own (last_place a)) (own (last_place b)) (own_rises breaks.paragraphs span.from (last_place a) (last_place b) k))

  told_goes_on : (a b : Spot) → a.place ≤ b.place → a.words ≡ b.words → goes_on (hit_at a) (hit_at b) ≡ true
  told_goes_on a b h same =
      let last : last_place a ≤ last_place b = omega (arith, h, same) in
      and_from (goes_on_in Words (hit_at a) (hit_at b)) (goes_on_in Sentences (hit_at a) (hit_at b) && goes_on_in Paragraphs (hit_at a) (hit_at b)) (in_unit Words a b h last)
      (and_from (goes_on_in Sentences (hit_at a) (hit_at b)) (goes_on_in Paragraphs (hit_at a) (hit_at b)) (in_unit Sentences a b h last) (in_unit Paragraphs a b h last))

  -- ---- spots of as many words, place after place

  abbrev spots_rise : ℕ → ℕ → List Spot → Bool
  spots_rise words place [] = true
  spots_rise words place (at ∷ spots) = (at.words == words) && (nat_le place at.place && spots_rise words at.place spots)

  parts_of : (words place : ℕ) (at : Spot) (spots : List Spot) → spots_rise words place (at ∷ spots) ≡ true → (at.words ≡ words) × ((place ≤ at.place) × (spots_rise words at.place spots ≡ true))
  parts_of words place at spots h =
      let first = and_parts (at.words == words) (nat_le place at.place && spots_rise words at.place spots) h in
      let then = and_parts (nat_le place at.place) (spots_rise words at.place spots) first.1 in
      (eqb-true at.words words first.0, (leb-true place at.place then.0, then.1))

  from_parts : (words place : ℕ) (at : Spot) (spots : List Spot) → at.words ≡ words → place ≤ at.place → spots_rise words at.place spots ≡ true → spots_rise words place (at ∷ spots) ≡ true
  from_parts words place at spots is from rest =
      and_from (at.words == words) (nat_le place at.place && spots_rise words at.place spots) (eq-eqb at.words words is)
      (and_from (nat_le place at.place) (spots_rise words at.place spots) (le-leb place at.place from) rest)

  all_after : (words place : ℕ) (at : Spot) (spots : List Spot) → at.words ≡ words → at.place ≤ place → spots_rise words place spots ≡ true → list_all (goes_on (hit_at at)) (map hit_at spots) ≡ true
  all_after words place at [] is from h = refl
  all_after words place at (other ∷ spots) is from h =
      let parts = parts_of words place other spots h in
      let further : at.place ≤ other.place = omega (arith, from, parts.1.0) in
      and_from (goes_on (hit_at at) (hit_at other)) (list_all (goes_on (hit_at at)) (map hit_at spots)) (told_goes_on at other further (is ∙ sym parts.0))
      (all_after words other.place at spots is further parts.1.1)

  rising_told : (words place : ℕ) (spots : List Spot) → spots_rise words place spots ≡ true → is_rising (map hit_at spots) ≡ true
  rising_told words place [] h = refl
  rising_told words place (at ∷ spots) h =
      let parts = parts_of words place at spots h in
      and_from (list_all (goes_on (hit_at at)) (map hit_at spots)) (is_rising (map hit_at spots)) (all_after words at.place at spots parts.0 (omega arith) parts.1.1)
      (rising_told words at.place spots parts.1.1)

  -- spots from the first place of the span on
  abbrev is_on : Spot → Bool
  is_on at = nat_le span.from at.place

  told_each : (spots : List Spot) → list_all is_on spots ≡ true → list_all (is_told (own_units breaks span)) (map hit_at spots) ≡ true
  told_each [] h = refl
  told_each (at ∷ spots) h =
      let parts = and_parts (is_on at) (list_all is_on spots) h in
      and_from (is_told (own_units breaks span) (hit_at at)) (list_all (is_told (own_units breaks span)) (map hit_at spots)) (told_one at (leb-true span.from at.place parts.0))
      (told_each spots parts.1)

  on_at : (place : ℕ) (counts : List ℕ) → span.from ≤ place → list_all is_on (map (spot place) counts) ≡ true
  on_at place [] h = refl
  on_at place (count ∷ counts) h = and_from (is_on (spot place count)) (list_all is_on (map (spot place) counts)) (le-leb span.from place h) (on_at place counts h)

  on_between : (place count : ℕ) → span.from ≤ place → list_all is_on (flat_map (spots_at span.to) (range_with_len place count)) ≡ true
  on_between place zero h = refl
  on_between place (suc count) h =
      list_all-append is_on (spots_at span.to place) (flat_map (spots_at span.to) (range_with_len (place + 1) count))
      ∙ and_from (list_all is_on (spots_at span.to place)) (list_all is_on (flat_map (spots_at span.to) (range_with_len (place + 1) count)))
      (on_at place (range_with_len 1 (span.to - place)) h) (on_between (place + 1) count (omega (arith, h)))

  on_kept : (test : Spot → Bool) (spots : List Spot) → list_all is_on spots ≡ true → list_all is_on (filter test spots) ≡ true
  on_kept test [] h = refl
  on_kept test (at ∷ spots) h =
      let parts = and_parts (is_on at) (list_all is_on spots) h in
      by_test (test at) (and_from (is_on at) (list_all is_on (filter test spots)) parts.0 (on_kept test spots parts.1)) (on_kept test spots parts.1)
    where
      by_test : (b : Bool) → list_all is_on (at ∷ filter test spots) ≡ true → list_all is_on (filter test spots) ≡ true
          → list_all is_on (cond b (at ∷ filter test spots) (filter test spots)) ≡ true
      by_test true one other = one
      by_test false one other = other

  pub phrase_told : (variants : List (List Wanted)) → list_all (is_told (own_units breaks span)) (hits_in_span number breaks span variants) ≡ true
  phrase_told variants =
      told_each (filter (some_at span.to variants) (spots_between span.from span.to))
      (on_kept (some_at span.to variants) (spots_between span.from span.to) (on_between span.from (span.to - span.from) (omega arith)))

  -- ---- the spots of a variant

  earlier : (words place later : ℕ) (spots : List Spot) → place ≤ later → spots_rise words later spots ≡ true → spots_rise words place spots ≡ true
  earlier words place later [] h e = refl
  earlier words place later (at ∷ spots) h e = let parts = parts_of words later at spots e in from_parts words place at spots parts.0 (omega (arith, h, parts.1.0)) parts.1.1

  module _ (variant : List Wanted) where
    abbrev stands : Spot → Bool
    stands at = some_at span.to (variant ∷ []) at

    as_long : (at : Spot) → stands at ≡ true → at.words ≡ length variant
    as_long at h = elim (or_cases ((length variant == at.words) && stands_before span.to at.place variant) false h) [
      | inl one ↦ sym (eqb-true (length variant) at.words (and_parts (length variant == at.words) (stands_before span.to at.place variant) one).0)
      | inr none ↦ cc
    ]

    at_place : (place : ℕ) (counts : List ℕ) (after : List Spot) → spots_rise (length variant) place after ≡ true
        → spots_rise (length variant) place (filter stands (map (spot place) counts) ++ after) ≡ true
    at_place place [] after h = h
    at_place place (count ∷ counts) after h = elim (cases_Bool (stands (spot place count))) [
      | inl there ↦
          ap (λ b. spots_rise (length variant) place (cond b (spot place count ∷ filter stands (map (spot place) counts)) (filter stands (map (spot place) counts)) ++ after)) there
          ∙ from_parts (length variant) place (spot place count) (filter stands (map (spot place) counts) ++ after) (as_long (spot place count) there) (omega arith) (at_place place counts after h)
      | inr none ↦
          ap (λ b. spots_rise (length variant) place (cond b (spot place count ∷ filter stands (map (spot place) counts)) (filter stands (map (spot place) counts)) ++ after)) none
          ∙ at_place place counts after h
    ]

    all_spots : (place count : ℕ) → spots_rise (length variant) place (filter stands (flat_map (spots_at span.to) (range_with_len place count))) ≡ true
    all_spots place zero = refl
    all_spots place (suc count) =
        ap (spots_rise (length variant) place) (filter-append stands (spots_at span.to place) (flat_map (spots_at span.to) (range_with_len (place + 1) count)))
        ∙ at_place place (range_with_len 1 (span.to - place)) (filter stands (flat_map (spots_at span.to) (range_with_len (place + 1) count)))
        (earlier (length variant) place (place + 1) (filter stands (flat_map (spots_at span.to) (range_with_len (place + 1) count))) (omega arith) (all_spots (place + 1) count))

    pub variant_rises : is_rising (hits_in_span number breaks span (variant ∷ [])) ≡ true
    variant_rises = rising_told (length variant) span.from (filter stands (spots_between span.from span.to)) (all_spots span.from (span.to - span.from))
