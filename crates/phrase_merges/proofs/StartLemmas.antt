-- The latest start of what ends before a place, by the tests that it passes: of one side or the other, of both, and of what lies in a field.
use Rattle.std.proofs.Common.{◌≡◌, refl, sym, ap, ◌∙◌, ℕ, suc, ◌+◌, ◌<◌, ◌≤◌, min, max, Bool, true, false, cond, ◌&&◌, ◌||◌, List, [], ◌∷◌, ◌++◌, filter, Option, Some, None, arith, inl, inr}
use Rattle.std.specs.Prelude.{flat_map, nat_le, nat_lt, option_to_list}
use Rattle.std.specs.List.{list_any, list_all}
use Rattle.std.proofs.Math.Bool.{or-false}
use Rattle.std.proofs.lemmas.Bool.{and_from, and_parts, cases_lt, le-leb, leb-true, lt-ltb, ltb-true, or_cases, true≢false}
use Rattle.std.proofs.lemmas.Bool.Decides.{nat_tests}
use Rattle.std.proofs.lemmas.List.Folds.{list_any-append}
use Rattle.all_matches.proofs.ListTests.{list_any-alike, list_any-and, list_any-and_first, list_any-flat_map}
use Rattle.all_matches.proofs.WayLaws.{any_or}
use Rattle.all_matches.specs.Join.{join}
use Rattle.ft_base.specs.declared.hit.Hit.{Hit}
use Rattle.window_merges.proofs.ChoiceTests.{any_on}
use Rattle.phrase_merges.proofs.ChoiceLemmas.{any_filter}
use Rattle.phrase_merges.specs.steps.Ahead.{from_on}
use Rattle.phrase_merges.specs.declared.edge.Edge.TheVariants.{End}
use Rattle.ft_base.specs.declared.unit.TextUnit.TheVariants.{Words}
use Rattle.phrase_merges.specs.steps.Passing.{greater, latest_before}

-- the smaller of two numbers, where there are both
abbrev pub smaller : Option ℕ → Option ℕ → Option ℕ
smaller None second = None
smaller (Some a) None = None
smaller (Some a) (Some b) = Some (min a b)

-- the number, if there is one and it passes a test
abbrev pub keep : (ℕ → Bool) → Option ℕ → Option ℕ
keep room None = None
keep room (Some a) = cond (room a) (Some a) None

-- whether there is a number that passes a test
abbrev pub has : (ℕ → Bool) → Option ℕ → Bool
has test None = false
has test (Some a) = test a

-- a test that a larger number passes where a smaller one does
abbrev pub Rises : (ℕ → Bool) → Type 0
Rises test = (a b : ℕ) → a ≤ b → test a ≡ true → test b ≡ true

pub from_rises : (low : ℕ) → Rises (nat_le low)
from_rises low a b le h = let from = leb-true low a h in le-leb low b (omega (arith, le, from))

-- numbers that pass the same of these tests are the same
pub same_number : (x y : Option ℕ) → ((low : ℕ) → has (nat_le low) x ≡ has (nat_le low) y) → x ≡ y
same_number None None same = refl
same_number None (Some b) same = absurd (true≢false (sym (le-leb b b (omega arith)) ∙ sym (same b)))
same_number (Some a) None same = absurd (true≢false (sym (le-leb a a (omega arith)) ∙ same a))
same_number (Some a) (Some b) same =
    let up = leb-true a b (sym (same a) ∙ le-leb a a (omega arith)) in
    let down = leb-true b a (same b ∙ le-leb b b (omega arith)) in
    ap Some (omega (arith, up, down))

or_later : (a b : Bool) → (a ≡ true → b ≡ true) → b ≡ (a || b)
or_later true b h = h refl
or_later false b h = refl

or_first : (a b : Bool) → (b ≡ true → a ≡ true) → a ≡ (a || b)
or_first true b h = refl
or_first false true h = h refl
or_first false false h = refl

and_first : (a b : Bool) → (a ≡ true → b ≡ true) → a ≡ (a && b)
and_first true b h = sym (h refl)
and_first false b h = refl

and_later : (a b : Bool) → (b ≡ true → a ≡ true) → b ≡ (a && b)
and_later true b h = refl
and_later false true h = sym (h refl)
and_later false false h = refl

module _ (test : ℕ → Bool) (rises : Rises test) where
  of_max : (a b : ℕ) → test (max a b) ≡ (test a || test b)
  of_max a b =
      elim (cases_lt a b) [
        | inl less ↦ let is : max a b ≡ b = omega (arith, less) in ap test is ∙ or_later (test a) (test b) (rises a b (omega (arith, less)))
        | inr le ↦ let is : max a b ≡ a = omega (arith, le) in ap test is ∙ or_first (test a) (test b) (rises b a le)
      ]

  of_min : (a b : ℕ) → test (min a b) ≡ (test a && test b)
  of_min a b =
      elim (cases_lt a b) [
        | inl less ↦ let is : min a b ≡ a = omega (arith, less) in ap test is ∙ and_first (test a) (test b) (rises a b (omega (arith, less)))
        | inr le ↦ let is : min a b ≡ b = omega (arith, le) in ap test is ∙ and_later (test a) (test b) (rises b a le)
      ]

  pub has_greater : (x y : Option ℕ) → has test (greater x y) ≡ (has test x || has test y)
  has_greater None y = refl
  has_greater (Some a) None = or_first (test a) false (λ e. absurd (true≢false (sym e)))
  has_greater (Some a) (Some b) = of_max a b

  pub has_smaller : (x y : Option ℕ) → has test (smaller x y) ≡ (has test x && has test y)
  has_smaller None y = refl
  has_smaller (Some a) None = and_later (test a) false (λ e. absurd (true≢false (sym e)))
  has_smaller (Some a) (Some b) = of_min a b

  -- the latest start passes it where some does
  pub has_latest : (place : ℕ) (hits : List Hit) → has test (latest_before place hits) ≡ list_any (λ hit. nat_lt hit.to place && test hit.from) hits
  has_latest place [] = refl
  has_latest place (hit ∷ hits) = by (has_latest place hits) (nat_lt hit.to place)
    where
      by : has test (latest_before place hits) ≡ list_any (λ other. nat_lt other.to place && test other.from) hits → (x : Bool) → has test (cond x (greater (Some hit.from) (latest_before place hits)) (latest_before place hits))
          ≡ ((x && test hit.from) || list_any (λ other. nat_lt other.to place && test other.from) hits)
      by rest true = has_greater (Some hit.from) (latest_before place hits) ∙ ap (λ b. test hit.from || b) rest
      by rest false = rest

pub has_keep : (room test : ℕ → Bool) (x : Option ℕ) → has test (keep room x) ≡ has (λ a. room a && test a) x
has_keep room test None = refl
has_keep room test (Some a) = by (room a)
  where
    by : (x : Bool) → has test (cond x (Some a) None) ≡ (x && test a)
    by true = refl
    by false = refl

pub greater_turn : (a b c : Option ℕ) → greater (greater a b) c ≡ greater a (greater b c)
greater_turn None b c = refl
greater_turn (Some a) None c = refl
greater_turn (Some a) (Some b) None = refl
greater_turn (Some a) (Some b) (Some c) = ap Some (omega arith)

-- whether a hit ends before a place and begins at a number or after it
abbrev pub counts : ℕ → ℕ → Hit → Bool
counts place low hit = nat_lt hit.to place && nat_le low hit.from

counted : (place low : ℕ) (hits : List Hit) → has (nat_le low) (latest_before place hits) ≡ list_any (counts place low) hits
counted place low hits = has_latest (nat_le low) (from_rises low) place hits

-- ---- one side or the other, and both

pub latest_append : (place : ℕ) (hits others : List Hit) → latest_before place (hits ++ others) ≡ greater (latest_before place hits) (latest_before place others)
latest_append place hits others = same_number _ _ (λ low.
    let left = sym (counted place low hits) in
    let right = sym (counted place low others) in
    counted place low (hits ++ others)
    ∙ list_any-append (counts place low) hits others
    ∙ (λ i. left i || right i)
    ∙ sym (has_greater (nat_le low) (from_rises low) (latest_before place hits) (latest_before place others)))

-- the joined hits of two sides
abbrev pub joined_with : List Hit → Hit → List Hit
joined_with others a = flat_map (λ b. option_to_list (join (a ∷ b ∷ []))) others

abbrev pub all_joined : List Hit → List Hit → List Hit
all_joined hits others = flat_map (joined_with others) hits

both_count : (place low a_to b_to a_from b_from : ℕ) → (nat_lt (max a_to b_to) place && nat_le low (min a_from b_from))
    ≡ ((nat_lt a_to place && nat_le low a_from) && (nat_lt b_to place && nat_le low b_from))
both_count place low a_to b_to a_from b_from = grind (arith, nat_tests)

joined_count : (place low : ℕ) (hits others : List Hit) → list_any (counts place low) (all_joined hits others) ≡ (list_any (counts place low) hits && list_any (counts place low) others)
joined_count place low hits others =
    list_any-flat_map (counts place low) (joined_with others) hits
    ∙ list_any-alike (λ a. list_any (counts place low) (joined_with others a)) (λ a. counts place low a && list_any (counts place low) others) hits
    (λ a.
    list_any-flat_map (counts place low) (λ b. option_to_list (join (a ∷ b ∷ []))) others
    ∙ list_any-alike (λ b. list_any (counts place low) (option_to_list (join (a ∷ b ∷ [])))) (λ b. counts place low a && counts place low b) others
    (λ b. or-false (nat_lt (max a.to b.to) place && nat_le low (min a.from b.from)) ∙ both_count place low a.to b.to a.from b.from)
    ∙ list_any-and_first (counts place low a) (counts place low) others)
    ∙ list_any-and (counts place low) (list_any (counts place low) others) hits

pub latest_joined : (place : ℕ) (hits others : List Hit) → latest_before place (all_joined hits others) ≡ smaller (latest_before place hits) (latest_before place others)
latest_joined place hits others = same_number _ _ (λ low.
    let left = sym (counted place low hits) in
    let right = sym (counted place low others) in
    counted place low (all_joined hits others)
    ∙ joined_count place low hits others
    ∙ (λ i. left i && right i)
    ∙ sym (has_smaller (nat_le low) (from_rises low) (latest_before place hits) (latest_before place others)))

-- ---- what is left from a place on

left_count : (place later low to from : ℕ) → place ≤ later
    → ((nat_lt to place && nat_le low from) || (nat_le place to && (nat_lt to later && nat_le low from))) ≡ (nat_lt to later && nat_le low from)
left_count place later low to from h = grind (arith, nat_tests, h)

pub latest_on : (place later : ℕ) (hits : List Hit) → place ≤ later → greater (latest_before place hits) (latest_before later (from_on End Words place hits)) ≡ latest_before later hits
latest_on place later hits h = same_number _ _ (λ low.
    let first = counted place low hits in
    let rest = counted later low (from_on End Words place hits) ∙ any_filter (counts later low) (λ hit. nat_le place hit.to) hits in
    has_greater (nat_le low) (from_rises low) (latest_before place hits) (latest_before later (from_on End Words place hits))
    ∙ (λ i. first i || rest i)
    ∙ any_or (counts place low) (λ hit. nat_le place hit.to && counts later low hit) hits
    ∙ list_any-alike (λ hit. counts place low hit || (nat_le place hit.to && counts later low hit)) (counts later low) hits
    (λ hit. left_count place later low hit.to hit.from h)
    ∙ sym (counted later low hits))

-- ---- what lies in a field

module _ (unit_number : ℕ → ℕ) (rises : (a b : ℕ) → a ≤ b → unit_number a ≤ unit_number b) (size : ℕ) where
  -- whether what begins there lies in the field up to an end
  abbrev pub room_to : ℕ → ℕ → Bool
  room_to end start = nat_lt (unit_number end) (unit_number start + size)

  room_rises : (end low : ℕ) → Rises (λ start. room_to end start && nat_le low start)
  room_rises end low a b le h =
      let parts = and_parts (room_to end a) (nat_le low a) h in
      let room = ltb-true (unit_number end) (unit_number a + size) parts.0 in
      let from = leb-true low a parts.1 in
      let order = rises a b le in
      and_from (room_to end b) (nat_le low b) (lt-ltb (unit_number end) (unit_number b + size) (omega (arith, room, order))) (le-leb low b (omega (arith, from, le)))

  module _ (told fits : Hit → Bool) (fits_is : (hit : Hit) → told hit ≡ true → fits hit ≡ room_to hit.to hit.from) where
    -- a hit that doesn't end between the place and the end
    abbrev pub is_next : ℕ → ℕ → Hit → Bool
    is_next place end hit = told hit && (nat_lt hit.to place || nat_le end hit.to)

    within_one : (place end low : ℕ) → place ≤ end → (hit : Hit) → is_next place end hit ≡ true
        → ((fits hit && counts place low hit) || (nat_lt hit.to (suc end) && (room_to end hit.from && nat_le low hit.from))) ≡ (fits hit && counts (suc end) low hit)
    within_one place end low h hit good =
        let parts = and_parts (told hit) (nat_lt hit.to place || nat_le end hit.to) good in
        let is = fits_is hit parts.0 in
        (λ i. (is i && counts place low hit) || (nat_lt hit.to (suc end) && (room_to end hit.from && nat_le low hit.from)))
        ∙ elim (or_cases (nat_lt hit.to place) (nat_le end hit.to) parts.1) [
          | inl less ↦
              let before = ltb-true hit.to place less in
              before_place place end low hit.to hit.from (unit_number hit.to) (unit_number end) (unit_number hit.from) h before (rises hit.to end (omega (arith, h, before)))
          | inr le ↦
              let behind = leb-true end hit.to le in
              elim (cases_lt end hit.to) [
                | inl more ↦ after_end place end low hit.to hit.from (unit_number hit.to) (unit_number end) (unit_number hit.from) h more
                | inr same ↦
                    let at : hit.to ≡ end = omega (arith, behind, same) in
                    at_end place end low hit.to hit.from (unit_number hit.to) (unit_number end) (unit_number hit.from) h at (ap unit_number at)
              ]
        ]
        ∙ ap (λ b. b && counts (suc end) low hit) (sym is)
      where
        before_place : (place end low to from to_unit end_unit from_unit : ℕ) → place ≤ end → to < place → to_unit ≤ end_unit
            → ((nat_lt to_unit (from_unit + size) && (nat_lt to place && nat_le low from)) || (nat_lt to (suc end) && (nat_lt end_unit (from_unit + size) && nat_le low from)))
            ≡ (nat_lt to_unit (from_unit + size) && (nat_lt to (suc end) && nat_le low from))
        before_place place end low to from to_unit end_unit from_unit h less order = grind (arith, nat_tests, h, less, order)

        at_end : (place end low to from to_unit end_unit from_unit : ℕ) → place ≤ end → to ≡ end → to_unit ≡ end_unit
            → ((nat_lt to_unit (from_unit + size) && (nat_lt to place && nat_le low from)) || (nat_lt to (suc end) && (nat_lt end_unit (from_unit + size) && nat_le low from)))
            ≡ (nat_lt to_unit (from_unit + size) && (nat_lt to (suc end) && nat_le low from))
        at_end place end low to from to_unit end_unit from_unit h same order = grind (arith, nat_tests, h, same, order)

        after_end : (place end low to from to_unit end_unit from_unit : ℕ) → place ≤ end → end < to
            → ((nat_lt to_unit (from_unit + size) && (nat_lt to place && nat_le low from)) || (nat_lt to (suc end) && (nat_lt end_unit (from_unit + size) && nat_le low from)))
            ≡ (nat_lt to_unit (from_unit + size) && (nat_lt to (suc end) && nat_le low from))
        after_end place end low to from to_unit end_unit from_unit h more = grind (arith, nat_tests, h, more)

    -- only the latest start has to be tried, and only at the end
    pub latest_within : (place end : ℕ) (hits : List Hit) → place ≤ end → list_all (is_next place end) hits ≡ true
        → greater (latest_before place (filter fits hits)) (keep (room_to end) (latest_before (suc end) hits)) ≡ latest_before (suc end) (filter fits hits)
    latest_within place end hits h all = same_number _ _ (λ low.
        let kept = counted place low (filter fits hits) ∙ any_filter (counts place low) fits hits in
        let tried = has_keep (room_to end) (nat_le low) (latest_before (suc end) hits) ∙ has_latest (λ start. room_to end start && nat_le low start) (room_rises end low) (suc end) hits in
        has_greater (nat_le low) (from_rises low) (latest_before place (filter fits hits)) (keep (room_to end) (latest_before (suc end) hits))
        ∙ (λ i. kept i || tried i)
        ∙ any_or (λ hit. fits hit && counts place low hit) (λ hit. nat_lt hit.to (suc end) && (room_to end hit.from && nat_le low hit.from)) hits
        ∙ any_on (is_next place end) (λ hit. (fits hit && counts place low hit) || (nat_lt hit.to (suc end) && (room_to end hit.from && nat_le low hit.from)))
        (λ hit. fits hit && counts (suc end) low hit) hits all (within_one place end low h)
        ∙ sym (counted (suc end) low (filter fits hits) ∙ any_filter (counts (suc end) low) fits hits))
