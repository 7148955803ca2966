-- Places in one unit of a text whose units have rising numbers.
use Rattle.std.proofs.Common.{◌≡◌, refl, sym, ap, ◌∙◌, ℕ, ◌<◌, ◌≤◌, true, ◌&&◌, eqb, List, [], ◌∷◌, length, arith, inl, inr}
use Rattle.std.specs.Prelude.{nat_le}
use Rattle.std.specs.List.{list_all}
use Rattle.std.proofs.lemmas.Bool.{and_from, and_parts, cases_lt, eqb-true, eq-eqb, leb-true, or_cases}
use Rattle.place_merges.specs.steps.Searching.{has}
use Rattle.window_merges.specs.Choices.{are_in_one}
use Rattle.window_merges.proofs.ChoiceLemmas.{all_between}

-- the place at which a unit begins is after one place and not after another
pub record Halving (number : ℕ → ℕ) (low far unit before first : ℕ) : Type 0 where
  pub from : low ≤ before
  pub order : before < first
  pub to : first ≤ far
  pub outside : number before < number far
  pub inside : number first ≡ number far
  pub wanted : unit ≡ number far

module _ (unit : ℕ → ℕ) where
  -- each place of a choice in one unit has the number of the first
  of_first : (first : ℕ) (rest : List ℕ) (place : ℕ) → are_in_one unit (first ∷ rest) ≡ true → has rest place ≡ true → unit place ≡ unit first
  of_first first [] place h e = cc
  of_first first (p ∷ rest) place h e =
      let parts = and_parts (eqb (unit p) (unit first)) (list_all (λ other. eqb (unit other) (unit first)) rest) h in
      elim (or_cases (eqb p place) (has rest place) e) [
        | inl here ↦ ap unit (sym (eqb-true p place here)) ∙ eqb-true (unit p) (unit first) parts.0
        | inr later ↦ of_first first rest place parts.1 later
      ]

  in_unit : (first : ℕ) (rest : List ℕ) (place : ℕ) → are_in_one unit (first ∷ rest) ≡ true → has (first ∷ rest) place ≡ true → unit place ≡ unit first
  in_unit first rest place h e = elim (or_cases (eqb first place) (has rest place) e) [
    | inl here ↦ ap unit (sym (eqb-true first place here))
    | inr later ↦ of_first first rest place h later
  ]

  same_unit : (chosen : List ℕ) → are_in_one unit chosen ≡ true → (p q : ℕ) → has chosen p ≡ true → has chosen q ≡ true → unit p ≡ unit q
  same_unit [] h p q a b = cc
  same_unit (first ∷ rest) h p q a b = in_unit first rest p h a ∙ sym (in_unit first rest q h b)

  module _ (rises : (first second : ℕ) → first ≤ second → unit first ≤ unit second) where
    -- a place of an earlier unit is before one of a later unit
    pub earlier : (p q : ℕ) → unit p < unit q → p < q
    earlier p q h = elim (cases_lt p q) [
      | inl less ↦ less
      | inr le ↦ let above = rises q p le in absurd (omega (arith, h, above))
    ]

    -- between two places of one unit all places are of it
    between : (low far p : ℕ) → unit low ≡ unit far → low ≤ p → p ≤ far → unit p ≡ unit far
    between low far p h a b = let below = rises low p a in let above = rises p far b in omega (arith, h, below, above)

    all_of : (low far : ℕ) (first : ℕ) (rest : List ℕ) → unit low ≡ unit far → unit first ≡ unit far → all_between low far rest ≡ true → are_in_one unit (first ∷ rest) ≡ true
    all_of low far first [] h here e = refl
    all_of low far first (p ∷ rest) h here e =
        let parts = and_parts (nat_le low p && nat_le p far) (all_between low far rest) e in
        let bounds = and_parts (nat_le low p) (nat_le p far) parts.0 in
        let is = between low far p h (leb-true low p bounds.0) (leb-true p far bounds.1) in
        and_from (eqb (unit p) (unit first)) (list_all (λ other. eqb (unit other) (unit first)) rest) (eq-eqb (unit p) (unit first) (is ∙ sym here)) (all_of low far first rest h here parts.1)

    pub unit_enough : (low far : ℕ) → unit low ≡ unit far → (chosen : List ℕ) → 0 < length chosen → all_between low far chosen ≡ true → are_in_one unit chosen ≡ true
    unit_enough low far h [] some e = absurd (omega arith)
    unit_enough low far h (first ∷ rest) some e =
        let parts = and_parts (nat_le low first && nat_le first far) (all_between low far rest) e in
        let bounds = and_parts (nat_le low first) (nat_le first far) parts.0 in
        all_of low far first rest h (between low far first h (leb-true low first bounds.0) (leb-true first far bounds.1)) parts.1

    -- a choice in one unit that has a place as far as `far` has none before the unit round `far`
    pub unit_rule : (far next : ℕ) → ((other : ℕ) → other < next → unit other < unit far) → (chosen : List ℕ) → are_in_one unit chosen ≡ true
        → (p q : ℕ) → has chosen p ≡ true → has chosen q ≡ true → far ≤ q → next ≤ p
    unit_rule far next before chosen h p q a b beyond = elim (cases_lt p next) [
      | inl less ↦
          let one = same_unit chosen h p q a b in
          let above = rises far q beyond in
          let below = before p less in
          absurd (omega (arith, one, above, below))
      | inr le ↦ le
    ]
